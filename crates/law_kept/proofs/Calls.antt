-- Calls on the file of an item, and which of them was the last.
use Rattle.std.proofs.Common.{◌≡◌, refl, ap, sym, cond, ℕ, List, ◌∷◌, Bool, true, false, Option, Some}
use Rattle.std.proofs.lemmas.Bool.{false≢true}
use Rattle.jop_base.proofs.KeyedLaws.{same_text}
use Rattle.jop_base.specs.declared.path.Path.{Path}
use Rattle.jop_base.specs.declared.path.Path.TheVariants.{Item}
use Rattle.jop_target.specs.declared.call.Call.{Call}
use Rattle.jop_target.specs.declared.call.Call.TheVariants.{List as ListDir, Get, Put, Delete, MakeDir, GetBlob, PutBlob}
use Rattle.jop_target.specs.declared.reply.Reply.{Reply}
use Rattle.law_licences.specs.Checks.{is_file_of, is_on, last_on}
use Rattle.law_licences.specs.Views.{Heard, is_lock_file, is_about_locks, with_call}

-- a call on an item's file is one on the path of that item
pub its_path : (id : List ℕ) (path : Path) → is_file_of id path ≡ true → path ≡ Item id
its_path id (Item other) is = ap Item (same_text other id is)
its_path id path is = absurd (false≢true is)

no_lock : (id : List ℕ) (path : Path) → is_lock_file path ≡ true → is_file_of id path ≡ false
no_lock id (Item other) is = absurd (false≢true is)
no_lock id path is = refl

-- a call about locks is on no item's file
locks_apart : (id : List ℕ) (call : Call) → is_about_locks call ≡ true → is_on id call ≡ false
locks_apart id (Get path) is = no_lock id path is
locks_apart id (Put path content) is = no_lock id path is
locks_apart id (Delete path) is = no_lock id path is
locks_apart id (ListDir dir) is = refl
locks_apart id (MakeDir dir) is = refl
locks_apart id (GetBlob other) is = refl
locks_apart id (PutBlob other len) is = refl

last_if : (id : List ℕ) (h : Heard) (calls : List Heard) (lock on : Bool)
    → is_on id h.call ≡ on → (lock ≡ true → on ≡ false)
    → last_on id (cond lock calls (h ∷ calls)) ≡ cond on (Some h) (last_on id calls)
unfolding last_on
last_if id h calls true true is apart = absurd (false≢true (sym (apart refl)))
last_if id h calls true false is apart = refl
last_if id h calls false on is apart =
    ap (λ (b : Bool). cond b (Some h) (last_on id calls)) is

-- the last call on the file is the one that was made, if it is on it
pub last_heard : (id : List ℕ) (call : Call) (reply : Option Reply) (calls : List Heard)
    → last_on id (with_call call reply calls)
    ≡ cond (is_on id call) (Some (record { call = call; reply = reply })) (last_on id calls)
last_heard id call reply calls =
    last_if id (record { call = call; reply = reply }) calls (is_about_locks call) (is_on id call)
    refl (locks_apart id call)
