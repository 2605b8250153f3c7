-- Calls of others that land between those of a target's caller.
use Rattle.std.specs.Prelude.{ℕ, ◌+◌, ◌-◌, ◌^◌, ◌≡◌, List, [], ◌∷◌, Bool, true, false, not, min, nat_eq, if◌then◌else◌}
use Rattle.jop_outside.specs.Outside.{risen}
use Rattle.jop_target.specs.Replies.{names_blob}
use Rattle.jop_target.specs.Runs.{is_failed}
use Rattle.jop_target.specs.Store.{Store, store_after, store_reply}
use Rattle.jop_target.specs.declared.call.Call.{Call}
use Rattle.jop_target.specs.declared.call.Call.TheVariants.{List as ListDir, Get, Put, Delete, MakeDir, GetBlob, PutBlob}
use Rattle.jop_target.specs.declared.reply.Reply.{Reply}

-- a call that names no blob
abbrev pub names_no_blob : Call → Bool
names_no_blob (ListDir dir) = true
names_no_blob (Get path) = not (names_blob path)
names_no_blob (Put path content) = not (names_blob path)
names_no_blob (Delete path) = not (names_blob path)
names_no_blob (MakeDir dir) = true
names_no_blob (GetBlob id) = false
names_no_blob (PutBlob id len) = false

-- a call, with the number of the caller's call right before which it is made
abbrev pub ScriptedCall : Type 0
ScriptedCall = ℕ × Call

abbrev pub is_scriptable : ScriptedCall → Bool
is_scriptable s = names_no_blob s.1

-- what it holds, what is to land, and how many calls its caller has made and how many of them failed
pub record Scripted : Type 0 where
  pub store : Store
  pub script : List ScriptedCall
  pub made : ℕ
  pub faults : ℕ

-- before its caller's first call
abbrev pub scripted : Store → List ScriptedCall → Scripted
scripted store script = record { store = store; script = script; made = 0; faults = 0 }

-- a store after a call, if it comes before the caller's call of this number
abbrev pub after_one : ℕ → ScriptedCall → Store → Store
after_one number s store = if nat_eq s.0 number then store_after store s.1 [] else store

-- and after all that come before it
unfoldable pub after_script : ℕ → List ScriptedCall → Store → Store
after_script number [] store = store
after_script number (s ∷ ss) store = after_script number ss (after_one number s store)

-- the number of the caller's next call
abbrev pub next_number : ℕ → ℕ
next_number made = min (made + 1) (2 ^ 64 - 1)

-- once its caller has made a call that was answered so
abbrev pub after_answer : Scripted → Reply → Scripted
after_answer t reply = record t {
  made = next_number t.made;
  faults = if is_failed reply then risen t.faults else t.faults;
}

-- what it holds right before the caller's next call
abbrev pub store_before : Scripted → Store
store_before t = after_script (next_number t.made) t.script t.store

-- a call is answered by that store, and it is what the call makes of it
pub record Steps (before : Scripted) (call : Call) (bytes : List ℕ) (reply : Reply)
    (after : Scripted) : Type 0 where
  pub answered : reply ≡ store_reply (store_before before) call
  pub left : after
      ≡ after_answer (record before { store = store_after (store_before before) call bytes }) reply
