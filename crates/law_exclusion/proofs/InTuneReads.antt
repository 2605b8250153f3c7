-- What an upgrade reads leaves it in tune with the tree.
use Rattle.std.proofs.Common.{◌≡◌, refl, sym, ap, inr, arith, ℕ, zero, suc, List, ◌∷◌, length, Bool, true, false, cond, nat_lt, Option, Some, None}
use Rattle.jop_base.specs.declared.path.Path.TheVariants.{Info as InfoFile, OldVersion, Item}
use Rattle.jop_target.specs.declared.reply.Reply.{Reply}
use Rattle.jop_target.specs.declared.reply.Reply.TheVariants.{Got, TooLarge}
use Rattle.jop_target.specs.declared.tree.Content.{Content}
use Rattle.jop_target.specs.declared.tree.Content.TheVariants.{Whole, Sized}
use Rattle.jop_target.specs.declared.tree.File.{File}
use Rattle.jop_target.specs.declared.tree.Tree.{Tree}
use Rattle.jop_target.specs.Store.{FILE_LIMIT, file_at, got}
use Rattle.std.specs.Prelude.{IfSome}
use Rattle.sync_info.specs.Info.{IsInfo, IsKeyRecord, new_info}
use Rattle.sync_info.proofs.KeptLemmas.{IsInfo-new_info}
use Rattle.sync_info.proofs.Valid.{IsInfo-info_in}
use Rattle.sync_info.specs.Read.{info_in}
use Rattle.sync_info.specs.declared.info.Info.{Info}
use Rattle.target_upgrade.specs.Keys.{with_key}
use Rattle.target_upgrade.specs.Steps.{at_version, starts, starts_from, starts_with, after_info, after_old, after_get, key_in}
use Rattle.law_exclusion.specs.Target.{info_by_files, tree_info, info_within, key_at, with_keys, items_of, upgraded_info}
use Rattle.target_upgrade.proofs.Infos.{at_version-valid, with_key-valid}
use Rattle.target_upgrade.proofs.KeyFacts.{key_of-valid}
use Rattle.law_exclusion.proofs.InTune.{IsSecond, IsGetting, IsInTune}

-- ---- reading

start_at : (t : Tree) (info : Info) (v : ℕ) → info.version ≡ v → tree_info t ≡ Some info →
    IsInfo info → IsInTune (starts_from v info) t
start_at t info zero ver reads valid =
    record { reads = reads; version = ver; valid = valid }
start_at t info (suc zero) ver reads valid =
    record { now = info; reads = reads; same = refl; valid = valid; made = inr ver }
start_at t info (suc (suc zero)) ver reads valid =
    record { now = info; reads = reads; version = ver; same = refl; valid = valid }
start_at t info (suc (suc (suc zero))) ver reads valid = (info, reads, ver)
start_at t info (suc (suc (suc (suc n)))) ver reads valid = tt

start : (t : Tree) (info : Info) → tree_info t ≡ Some info → IsInfo info → IsInTune (starts info) t
start t info reads valid = start_at t info info.version refl reads valid

start_with : (t : Tree) (bytes : List ℕ) (o : Option Info) → info_in bytes ≡ o →
    tree_info t ≡ o → IsInTune (starts_with o) t
start_with t bytes None is reads = tt
start_with t bytes (Some info) is reads = start t info reads (IsInfo-info_in bytes info is)

pub read_info : (t : Tree) (now : ℕ) (o : Option File) → file_at t.files InfoFile ≡ o →
    IsInTune (after_info (got now FILE_LIMIT o)) t
unfolding tree_info
read_info t now None is = is
read_info t now (Some f) is = go f.content here where
  here : tree_info t ≡ info_within f.content
  here = ap (λ (o : Option File). info_by_files o (file_at t.files OldVersion)) is

  go : (c : Content) → tree_info t ≡ info_within c →
      IsInTune (after_info (got now FILE_LIMIT (Some (record {
        path = f.path;
        content = c;
        stamp = f.stamp;
      })))) t
  go (Sized len) h = tt
  go (Whole bytes) h = short (nat_lt FILE_LIMIT (length bytes)) where
    short : (b : Bool) →
        IsInTune (after_info (cond b (TooLarge (length bytes)) (Got now bytes))) t
    short true = tt
    short false = start_with t bytes (info_in bytes) refl h

pub read_old : (t : Tree) (now : ℕ) (o : Option File) → file_at t.files OldVersion ≡ o →
    file_at t.files InfoFile ≡ None → IsInTune (after_old (got now FILE_LIMIT o)) t
unfolding tree_info
read_old t now None is h =
    start t (new_info 0) (rw (h, is) refl) (IsInfo-new_info 0 (omega arith))
read_old t now (Some f) is h = go f.content where
  first : IsInTune (starts (new_info 1)) t
  first = start t (new_info 1) (rw (h, is) refl) (IsInfo-new_info 1 (omega arith))

  go : (c : Content) → IsInTune (after_old (got now FILE_LIMIT (Some (record {
    path = f.path;
    content = c;
    stamp = f.stamp;
  })))) t
  go (Sized len) = first
  go (Whole bytes) = short (nat_lt FILE_LIMIT (length bytes)) where
    short : (b : Bool) →
        IsInTune (after_old (cond b (TooLarge (length bytes)) (Got now bytes))) t
    short true = first
    short false = first

-- what was got of an item doesn't depend on the moment
get_as : (t : Tree) (now : ℕ) (id : List ℕ) (ids : List (List ℕ)) (info : Info) (o : Option File) →
    IsGetting ids (with_key (key_in id (got 0 FILE_LIMIT o)) info) t → IsInTune
    (after_get id ids info (got now FILE_LIMIT o)) t
get_as t now id ids info None h = h
get_as t now id ids info (Some f) h = go f.content h where
  go : (c : Content) → IsGetting ids (with_key (key_in id (got 0 FILE_LIMIT
      (Some (record { path = f.path; content = c; stamp = f.stamp })))) info) t → IsInTune
      (after_get id ids info (got now FILE_LIMIT (Some (record
      { path = f.path; content = c; stamp = f.stamp })))) t
  go (Sized len) h = h
  go (Whole bytes) h = short (nat_lt FILE_LIMIT (length bytes)) h where
    short : (b : Bool) → IsGetting ids (with_key (key_in id (cond b (TooLarge (length bytes))
        (Got 0 bytes))) info) t → IsInTune (after_get id ids info
        (cond b (TooLarge (length bytes)) (Got now bytes))) t
    short true h = h
    short false h = h

key_in-valid : (id : List ℕ) (reply : Reply) → IfSome (key_in id reply) IsKeyRecord
key_in-valid id (Got now content) = key_of-valid id content
key_in-valid id reply = tt

pub get_item : (t : Tree) (now : ℕ) (id : List ℕ) (ids : List (List ℕ)) (info : Info) →
    IsGetting (id ∷ ids) info t →
    IsInTune (after_get id ids info (got now FILE_LIMIT (file_at t.files (Item id)))) t
get_item t now id ids info h =
    get_as t now id ids info (file_at t.files (Item id)) (record {
      now = h.now;
      reads = h.reads;
      version = h.version;
      leads = h.leads;
      valid = with_key-valid (key_at t.files id) info h.valid
          (key_in-valid id (got 0 FILE_LIMIT (file_at t.files (Item id))));
    })

pub list_root : (t : Tree) (info : Info) → IsSecond info t →
    IsGetting (items_of t.files) (at_version 3 info) t
unfolding upgraded_info
list_root t info h = record {
  now = h.now;
  reads = h.reads;
  version = h.version;
  leads = ap (λ (i : Info). with_keys t.files (items_of t.files) i) (sym h.same);
  valid = at_version-valid 3 info (omega arith) h.valid;
}
