-- What calls do to the two files that tell the version of a tree, and so to what a session has read
-- of it.
use Rattle.std.proofs.Common.{◌≡◌, ◌≤◌, ◌∙◌, refl, sym, ap, arith, ℕ, zero, suc, List, ◌∷◌, length, Bool, true, false, not, cond, nat_lt, Option, Some, None, option_map}
use Rattle.std.specs.Prelude.{All}
use Rattle.std.proofs.lemmas.Bool.{false≢true, eqb-true}
use Rattle.std.proofs.lemmas.List.Elements.{All-nil, All-cons}
use Rattle.std.proofs.lemmas.Option.{same_Some}
use Rattle.jop_base.specs.declared.path.Path.{Path}
use Rattle.jop_base.specs.declared.path.Path.TheVariants.{Info as InfoFile, OldVersion, Item, Blob, Lock as LockFile, Temp as TempFile}
use Rattle.jop_target.specs.History.{is_guarded_call}
use Rattle.jop_target.specs.Store.{FILE_LIMIT, is_same, file_at, got, reply_of, tree_after}
use Rattle.jop_target.specs.declared.call.Call.{Call}
use Rattle.jop_target.specs.declared.call.Call.TheVariants.{Get, Put, Delete, PutBlob}
use Rattle.jop_target.specs.declared.reply.Reply.TheVariants.{Got, TooLarge}
use Rattle.jop_target.specs.declared.tree.Content.{Content}
use Rattle.jop_target.specs.declared.tree.Content.TheVariants.{Whole, Sized}
use Rattle.jop_target.specs.declared.tree.File.{File}
use Rattle.jop_target.specs.declared.tree.Tree.{Tree}
use Rattle.jop_target.proofs.Files.{file_at-put, file_at-other_put, file_at-other_delete}
use Rattle.sync_info.specs.Read.{info_in}
use Rattle.sync_info.specs.declared.info.Info.{Info}
use Rattle.target_upgrade.specs.Course.{is_info_at, is_known, is_version, keeps_version, version_in_text}
use Rattle.law_exclusion.specs.Target.{info_by_files, tree_info, info_within, tree_version}
use Rattle.law_exclusion.proofs.Files.{apart_by_folder, info_no_item, old_no_item, is_version_file}
use Rattle.law_exclusion.specs.Learnt.{Learnt, nothing_learnt, with_info, learnt_of_info, learnt_of_old, learnt_by}

-- ---- what a session has read is so

pub record IsSo (t : Tree) (l : Learnt) : Type 0 where
  pub none : l.no_info ≡ true → file_at t.files InfoFile ≡ None
  pub versions : All (λ (v : ℕ). tree_version t ≡ Some v) l.versions

pub nothing_so : (t : Tree) → IsSo t nothing_learnt
nothing_so t = record {
  none = λ h. absurd (false≢true h);
  versions = All-nil (λ (v : ℕ). tree_version t ≡ Some v);
}

-- the two files that tell the version are the same
pub record HasSameVersion (t u : Tree) : Type 0 where
  pub info : file_at u.files InfoFile ≡ file_at t.files InfoFile
  pub old : file_at u.files OldVersion ≡ file_at t.files OldVersion

version_same : (t u : Tree) → HasSameVersion t u → tree_version u ≡ tree_version t
unfolding tree_info
version_same t u h = rw (h.info, h.old) refl

pub so_same : (t u : Tree) (l : Learnt) → HasSameVersion t u → IsSo t l → IsSo u l
so_same t u l h so = record {
  none = λ told. h.info ∙ so.none told;
  versions = λ k d lt. version_same t u h ∙ so.versions k d lt;
}

-- ---- files apart from those two

apart_from_info : (p : Path) → is_version_file p ≡ false → is_same p InfoFile ≡ false
apart_from_info (Item id) v = info_no_item.right id
apart_from_info InfoFile v = cc
apart_from_info OldVersion v = cc
apart_from_info p v = apart_by_folder p InfoFile refl

apart_from_old : (p : Path) → is_version_file p ≡ false → is_same p OldVersion ≡ false
apart_from_old (Item id) v = old_no_item.right id
apart_from_old InfoFile v = cc
apart_from_old OldVersion v = cc
apart_from_old p v = apart_by_folder p OldVersion refl

-- whether a call puts and deletes neither of the two
abbrev is_apart : Call → Bool
is_apart (Put path content) = not (is_version_file path)
is_apart (Delete path) = not (is_version_file path)
is_apart call = true

not_so : (b : Bool) → not b ≡ true → b ≡ false
not_so true h = sym h
not_so false h = refl

same_files : (t : Tree) (m : ℕ) (call : Call) → is_apart call ≡ true →
    HasSameVersion t (tree_after t m call)
unfolding tree_after
same_files t m (Put path content) h =
    let f : File = record { path = path; content = Whole content; stamp = m } in
    let apart = not_so (is_version_file path) h in
    record {
      info = file_at-other_put t.files f InfoFile (apart_from_info path apart);
      old = file_at-other_put t.files f OldVersion (apart_from_old path apart);
    }
same_files t m (Delete path) h =
    let apart = not_so (is_version_file path) h in
    record {
      info = file_at-other_delete t.files path InfoFile (apart_from_info path apart);
      old = file_at-other_delete t.files path OldVersion (apart_from_old path apart);
    }
same_files t m (PutBlob id len) h =
    let f : File = record { path = Blob id; content = Sized len; stamp = m } in
    record {
      info = file_at-other_put t.files f InfoFile (apart_from_info (Blob id) refl);
      old = file_at-other_put t.files f OldVersion (apart_from_old (Blob id) refl);
    }
same_files t m call h = record { info = refl; old = refl }

unguarded_apart : (call : Call) → is_guarded_call call ≡ false → is_apart call ≡ true
unguarded_apart (Put (LockFile name) content) h = refl
unguarded_apart (Put (TempFile id) content) h = refl
unguarded_apart (Put path content) h = cc
unguarded_apart (Delete (LockFile name)) h = refl
unguarded_apart (Delete (TempFile id)) h = refl
unguarded_apart (Delete path) h = cc
unguarded_apart call h = refl

-- a call that is no write leaves the version
pub so_unguarded : (t : Tree) (m : ℕ) (call : Call) (l : Learnt) → is_guarded_call call ≡ false →
    IsSo t l → IsSo (tree_after t m call) l
so_unguarded t m call l h so =
    so_same t (tree_after t m call) l (same_files t m call (unguarded_apart call h)) so

-- ---- a synchroniser's writes

version_is : (version : ℕ) (o : Option ℕ) → is_version version o ≡ true → o ≡ Some version
version_is version None h = cc
version_is version (Some found) h = ap Some (eqb-true found version h)

put_info : (t : Tree) (m : ℕ) (version : ℕ) (content : List ℕ) →
    is_info_at version content ≡ true →
    tree_version (tree_after t m (Put InfoFile content)) ≡ Some version
unfolding tree_after tree_info
put_info t m version content h =
    let f : File = record { path = InfoFile; content = Whole content; stamp = m } in
    rw (file_at-put t.files f) (version_is version (version_in_text content) h)

apart_at : (t : Tree) (m : ℕ) (version : ℕ) (call : Call) → is_apart call ≡ true →
    tree_version t ≡ Some version → tree_version (tree_after t m call) ≡ Some version
apart_at t m version call h is =
    version_same t (tree_after t m call) (same_files t m call h) ∙ is

-- a call that keeps a version leaves it to a tree that has it
keeps_at : (t : Tree) (m : ℕ) (version : ℕ) (call : Call) →
    keeps_version (Some version) call ≡ true → tree_version t ≡ Some version →
    tree_version (tree_after t m call) ≡ Some version
keeps_at t m v (Put InfoFile content) h is = put_info t m v content h
keeps_at t m v (Put OldVersion content) h is = cc
keeps_at t m v (Delete InfoFile) h is = cc
keeps_at t m v (Delete OldVersion) h is = cc
keeps_at t m v call h is = apart_at t m v call refl is

-- a version at which some client may work is told by `info.json` alone
known_past : (version : ℕ) → is_known version ≡ true → 2 ≤ version
known_past zero h = cc
known_past (suc zero) h = cc
known_past (suc (suc version)) h = omega arith

none_old : (o : Option File) (version : ℕ) → 2 ≤ version →
    option_map (λ (i : Info). i.version) (info_by_files None o) ≡ Some version → ⊥
none_old None version past h = let e = same_Some _ _ h in omega (arith, e)
none_old (Some f) version past h = let e = same_Some _ _ h in omega (arith, e)

not_old : (t : Tree) (version : ℕ) → file_at t.files InfoFile ≡ None →
    is_known version ≡ true → tree_version t ≡ Some version → ⊥
unfolding tree_info
not_old t version none known is =
    none_old (file_at t.files OldVersion) version (known_past version known) (rw none at is)

-- what was read stays so
pub so_kept : (t : Tree) (m : ℕ) (call : Call) (l : Learnt) (version : ℕ) →
    is_known version ≡ true → keeps_version (Some version) call ≡ true →
    tree_version t ≡ Some version → IsSo t l → IsSo (tree_after t m call) l
so_kept t m call l version known h is so = record {
  none = λ told. absurd (not_old t version (so.none told) known is);
  versions = λ k d lt. keeps_at t m version call h is ∙ (sym is ∙ so.versions k d lt);
}

-- ---- reading

so_with : (t : Tree) (l : Learnt) (o : Option Info) →
    tree_version t ≡ option_map (λ (i : Info). i.version) o → IsSo t l →
    IsSo t (record { no_info = l.no_info; versions = with_info o l.versions })
so_with t l None is so = record { none = so.none; versions = so.versions }
so_with t l (Some info) is so = record {
  none = so.none;
  versions = All-cons (λ (v : ℕ). tree_version t ≡ Some v) info.version l.versions is so.versions;
}

so_info : (t : Tree) (now : ℕ) (l : Learnt) (o : Option File) → file_at t.files InfoFile ≡ o →
    IsSo t l → IsSo t (learnt_of_info l (got now FILE_LIMIT o))
unfolding tree_info
so_info t now l None is so = record { none = λ told. is; versions = so.versions }
so_info t now l (Some f) is so = go f.content here where
  here : tree_version t ≡ option_map (λ (i : Info). i.version) (info_within f.content)
  here = rw is refl

  go : (c : Content) → tree_version t ≡ option_map (λ (i : Info). i.version) (info_within c) →
      IsSo t (learnt_of_info l (got now FILE_LIMIT (Some (record {
        path = f.path;
        content = c;
        stamp = f.stamp;
      }))))
  go (Sized len) h = so
  go (Whole bytes) h = short (nat_lt FILE_LIMIT (length bytes)) where
    short : (b : Bool) →
        IsSo t (learnt_of_info l (cond b (TooLarge (length bytes)) (Got now bytes)))
    short true = so
    short false = so_with t l (info_in bytes) h so

so_version : (t : Tree) (l : Learnt) (v : ℕ) → tree_version t ≡ Some v → IsSo t l →
    IsSo t (record { no_info = l.no_info; versions = v ∷ l.versions })
so_version t l v is so = record {
  none = so.none;
  versions = All-cons (λ (w : ℕ). tree_version t ≡ Some w) v l.versions is so.versions;
}

-- without `info.json`
so_old_none : (t : Tree) (now : ℕ) (versions : List ℕ) (o : Option File) →
    file_at t.files OldVersion ≡ o →
    IsSo t (record { no_info = true; versions = versions }) →
    IsSo t (learnt_of_old (record { no_info = true; versions = versions }) (got now FILE_LIMIT o))
unfolding tree_info
so_old_none t now versions None is so =
    so_version t (record { no_info = true; versions = versions }) 0
    (rw (so.none refl, is) refl) so
so_old_none t now versions (Some f) is so = go f.content where
  one : IsSo t (record { no_info = true; versions = 1 ∷ versions })
  one = so_version t (record { no_info = true; versions = versions }) 1
      (rw (so.none refl, is) refl) so

  go : (c : Content) → IsSo t (learnt_of_old (record { no_info = true; versions = versions })
      (got now FILE_LIMIT (Some (record { path = f.path; content = c; stamp = f.stamp }))))
  go (Sized len) = one
  go (Whole bytes) = short (nat_lt FILE_LIMIT (length bytes)) where
    short : (b : Bool) → IsSo t (learnt_of_old (record { no_info = true; versions = versions })
        (cond b (TooLarge (length bytes)) (Got now bytes)))
    short true = one
    short false = one

so_old : (t : Tree) (now : ℕ) (versions : List ℕ) (b : Bool) →
    IsSo t (record { no_info = b; versions = versions }) →
    IsSo t (learnt_of_old (record { no_info = b; versions = versions })
    (got now FILE_LIMIT (file_at t.files OldVersion)))
so_old t now versions true so =
    so_old_none t now versions (file_at t.files OldVersion) refl so
so_old t now versions false so = so

-- an answered call tells what is so
pub so_learnt : (t : Tree) (now : ℕ) (call : Call) (l : Learnt) → IsSo t l →
    IsSo t (learnt_by l call (reply_of t now call))
unfolding reply_of
so_learnt t now (Get InfoFile) l so = so_info t now l (file_at t.files InfoFile) refl so
so_learnt t now (Get OldVersion) l so = so_old t now l.versions l.no_info so
so_learnt t now call l so = so
