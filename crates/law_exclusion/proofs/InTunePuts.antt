-- What an upgrade makes and puts leaves it in tune with the tree.
use Rattle.std.proofs.Common.{◌≡◌, ◌⊎◌, ◌∙◌, ◌++◌, refl, sym, ap, inl, inr, arith, ℕ, List, [], ◌∷◌, codes, Bool, true, false, ◌||◌, cond, Option, Some, None, option_map}
use Rattle.std.proofs.lemmas.Option.{same_Some}
use Rattle.jop_base.specs.declared.dir.Dir.{Dir}
use Rattle.jop_base.specs.declared.dir.Dir.TheVariants.{Resources, OldSync}
use Rattle.jop_base.specs.declared.path.Path.{Path}
use Rattle.jop_base.specs.declared.path.Path.TheVariants.{Info as InfoFile, OldVersion}
use Rattle.jop_target.specs.declared.tree.Content.TheVariants.{Whole}
use Rattle.jop_target.specs.declared.tree.File.{File}
use Rattle.jop_target.specs.declared.tree.Tree.{Tree}
use Rattle.jop_target.specs.Store.{is_same_dir, file_at, with_file}
use Rattle.std.specs.List.{list_any}
use Rattle.std.proofs.lemmas.Str.{IsUtf8-from_is_utf8}
use Rattle.std.specs.Str.{is_utf8}
use Rattle.sync_info.specs.Info.{new_info, has_id}
use Rattle.sync_info.proofs.Valid.{info_in-info_text}
use Rattle.sync_info.specs.Json.{info_text}
use Rattle.sync_info.specs.Read.{info_in}
use Rattle.sync_info.specs.declared.info.Info.{Info}
use Rattle.sync_info.specs.declared.key_record.KeyRecord.{KeyRecord}
use Rattle.target_upgrade.specs.Keys.{with_key}
use Rattle.target_upgrade.specs.Steps.{At, SUPPORTED, Upgraded, at_version}
use Rattle.law_exclusion.specs.Target.{info_by_files, tree_info, key_at, with_keys, items_of, upgraded_info, with_dir, content_at, has_dir}
use Rattle.target_upgrade.specs.declared.step.Step.TheVariants.{PutsInfo, ListsRoot}
use Rattle.jop_target.proofs.Files.{file_at-other_put, file_at-put}
use Rattle.target_upgrade.proofs.Infos.{at_version-valid}
use Rattle.law_exclusion.proofs.Files.{HasSameItems, same_with, upgraded_info-same, has_dir-with, info_no_item, old_no_item, old_apart_info, info_apart_old, info_apart, old_apart}
use Rattle.law_exclusion.proofs.InTune.{as_is, last_info, final_at, final_is, final_same, is_left, left_with, HasSameRest, ComesToSame, IsEarly, IsNew, IsAtStep, IsGetting, IsOnItsWay}

-- ---- folders

or_true : (a b : Bool) → b ≡ true → (a || b) ≡ true
or_true true b h = refl
or_true false b h = h

pub dir_stays : (ds : List Dir) (d e : Dir) → has_dir ds e ≡ true → has_dir (with_dir ds d) e ≡ true
dir_stays ds d e h = has_dir-with ds d e ∙ or_true (is_same_dir d e) (has_dir ds e) h

abbrev pub with_folder : Tree → Dir → Tree
with_folder t d = record t { folders = with_dir t.folders d }

rest_folder : (t : Tree) (d : Dir) → is_left d ≡ false → HasSameRest t (with_folder t d)
rest_folder t d made = record {
  files = λ p l v. refl;
  folders = λ e left. left_with t.folders d e made left;
}

info_folder : (t : Tree) (d : Dir) → tree_info (with_folder t d) ≡ tree_info t
unfolding tree_info
info_folder t d = refl

pub new_folder : (t : Tree) (d : Dir) (info : Info) → is_left d ≡ false → IsNew info t → IsNew
    info (with_folder t d) × ComesToSame t (with_folder t d)
new_folder t d info made h =
    let u = with_folder t d in
    let reads = info_folder t d ∙ h.reads in (
      record { reads = reads; version = h.version; valid = h.valid },
      record {
        final = final_is u info 0 reads h.version ∙ sym
            (final_is t info 0 h.reads h.version);
        rest = rest_folder t d made;
      },
    )

pub early_folder : (t : Tree) (d : Dir) (info : Info) → is_left d ≡ false → is_same_dir d
    Resources ≡ false → is_same_dir d OldSync ≡ false → IsEarly info t → IsEarly info
    (with_folder t d) × ComesToSame t (with_folder t d)
early_folder t d info made resources sync h =
    let u = with_folder t d in
    let reads = info_folder t d ∙ h.reads in
    let same_resources : has_dir u.folders Resources ≡ has_dir t.folders Resources = has_dir-with
    t.folders d Resources ∙ rw resources refl in
    let same_sync : has_dir u.folders OldSync ≡ has_dir t.folders OldSync = has_dir-with t.folders d
    OldSync ∙ rw sync refl in
    let rest = rest_folder t d made in
    elim h.made [
      | inl new ↦ (
        record {
          now = h.now;
          reads = reads;
          same = h.same;
          valid = h.valid;
          made = inl
              (new.0, same_resources ∙ new.1, same_sync ∙ new.2);
        },
        record {
          final = final_is u h.now 0 reads new.0 ∙ sym (final_is t h.now 0 h.reads new.0);
          rest = rest;
        },
      )
      | inr first ↦ (
        record { now = h.now; reads = reads; same = h.same; valid = h.valid; made = inr first },
        record {
          final = final_is u h.now 1 reads first ∙ (final_same (final_at 1 h.now u)
              (final_at 1 h.now t) refl refl same_resources same_sync refl ∙ sym
              (final_is t h.now 1 h.reads first));
          rest = rest;
        },
      )
    ]

-- ---- `version.txt`

abbrev pub with_text : Tree → Path → List ℕ → ℕ → Tree
with_text t path bytes moment = record t {
  files = with_file t.files
      (record { path = path; content = Whole bytes; stamp = moment });
}

items_old : (t : Tree) (bytes : List ℕ) (m : ℕ) → HasSameItems t.files
    (with_text t OldVersion bytes m).files
items_old t bytes m = same_with t.files (record {
  path = OldVersion;
  content = Whole bytes;
  stamp =
      m;
}) old_no_item

rest_old : (t : Tree) (bytes : List ℕ) (m : ℕ) → HasSameRest t (with_text t OldVersion bytes m)
rest_old t bytes m = record {
  files = λ p l v. ap (option_map (λ (f : File). f.content))
      (file_at-other_put t.files (record { path = OldVersion; content = Whole bytes; stamp = m }) p
      (old_apart p l v));
  folders = λ d left. refl;
}

pub old_there : (t : Tree) (bytes : List ℕ) (m : ℕ) → file_at (with_text t OldVersion bytes m).files
    OldVersion ≡ Some (record { path = OldVersion; content = Whole bytes; stamp = m })
old_there t bytes m = file_at-put t.files (record {
  path = OldVersion;
  content = Whole bytes;
  stamp = m;
})

-- the info behind it is the same, or that of version 1 in place of that of a new target
record HasNext (info : Info) (o : Option Info) : Type 0 where
  next : Info
  is : o ≡ Some next
  same : at_version 2 next ≡ at_version 2 info
  version : (next ≡ info) ⊎ (next.version ≡ 1)

next_by : (info : Info) (f : File) (i o : Option File) → info_by_files i o ≡ Some info → HasNext info
    (info_by_files i (Some f))
next_by info f (Some g) o h = record { next = info; is = h; same = refl; version = inl refl }
next_by info f None None h =
    let same : new_info 0 ≡ info = same_Some _ _ h in
    record { next = new_info 1; is = refl; same = ap (at_version 2) same; version = inr refl }
next_by info f None (Some g) h =
    let same : new_info 1 ≡ info = same_Some _ _ h in
    record { next = new_info 1; is = refl; same = ap (at_version 2) same; version = inr refl }

next_old : (t : Tree) (bytes : List ℕ) (m : ℕ) (info : Info) → tree_info t ≡ Some info → HasNext info
    (tree_info (with_text t OldVersion bytes m))
unfolding tree_info
next_old t bytes m info h =
    let f : File = record { path = OldVersion; content = Whole bytes; stamp = m } in
    rw (file_at-other_put t.files f InfoFile old_apart_info, old_there t bytes m)
    (next_by info f (file_at t.files InfoFile) (file_at t.files OldVersion) h)

-- the info in the end doesn't depend on the version
last_any : (fs : List File) (a b : Info) → at_version 2 a ≡ at_version 2 b → upgraded_info fs a ≡
    upgraded_info fs b
unfolding upgraded_info
last_any fs a b h = ap (λ (i : Info). with_keys fs (items_of fs) (at_version SUPPORTED i)) h

pub put_old : (t : Tree) (bytes : List ℕ) (m : ℕ) (info : Info) → IsEarly info t → IsEarly info
    (with_text t OldVersion bytes m) × ComesToSame t (with_text t OldVersion bytes m)
put_old t bytes m info h =
    let u = with_text t OldVersion bytes m in
    let n = next_old t bytes m h.now h.reads in
    let items = items_old t bytes m in
    let info_same : last_info u n.next ≡ last_info t h.now = ap
    (λ (i : Info). Some (Whole (info_text i))) (upgraded_info-same t.files u.files n.next items
    ∙ last_any t.files n.next h.now n.same) in
    let rest = rest_old t bytes m in
    let early : (made : ((n.next.version ≡ 0) × (has_dir u.folders Resources ≡ true) ×
    (has_dir u.folders OldSync ≡ true)) ⊎ (n.next.version ≡ 1)) → IsEarly info u = λ made.
    record {
      now = n.next;
      reads = n.is;
      same = n.same ∙ h.same;
      valid = h.valid;
      made = made;
    } in
    elim h.made [
      | inl new ↦ elim n.version [
        | inl same ↦
            let ver : n.next.version ≡ 0 = ap (λ (i : Info). i.version) same ∙ new.0 in (
              early (inl (ver, new.1, new.2)),
              record {
                final = final_is u n.next 0 n.is ver ∙
                    (final_same (final_at 0 n.next u) (final_at 0 h.now t) info_same refl refl refl refl
                    ∙ sym (final_is t h.now 0 h.reads new.0));
                rest = rest;
              },
            )
        | inr ver ↦ (
          early (inr ver),
          record {
            final = final_is u n.next 1 n.is ver ∙
                (final_same (final_at 1 n.next u) (final_at 0 h.now t) info_same refl new.1 new.2 refl ∙
                sym (final_is t h.now 0 h.reads new.0));
            rest = rest;
          },
        )
      ]
      | inr first ↦
          let ver : n.next.version ≡ 1 = elim n.version [
            | inl same ↦ ap (λ (i : Info). i.version)
                same ∙ first
            | inr one ↦ one
          ] in (
            early (inr ver),
            record {
              final = final_is u n.next 1 n.is ver ∙
                  (final_same (final_at 1 n.next u) (final_at 1 h.now t) info_same refl refl refl refl ∙
                  sym (final_is t h.now 1 h.reads first));
              rest = rest;
            },
          )
    ]

-- ---- `info.json`

items_info : (t : Tree) (bytes : List ℕ) (m : ℕ) → HasSameItems t.files
    (with_text t InfoFile bytes m).files
items_info t bytes m = same_with t.files (record {
  path = InfoFile;
  content = Whole bytes;
  stamp = m;
}) info_no_item

rest_info : (t : Tree) (bytes : List ℕ) (m : ℕ) → HasSameRest t (with_text t InfoFile bytes m)
rest_info t bytes m = record {
  files = λ p l v. ap (option_map (λ (f : File). f.content))
      (file_at-other_put t.files (record { path = InfoFile; content = Whole bytes; stamp = m }) p
      (info_apart p l v));
  folders = λ d left. refl;
}

info_there : (t : Tree) (bytes : List ℕ) (m : ℕ) → tree_info (with_text t InfoFile bytes m) ≡ info_in
    bytes
unfolding tree_info
info_there t bytes m = ap (λ (o : Option File). info_by_files o (file_at
    (with_text t InfoFile bytes m).files OldVersion)) (file_at-put t.files
    (record { path = InfoFile; content = Whole bytes; stamp = m }))

content_there : (t : Tree) (bytes : List ℕ) (m : ℕ) → content_at (with_text t InfoFile bytes m)
    InfoFile ≡ Some (Whole bytes)
content_there t bytes m = ap (option_map (λ (f : File). f.content))
    (file_at-put t.files (record { path = InfoFile; content = Whole bytes; stamp = m }))

old_stays : (t : Tree) (bytes : List ℕ) (m : ℕ) → content_at (with_text t InfoFile bytes m)
    OldVersion ≡ content_at t OldVersion
old_stays t bytes m = ap (option_map (λ (f : File). f.content))
    (file_at-other_put t.files (record { path = InfoFile; content = Whole bytes; stamp = m })
    OldVersion info_apart_old)

pub put_second : (t : Tree) (m : ℕ) (info : Info) → is_utf8 (info_text (at_version 2 info)) ≡ true →
    IsAtStep PutsInfo info t → IsOnItsWay (At ListsRoot info) t
    (with_text t InfoFile (info_text (at_version 2 info)) m)
put_second t m info text p =
    let h = p.0 in
    let temp = p.1 in
    let old = p.2 in
    let bytes = info_text (at_version 2 info) in
    let u = with_text t InfoFile bytes m in
    let second = at_version 2 info in
    let valid = at_version-valid 2 info (omega arith) h.valid in
    let reads : tree_info u ≡ Some second = info_there t bytes m ∙ info_in-info_text second valid
    (IsUtf8-from_is_utf8 _ text) in
    let items = items_info t bytes m in
    let last : upgraded_info u.files second ≡ upgraded_info t.files info = upgraded_info-same
    t.files u.files second items ∙ last_any t.files second info refl in
    let info_same : last_info u second ≡ last_info t h.now = ap
    (λ (i : Info). Some (Whole (info_text i))) (last ∙ sym
    (last_any t.files h.now info h.same)) in
    let old_same : content_at u OldVersion ≡ Some (Whole (codes "2")) = old_stays t bytes m ∙ old in
    record {
      tuned = record { now = second; reads = reads; version = refl; same = refl; valid = h.valid };
      same = record {
        final = elim h.made [
          | inl new ↦ final_is u second 2 reads refl ∙ (final_same (final_at 2 second u)
              (final_at 0 h.now t) info_same old_same new.1 new.2 temp ∙ sym
              (final_is t h.now 0 h.reads new.0))
          | inr first ↦ final_is u second 2 reads refl ∙ (final_same (final_at 2 second u)
              (final_at 1 h.now t) info_same old_same refl refl temp ∙ sym
              (final_is t h.now 1 h.reads first))
        ];
        rest = rest_info t bytes m;
      };
    }

keys_version_if : (b : Bool) (info more : Info) → more.version ≡ info.version →
    (cond b info more).version ≡ info.version
keys_version_if true info more h = refl
keys_version_if false info more h = h

key_version : (key : Option KeyRecord) (info : Info) → (with_key key info).version ≡ info.version
key_version None info = refl
key_version (Some key) info = keys_version_if (list_any (has_id key.id) info.keys) info
    (record info { keys = info.keys ++ key ∷ [] }) refl

keys_version : (fs : List File) (ids : List (List ℕ)) (info : Info) →
    (with_keys fs ids info).version ≡ info.version
keys_version fs [] info = refl
keys_version fs (id ∷ ids) info = keys_version fs ids (with_key (key_at fs id) info) ∙ key_version
    (key_at fs id) info

last_version : (fs : List File) (info : Info) → (upgraded_info fs info).version ≡ SUPPORTED
unfolding upgraded_info
last_version fs info = keys_version fs (items_of fs) (at_version SUPPORTED info)

pub put_last : (t : Tree) (m : ℕ) (info : Info) → is_utf8 (info_text info) ≡ true → IsGetting [] info
    t → IsOnItsWay Upgraded t (with_text t InfoFile (info_text info) m)
put_last t m info text h =
    let bytes = info_text info in
    let u = with_text t InfoFile bytes m in
    let reads : tree_info u ≡ Some info = info_there t bytes m ∙ info_in-info_text info h.valid
    (IsUtf8-from_is_utf8 _ text) in
    let ver : info.version ≡ SUPPORTED =
    ap (λ (i : Info). i.version) h.leads ∙ last_version t.files h.now in
    record {
      tuned = (info, reads, ver);
      same = record {
        final = final_is u info SUPPORTED reads ver ∙ (final_same (as_is u) (final_at 2 h.now t)
            (content_there t bytes m ∙ ap (λ (i : Info). Some (Whole (info_text i))) h.leads)
            (old_stays t bytes m) refl refl refl ∙ sym (final_is t h.now 2 h.reads h.version));
        rest = rest_info t bytes m;
      };
    }
