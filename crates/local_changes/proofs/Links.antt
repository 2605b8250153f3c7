-- The changes that tag a note.
use Rattle.std.specs.Prelude.{ℕ, ◌≡◌, List, [], ◌∷◌, ◌++◌, Bool, true, false, if◌then◌else◌, All, Option, Some, None, option_map, refl}
use Rattle.std.specs.List.{list_any}
use Rattle.std.proofs.Common.{sym, ◌∙◌, ap, subst, append-nil}
use Rattle.std.proofs.lemmas.List.Elements.{All-append, All-cons, All-nil}
use Rattle.item_kinds.specs.Made.{tag, note_tag}
use Rattle.item_text.specs.declared.item.Item.{Item}
use Rattle.local_store.specs.declared.change.Change.{Change}
use Rattle.local_store.specs.declared.change.Change.TheVariants.{Saved, Removed}
use Rattle.local_store.specs.declared.row.Row.{Row}
use Rattle.local_store.specs.Sound.{IsAllowed}
use Rattle.local_changes.specs.Tagging.{is_link, link_changes, tag_id, tag_changes, unlinking, unlinking_one}

pub link_added : (old new : List Change) (rows : List Row) (id of_note of_tag : List ℕ) (now : ℕ)
    (item : Item) → list_any (is_link of_note of_tag) rows ≡ false
    → item ≡ note_tag id of_note of_tag now → new ≡ old ++ Saved id item ∷ []
    → new ≡ old ++ link_changes rows id of_note of_tag now
link_added old new rows id of_note of_tag now item none made pushed =
    pushed
    ∙ (ap (λ (i : Item). old ++ Saved id i ∷ []) made
    ∙ ap (λ (there : Bool). old ++ (if there then [] else Saved id (note_tag id of_note of_tag now) ∷ []))
    (sym none))

pub one_more_allowed : (old new : List Change) (id : List ℕ) (item : Item)
    → new ≡ old ++ Saved id item ∷ [] → IsAllowed (Saved id item) → All IsAllowed old
    → All IsAllowed new
one_more_allowed old new id item pushed allowed all =
    subst (λ (cs : List Change). All IsAllowed cs) (sym pushed)
    (All-append IsAllowed old (Saved id item ∷ []) all
    (All-cons IsAllowed (Saved id item) [] allowed (All-nil IsAllowed)))

-- ---- the tag

pub tag_there : (found : Option Row) (id old : List ℕ) → Some old ≡ option_map (λ r. r.id) found
    → old ≡ tag_id id found
tag_there None id old is = cc
tag_there (Some r) id old is = cc

pub no_more : (found : Option Row) (id title old : List ℕ) (now : ℕ) (cs : List Change)
    → Some old ≡ option_map (λ r. r.id) found → cs ≡ cs ++ tag_changes id title now found
no_more None id title old now cs is = cc
no_more (Some r) id title old now cs is = sym (append-nil cs)

pub tag_missing : (found : Option Row) (id : List ℕ) → None ≡ option_map (λ r. r.id) found
    → id ≡ tag_id id found
tag_missing None id is = refl
tag_missing (Some r) id is = cc

pub tag_added : (found : Option Row) (id title : List ℕ) (now : ℕ) (old new : List Change) (item : Item)
    → None ≡ option_map (λ r. r.id) found → item ≡ tag id title now
    → new ≡ old ++ Saved id item ∷ [] → new ≡ old ++ tag_changes id title now found
tag_added None id title now old new item is made pushed =
    pushed ∙ ap (λ (i : Item). old ++ Saved id i ∷ []) made
tag_added (Some r) id title now old new item is made pushed = cc

-- ---- what is removed

pub unlinking_allowed : (note tag : List ℕ) (rows : List Row)
    → All IsAllowed (unlinking note tag rows)
unlinking_allowed note tag [] = All-nil IsAllowed
unlinking_allowed note tag (r ∷ rows) =
    All-append IsAllowed (unlinking_one note tag r) (unlinking note tag rows) (by (is_link note tag r))
    (unlinking_allowed note tag rows) where
      by : (b : Bool) → All IsAllowed (if b then Removed r.id ∷ [] else [])
      by true = All-cons IsAllowed (Removed r.id) [] tt (All-nil IsAllowed)
      by false = All-nil IsAllowed
