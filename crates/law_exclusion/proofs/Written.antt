-- Of a history that is written out: a test whether all do what is allowed, and its writes.
use Rattle.std.proofs.Common.{◌≡◌, ◌⊎◌, refl, sym, subst, inl, inr, ℕ, List, [], ◌∷◌, ◌++◌, Bool, true, false, cond, ◌&&◌, Some}
use Rattle.std.specs.Prelude.{bytes_eq, slice_get}
use Rattle.std.proofs.lemmas.Bool.{and_parts}
use Rattle.std.proofs.lemmas.Slice.Eq.{bytes_eq-Decides}
use Rattle.jop_base.specs.Paths.{is_guarded}
use Rattle.jop_base.specs.declared.path.Path.{Path}
use Rattle.jop_target.specs.History.{History, Step, WritesAt, noted, part_of}
use Rattle.jop_target.specs.declared.call.Call.TheVariants.{Put}
use Rattle.target_upgrade.specs.Course.{KeepsVersions, allowed_from, outside_course}
use Rattle.target_upgrade.proofs.Whole.{keeps_none}
use Rattle.law_exclusion.specs.Exclusive.{AllKeepVersions}
use Rattle.law_exclusion.specs.Stories.{puts_file}

abbrev pub all_allowed : List Step → List Step → Bool
all_allowed all [] = true
all_allowed all (s ∷ ss) =
    allowed_from s.client outside_course (part_of s.client all) && all_allowed all ss

-- a client has no part in these steps, or one of them is its own
has_part : (all ss : List Step) (client : List ℕ) → all_allowed all ss ≡ true →
    (part_of client ss ≡ []) ⊎ KeepsVersions client (part_of client all)
has_part all [] client h = inl refl
has_part all (s ∷ ss) client h =
    go (bytes_eq s.client client) refl (has_part all ss client parts.1)
  where
    parts : (allowed_from s.client outside_course (part_of s.client all) ≡ true)
        × (all_allowed all ss ≡ true)
    parts = and_parts (allowed_from s.client outside_course (part_of s.client all))
        (all_allowed all ss) h

    go : (b : Bool) → bytes_eq s.client client ≡ b →
        (part_of client ss ≡ []) ⊎ KeepsVersions client (part_of client all) →
        (cond b (noted s.happens ++ part_of client ss) (part_of client ss) ≡ [])
        ⊎ KeepsVersions client (part_of client all)
    go true e rest =
        inr (subst (λ (c : List ℕ). KeepsVersions c (part_of c all))
        ((bytes_eq-Decides s.client client).0 e) parts.0)
    go false e rest = rest

pub all_keep_versions : (h : History) → all_allowed h.steps h.steps ≡ true → AllKeepVersions h
all_keep_versions h allowed = record {
  each = λ client. elim (has_part h.steps h.steps client allowed) [
    | inl none ↦ subst (KeepsVersions client) (sym none) (keeps_none client)
    | inr keeps ↦ keeps
  ];
}

-- a put that stands in a history
pub put_writes : (h : History) (place : ℕ) (client : List ℕ) (moment : ℕ) (path : Path)
    (content : List ℕ) → slice_get h.steps place ≡ Some (puts_file client moment path content) →
    is_guarded path ≡ true → WritesAt h place client
put_writes h place client moment path content here guarded = record {
  step = puts_file client moment path content;
  call = Put path content;
  here = here;
  by = refl;
  landed = refl;
  guarded = guarded;
}
