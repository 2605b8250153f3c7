-- If no client puts while its check is crossed, then no other put lands between a check and a put.
use Rattle.std.proofs.Common.{◌≡◌, ◌<◌, ◌≤◌, ◌∙◌, refl, ap, sym, subst, arith, inl, inr, ℕ, zero, suc, List, [], ◌∷◌, Bool, true, false, not, Option, Some, None}
use Rattle.std.specs.Prelude.{take, slice_get, ◌&&◌}
use Rattle.std.proofs.lemmas.Bool.{false≢true, true≢false, and_parts}
use Rattle.jop_base.proofs.KeyedLaws.{bytes_eq-refl, bytes_eq-other}
use Rattle.law_kept.specs.Acts.{Act, Begins, Gets, Puts, Deletes, Changes, Ends, Elsewhere, FileStep, Version}
use Rattle.law_kept.specs.Gap.{is_touching, does, HasGap, NoOtherUploadBetween}
use Rattle.law_kept.specs.Standing.{Standing, World, crossed_beside, stands_after, opening_world, happened, world_from}
use Rattle.law_kept.proofs.Clients.{same_or_not, some_same}
use Rattle.law_kept.proofs.Places.{before_or_here, world_next, take_past}

abbrev pub is_uncrossed_put : Bool → Act → Bool
is_uncrossed_put crossed (Puts bytes true heard) = not crossed
is_uncrossed_put crossed act = true

-- no put lands whose client's check is crossed
unfoldable pub puts_uncrossed : World → List FileStep → Bool
puts_uncrossed w [] = true
puts_uncrossed w (s ∷ ss) =
    is_uncrossed_put (w.at s.client).stands.crossed s.act && puts_uncrossed (happened w s) ss

abbrev crossed_at : Option Version → List FileStep → ℕ → List ℕ → Bool
crossed_at file ss place client =
    ((world_from (opening_world file) (take place ss)).at client).stands.crossed

uncrossed_at : (w : World) (ss : List FileStep) (place : ℕ) (s : FileStep)
    → slice_get ss place ≡ Some s
    → puts_uncrossed w ss ≡ true
    → is_uncrossed_put ((world_from w (take place ss)).at s.client).stands.crossed s.act ≡ true
unfolding puts_uncrossed world_from
uncrossed_at w [] place s here all = cc
uncrossed_at w (t ∷ ss) zero s here all =
    let first =
    (and_parts (is_uncrossed_put (w.at t.client).stands.crossed t.act)
    (puts_uncrossed (happened w t) ss) all).0 in
    subst (λ (u : FileStep). is_uncrossed_put (w.at u.client).stands.crossed u.act ≡ true)
    (some_same t s here) first
uncrossed_at w (t ∷ ss) (suc place) s here all =
    let rest =
    (and_parts (is_uncrossed_put (w.at t.client).stands.crossed t.act)
    (puts_uncrossed (happened w t) ss) all).1 in
    uncrossed_at (happened w t) ss place s here rest

-- ---- once crossed, a check stays so

still_own : (file : Option Version) (s : Standing) (x : Act) → is_touching x ≡ false
    → (stands_after file s x).crossed ≡ s.crossed
still_own file s (Changes change) quiet = refl
still_own file s Elsewhere quiet = refl
still_own file s (Puts bytes landed heard) quiet = refl
still_own file s (Deletes landed) quiet = refl
still_own file s Begins quiet = absurd (true≢false quiet)
still_own file s (Gets answer) quiet = absurd (true≢false quiet)
still_own file s Ends quiet = refl

still_beside : (crossed : Bool) (x : Act) → crossed ≡ true → crossed_beside crossed x ≡ true
still_beside crossed (Puts bytes true heard) is = refl
still_beside crossed (Puts bytes false heard) is = is
still_beside crossed (Deletes landed) is = is
still_beside crossed Begins is = is
still_beside crossed (Gets answer) is = is
still_beside crossed (Changes change) is = is
still_beside crossed Ends is = is
still_beside crossed Elsewhere is = is

still_step : (w : World) (s : FileStep) (client : List ℕ)
    → (s.client ≡ client → is_touching s.act ≡ false) → (w.at client).stands.crossed ≡ true
    → ((happened w s).at client).stands.crossed ≡ true
still_step w s client quiet is = elim (same_or_not s.client client) [
  | inl same ↦
      subst (λ (c : List ℕ). ((happened w s).at c).stands.crossed ≡ true) same
      (rw (bytes_eq-refl s.client)
      (still_own w.file (w.at s.client).stands s.act (quiet same)
      ∙ subst (λ (c : List ℕ). (w.at c).stands.crossed ≡ true) (sym same) is))
  | inr differ ↦
      rw (bytes_eq-other s.client client differ)
      (still_beside (w.at client).stands.crossed s.act is)
]

crossing_step : (w : World) (s : FileStep) (client bytes : List ℕ) (heard : Bool)
    → ¬ (s.client ≡ client)
    → s.act ≡ Puts bytes true heard → ((happened w s).at client).stands.crossed ≡ true
crossing_step w s client bytes heard differ by = rw (bytes_eq-other s.client client differ, by) refl

crossed_until : (file : Option Version) (ss : List FileStep) (g : HasGap ss) (place : ℕ)
    → g.crossed.place < place → place ≤ g.put → crossed_at file ss place g.client ≡ true
crossed_until file ss g zero after within = absurd (omega arith)
crossed_until file ss g (suc place) after within =
    elim (before_or_here g.crossed.place place after) [
      | inl later ↦
          going (slice_get ss place) refl
          (crossed_until file ss g place later (omega (arith, within))) later
      | inr same ↦ now same
    ]
  where
    going : (t : Option FileStep) → slice_get ss place ≡ t
        → crossed_at file ss place g.client ≡ true
        → g.crossed.place < place → crossed_at file ss (suc place) g.client ≡ true
    going None past is later =
        subst
        (λ (l : List FileStep). ((world_from (opening_world file) l).at g.client).stands.crossed
        ≡ true)
        (sym (take_past ss place past)) is
    going (Some t) here is later =
        subst (λ (w : World). (w.at g.client).stands.crossed ≡ true)
        (sym (world_next (opening_world file) ss place t here))
        (still_step (world_from (opening_world file) (take place ss)) t g.client
        (g.still place t (let a = g.crossed.after in omega (arith, a, later))
        (omega (arith, within)) here) is)

    now : g.crossed.place ≡ place → crossed_at file ss (suc place) g.client ≡ true
    now same =
        let s : FileStep = does g.crossed.other (Puts g.crossed.bytes true g.crossed.heard) in
        let here = subst (λ (k : ℕ). slice_get ss k ≡ Some s) same g.crossed.here in
        subst (λ (w : World). (w.at g.client).stands.crossed ≡ true)
        (sym (world_next (opening_world file) ss place s here))
        (crossing_step (world_from (opening_world file) (take place ss)) s g.client g.crossed.bytes
        g.crossed.heard g.crossed.apart refl)

pub gapless : (file : Option Version) (ss : List FileStep)
    → puts_uncrossed (opening_world file) ss ≡ true → NoOtherUploadBetween ss
gapless file ss all g =
    let is = crossed_until file ss g g.put g.crossed.before (omega arith) in
    let not_so =
    uncrossed_at (opening_world file) ss g.put (does g.client (Puts g.bytes true g.heard))
    g.puts all in
    false≢true (ap not (sym is) ∙ not_so)
