-- Where the answers to a seat and its trail first differ.
use Rattle.std.proofs.Common.{◌≡◌, sym, subst, arith, ℕ, ◌<◌, ◌≤◌, List, [], length, take}
use Rattle.std.specs.List.{Contains}
use Rattle.std.proofs.lemmas.List.{take_all}
use Rattle.std.proofs.lemmas.Option.{slice_get_past}
use Rattle.std.specs.Prelude.{slice_get, IfSome, IfNone, Option, Some, None}
use Rattle.jop_target.specs.declared.event.Event.{Event}
use Rattle.call_log.specs.declared.gap.Gap.{Gap}
use Rattle.call_log.specs.declared.entry.LogEntry.{LogEntry}
use Rattle.call_log.specs.Agreeing.{LeadsOn, LeadsThrough}
use Rattle.call_log.specs.Differing.{Compares, IsStuck}
use Rattle.call_log.proofs.Leading.{AreWays, HasLed, ways_on, contains_none}

-- what was answered of the ways that are open
pub record IsOpen (ways : List ℕ) (event : ℕ) (result : Option Gap) : Type 0 where
  pub some : IfSome result (λ (gap : Gap). Contains ways gap.entry × (gap.event ≡ event))
  pub none : IfNone result (ways ≡ [])

pub open_of : (ways others : List ℕ) (event : ℕ) (result : Option Gap) → others ≡ ways →
    IfSome result (λ (gap : Gap). Contains others gap.entry × (gap.event ≡ event)) →
    IfNone result (others ≡ []) → IsOpen ways event result
open_of ways others event result same some none = record {
  some = subst (λ (ws : List ℕ).
      IfSome result (λ (gap : Gap). Contains ws gap.entry × (gap.event ≡ event))) same some;
  none = subst (λ (ws : List ℕ). IfNone result (ws ≡ [])) same none;
}

is_gap : (answers : List LogEntry) (trail : List Event) (ways : List ℕ) (event : ℕ)
    (result : Option Gap) → event ≤ length trail → AreWays answers (take event trail) ways →
    ¬ (ways ≡ []) → IsStuck answers (take event trail) (slice_get trail event) →
    IsOpen ways event result → Compares answers trail result
is_gap answers trail ways event None upto leads some stuck opened = absurd (some opened.none)
is_gap answers trail ways event (Some gap) upto leads some stuck opened =
    let here : gap.event ≡ event = opened.some.1 in
    record {
      within = subst (λ (n : ℕ). n ≤ length trail) (sym here) upto;
      leads = subst (λ (n : ℕ). LeadsThrough answers 0 (take n trail) gap.entry) (sym here)
          ((leads gap.entry).0 opened.some.0);
      stuck = subst (λ (n : ℕ). IsStuck answers (take n trail) (slice_get trail n)) (sym here) stuck;
    }

-- none of the ways goes on over this event
pub gap_here : (answers : List LogEntry) (trail : List Event) (ways next : List ℕ) (event : ℕ)
    (t : Event) (result : Option Gap) → event < length trail →
    AreWays answers (take event trail) ways → ¬ (ways ≡ []) →
    HasLed (LeadsOn answers t) ways next → next ≡ [] →
    slice_get trail event ≡ Some t → IsOpen ways event result → Compares answers trail result
gap_here answers trail ways next event t result within leads some goes empty here opened =
    let stuck : IsStuck answers (take event trail) (Some t) =
    λ n h. contains_none n next empty
    ((ways_on answers (take event trail) t ways next leads goes n).1 h) in
    is_gap answers trail ways event result (omega (arith, within)) leads some
    (subst (λ (o : Option Event). IsStuck answers (take event trail) o) (sym here) stuck) opened

-- none of the ways has ended behind the last answer
pub gap_at_end : (answers : List LogEntry) (trail : List Event) (ways : List ℕ)
    (result : Option Gap) → AreWays answers trail ways → ¬ (ways ≡ []) →
    ¬ Contains ways (length answers) → IsOpen ways (length trail) result →
    Compares answers trail result
gap_at_end answers trail ways result leads some missing opened =
    let whole : take (length trail) trail ≡ trail = take_all (length trail) trail (omega arith) in
    let over = slice_get_past trail (length trail) (omega arith) in
    let stuck : IsStuck answers trail None = λ h. missing ((leads (length answers)).1 h) in
    is_gap answers trail ways (length trail) result (omega arith)
    (subst (λ (ts : List Event). AreWays answers ts ways) (sym whole) leads) some
    (subst (λ (ts : List Event). IsStuck answers ts (slice_get trail (length trail))) (sym whole)
    (subst (λ (o : Option Event). IsStuck answers trail o) (sym over) stuck)) opened
