-- A log that is closed over these trails tells each seat's part.
use Rattle.std.proofs.Common.{◌≡◌, ◌∙◌, refl, sym, ap, subst, arith, ℕ, ◌+◌, ◌≤◌, zero, suc, List, [], ◌∷◌, Bool, true, false, not, ◌&&◌, if◌then◌else◌, length}
use Rattle.std.proofs.lemmas.Bool.{eqb-true}
use Rattle.std.proofs.lemmas.List.Elements.{All-head, All-tail}
use Rattle.std.specs.Prelude.{All, Option, Some, None, nat_eq, slice_get}
use Rattle.call_log.specs.Agreeing.{AgreesWithLog, answers_to}
use Rattle.call_log.specs.Closing.{AllAgree, IsSeated, SeatsWithin}
use Rattle.call_log.specs.declared.entry.LogEntry.{LogEntry}
use Rattle.jop_target.specs.Runs.{is_failed}
use Rattle.jop_target.specs.declared.event.Event.{Event}
use Rattle.local_store.specs.declared.change.Change.{Change}
use Rattle.woven.specs.Telling.{AreTold}
use Rattle.woven.specs.Weaving.{StandFor, ToldEvent, events_told}
use Rattle.woven.proofs.Told.{agreeing_tells}

-- no entry is of a seat that there isn't
answers_none : (seats seat : ℕ) (log : List LogEntry) → SeatsWithin seats log → ¬ ((1 ≤ seat) × (seat ≤ seats))
    → answers_to seat log ≡ []
answers_none seats seat [] within none = refl
answers_none seats seat (e ∷ es) within none =
    go (nat_eq e.seat seat) refl (answers_none seats seat es (All-tail (IsSeated seats) e es within) none)
  where
    go : (b : Bool) → nat_eq e.seat seat ≡ b → answers_to seat es ≡ [] → answers_to seat (e ∷ es) ≡ []
    go true same rest =
        absurd (none (subst (λ (n : ℕ). (1 ≤ n) × (n ≤ seats)) (eqb-true e.seat seat same)
        (All-head (IsSeated seats) e es within)))
    go false other rest =
        ap (λ (b : Bool).
        if b && not (is_failed e.reply) then e ∷ answers_to seat es else answers_to seat es) other ∙ rest

stand_none : (answers : List LogEntry) → answers ≡ [] → StandFor answers []
unfolding StandFor
stand_none answers none = subst (λ (es : List LogEntry). StandFor es []) (sym none) tt

past : {T : Type 0} (xs : List T) (i : ℕ) → slice_get xs i ≡ None → length xs ≤ i
past [] i is = omega arith
past (x ∷ xs) zero is = cc
past (x ∷ xs) (suc i) is = omega (arith, past xs i is)

record Teller {T : Type 0} (trail : T → List Event) (with_change : T → Event → Option Change) (log : List LogEntry)
    (trails : List T) (seat : ℕ) : Type 0 where
  told : List ToldEvent
  stand : StandFor (answers_to seat log) told
  each : (place : ℕ) (t : T) → suc place ≡ seat → slice_get trails place ≡ Some t →
      (events_told told ≡ trail t) × All (λ (u : ToldEvent). u.change ≡ with_change t u.event) told

teller : {T : Type 0} (trail : T → List Event) (with_change : T → Event → Option Change) (log : List LogEntry)
    (trails : List T) → AllAgree trail log trails → SeatsWithin (length trails) log → (seat : ℕ)
    → Teller trail with_change log trails seat
teller trail with_change log trails agree within zero = record {
  told = [];
  stand = stand_none (answers_to 0 log) (answers_none (length trails) 0 log within (λ h. omega (arith, h.0)));
  each = λ place t same here. absurd (omega (arith, same));
}
teller {T} trail with_change log trails agree within (suc p) = go (slice_get trails p) refl
  where
    go : (o : Option T) → slice_get trails p ≡ o → Teller trail with_change log trails (suc p)
    go None is = record {
      told = [];
      stand = stand_none (answers_to (suc p) log)
          (answers_none (length trails) (suc p) log within (λ h. omega (arith, h.1, past trails p is)));
      each = λ place t same here.
          let at : place ≡ p = omega (arith, same) in
          let bad : None ≡ Some t = sym is ∙ (ap (λ (n : ℕ). slice_get trails n) (sym at) ∙ here) in cc;
    }
    go (Some x) is =
        let next : p + 1 ≡ suc p = omega arith in
        let own : AgreesWithLog log (p + 1) (trail x) = agree p x is in
        let h = agreeing_tells log (p + 1) (trail x) (with_change x) own in
        record {
          told = h.0;
          stand = subst (λ (n : ℕ). StandFor (answers_to n log) h.0) next h.1.stand;
          each = λ place t same here.
              let at : place ≡ p = omega (arith, same) in
              let both : Some x ≡ Some t = sym is ∙ (ap (λ (n : ℕ). slice_get trails n) (sym at) ∙ here) in
              let whose : x ≡ t = cc in
              subst (λ (y : T). (events_told h.0 ≡ trail y)
              × All (λ (u : ToldEvent). u.change ≡ with_change y u.event) h.0)
              whose (h.1.events, h.1.changes);
        }

pub closed_tells : {T : Type 0} (trail : T → List Event) (with_change : T → Event → Option Change)
    (log : List LogEntry) (trails : List T) → AllAgree trail log trails → SeatsWithin (length trails) log
    → (told : ℕ → List ToldEvent) × AreTold trail with_change log trails told
closed_tells trail with_change log trails agree within =
    let by = λ (seat : ℕ). teller trail with_change log trails agree within seat in (
      λ seat. (by seat).told,
      record {
        stand = λ seat. (by seat).stand;
        each = λ place t here. (by (place + 1)).each place t (omega arith) here;
      },
    )
