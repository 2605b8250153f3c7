-- Where a client stands in a run_history, and whether it writes in time.
use Rattle.std.proofs.Common.{◌≡◌, ◌∙◌, ◌<◌, ◌≤◌, ◌+◌, ◌⊎◌, inl, inr, length, map, refl, ap, sym, subst, arith, ℕ, List, [], ◌∷◌, ◌++◌, Bool, true, false, not, cond, Option, Some, None, take, slice_get, get_or, append_assoc}
use Rattle.std.specs.Prelude.{option_map, bytes_eq, nat_lt}
use Rattle.std.proofs.lemmas.Bool.{and_parts, false≢true, true≢false, ltb-true}
use Rattle.std.proofs.lemmas.List.{take_more, length-map}
use Rattle.std.proofs.lemmas.Option.{get_or_from_slice_get, slice_get_within, slice_get-map, slice_get_read}
use Rattle.jop_base.specs.declared.lock_name.LockKind.{LockKind}
use Rattle.std.proofs.lemmas.Slice.Eq.{bytes_eq-Decides}
use Rattle.jop_base.proofs.KeyedLaws.{bytes_eq-refl}
use Rattle.jop_target.specs.History.{Step, History, noted, part_of, landed_call, is_guarded_call, WritesAt}
use Rattle.jop_target.specs.declared.call.Call.{Call}
use Rattle.jop_target.specs.declared.event.Event.{Event}
use Rattle.jop_target.specs.declared.event.Event.TheVariants.{Began, Sent, Called, Made, Ended}
use Rattle.lease.specs.Discipline.{Session, outside, session_after, session_from}
use Rattle.lease.specs.Exclusion.{phase_at, IsTimely}
use Rattle.lease.specs.Locks.{LIFE}
use Rattle.lease.specs.Phase as lease
use Rattle.lease.proofs.Sessions.{session_from-append}
use Rattle.run_premises.specs.Seen.{seen_phase}
use Rattle.run_premises.specs.InTime.{is_write, is_late, is_late_by, IsInTimeAt, IsTimelyFor}
use Rattle.run_premises.specs.Steps.{happening_of, history_step, run_history, AreOf}
use Rattle.run_premises.specs.declared.run_step.RunStep.{RunStep}
use Rattle.jop_target.specs.declared.tree.Tree.{Tree}
use Rattle.run_premises.specs.declared.phase.Phase.{Phase}
use Rattle.run_premises.specs.declared.phase.Phase.TheVariants.{Held}

-- ---- one step

noted_one : (event : Event) (landed : Bool) → noted (happening_of event landed) ≡ event ∷ []
noted_one Began landed = refl
noted_one (Sent call) landed = refl
noted_one (Called call reply) landed = refl
noted_one (Made number) landed = refl
noted_one Ended landed = refl

pub beside_own : (client other : List ℕ) (event : Event) (landed : Bool) (s : Session) →
    bytes_eq other client ≡ true →
    session_from client s (cond (bytes_eq other client) (noted (happening_of event landed) ++ []) [])
    ≡ session_after client s event
unfolding session_from
beside_own client other event landed s same = rw (same, noted_one event landed) refl

pub beside_other : (client other : List ℕ) (event : Event) (landed : Bool) (s : Session) →
    bytes_eq other client ≡ false →
    session_from client s (cond (bytes_eq other client) (noted (happening_of event landed) ++ []) []) ≡ s
unfolding session_from
beside_other client other event landed s differ = rw (differ) refl

-- ---- the next place

part_append : (b : Bool) (es whole part more : List Event) → whole ≡ part ++ more →
    cond b (es ++ whole) whole ≡ cond b (es ++ part) part ++ more
part_append true es whole part more e = ap (λ l. es ++ l) e ∙ sym (append_assoc es part more)
part_append false es whole part more e = e

part_of-append : (client : List ℕ) (ss ts : List Step) →
    part_of client (ss ++ ts) ≡ part_of client ss ++ part_of client ts
part_of-append client [] ts = refl
part_of-append client (s ∷ ss) ts =
    part_append (bytes_eq s.client client) (noted s.happens) _ _ (part_of client ts)
    (part_of-append client ss ts)

pub take_next : {A : Type 0} (xs : List A) (i : ℕ) (x : A) → slice_get xs i ≡ Some x →
    take (i + 1) xs ≡ take i xs ++ x ∷ []
take_next xs i x here =
    take_more xs i x (slice_get_within xs i x here)
    ∙ ap (λ y. take i xs ++ y ∷ []) (get_or_from_slice_get xs i x x here)

pub session_next : (client : List ℕ) (ss : List Step) (i : ℕ) (s : Step) → slice_get ss i ≡ Some s →
    session_from client outside (part_of client (take (i + 1) ss))
    ≡ session_from client (session_from client outside (part_of client (take i ss))) (part_of client (s ∷ []))
session_next client ss i s here =
    ap (λ l. session_from client outside (part_of client l)) (take_next ss i s here)
    ∙ ap (λ l. session_from client outside l) (part_of-append client (take i ss) (s ∷ []))
    ∙ session_from-append client outside (part_of client (take i ss)) (part_of client (s ∷ []))

-- ---- in time

some_same : {A : Type 0} (x y : A) → Some x ≡ Some y → x ≡ y
some_same x y e = cc

lt_from : (a b : ℕ) → not (nat_lt a b) ≡ false → a < b
lt_from a b h = ltb-true a b (go (nat_lt a b) h)
  where
    go : (t : Bool) → not t ≡ false → t ≡ true
    go true e = refl
    go false e = absurd (true≢false e)

not_lt_from : (a b : ℕ) → not (nat_lt a b) ≡ true → ¬ (a < b)
not_lt_from a b h lt = grind arith

held_in_time : (client : List ℕ) (kind : LockKind) (stamp : ℕ) (s : Step) (call : Call) →
    s.client ≡ client → landed_call s.happens ≡ Some call → is_guarded_call call ≡ true →
    is_late_by client (Held kind stamp) s ≡ false → s.moment < stamp + LIFE
held_in_time client kind stamp s call by landed guarded late =
    let mine : bytes_eq s.client client ≡ true =
    subst (λ (c : List ℕ). bytes_eq s.client c ≡ true) by (bytes_eq-refl s.client) in
    let same : is_late_by client (Held kind stamp) s ≡ not (nat_lt s.moment (stamp + LIFE)) =
    rw (mine, landed, guarded) refl in
    lt_from s.moment (stamp + LIFE) (sym same ∙ late)

pub in_time : (h : History) (client : List ℕ) (phase : Phase) (place : ℕ) (s : Step) →
    slice_get h.steps place ≡ Some s → phase ≡ seen_phase client (phase_at client (take place h.steps)) →
    is_late_by client phase s ≡ false → IsInTimeAt h client place
in_time h client phase place s here is late kind stamp write holds =
    let same : s ≡ write.step = some_same s write.step (sym here ∙ write.here) in
    let held : phase ≡ Held kind stamp = is ∙ ap (seen_phase client) holds in
    let so : is_late_by client (Held kind stamp) write.step ≡ false =
    subst (λ (p : Phase). is_late_by client p write.step ≡ false) held
    (subst (λ (t : Step). is_late_by client phase t ≡ false) same late) in
    held_in_time client kind stamp write.step write.call write.by write.landed write.guarded so

-- ---- and not

held_from : (client : List ℕ) (p : lease.Phase) (kind : LockKind) (stamp : ℕ) →
    Held kind stamp ≡ seen_phase client p → p ≡ lease.Held kind stamp
held_from client (lease.Held k s) kind stamp e = cc
held_from client p kind stamp e = cc

written : (o : Option Call) → is_write o ≡ true →
    (call : Call) × (o ≡ Some call) × (is_guarded_call call ≡ true)
written None e = absurd (false≢true e)
written (Some call) e = (call, refl, e)

held_late : (phase : Phase) (s : Step) → is_late phase s ≡ true →
    (kind : LockKind) × (stamp : ℕ) × (phase ≡ Held kind stamp) × (is_late (Held kind stamp) s ≡ true)
held_late (Held kind stamp) s late = (kind, stamp, refl, late)
held_late phase s late = absurd (false≢true late)

pub not_in_time : (h : History) (client : List ℕ) (phase : Phase) (place : ℕ) (s : Step) →
    slice_get h.steps place ≡ Some s → phase ≡ seen_phase client (phase_at client (take place h.steps)) →
    is_late_by client phase s ≡ true → ¬ IsInTimeAt h client place
not_in_time h client phase place s here is late timely =
    let parts = and_parts (bytes_eq s.client client) (is_late phase s) late in
    let held = held_late phase s parts.1 in
    let both = and_parts (is_write (landed_call s.happens)) _ held.3 in
    let found = written (landed_call s.happens) both.0 in
    let write : WritesAt h place client = record {
      step = s;
      call = found.0;
      here = here;
      by = (bytes_eq-Decides s.client client).0 parts.0;
      landed = found.1;
      guarded = found.2;
    } in
    not_lt_from s.moment (held.1 + LIFE) both.1
    (timely held.0 held.1 write (held_from client (phase_at client (take place h.steps)) held.0 held.1
    (sym held.2 ∙ is)))

-- ---- all places

before_or_here : (k now : ℕ) → k < now + 1 → (k < now) ⊎ (k ≡ now)
before_or_here k now h = grind arith

pub timely_next : (h : History) (client : List ℕ) (i : ℕ) →
    ((place : ℕ) → place < i → IsInTimeAt h client place) → IsInTimeAt h client i →
    (place : ℕ) → place < i + 1 → IsInTimeAt h client place
timely_next h client i before now place lt = elim (before_or_here place i lt) [
  | inl less ↦ before place less
  | inr same ↦ subst (λ (k : ℕ). IsInTimeAt h client k) (sym same) now
]

pub here_mapped : (steps : List RunStep) (i : ℕ) (s : RunStep) → i < length steps →
    s ≡ get_or steps i s → slice_get (map history_step steps) i ≡ Some (history_step s)
here_mapped steps i s within is =
    slice_get-map history_step steps i
    ∙ ap (option_map history_step) (slice_get_read steps (length steps) i s refl within is)

pub all_in_time : (tree : Tree) (client : List ℕ) (steps : List RunStep) (n : ℕ) → length steps ≤ n →
    ((place : ℕ) → place < n → IsInTimeAt (run_history tree steps) client place) →
    IsTimelyFor (run_history tree steps) client
all_in_time tree client steps n past before place kind stamp write holds =
    let within = slice_get_within (map history_step steps) place write.step write.here in
    let long : length (map history_step steps) ≡ length steps = length-map steps history_step in
    before place (omega (arith, within, long, past)) kind stamp write holds

-- ---- all clients

pub of_client : (h : History) (client : List ℕ) → IsTimely h → IsTimelyFor h client
of_client h client timely place kind stamp write holds = timely.each place client kind stamp write holds

pub timely_clients : (h : History) (clients : List (List ℕ)) (i : ℕ) (c : List ℕ) →
    c ≡ get_or clients i c → i < length clients →
    ((k : ℕ) (client : List ℕ) → k < i → slice_get clients k ≡ Some client → IsTimelyFor h client) →
    IsTimelyFor h c →
    (k : ℕ) (client : List ℕ) → k < i + 1 → slice_get clients k ≡ Some client → IsTimelyFor h client
timely_clients h clients i c is within before now k client lt here = elim (before_or_here k i lt) [
  | inl less ↦ before k client less here
  | inr same ↦
      let there = slice_get_read clients (length clients) i c refl within is in
      let at : slice_get clients i ≡ Some client = subst (λ (n : ℕ). slice_get clients n ≡ Some client) same here in
      subst (λ (d : List ℕ). IsTimelyFor h d) (some_same c client (sym there ∙ at)) now
]

from_mapped : (steps : List RunStep) (place : ℕ) (t : Step) → slice_get (map history_step steps) place ≡ Some t →
    (s : RunStep) × (slice_get steps place ≡ Some s) × (t ≡ history_step s)
from_mapped steps place t here =
    go (slice_get steps place) refl (sym (slice_get-map history_step steps place) ∙ here)
  where
    go : (o : Option RunStep) → slice_get steps place ≡ o → option_map history_step o ≡ Some t →
        (s : RunStep) × (slice_get steps place ≡ Some s) × (t ≡ history_step s)
    go None is e = cc
    go (Some s) is e = (s, is, sym (some_same (history_step s) t e))

pub all_timely : (tree : Tree) (clients : List (List ℕ)) (steps : List RunStep) (n : ℕ) →
    AreOf clients steps → length clients ≤ n →
    ((k : ℕ) (client : List ℕ) → k < n → slice_get clients k ≡ Some client →
    IsTimelyFor (run_history tree steps) client) →
    IsTimely (run_history tree steps)
all_timely tree clients steps n of past before = record {
  each = λ place client kind stamp write holds.
      let found = from_mapped steps place write.step write.here in
      let owner = of place found.0 found.1 in
      let named : slice_get clients owner.0 ≡ Some client =
      owner.1 ∙ ap (λ (c : List ℕ). Some c) (sym (ap (λ (t : Step). t.client) found.2) ∙ write.by) in
      let within = slice_get_within clients owner.0 client named in
      before owner.0 client (omega (arith, within, past)) named place kind stamp write holds;
}
