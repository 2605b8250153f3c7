-- A trail that agrees with a seat's entries tells which of its events stand for them.
use Rattle.std.proofs.Common.{◌≡◌, ◌∙◌, refl, sym, ap, subst, arith, inl, inr, ℕ, ◌+◌, zero, suc, List, [], ◌∷◌, true, false, length}
use Rattle.std.proofs.lemmas.List.Elements.{All-cons, All-head, All-nil, All-tail}
use Rattle.std.proofs.Math.Seq.{drop-length}
use Rattle.std.specs.Prelude.{All, Option, Some, None, drop, slice_get}
use Rattle.call_log.specs.Agreeing.{AgreesWithLog, LeadsThrough, MayStandFor, LeadsOn, answers_to, may_stand_alone}
use Rattle.call_log.specs.declared.entry.LogEntry.{LogEntry}
use Rattle.jop_target.specs.declared.event.Event.{Event}
use Rattle.jop_target.specs.declared.event.Event.TheVariants.{Began, Sent, Called, Made, Ended}
use Rattle.law_licences.specs.Deeds.{Deed, Begins, Asks, Makes, Ends, deed_by, deeds_of, making}
use Rattle.local_store.specs.Tale.{made_in, numbers_from}
use Rattle.local_store.specs.declared.change.Change.{Change}
use Rattle.run_premises.specs.Steps.{happening_of}
use Rattle.woven.specs.Telling.{TellsTrail, beside, deeds_told}
use Rattle.woven.specs.Weaving.{ToldEvent, StandFor, events_told}

drop_here : (answers : List LogEntry) (n : ℕ) (e : LogEntry) → slice_get answers n ≡ Some e →
    drop n answers ≡ e ∷ drop (suc n) answers
drop_here [] n e is = cc
drop_here (d ∷ ds) zero e is = let same : d ≡ e = cc in ap (λ (x : LogEntry). x ∷ ds) same
drop_here (d ∷ ds) (suc n) e is = drop_here ds n e is

-- one event more that stands for no entry
told_skipping : (answers : List LogEntry) (t : Event) (ts : List Event) (with_change : Event → Option Change)
    → may_stand_alone t ≡ true → (told : List ToldEvent) × TellsTrail answers ts with_change told
    → (told : List ToldEvent) × TellsTrail answers (t ∷ ts) with_change told
unfolding StandFor
told_skipping answers t ts with_change is (told, h) =
    let one : ToldEvent = record { event = t; change = with_change t; stands = false } in (
      one ∷ told,
      record {
        events = ap (λ (es : List Event). t ∷ es) h.events;
        changes = All-cons (λ (u : ToldEvent). u.change ≡ with_change u.event) one told refl h.changes;
        stand = go answers h.stand;
      },
    )
  where
    go : (es : List LogEntry) → StandFor es told
        → StandFor es (record { event = t; change = with_change t; stands = false } ∷ told)
    go [] rest = (refl, is, rest)
    go (e ∷ es) rest = inl (refl, is, rest)

-- one that stands for the next
told_standing : (e : LogEntry) (answers : List LogEntry) (t : Event) (ts : List Event)
    (with_change : Event → Option Change)
    → MayStandFor t e → (told : List ToldEvent) × TellsTrail answers ts with_change told
    → (told : List ToldEvent) × TellsTrail (e ∷ answers) (t ∷ ts) with_change told
unfolding StandFor
told_standing e answers t ts with_change is (told, h) =
    let one : ToldEvent = record { event = t; change = with_change t; stands = true } in (
      one ∷ told,
      record {
        events = ap (λ (es : List Event). t ∷ es) h.events;
        changes = All-cons (λ (u : ToldEvent). u.change ≡ with_change u.event) one told refl h.changes;
        stand = inr (refl, is, h.stand);
      },
    )

marked : (answers : List LogEntry) (with_change : Event → Option Change) (from : ℕ) (ts : List Event)
    → LeadsThrough answers from ts (length answers)
    → (told : List ToldEvent) × TellsTrail (drop from answers) ts with_change told
unfolding LeadsThrough StandFor
marked answers with_change from [] h = (
  [],
  record {
    events = refl;
    changes = All-nil (λ (u : ToldEvent). u.change ≡ with_change u.event);
    stand = subst (λ (es : List LogEntry). StandFor es [])
        (sym (drop-length answers) ∙ ap (λ (n : ℕ). drop n answers) h) tt;
  },
)
marked answers with_change from (t ∷ ts) h = go h.1 (marked answers with_change h.0 ts h.2)
  where
    more : suc from ≡ from + 1
    more = omega arith

    go : LeadsOn answers t from h.0 → (told : List ToldEvent) × TellsTrail (drop h.0 answers) ts with_change told
        → (told : List ToldEvent) × TellsTrail (drop from answers) (t ∷ ts) with_change told
    go (inl (skip, same)) rest = told_skipping (drop from answers) t ts with_change skip
        (subst (λ (n : ℕ). (told : List ToldEvent) × TellsTrail (drop n answers) ts with_change told) same rest)
    go (inr ((e, here, stands), next)) rest =
        subst (λ (es : List LogEntry). (told : List ToldEvent) × TellsTrail es (t ∷ ts) with_change told)
        (sym (drop_here answers from e here ∙ ap (λ (n : ℕ). e ∷ drop n answers) more))
        (told_standing e (drop (from + 1) answers) t ts with_change stands
        (subst (λ (n : ℕ). (told : List ToldEvent) × TellsTrail (drop n answers) ts with_change told) next rest))

pub agreeing_tells : (log : List LogEntry) (seat : ℕ) (trail : List Event) (with_change : Event → Option Change)
    → AgreesWithLog log seat trail → (told : List ToldEvent) × TellsTrail (answers_to seat log) trail with_change told
agreeing_tells log seat trail with_change agrees = marked (answers_to seat log) with_change 0 trail agrees

-- ---- what is done

drop_more : (cs : List Change) (n : ℕ) (c : Change) (rest : List Change) → drop n cs ≡ c ∷ rest →
    (slice_get cs n ≡ Some c) × (drop (suc n) cs ≡ rest)
drop_more [] zero c rest is = cc
drop_more [] (suc n) c rest is = cc
drop_more (d ∷ ds) zero c rest is = let same : d ≡ c = cc in let more : ds ≡ rest = cc in (ap Some same, more)
drop_more (d ∷ ds) (suc n) c rest is = drop_more ds n c rest is

deeds_from : (made : List Change) (from : ℕ) (cs : List Change) (ts : List ToldEvent) → drop from made ≡ cs
    → All (λ (t : ToldEvent). t.change ≡ beside made t.event) ts
    → made_in (events_told ts) ≡ numbers_from from cs
    → deeds_told ts ≡ deeds_of (events_told ts) cs
unfolding deeds_of made_in
deeds_from made from cs [] here all numbered = refl
deeds_from made from cs (t ∷ ts) here all numbered =
    go t.event (All-head (λ (u : ToldEvent). u.change ≡ beside made u.event) t ts all)
    (λ (n : ℕ) (ds : List Change) (left : drop n made ≡ ds) (more : made_in (events_told ts) ≡ numbers_from n ds).
    deeds_from made n ds ts left (All-tail (λ (u : ToldEvent). u.change ≡ beside made u.event) t ts all) more)
    numbered
  where
    go : (event : Event) → t.change ≡ beside made event
        → ((n : ℕ) (ds : List Change) → drop n made ≡ ds → made_in (events_told ts) ≡ numbers_from n ds
        → deeds_told ts ≡ deeds_of (events_told ts) ds)
        → made_in (event ∷ events_told ts) ≡ numbers_from from cs
        → deed_by (happening_of event t.stands) t.change ∷ deeds_told ts ≡ deeds_of (event ∷ events_told ts) cs
    go Began change rest is = ap (λ (ds : List Deed). Begins ∷ ds) (rest from cs here is)
    go (Sent call) change rest is = ap (λ (ds : List Deed). Asks call None ∷ ds) (rest from cs here is)
    go (Called call reply) change rest is = ap (λ (ds : List Deed). Asks call (Some reply) ∷ ds) (rest from cs here is)
    go (Made number) change rest is = by cs here is
      where
        by : (ds : List Change) → drop from made ≡ ds → number ∷ made_in (events_told ts) ≡ numbers_from from ds
            → making t.change ∷ deeds_told ts ≡ deeds_of (Made number ∷ events_told ts) ds
        by [] left numbers = cc
        by (d ∷ ds) left numbers =
            let same : number ≡ from = cc in
            let others : made_in (events_told ts) ≡ numbers_from (from + 1) ds = cc in
            let more = drop_more made from d ds left in
            let next : suc from ≡ from + 1 = omega arith in
            let after : drop (from + 1) made ≡ ds = ap (λ (n : ℕ). drop n made) (sym next) ∙ more.1 in
            let told : t.change ≡ Some d = change ∙ (ap (λ (n : ℕ). slice_get made n) same ∙ more.0) in
            ap (λ (o : Option Change). making o ∷ deeds_told ts) told
            ∙ ap (λ (es : List Deed). Makes d ∷ es) (rest (from + 1) ds after others)
    go Ended change rest is = ap (λ (ds : List Deed). Ends ∷ ds) (rest from cs here is)

pub deeds_as_told : (made : List Change) (ts : List ToldEvent)
    → All (λ (t : ToldEvent). t.change ≡ beside made t.event) ts
    → made_in (events_told ts) ≡ numbers_from 0 made
    → deeds_told ts ≡ deeds_of (events_told ts) made
deeds_as_told made ts all numbered = deeds_from made 0 made ts refl all numbered
