-- A sync to which the target looks emptied ends by the refusal for it.
use Rattle.std.proofs.Common.{◌≡◌, ◌∙◌, refl, sym, ap, subst, inl, inr, ℕ, List, [], ◌∷◌, ◌++◌}
use Rattle.std.proofs.Common.{Option, Some, Ok}
use Rattle.std.specs.Prelude.{option_map}
use Rattle.client.specs.Outside.{OutsideNow}
use Rattle.client.specs.Owning.{Owns}
use Rattle.conflicts.specs.declared.refusal.Refusal.{Refusal}
use Rattle.download.proofs.Still.{heeds_also}
use Rattle.download.specs.Emptied.{HeedsEmptied, last_shown}
use Rattle.jop_cli.proofs.Due.{told_due, unowned_line}
use Rattle.jop_cli.proofs.SyncSides.{added, told_tables}
use Rattle.jop_cli.specs.Commands.Sync.{SyncsAsNamed}
use Rattle.jop_cli.specs.Run.{AnswersEmptied, AnswersWords, EndsRefused, IsFreshOutside}
use Rattle.jop_cli.specs.Worlds.{site_in}
use Rattle.jop_outside.specs.Outside.{SinkNow}
use Rattle.jop_status.specs.Outcomes.{Emits, Outcome}
use Rattle.jop_status.specs.declared.status.Status.{Status}
use Rattle.jop_target.specs.Trail.{LineNow}
use Rattle.jop_target.specs.declared.event.Event.{Event}
use Rattle.jop_target.specs.declared.event.Event.TheVariants.{Made}
use Rattle.jop_words.specs.declared.target_name.TargetName.{TargetName}
use Rattle.jop_words.specs.declared.verb.Verb.{Verb}
use Rattle.jop_words.specs.declared.verb.Verb.TheVariants as verbs
use Rattle.keeper.specs.Keepers.{Kept, changed}
use Rattle.law_licences.specs.Deeds.{deeds_of}
use Rattle.law_licences.specs.Licences.{Each}
use Rattle.law_licences.specs.Sealing.{no_keys}
use Rattle.law_licences.specs.Views.{at_rest}
use Rattle.local_store.specs.declared.change.Change.{Change}
use Rattle.local_store.specs.declared.change.Change.TheVariants.{Named}
use Rattle.local_store.specs.declared.tables.Tables.{Tables}
use Rattle.sync_session.specs.Ordering.{GivesDue}

-- nothing is done
heeds_nothing : (Given : Refusal → Type 0) (t : Tables) (made : List Change)
    → HeedsEmptied Given (at_rest no_keys t) (deeds_of [] made)
unfolding deeds_of Each last_shown
heeds_nothing Given t made = record { stops = tt; given = λ count is. absurd cc }

unasked_heeds : (Given : Refusal → Type 0) (t : Tables) (trail : List Event) (made : List Change)
    → trail ≡ [] → HeedsEmptied Given (at_rest no_keys t) (deeds_of trail made)
unasked_heeds Given t trail made none =
    subst (λ (es : List Event). HeedsEmptied Given (at_rest no_keys t) (deeds_of es made)) (sym none)
    (heeds_nothing Given t made)

-- ---- behind the naming of the client

naming_heeds : (Given : Refusal → Type 0) (client : List ℕ) (k : Kept) (more : List Event)
    (changes : List Change)
    → HeedsEmptied Given (at_rest no_keys (changed (Named client) k).tables) (deeds_of more changes)
    → HeedsEmptied Given (at_rest no_keys k.tables) (deeds_of (Made 0 ∷ more) (Named client ∷ changes))
unfolding deeds_of Each last_shown
naming_heeds Given client k more changes h =
    record { stops = (inl refl, h.stops); given = h.given }

whole_heeds : (Given : Refusal → Type 0) (k : Kept) (trail more : List Event)
    (made changes : List Change) → trail ≡ more → made ≡ changes
    → HeedsEmptied Given (at_rest no_keys k.tables) (deeds_of more changes)
    → HeedsEmptied Given (at_rest no_keys k.tables) (deeds_of trail made)
whole_heeds Given k trail more made changes one other h = rw (one, other) h

-- what was added behind it, from the tables on that are kept then
abbrev HeedsBehind : (Refusal → Type 0) → OutsideNow → List Event → List Change → Type 0
HeedsBehind Given named more changes =
    (k : Kept) → named.keeper.kept ≡ Some k
    → HeedsEmptied Given (at_rest no_keys k.tables) (deeds_of more changes)

behind_heeds : (Given : Refusal → Type 0) (client : List ℕ) (before named : OutsideNow)
    (trail more : List Event) (made changes : List Change) → IsFreshOutside before
    → Owns before (Ok client) named → trail ≡ named.line.trail ++ more
    → made ≡ named.made ++ changes → HeedsBehind Given named more changes
    → (k : Kept) → before.keeper.kept ≡ Some k
    → HeedsEmptied Given (at_rest no_keys k.tables) (deeds_of trail made)
behind_heeds Given client before named trail more made changes fresh (inl was) at are heeds k told =
    whole_heeds Given k trail more made changes
    (at ∙ ap (λ (o : OutsideNow). o.line.trail ++ more) was.same
    ∙ ap (λ (es : List Event). es ++ more) fresh.unwritten)
    (are ∙ ap (λ (o : OutsideNow). o.made ++ changes) was.same
    ∙ ap (λ (cs : List Change). cs ++ changes) fresh.unchanged)
    (heeds k (ap (λ (o : OutsideNow). o.keeper.kept) was.same ∙ told))
behind_heeds Given client before named trail more made changes fresh (inr is) at are heeds k told =
    let named_trail : named.line.trail ≡ Made 0 ∷ [] =
    ap (λ (o : OutsideNow). o.line.trail) is.made ∙ rw (fresh.unwritten, fresh.unchanged) refl in
    let named_made : named.made ≡ Named client ∷ [] =
    ap (λ (o : OutsideNow). o.made) is.made ∙ rw fresh.unchanged refl in
    whole_heeds Given k trail (Made 0 ∷ more) made (Named client ∷ changes)
    (at ∙ ap (λ (es : List Event). es ++ more) named_trail)
    (are ∙ ap (λ (cs : List Change). cs ++ changes) named_made)
    (naming_heeds Given client k more changes
    (heeds (changed (Named client) k)
    (ap (λ (o : OutsideNow). o.keeper.kept) is.made
    ∙ ap (option_map (changed (Named client))) told)))

-- ---- a sync

comes_heeds : (before mid : OutsideNow) (outcome : Outcome) (a b : SinkNow) (status : Status)
    → IsFreshOutside before → SyncsAsNamed before outcome mid → Emits outcome a status b
    → (k : Kept) → before.keeper.kept ≡ Some k
    → HeedsEmptied (EndsRefused status) (at_rest no_keys k.tables) (deeds_of mid.line.trail mid.made)
comes_heeds before mid outcome a b status fresh (inl none) emits k told =
    unasked_heeds (EndsRefused status) k.tables mid.line.trail mid.made
    (ap (λ (l : LineNow). l.trail) (unowned_line before mid none.error none.owns)
    ∙ fresh.unwritten)
comes_heeds before mid outcome a b status fresh (inr ran) emits k told =
    let t = ran.ran.0 in
    let session = ran.ran.2 in
    let named = ran.named in
    let more = session.line.more in
    let adds = added ran.client (site_in t named) (site_in session.late mid) ran.result
    session.session in
    let prints = subst (λ (o : Outcome). Emits o a status b) ran.is emits in
    behind_heeds (EndsRefused status) ran.client before named mid.line.trail more mid.made
    adds.changes fresh ran.owns session.line.trail adds.made
    (λ j kept.
    subst (λ (u : Tables). HeedsEmptied (EndsRefused status) (at_rest no_keys u) (deeds_of more adds.changes))
    (told_tables named.keeper.kept j t ran.ran.1.told kept)
    (heeds_also (GivesDue ran.result) (EndsRefused status) (at_rest no_keys t) (deeds_of more adds.changes)
    (told_due ran.result a b status prints) (session.emptied adds.changes adds.made)))
    k told

obeyed_heeds : (target : TargetName) (before after : OutsideNow) (status : Status)
    → IsFreshOutside before → AnswersWords (Some (verbs.Sync target)) before status after
    → (k : Kept) → before.keeper.kept ≡ Some k
    → HeedsEmptied (EndsRefused status) (at_rest no_keys k.tables) (deeds_of after.line.trail after.made)
obeyed_heeds target before after status fresh (inl memory) k told =
    unasked_heeds (EndsRefused status) k.tables after.line.trail after.made
    (ap (λ (o : OutsideNow). o.line.trail) memory.1 ∙ fresh.unwritten)
obeyed_heeds target before after status fresh (inr obeys) k told =
    subst (λ (o : OutsideNow).
    HeedsEmptied (EndsRefused status) (at_rest no_keys k.tables) (deeds_of o.line.trail o.made))
    (sym obeys.emits.same)
    (comes_heeds before obeys.mid obeys.outcome obeys.mid.out after.out status fresh obeys.comes
    obeys.emits.emits k told)

-- ---- each command

pub emptied_of : (verb : Option Verb) (before after : OutsideNow) (status : Status)
    → IsFreshOutside before → AnswersWords verb before status after
    → (k : Kept) → before.keeper.kept ≡ Some k
    → AnswersEmptied verb k.tables status after.line.trail after.made
emptied_of (Some (verbs.Sync target)) before after status fresh answers k told =
    obeyed_heeds target before after status fresh answers k told
emptied_of verb before after status fresh answers k told = tt
