-- The licences of a session, from the tables on that were kept before its client was named.
use Rattle.std.proofs.Common.{◌≡◌, ◌∙◌, refl, sym, ap, inl, inr, ℕ, List, [], ◌∷◌, ◌++◌, append-nil, Some, Ok}
use Rattle.std.specs.Prelude.{option_map}
use Rattle.client.specs.Outside.{OutsideNow}
use Rattle.client.specs.Owning.{Owns}
use Rattle.jop_cli.proofs.Licensed.{AddsLicensed}
use Rattle.jop_cli.specs.Run.{HasLicences, IsFreshOutside}
use Rattle.jop_target.specs.declared.event.Event.{Event}
use Rattle.jop_target.specs.declared.event.Event.TheVariants.{Made}
use Rattle.keeper.specs.Keepers.{Kept, changed}
use Rattle.law_licences.specs.Deeds.{deeds_of}
use Rattle.law_licences.specs.Licences.{Each, ObeysData}
use Rattle.law_licences.specs.Sealing.{no_keys}
use Rattle.law_licences.specs.Views.{at_rest}
use Rattle.local_store.specs.declared.change.Change.{Change}
use Rattle.local_store.specs.declared.change.Change.TheVariants.{Named}

-- the naming of the client has its licence too
named_first : (client : List ℕ) (k : Kept) (more : List Event) (changes : List Change) →
    ObeysData (at_rest no_keys (changed (Named client) k).tables) (deeds_of more changes) →
    ObeysData (at_rest no_keys k.tables) (deeds_of (Made 0 ∷ more) (Named client ∷ changes))
unfolding deeds_of Each
named_first client k more changes h = (tt, h)

-- what was done behind the naming, with these events and changes, has its licences from the tables that are kept then
abbrev pub HasLicencesBehind : OutsideNow → List Event → List Change → Type 0
HasLicencesBehind named more changes =
    (k : Kept) → named.keeper.kept ≡ Some k → ObeysData (at_rest no_keys k.tables) (deeds_of more changes)

as_whole : (k : Kept) (trail more : List Event) (made changes : List Change) → trail ≡ more →
    made ≡ changes → ObeysData (at_rest no_keys k.tables) (deeds_of more changes) →
    ObeysData (at_rest no_keys k.tables) (deeds_of trail made)
as_whole k trail more made changes one other h = rw (one, other) h

pub licensed_behind : (client : List ℕ) (before named after : OutsideNow) (more : List Event)
    (changes : List Change) → IsFreshOutside before → Owns before (Ok client) named →
    after.line.trail ≡ named.line.trail ++ more → after.made ≡ named.made ++ changes →
    HasLicencesBehind named more changes → HasLicences before after
licensed_behind client before named after more changes fresh (inl was) trail made licensed k told =
    as_whole k after.line.trail more after.made changes
    (trail ∙ ap (λ (o : OutsideNow). o.line.trail ++ more) was.same
    ∙ ap (λ (es : List Event). es ++ more) fresh.unwritten)
    (made ∙ ap (λ (o : OutsideNow). o.made ++ changes) was.same
    ∙ ap (λ (cs : List Change). cs ++ changes) fresh.unchanged)
    (licensed k (ap (λ (o : OutsideNow). o.keeper.kept) was.same ∙ told))
licensed_behind client before named after more changes fresh (inr is) trail made licensed k told =
    let old : OutsideNow = record before { entropy = named.entropy } in
    let named_trail : named.line.trail ≡ Made 0 ∷ [] =
    ap (λ (o : OutsideNow). o.line.trail) is.made ∙ rw (fresh.unwritten, fresh.unchanged) refl in
    let named_made : named.made ≡ Named client ∷ [] =
    ap (λ (o : OutsideNow). o.made) is.made ∙ rw fresh.unchanged refl in
    as_whole k after.line.trail (Made 0 ∷ more) after.made (Named client ∷ changes)
    (trail ∙ ap (λ (es : List Event). es ++ more) named_trail)
    (made ∙ ap (λ (cs : List Change). cs ++ changes) named_made)
    (named_first client k more changes
    (licensed (changed (Named client) k)
    (ap (λ (o : OutsideNow). o.keeper.kept) is.made
    ∙ ap (option_map (changed (Named client))) told)))

-- a session that changes nothing
pub licensed_as_named : (client : List ℕ) (before named after : OutsideNow) →
    IsFreshOutside before →
    Owns before (Ok client) named → AddsLicensed named.line.trail after.line.trail →
    after.made ≡ named.made → HasLicences before after
licensed_as_named client before named after fresh owns adds same =
    licensed_behind client before named after adds.more [] fresh owns adds.is
    (same ∙ sym (append-nil named.made)) (λ k told. adds.licensed k.tables)
