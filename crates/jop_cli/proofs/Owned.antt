-- What is known of the outside once its client is known, or isn't.
use Rattle.std.proofs.Common.{◌≡◌, ◌∙◌, refl, sym, ap, subst, arith, inl, inr, ℕ, ◌≤◌, List, [], ◌∷◌, true, false, Option, Some, None, Ok, Err}
use Rattle.std.specs.Prelude.{option_map}
use Rattle.std.proofs.lemmas.List.Elements.{All-cons, All-nil}
use Rattle.client.specs.Outside.{OutsideNow, with_change}
use Rattle.client.specs.Owning.{NamesClient, Owns}
use Rattle.client.specs.declared.own_err.OwnErr.{OwnErr}
use Rattle.client.specs.declared.own_err.OwnErr.TheVariants as own_errors
use Rattle.jop_cli.proofs.Runs.{Comes, keeps_none, none_licensed, uncalled_yet, unfailed_uncalled, uses_changes}
use Rattle.jop_cli.specs.Causes.{IsExplained}
use Rattle.jop_cli.specs.Commands.{ComesTo, used}
use Rattle.jop_cli.specs.Commands.Sessions.{IsChange, IsUncalled, NamedSession}
use Rattle.jop_cli.specs.Run.{IsFreshOutside, KeepsChanges, Sessions, UsesTarget, with_changes}
use Rattle.jop_status.specs.Refusals.{own_status}
use Rattle.jop_status.specs.Statuses.{is_early}
use Rattle.jop_status.specs.declared.status.Status.{Status}
use Rattle.jop_target.specs.Replies.{TargetNow}
use Rattle.jop_target.specs.Trail.{LineNow}
use Rattle.jop_target.specs.declared.event.Event.{Event}
use Rattle.jop_target.specs.declared.event.Event.TheVariants.{Made}
use Rattle.jop_words.specs.declared.verb.Verb.{Verb}
use Rattle.keeper.specs.Keepers.{KeeperNow, Kept, changed}
use Rattle.local_store.specs.Changing.{after_all}
use Rattle.local_store.specs.declared.change.Change.TheVariants.{Named}

pub early_own : (error : OwnErr) → is_early (own_status error) ≡ true
early_own own_errors.KeeperFault = refl
early_own own_errors.EntropyFault = refl
early_own own_errors.NoMemory = refl

-- ---- the client is known

-- what is known of an outside with which nothing was done before, once its client is known
pub record IsOwned (client : List ℕ) (before named : OutsideNow) : Type 0 where
  pub uncalled : IsUncalled named.line.trail
  pub tables : KeepsChanges false before.keeper named.made named.keeper
  pub names : NamesClient named.keeper.kept (Some client)
  pub later : before.keeper.faults ≤ named.keeper.faults
  pub target : named.line.target ≡ before.line.target
  pub input : named.input ≡ before.input
  pub out : named.out ≡ before.out
  pub clock : named.clock ≡ before.clock

named_kept : (client : List ℕ) (kept : Option Kept) →
    option_map (changed (Named client)) kept ≡ option_map (with_changes (Named client ∷ [])) kept
unfolding after_all
named_kept client None = refl
named_kept client (Some kept) = refl

names_itself : (client : List ℕ) (kept : Option Kept) →
    NamesClient (option_map (changed (Named client)) kept) (Some client)
names_itself client None = tt
names_itself client (Some kept) = refl

owned_before : (client : List ℕ) (before : OutsideNow) → IsFreshOutside before →
    NamesClient before.keeper.kept (Some client) → IsOwned client before before
owned_before client before fresh names = record {
  uncalled = uncalled_yet before fresh;
  tables = keeps_none false before.keeper before.keeper before.made fresh.unchanged refl;
  names = names;
  later = omega arith;
  target = refl;
  input = refl;
  out = refl;
  clock = refl;
}

numbered_only : (trail : List Event) (n : ℕ) → trail ≡ Made n ∷ [] → IsUncalled trail
numbered_only trail n is =
    subst IsUncalled (sym is) (All-cons IsChange (Made n) [] tt (All-nil IsChange))

-- the client was named, with this state of the random source
owned_now : (client : List ℕ) (before old : OutsideNow) → IsFreshOutside before →
    old ≡ record before { entropy = old.entropy } →
    IsOwned client before (with_change (Named client) old)
owned_now client before old fresh same =
    let line : old.line ≡ before.line = ap (λ (o : OutsideNow). o.line) same in
    let keeper : old.keeper ≡ before.keeper = ap (λ (o : OutsideNow). o.keeper) same in
    let made : old.made ≡ [] = ap (λ (o : OutsideNow). o.made) same ∙ fresh.unchanged in
    let trail : old.line.trail ≡ [] = ap (λ (l : LineNow). l.trail) line ∙ fresh.unwritten in
    record {
      uncalled = numbered_only (with_change (Named client) old).line.trail 0
          (rw (trail, made) refl);
      tables = rw made
          (ap (λ (k : KeeperNow). option_map (changed (Named client)) k.kept) keeper
          ∙ named_kept client before.keeper.kept);
      names = names_itself client old.keeper.kept;
      later = omega (arith, ap (λ (k : KeeperNow). k.faults) keeper);
      target = ap (λ (l : LineNow). l.target) line;
      input = ap (λ (o : OutsideNow). o.input) same;
      out = ap (λ (o : OutsideNow). o.out) same;
      clock = ap (λ (o : OutsideNow). o.clock) same;
    }

pub owned : (client : List ℕ) (before named : OutsideNow) → IsFreshOutside before →
    Owns before (Ok client) named → IsOwned client before named
owned client before named fresh (inl was) =
    subst (λ (o : OutsideNow). IsOwned client before o) (sym was.same)
    (owned_before client before fresh was.named)
owned client before named fresh (inr is) =
    subst (λ (o : OutsideNow). IsOwned client before o) (sym is.made)
    (owned_now client before (record before { entropy = named.entropy }) fresh refl)

-- ---- or it isn't

-- nothing was done then
pub record IsLeft (before after : OutsideNow) : Type 0 where
  pub line : after.line ≡ before.line
  pub kept : after.keeper.kept ≡ before.keeper.kept
  pub made : after.made ≡ before.made
  pub input : after.input ≡ before.input
  pub out : after.out ≡ before.out
  pub clock : after.clock ≡ before.clock

left_same : (before after : OutsideNow) (keeper : KeeperNow) → keeper.kept ≡ before.keeper.kept →
    after ≡ record before { keeper = keeper; entropy = after.entropy } → IsLeft before after
left_same before after keeper kept same = record {
  line = ap (λ (o : OutsideNow). o.line) same;
  kept = ap (λ (o : OutsideNow). o.keeper.kept) same ∙ kept;
  made = ap (λ (o : OutsideNow). o.made) same;
  input = ap (λ (o : OutsideNow). o.input) same;
  out = ap (λ (o : OutsideNow). o.out) same;
  clock = ap (λ (o : OutsideNow). o.clock) same;
}

left : (before after : OutsideNow) (error : OwnErr) → Owns before (Err error) after →
    IsLeft before after
left before after own_errors.KeeperFault h =
    left_same before after (record after.keeper { kept = before.keeper.kept }) refl h.same
left before after own_errors.EntropyFault h = left_same before after before.keeper refl h.1
left before after own_errors.NoMemory h = left_same before after before.keeper refl h.1

explained_unowned : (v : Verb) (before after : OutsideNow) (error : OwnErr) →
    Owns before (Err error) after → IsUncalled after.line.trail →
    IsExplained (Some v) before (own_status error) after
explained_unowned v before after own_errors.KeeperFault h uncalled = h.risen
explained_unowned v before after own_errors.EntropyFault h uncalled = h.0
explained_unowned v before after own_errors.NoMemory h uncalled =
    unfailed_uncalled after.line.trail uncalled

-- a command that runs a session of the client that the tables name, and comes to nothing
pub comes_unowned : (v : Verb) (session : NamedSession) (before after : OutsideNow)
    (error : OwnErr) →
    IsFreshOutside before → (used (Some v)).session ≡ Some session → (used (Some v)).input ≡ None →
    (used (Some v)).tables ≡ true → (used (Some v)).clock ≡ false → (used (Some v)).random ≡ true →
    ComesTo v before (Err (own_status error)) after → Owns before (Err error) after →
    Comes v before (Err (own_status error)) after
comes_unowned v session before after error fresh runs unread tabled timeless draws comes owns =
    let h = left before after error owns in
    let trail : after.line.trail ≡ [] = ap (λ (l : LineNow). l.trail) h.line ∙ fresh.unwritten in
    let behind : IsFreshOutside after = record { unwritten = trail; unchanged = h.made ∙ fresh.unchanged } in
    let uncalled = uncalled_yet after behind in
    record {
      comes = comes;
      quiet = h.out;
      explained = λ status is.
          let same : own_status error ≡ status = cc is in
          subst (λ (s : Status). IsExplained (Some v) before s after) same
          (explained_unowned v before after error owns uncalled);
      sessions = λ status told.
          subst (λ (s : Option NamedSession). Sessions s after.keeper after.line.trail status)
          (sym runs)
          (inl uncalled);
      tables = keeps_none (used (Some v)).bytes before.keeper after.keeper after.made
          behind.unchanged h.kept;
      target = subst (λ (t : TargetNow). UsesTarget before.line.target after.line.trail t)
          (sym (ap (λ (l : LineNow). l.target) h.line))
          (uses_changes before.line.target after.line.trail uncalled);
      alone = record {
        input = rw unread h.input;
        target = rw runs tt;
        tables = rw tabled tt;
        clock = rw timeless h.clock;
        random = rw draws tt;
      };
      licensed = none_licensed before after behind;
    }
