-- What an upgrade comes to.
use Rattle.std.proofs.Common.{◌≡◌, refl, sym, subst, inl, inr, ℕ, List, [], ◌∷◌, ◌++◌, Some, None, Result, Ok, Err}
use Rattle.client.specs.Outside.{OutsideNow}
use Rattle.client.specs.Owning.{NamesClient, Owns}
use Rattle.client.specs.declared.own_err.OwnErr.{OwnErr}
use Rattle.jop_base.specs.declared.lock_name.LockKind.{LockKind}
use Rattle.jop_base.specs.declared.lock_name.LockKind.TheVariants.{Exclusive}
use Rattle.jop_cli.proofs.Heard.{upgrade_refused}
use Rattle.jop_cli.proofs.Licensed.{upgrade_licensed}
use Rattle.jop_cli.proofs.OwnLicences.{licensed_as_named}
use Rattle.jop_cli.proofs.Owned.{comes_unowned, owned}
use Rattle.jop_cli.proofs.Runs.{Comes, unfailed_session, uses_behind}
use Rattle.jop_cli.proofs.Sessions.{failed_session, told_lease}
use Rattle.jop_cli.specs.Causes.{HasEnded, HasLeftHaving, IsExplained, WasRefused}
use Rattle.jop_cli.specs.Commands.Sessions.{IsUncalled, outcome_by}
use Rattle.jop_cli.specs.Commands.Upgrade.{version_line}
use Rattle.jop_cli.specs.Run.{IsFreshOutside, UsesTarget}
use Rattle.jop_cli.specs.Worlds.{RanUpgrade}
use Rattle.jop_status.specs.Refusals.{own_status, session_status}
use Rattle.jop_status.specs.declared.status.Status.{Status}
use Rattle.jop_target.specs.Replies.{TargetNow}
use Rattle.jop_target.specs.Trail.{LineNow}
use Rattle.jop_target.specs.declared.event.Event.{Event}
use Rattle.jop_target.specs.declared.event.Event.TheVariants.{Began, Ended}
use Rattle.jop_words.specs.declared.target_name.TargetName.{TargetName}
use Rattle.jop_words.specs.declared.verb.Verb.TheVariants.{Upgrade}
use Rattle.lease.specs.Outcomes.{HasMissed, IsBlocked}
use Rattle.lease.specs.Phase.{Asked, Phase, Renewing}
use Rattle.sync_run.specs.Sessions.{IsMarkOr}
use Rattle.sync_run.specs.Upgrades.{AddsUpgrade}
use Rattle.sync_run.specs.declared.session_err.SessionErr.{SessionErr}
use Rattle.sync_run.specs.declared.session_err.SessionErr.TheVariants.{Busy, LeaseLost, Refused, TargetFault, NoMemory}
use Rattle.target_upgrade.specs.Answers.{IsCall}

-- the session, whose calls came to this before it ended
ended : (target : TargetName) (client : List ℕ) (named after : OutsideNow) (middle : List Event)
    (Came : LockKind → List ℕ → List Event → Type 0) → IsUncalled named.line.trail →
    NamesClient after.keeper.kept (Some client) →
    after.line.trail ≡ named.line.trail ++ Began ∷ (middle ++ Ended ∷ []) →
    Came Exclusive client (named.line.trail ++ Began ∷ middle) →
    HasEnded (Some (Upgrade target)) after.keeper after.line.trail Came
ended target client named after middle Came uncalled names whole came = record {
  session = record { kind = Exclusive; client = None };
  uses = refl;
  client = client;
  of = names;
  before = named.line.trail;
  changes = uncalled;
  calls = middle;
  whole = whole;
  came = came;
}

explained_refusal : (target : TargetName) (client : List ℕ) (before named after : OutsideNow)
    (error : SessionErr) → IsUncalled named.line.trail →
    NamesClient after.keeper.kept (Some client) →
    AddsUpgrade client named.line.trail after.line.trail (Err error) →
    UsesTarget before.line.target after.line.trail after.line.target →
    IsExplained (Some (Upgrade target)) before (session_status error) after
explained_refusal target client before named after (Busy lock now) uncalled names adds uses =
    ended target client named after adds.whole.middle
    (λ kind client events. IsBlocked kind client events lock now) uncalled names adds.whole.trail
    adds.because
explained_refusal target client before named after (LeaseLost seen) uncalled names adds uses =
    ended target client named after adds.whole.middle
    (λ kind client events. (at : Phase) × HasMissed kind client at events seen) uncalled names
    adds.whole.trail (elim adds.because [
      | inl missed ↦ (Asked Exclusive, missed)
      | inr lapsed ↦ (Renewing Exclusive lapsed.0, lapsed.1)
    ])
explained_refusal target client before named after (Refused why) uncalled names adds uses =
    ended target client named after adds.whole.middle (HasLeftHaving (WasRefused after.keeper why))
    uncalled names adds.whole.trail (upgrade_refused after.keeper client _ why adds.because)
explained_refusal target client before named after TargetFault uncalled names adds uses =
    let failed = failed_session IsCall client named.line.trail after.line.trail adds.whole
    adds.because in
    (failed, uses.fault failed)
explained_refusal target client before named after NoMemory uncalled names adds uses =
    unfailed_session named.line.trail adds.begun.more after.line.trail adds.begun.trail uncalled
    adds.heard

explained : (target : TargetName) (client : List ℕ) (before named after : OutsideNow)
    (result : Result ℕ SessionErr) (error : Status) → IsUncalled named.line.trail →
    NamesClient after.keeper.kept (Some client) →
    AddsUpgrade client named.line.trail after.line.trail result →
    UsesTarget before.line.target after.line.trail after.line.target →
    outcome_by version_line result ≡ Err error →
    IsExplained (Some (Upgrade target)) before error after
explained target client before named after (Ok version) error uncalled names adds uses is =
    absurd (cc is)
explained target client before named after (Err refusal) error uncalled names adds uses is =
    let same : session_status refusal ≡ error = cc is in
    subst (λ (s : Status). IsExplained (Some (Upgrade target)) before s after) same
    (explained_refusal target client before named after refusal uncalled names adds uses)

upgraded : (target : TargetName) (client : List ℕ) (before named : OutsideNow) (line : LineNow)
    (result : Result ℕ SessionErr) → IsFreshOutside before → Owns before (Ok client) named →
    RanUpgrade client named result (record named { line = line }) →
    Comes (Upgrade target) before (outcome_by version_line result) (record named { line = line })
upgraded target client before named line result fresh owns h =
    let known = owned client before named fresh owns in
    let uses = subst (λ (t : TargetNow). UsesTarget t line.trail line.target) known.target
    (uses_behind (IsMarkOr IsCall) named.line line known.uncalled h.line) in
    record {
      comes = inr (record {
        client = client;
        named = named;
        owns = owns;
        result = result;
        ran = h;
        is = refl;
      });
      quiet = known.out;
      explained = λ error is.
          explained target client before named (record named { line = line }) result error
          known.uncalled known.names h.session uses is;
      sessions = λ status told. inr (record {
        client = client;
        of = known.names;
        before = named.line.trail;
        changes = known.uncalled;
        events = h.line.more;
        trail_is = h.line.trail;
        keeps = told_lease _ version_line Exclusive client result status h.line.more told h.keeps;
      });
      tables = known.tables;
      target = uses;
      alone = record {
        input = known.input;
        target = tt;
        tables = tt;
        clock = known.clock;
        random = tt;
      };
      licensed = licensed_as_named client before named (record named { line = line }) fresh owns
          (upgrade_licensed client named.line.trail line.trail result h.session) refl;
    }

pub comes_upgraded : (target : TargetName) (client : List ℕ) (before named mid : OutsideNow)
    (result : Result ℕ SessionErr) → IsFreshOutside before → Owns before (Ok client) named →
    RanUpgrade client named result mid →
    Comes (Upgrade target) before (outcome_by version_line result) mid
comes_upgraded target client before named mid result fresh owns h =
    subst (λ (m : OutsideNow). Comes (Upgrade target) before (outcome_by version_line result) m)
    (sym h.same)
    (upgraded target client before named mid.line result fresh owns
    (subst (λ (m : OutsideNow). RanUpgrade client named result m) h.same h))

-- the client isn't known
pub comes_not_upgraded : (target : TargetName) (before mid : OutsideNow) (error : OwnErr) →
    IsFreshOutside before → Owns before (Err error) mid →
    Comes (Upgrade target) before (Err (own_status error)) mid
comes_not_upgraded target before mid error fresh owns =
    comes_unowned (Upgrade target) (record { kind = Exclusive; client = None }) before mid error fresh
    refl refl refl refl refl (inl (record { error = error; owns = owns; is = refl })) owns
