-- What is promised of a run of the program gives what is promised of what is left of it.
use Rattle.std.proofs.Common.{sym, subst, inl, inr, ℕ, List}
use Rattle.std.specs.Prelude.{Option, Some, None}
use Rattle.client.specs.Outside.{OutsideNow}
use Rattle.jop_cli.specs.Commands.{used}
use Rattle.jop_cli.specs.Commands.Sessions.{NamedSession}
use Rattle.jop_cli.specs.Run.{Sessions}
use Rattle.jop_status.specs.declared.status.Status.{Status}
use Rattle.jop_target.specs.declared.event.Event.{Event}
use Rattle.law_exclusion.specs.Exclusive.{KeepsExclusive}
use Rattle.law_kept.specs.Trails.{KeepsNotes}
use Rattle.law_licences.specs.Deeds.{deeds_of}
use Rattle.law_licences.specs.Licences.{ObeysData}
use Rattle.law_licences.specs.Sealing.{Sealing, no_keys}
use Rattle.law_licences.specs.Views.{at_rest}
use Rattle.law_stops.specs.Cuts.{IsCut, IsCutWith}
use Rattle.law_stops.specs.Headlines.{IsSafeCut, StoppedRunsHaveHeadline}
use Rattle.law_stops.proofs.Uncalled.{locks-behind, locks-uncalled, versions-behind, versions-uncalled}
use Rattle.lease.specs.Discipline.{KeepsLocks}
use Rattle.local_store.specs.Tale.{plain}
use Rattle.local_store.specs.declared.change.Change.{Change}
use Rattle.local_store.specs.declared.tables.Tables.{Tables}
use Rattle.target_upgrade.specs.Course.{KeepsVersions}

-- the two laws of what is left
pub record StopsKeep : Type 0 where
  pub exclusive : (client : List ℕ) (trail cut : List Event) → IsCut trail cut →
      KeepsLocks client trail → KeepsVersions client trail → KeepsExclusive client cut
  pub kept : (client : List ℕ) (s : Sealing) (t : Tables) (trail cut : List Event)
      (made kept : List Change) → IsCutWith trail made cut kept →
      ObeysData (at_rest s t) (deeds_of trail made) → KeepsNotes client t cut kept

safe : StopsKeep → (session : Option NamedSession) (status : Status) (after : OutsideNow)
    (trail cut : List Event) → IsCut trail cut → Sessions session after.keeper trail status
    → IsSafeCut session after cut
safe laws None status after trail cut cuts uncalled =
    λ client tale.
    laws.exclusive client trail cut cuts (locks-uncalled client trail uncalled)
    (versions-uncalled client trail uncalled) (plain tale)
safe laws (Some session) status after trail cut cuts (inl uncalled) =
    inl (λ client tale.
    laws.exclusive client trail cut cuts (locks-uncalled client trail uncalled)
    (versions-uncalled client trail uncalled) (plain tale))
safe laws (Some session) status after trail cut cuts (inr runs) = inr (record {
  client = runs.client;
  of = runs.of;
  exclusive = λ tale.
      laws.exclusive runs.client trail cut cuts
      (subst (KeepsLocks runs.client) (sym runs.trail_is)
      (locks-behind runs.client runs.before runs.events runs.changes runs.keeps.obeys.locks.keeps))
      (subst (KeepsVersions runs.client) (sym runs.trail_is)
      (versions-behind runs.client runs.before runs.events runs.changes runs.keeps.obeys.work))
      (plain tale);
})

pub stopped : StopsKeep → StoppedRunsHaveHeadline
stopped laws verb before after status cut kept h (cuts, changes) = record {
  safe = safe laws (used verb).session status after after.line.trail cut cuts h.sessions;
  notes = λ k told tale client id served ends others.
      laws.kept client no_keys k.tables after.line.trail cut after.made kept (cuts, changes)
      (h.notes k told).obeys id tale served ends others;
}
