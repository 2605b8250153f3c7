-- A session at work.
use Rattle.std.specs.Prelude.{ℕ, ◌≡◌, Option, Some, None}
use Rattle.conflicts.specs.declared.report.SyncReport.{SyncReport}
use Rattle.client.specs.Sites.{SiteNow, IsTidy, Place}
use Rattle.lease.specs.Standing.{IsHeld}
use Rattle.lease.specs.declared.lease.Lease.{Lease}
use Rattle.law_licences.specs.Sealing.{no_keys}
use Rattle.law_licences.specs.Trails.{session_calls}
use Rattle.law_licences.specs.Views.{Shown, View, Working}

-- the references by which it works, by their names: those of its client, and its own to the client, the lease and
-- the report
pub record WorkPlace : Type 0 where
  pub client : Place
  pub site : ℕ
  pub lease : ℕ
  pub report : ℕ

-- whatever the references are
abbrev pub nowhere : WorkPlace
nowhere = record {
  client = record { target = 0; keeper = 0; tables = 0; diary = 0; made = 0 };
  site = 0;
  lease = 0;
  report = 0;
}

-- the client, the lease under which it works, what it has done so far, what its session was shown, if that
-- matters, and the references by which it works
pub record WorkNow : Type 0 where
  pub site : SiteNow
  pub lease : Lease
  pub report : SyncReport
  pub known : Option Shown
  pub place : WorkPlace

abbrev pub work_by : WorkPlace → Option Shown → SiteNow → Lease → SyncReport → WorkNow
work_by place known site lease report =
    record { site = site; lease = lease; report = report; known = known; place = place }

-- if its session was shown this
abbrev pub knowing : Option Shown → WorkNow → WorkNow
knowing known w = record w { known = known }

-- the same, by these references
abbrev pub placed : WorkPlace → WorkNow → WorkNow
placed place w = record w { place = place }

-- whatever it was shown, and whatever the references are
abbrev pub work : SiteNow → Lease → SyncReport → WorkNow
work = work_by nowhere None

-- the session may have been shown this
abbrev pub MayBeShown : Option Shown → Option Shown → Type 0
MayBeShown None shown = Unit {0}
MayBeShown (Some known) shown = shown ≡ Some known

-- its tables are in order, and its trail's last session holds the lease
pub record IsReady (d : SiteNow) (lease : Lease) : Type 0 where
  pub tidy : IsTidy d
  pub held : IsHeld lease d.line.trail

-- what one sees of it, if its session was shown this, and has more to do
abbrev pub view_of : Option Shown → SiteNow → View
view_of shown d = record {
  tables = d.tables;
  calls = session_calls d.line.trail;
  shown = shown;
  stage = Working;
  sealing = no_keys;
}

-- it holds its lease, and its tables are in order
abbrev pub IsAtWork : WorkNow → Type 0
IsAtWork w = IsReady w.site w.lease
