-- What an opening comes to, by what it has read and what it has made of it.
use Rattle.std.specs.Prelude.{◌≡◌, true, Some, None, Result, refl}
use Rattle.std.proofs.Common.{◌∙◌}
use Rattle.std.proofs.lemmas.Bool.{false≢true}
use Rattle.conflicts.specs.declared.error.StepErr.{StepErr}
use Rattle.jop_base.specs.declared.lock_name.LockKind.TheVariants.{Sync}
use Rattle.jop_base.specs.declared.path.Path.TheVariants.{Info as InfoFile, OldVersion}
use Rattle.jop_target.specs.declared.call.Call.{Call}
use Rattle.jop_target.specs.declared.call.Call.TheVariants.{Get, Put}
use Rattle.lease.specs.Standing.{IsHeld}
use Rattle.session_opening.proofs.Going.{still_sync, went_ends}
use Rattle.session_opening.proofs.Merging.{merges_none, merges_on}
use Rattle.session_opening.proofs.Versions.{MayOnceTold, StaysLawful, stays_lawful}
use Rattle.session_opening.specs.Opening.{HasRead, IsLawful, Joins, MergesBetween, Opens, ReadsInfo, RefusesTarget, is_joining, is_opening, is_reading}
use Rattle.session.proofs.Ending.{does_as, gives_up_behind}
use Rattle.session.proofs.Joins.{does_then}
use Rattle.session.proofs.Refusing.{not_refused}
use Rattle.session.proofs.Wider.{does_within, gives_up_within, went_within}
use Rattle.session.specs.Doing.{Does, Ends, GivesNothing, RefusesOr, Went}
use Rattle.session.specs.Parts.{Then}
use Rattle.session.specs.Work.{IsAtWork, WorkNow}
use Rattle.sync_info.specs.declared.info.Info.{Info}
use Rattle.target_upgrade.specs.Steps.{SUPPORTED}

-- ---- the reading

may_read : (call : Call) → is_reading call ≡ true → MayOnceTold None call
may_read (Get InfoFile) is = record { keeps = refl; asks_none = λ told. absurd (false≢true told) }
may_read (Get OldVersion) is = record { keeps = refl; asks_none = λ told. absurd (false≢true told) }
may_read call is = cc

pub reading_within : (call : Call) → is_reading call ≡ true → is_opening call ≡ true
reading_within (Get InfoFile) is = refl
reading_within (Get OldVersion) is = refl
reading_within call is = cc

-- by gets alone, whatever was told before
pub lawful_read : (a b : WorkNow) → IsHeld a.lease a.site.line.trail → a.lease.kind ≡ Sync
    → IsLawful a.lease a.site → Went is_reading a b → IsLawful b.lease b.site
lawful_read a b held sync lawful w =
    (stays_lawful is_reading None a b may_read held sync lawful (λ version no. absurd cc) w).lawful

pub merges_read : (a b : WorkNow) → Went is_reading a b → MergesBetween a.site b.site
merges_read a b w = merges_none is_reading a b (λ content. refl) w

-- ---- what was made of it

may_join : (call : Call) → is_joining call ≡ true → MayOnceTold (Some SUPPORTED) call
may_join (Put InfoFile content) is = record { keeps = is; asks_none = λ told. refl }
may_join call is = cc

joining_within : (call : Call) → is_joining call ≡ true → is_opening call ≡ true
joining_within (Put InfoFile content) is = is
joining_within call is = cc

pub lawful_joined : (remote : Info) (a b c : WorkNow) → IsAtWork a → a.lease.kind ≡ Sync
    → IsLawful a.lease a.site → HasRead remote a b → Went is_joining b c
    → StaysLawful (Some SUPPORTED) c
lawful_joined remote a b c ready sync lawful h k =
    stays_lawful is_joining (Some SUPPORTED) b c may_join h.does.ready.held
    (still_sync a.lease b.lease h.does.went.same sync)
    (lawful_read a b ready.held sync lawful h.does.went) (λ version is. h.told ∙ is) k

pub merges_joined : (remote : Info) (a b c : WorkNow) (result : Result (Unit {0}) StepErr)
    → HasRead remote a b → Ends (Joins remote) is_joining b result c
    → MergesBetween b.site c.site → MergesBetween a.site c.site
merges_joined remote a b c result h k second =
    merges_on (ReadsInfo remote) is_opening a b c
    (does_within is_reading is_opening a b reading_within h.does)
    (went_within is_joining is_opening b c joining_within
    (went_ends (Joins remote) is_joining b c result k)) (merges_read a b h.does.went) second

pub opened : (remote : Info) (a b c : WorkNow) → HasRead remote a b
    → Does (Joins remote) is_joining b c → Does Opens is_opening a c
opened remote a b c h k =
    does_as (Then (ReadsInfo remote) (Joins remote)) Opens is_opening a c
    (λ shown ds both. (remote, (h.read.version, both)))
    (does_then (ReadsInfo remote) (Joins remote) is_opening a b c
    (does_within is_reading is_opening a b reading_within h.does)
    (does_within is_joining is_opening b c joining_within k))

pub stops_joining : (remote : Info) (a b c : WorkNow) (e : StepErr) → HasRead remote a b
    → GivesNothing is_joining b e c → RefusesOr RefusesTarget is_opening a e c
stops_joining remote a b c e h k =
    not_refused RefusesTarget is_opening a c e
    (gives_up_behind (ReadsInfo remote) is_opening a b c e
    (does_within is_reading is_opening a b reading_within h.does)
    (gives_up_within is_joining is_opening b c e joining_within k))
