-- What a session has heard last.
use Rattle.std.proofs.Common.{◌≡◌, ◌∙◌, ap, inl, inr, ℕ, List, [], ◌∷◌, ◌++◌, Some}
use Rattle.conflicts.specs.declared.refusal.Refusal.{Refusal}
use Rattle.conflicts.specs.declared.refusal.Refusal.TheVariants.{TargetNewer, BadInfo}
use Rattle.jop_base.specs.declared.lock_name.LockKind.TheVariants.{Exclusive}
use Rattle.jop_base.specs.declared.path.Path.TheVariants.{Info as InfoFile, OldVersion}
use Rattle.jop_target.specs.Trail.{EndsWith}
use Rattle.jop_target.specs.declared.call.Call.TheVariants.{Get}
use Rattle.jop_target.specs.declared.event.Event.{Event}
use Rattle.jop_target.specs.declared.event.Event.TheVariants.{Called}
use Rattle.jop_target.specs.declared.reply.Reply.{Reply}
use Rattle.jop_target.specs.declared.reply.Reply.TheVariants.{Absent, Got}
use Rattle.keeper.specs.Keepers.{KeeperNow}
use Rattle.law_licences.proofs.Told.{calls_from-append}
use Rattle.law_licences.specs.Deeds.{Deed, Asks}
use Rattle.law_licences.specs.Trails.{calls_from, session_calls}
use Rattle.law_licences.specs.Views.{View, view_from}
use Rattle.session_opening.specs.Opening.{ReadsBadInfo, ReadsInfoAt, ReadsOld, ReadsVersion}
use Rattle.sync_run.specs.Outcomes.{RefusesUpgrade}
use Rattle.sync_run.specs.Upgrades.{HasLeftUpgrade}
use Rattle.jop_cli.specs.Causes.{HasFoundVersion, HasGot, HasGotBad, HasGotOld, HasLeftHaving, IsHeardLast, WasRefused}

-- ---- in a trail

got_last : (trail : List Event) (reply : Reply) → EndsWith trail (Get InfoFile) reply →
    IsHeardLast (Get InfoFile) reply (session_calls trail)
unfolding calls_from
got_last trail reply ends = (
  calls_from [] ends.0,
  ap (λ (es : List Event). calls_from [] es) ends.1
      ∙ calls_from-append [] ends.0 (Called (Get InfoFile) reply ∷ []),
)

-- what an upgrade has read for which it was refused is what was heard last
heard_last : (keeper : KeeperNow) (why : Refusal) (trail : List Event) →
    RefusesUpgrade why trail → WasRefused keeper why Exclusive (session_calls trail)
heard_last keeper (TargetNewer version) trail h =
    let got = h.got in (
      h.newer,
      inl (record {
        info = h.info;
        reply = Got got.now got.content;
        last = got_last trail (Got got.now got.content) got.ends;
        gives = got.holds;
        version_is = h.version_is;
      }),
    )
heard_last keeper BadInfo trail h = (h.reply, got_last trail h.reply h.ends, h.bad)
heard_last keeper why trail h = absurd h

pub upgrade_refused : (keeper : KeeperNow) (client : List ℕ) (trail : List Event)
    (why : Refusal) → HasLeftUpgrade client trail (RefusesUpgrade why) →
    HasLeftHaving (WasRefused keeper why) Exclusive client trail
upgrade_refused keeper client trail why h = record {
  before = h.before;
  stamp = h.stamp;
  held = h.held;
  had = heard_last keeper why h.before h.was;
  reply = h.reply;
  ends = h.ends;
}

-- ---- in the deeds of a session

found_info : (version : ℕ) (v : View) (ds : List Deed) → ReadsInfoAt version v ds →
    HasGot version (view_from v ds).calls
unfolding view_from
found_info version v ds h =
    let read = h.1.1 in
    record {
      info = h.0;
      reply = Got read.0 read.1.0;
      last = (v.calls, ap (λ (x : List Deed). (view_from v x).calls) read.1.1.1);
      gives = read.1.1.0;
      version_is = h.1.0;
    }

found_old : (version : ℕ) (v : View) (ds : List Deed) → ReadsOld version v ds →
    HasGotOld version (view_from v ds).calls
unfolding view_from
found_old version v ds h =
    let both = h.1 in
    let file = both.behind in
    let first = Asks (Get InfoFile) (Some (Absent h.0)) in
    let ends : ds ≡ first ∷ Asks (Get OldVersion) (Some file.0) ∷ [] =
    both.both ∙ (ap (λ (x : List Deed). x ++ both.second) both.before
    ∙ ap (λ (x : List Deed). first ∷ x) file.1.1) in
    record {
      now = h.0;
      reply = file.0;
      earlier = v.calls;
      last = ap (λ (x : List Deed). (view_from v x).calls) ends;
      tells = file.1.0;
    }

pub found : (version : ℕ) (v : View) (ds : List Deed) → ReadsVersion version v ds →
    HasFoundVersion version (view_from v ds).calls
found version v ds (inl h) = inl (found_info version v ds h)
found version v ds (inr h) = inr (found_old version v ds h)

pub found_bad : (v : View) (ds : List Deed) → ReadsBadInfo v ds → HasGotBad (view_from v ds).calls
unfolding view_from
found_bad v ds h = (h.0, (v.calls, ap (λ (x : List Deed). (view_from v x).calls) h.1.1), h.1.0)
