-- What the calls of a session that was just opened are.
use Rattle.std.proofs.Common.{◌≡◌, ◌∙◌, ap, inl, inr, sym, subst, List, ◌∷◌, Some}
use Rattle.jop_base.specs.declared.path.Path.TheVariants.{Info as InfoFile}
use Rattle.jop_cli.specs.Causes.{AreOpening, HasJustOpened, IsHeardLast}
use Rattle.jop_target.specs.declared.call.Call.TheVariants.{Get}
use Rattle.jop_target.specs.declared.reply.Reply.{Reply}
use Rattle.jop_target.specs.declared.reply.Reply.TheVariants.{Got}
use Rattle.law_licences.proofs.Joins.{view_from-append}
use Rattle.law_licences.specs.Deeds.{Deed}
use Rattle.law_licences.specs.Views.{Heard, View, view_from}
use Rattle.session_opening.proofs.Merged.{set_calls, set_info}
use Rattle.session_opening.specs.Opening.{Joins, Opens, PutsInfo, ReadsInfo}
use Rattle.sync_info.specs.Merge.{merged}
use Rattle.sync_info.specs.declared.info.Info.{Info}
use Rattle.target_upgrade.specs.Reading.{GivesInfo}

-- ---- each part

-- the info was got last
record WasGot (remote : Info) (v w : View) : Type 0 where
  reply : Reply
  gives : GivesInfo remote reply
  calls : w.calls ≡ record { call = Get InfoFile; reply = Some reply } ∷ v.calls

just_got : (remote : Info) (v : View) (ds : List Deed) → ReadsInfo remote v ds →
    WasGot remote v (view_from v ds)
unfolding view_from
just_got remote v ds h = record {
  reply = Got h.0 h.1.0;
  gives = h.1.1.0;
  calls = ap (λ (x : List Deed). (view_from v x).calls) h.1.1.1;
}

put_opening : (info remote : Info) (reply : Reply) (v : View) (ds : List Deed) →
    PutsInfo info remote v ds → IsHeardLast (Get InfoFile) reply v.calls →
    AreOpening info reply (view_from v ds).calls
unfolding view_from
put_opening info remote reply v ds (inl h) last =
    inl (subst (λ (x : List Deed). IsHeardLast (Get InfoFile) reply (view_from v x).calls)
    (sym h.1) last)
put_opening info remote reply v ds (inr h) last =
    inr (h.1.0, v.calls, last, ap (λ (x : List Deed). (view_from v x).calls) h.1.1)

-- ---- the opening

just_joined : (remote : Info) (reply : Reply) (v : View) (ds : List Deed) → Joins remote v ds →
    GivesInfo remote reply → IsHeardLast (Get InfoFile) reply v.calls →
    HasJustOpened (view_from v ds).tables.info (view_from v ds).calls
just_joined remote reply v ds h gives last =
    let info = merged v.tables.info remote in
    let m = view_from v h.first in
    let end : view_from v ds ≡ view_from m h.second =
    ap (λ (x : List Deed). view_from v x) h.both ∙ view_from-append v h.first h.second in
    let is : (view_from v ds).tables.info ≡ info =
    ap (λ (u : View). u.tables.info) end ∙ set_info info m h.second h.behind in
    let calls : (view_from v ds).calls ≡ m.calls =
    ap (λ (u : View). u.calls) end ∙ set_calls info m h.second h.behind in
    let opening = put_opening info remote reply v h.first h.before last in
    record {
      own = v.tables.info;
      remote = remote;
      merge = is;
      reply = reply;
      gives = gives;
      last = subst (λ (i : Info). AreOpening i reply (view_from v ds).calls) (sym is)
          (subst (λ (cs : List Heard). AreOpening info reply cs) (sym calls) opening);
    }

pub just_opened : (v : View) (ds : List Deed) → Opens v ds →
    HasJustOpened (view_from v ds).tables.info (view_from v ds).calls
just_opened v ds h =
    let both = h.1.1 in
    let w = view_from v both.first in
    let got = just_got h.0 v both.first both.before in
    let end : view_from v ds ≡ view_from w both.second =
    ap (λ (x : List Deed). view_from v x) both.both ∙ view_from-append v both.first both.second in
    subst (λ (u : View). HasJustOpened u.tables.info u.calls) (sym end)
    (just_joined h.0 got.reply w both.second both.behind got.gives (v.calls, got.calls))
