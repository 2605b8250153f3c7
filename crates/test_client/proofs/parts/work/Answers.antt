use Rattle.std.proofs.Common.{◌∙◌, ap, inl, subst, sym}
use Rattle.jop_target.specs.Trail.{LineNow}
use Rattle.lease.specs.Calls.{LeaseGoesOn}
use Rattle.lease.specs.Phase.{Free}
use Rattle.lease.specs.Standing.{IsHeld, StandsIn}
use Rattle.local_store.specs.declared.tables.Tables.{Tables}
use Rattle.test_client.proofs.Started.{plain_begun, stands_begun, unput_begun}
use Rattle.session.proofs.Leased.{tidy-same}
use Rattle.test_client.proofs.parts.work.Goals as goal

pub acquire-requires : goal.acquire-requires
acquire-requires g c =
    subst (λ (l : LineNow). StandsIn c.args.client.now l.trail Free)
    (g.met.S.Client.same_line c.args.site.now)
    (stands_begun c.args.client.now (g.S.Client.site c.args.site.now).line.trail c.requires.begun)

pub perform-requires : goal.perform-requires
perform-requires g c = record {
  can =
      let client = c.args.client.now in
      let old = g.S.Client.site c.args.site.now in
      let new = g.S.Client.site c.acquire.new.line in
      let same = g.met.S.Client.keeps_site c.args.site.now c.acquire.new.line c.acquire.ensures.keeps in
      let goes = subst (λ (l : LineNow). LeaseGoesOn client old.line l)
      (sym (g.met.S.Client.same_line c.acquire.new.line))
      (subst (λ (l : LineNow). LeaseGoesOn client l (g.S.Line.state c.acquire.new.line))
      (sym (g.met.S.Client.same_line c.args.site.now)) c.acquire.ensures.goes) in
      record {
        ready = record {
          tidy = tidy-same old new same c.requires.tidy;
          held = subst (λ (l : LineNow). IsHeld c.in_ok-lease.lease l.trail)
              (sym (g.met.S.Client.same_line c.acquire.new.line))
              c.in_ok-lease.ensures.gives.fresh.held;
        };
        readable =
            inl (plain_begun client old new c.requires.begun goes
            (ap (λ (t : Tables). t.info.e2ee.value) same.tables ∙ c.requires.readable));
        first = unput_begun client old new c.requires.begun goes;
      };
}
