use Rattle.std.proofs.Common.{[], ◌∷◌, refl, false, inl}
use Rattle.std.proofs.lemmas.Result.{err_from_is_err_and}
use Rattle.jop_base.specs.declared.dir.Dir.TheVariants.{Locks}
use Rattle.jop_target.specs.declared.call.Call.TheVariants.{List as ListDir}
use Rattle.lease.specs.Added.{put_calls}
use Rattle.lease.specs.Calls.{asking}
use Rattle.lease.proofs.Added.{adds_heard, adds_none, adds_on}
use Rattle.lease.proofs.Calls.{asks_put, after_put, asks_list, asking_lists, after_list, listed_as, put_heard, put_refused, look_refused}
use Rattle.lease.proofs.Sessions.{lease_on, lease_nowhere}
use Rattle.lease.proofs.ask.put_and_look.Goals as goal

pub ask-requires : goal.ask-requires
ask-requires g c =
    asks_put c.args.kind _ _ _ _ c.requires c.own_path-path.ensures c.in_ok-content.ensures

pub ask-requires-2 : goal.ask-requires-2
ask-requires-2 g c =
    let asked = after_put _ _ _ _ _ _ c.requires c.own_path-path.ensures c.in_ok-ask.ensures.ok in
    asks_list _ _ (asking c.args.kind _) asked (asking_lists c.args.kind _ _)

pub returns-in_err-content-clause-goes : goal.returns-in_err-content-clause-goes
returns-in_err-content-clause-goes g c = lease_nowhere _ _ _ c.requires.stands

pub returns-in_err-content-clause-err : goal.returns-in_err-content-clause-err
returns-in_err-content-clause-err g c =
    let p = err_from_is_err_and c.from_residual.result c.from_residual.ensures.1 in
    let puts = put_calls c.args.kind c.args.client.now in
    rw (p.1, p.2) (inl refl, (puts, adds_none puts _ _ refl))

pub returns-in_err-ask-clause-err : goal.returns-in_err-ask-clause-err
returns-in_err-ask-clause-err g c =
    let p = err_from_is_err_and c.from_residual-in_err-ask.result
    c.from_residual-in_err-ask.ensures.1 in
    rw (p.1, p.2) (put_refused _ _ _ _ _ _ _ c.requires c.own_path-path.ensures
    c.in_ok-content.ensures c.in_err-ask.ensures.err)

pub returns-in_err-ask-2-clause-goes : goal.returns-in_err-ask-2-clause-goes
returns-in_err-ask-2-clause-goes g c = lease_on _ _ _ _ c.ask.ensures.goes c.ask-2.ensures.goes

pub returns-in_err-ask-2-clause-err : goal.returns-in_err-ask-2-clause-err
returns-in_err-ask-2-clause-err g c =
    let p = err_from_is_err_and c.from_residual-in_err-ask-2.result
    c.from_residual-in_err-ask-2.ensures.1 in
    let put = c.in_ok-ask.ensures.ok in
    rw (p.1, p.2) (look_refused c.args.kind _ _ _ _ _ _
    (put_heard _ _ _ _ _ _ c.own_path-path.ensures c.in_ok-content.ensures put)
    c.ask.ensures.goes.line.later
    (after_put _ _ _ _ _ _ c.requires c.own_path-path.ensures put) c.in_err-ask-2.ensures.err)

pub unreachable-requires : goal.unreachable-requires
unreachable-requires g c =
    let asked = after_put _ _ _ _ _ _ c.requires c.own_path-path.ensures c.in_ok-ask.ensures.ok in
    let listed = after_list _ (asking c.args.kind _) _ _ asked c.in_ok-ask-2.ensures.ok in
    c.in_default.not-Listed listed.0 (c.last.ensures _ _ (_, listed.1.ends))

pub returns-clause-goes : goal.returns-clause-goes
returns-clause-goes g c = lease_on _ _ _ _ c.ask.ensures.goes c.ask-2.ensures.goes

pub returns-clause-ok : goal.returns-clause-ok
returns-clause-ok g c =
    let asked = after_put _ _ _ _ _ _ c.requires c.own_path-path.ensures c.in_ok-ask.ensures.ok in
    let heard = after_list _ (asking c.args.kind _) _ _ asked c.in_ok-ask-2.ensures.ok in
    record {
      listing = c.in-Listed.listing;
      asked =
          listed_as _ (asking c.args.kind _)
          _ _ c.in-Listed.listing heard c.last.ensures c.in-Listed.is;
      says = c.sight_of.ensures;
    }

pub returns-clause-calls : goal.returns-clause-calls
returns-clause-calls g c =
    let listed = c.in_ok-ask-2.ensures.ok in
    adds_on _ (ListDir Locks ∷ []) [] false _ _ _
    (put_heard c.args.kind _ _ _ _ _ c.own_path-path.ensures c.in_ok-content.ensures
    c.in_ok-ask.ensures.ok)
    (adds_heard (ListDir Locks) [] listed.0 _ _ listed.1.trail listed.2)
