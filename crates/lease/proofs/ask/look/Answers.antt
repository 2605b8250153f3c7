use Rattle.std.proofs.Common.{[], ◌∷◌, refl, false}
use Rattle.std.proofs.lemmas.Result.{err_from_is_err_and}
use Rattle.jop_base.specs.declared.dir.Dir.TheVariants.{Locks}
use Rattle.jop_target.specs.declared.call.Call.TheVariants.{List as ListDir, MakeDir}
use Rattle.lease.specs.Phase.{Free}
use Rattle.lease.proofs.Added.{adds_heard, adds_on}
use Rattle.lease.proofs.Calls.{asks_make, after_make, asks_list, after_list, listed_as, gives_up, gives_up_on}
use Rattle.lease.proofs.Sessions.{lease_on}
use Rattle.lease.proofs.ask.look.Goals as goal

pub ask-requires : goal.ask-requires
ask-requires g c = asks_make _ _ c.requires

pub ask-requires-2 : goal.ask-requires-2
ask-requires-2 g c = asks_list _ _ Free (after_make _ _ _ c.requires c.in_ok-ask.ensures.ok) refl

pub returns-in_err-ask-clause-err : goal.returns-in_err-ask-clause-err
returns-in_err-ask-clause-err g c =
    let p = err_from_is_err_and c.from_residual.result c.from_residual.ensures.1 in
    rw (p.1, p.2) (gives_up _ _ _ _ (ListDir Locks ∷ [])
    Free _ c.requires refl c.in_err-ask.ensures.err)

pub returns-in_err-ask-2-clause-goes : goal.returns-in_err-ask-2-clause-goes
returns-in_err-ask-2-clause-goes g c = lease_on _ _ _ _ c.ask.ensures.goes c.ask-2.ensures.goes

pub returns-in_err-ask-2-clause-err : goal.returns-in_err-ask-2-clause-err
returns-in_err-ask-2-clause-err g c =
    let p = err_from_is_err_and c.from_residual-in_err-ask-2.result
    c.from_residual-in_err-ask-2.ensures.1 in
    let made = c.in_ok-ask.ensures.ok in
    let free = after_make _ _ _ c.requires made in
    rw (p.1, p.2) (gives_up_on _ _ _ _ (MakeDir Locks ∷ []) (ListDir Locks ∷ []) Free _
    (adds_heard (MakeDir Locks) [] made.0 _ _ made.1.trail made.2)
    c.ask.ensures.goes.line.later free refl
    (gives_up _ _ _ _ [] Free _ free refl c.in_err-ask-2.ensures.err))

pub unreachable-requires : goal.unreachable-requires
unreachable-requires g c =
    let listed = after_list _ Free _ _ (after_make _ _ _ c.requires c.in_ok-ask.ensures.ok)
    c.in_ok-ask-2.ensures.ok in
    c.in_default.not-Listed listed.0 (c.last.ensures _ _ (_, listed.1.ends))

pub returns-clause-goes : goal.returns-clause-goes
returns-clause-goes g c = lease_on _ _ _ _ c.ask.ensures.goes c.ask-2.ensures.goes

pub returns-clause-ok : goal.returns-clause-ok
returns-clause-ok g c =
    let heard = after_list _ Free _ _ (after_make _ _ _ c.requires c.in_ok-ask.ensures.ok)
    c.in_ok-ask-2.ensures.ok in
    record {
      listing = c.in-Listed.listing;
      asked = listed_as _ Free _ _ c.in-Listed.listing heard c.last.ensures c.in-Listed.is;
      says = c.sight_of.ensures;
    }

pub returns-clause-calls : goal.returns-clause-calls
returns-clause-calls g c =
    let made = c.in_ok-ask.ensures.ok in
    let listed = c.in_ok-ask-2.ensures.ok in
    adds_on (MakeDir Locks ∷ []) (ListDir Locks ∷ []) [] false _ _ _
    (adds_heard (MakeDir Locks) [] made.0 _ _ made.1.trail made.2)
    (adds_heard (ListDir Locks) [] listed.0 _ _ listed.1.trail listed.2)
