use Rattle.std.proofs.Common.{◌∙◌, List, refl, subst}
use Rattle.std.proofs.lemmas.Option.{slice_get_read}
use Rattle.jop_target.specs.declared.event.Event.{Event}
use Rattle.call_log.specs.Differing.{Differs}
use Rattle.call_log.proofs.closing.compare_one.Goals as goal

pub returns-in-Err-clause-err : goal.returns-in-Err-clause-err
returns-in-Err-clause-err g c = λ m is.
    let h = c.in-Err.ensures.err m is in
    let own = c.index-trails-place.result in
    record {
      place = c.args.place;
      own = own;
      here = slice_get_read c.args.trails.now _ c.args.place own refl c.requires.within
          c.index-trails-place.is;
      seat = h.0;
      differs = subst (λ (ts : List Event). Differs c.args.log.now ts m)
          (c.events.ensures ∙ c.trail.ensures) h.1;
    }
