use Rattle.woven.specs.Weaving.{weave}
use Rattle.woven.proofs.Obeying.{all_obey_data}
use Rattle.woven.proofs.laws.woven_is_kept.Goals as goal

pub returns : goal.returns
returns c = record {
  kept = λ id tree log clients orderly honest apart seated agree licensed text gapless.
      c.notes_are_kept_by_tables.ensures.kept id (weave tree log clients)
      (record {
        honest = c.woven_is_honest.ensures.honest tree log clients orderly honest agree;
        text = text;
        gapless = gapless;
      })
      (all_obey_data tree log clients apart seated agree licensed);
}
