use Rattle.local_store.specs.Tale.{plain}
use Rattle.woven.specs.Weaving.{weave}
use Rattle.woven.proofs.Obeying.{all_keep_locks, all_keep_versions}
use Rattle.woven.proofs.laws.woven_is_exclusive.Goals as goal

pub returns : goal.returns
returns c = record {
  exclusive = λ tree log clients orderly honest apart seated agree obey timely.
      c.exclusive.ensures.exclusive (plain (weave tree log clients))
      (c.woven_is_honest.ensures.honest tree log clients orderly honest agree) timely
      (all_keep_locks tree log clients apart seated agree obey)
      (all_keep_versions tree log clients apart seated agree obey);
}
