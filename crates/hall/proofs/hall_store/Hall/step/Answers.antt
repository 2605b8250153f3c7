use Rattle.std.proofs.Common.{rules, arith, refl, inl, inr}
use Rattle.hall.proofs.Growing.{kept_grown}
use Rattle.hall.proofs.hall_store.Hall.step.Goals as goal

pub invariant_of-self-in_default : goal.invariant_of-self-in_default
invariant_of-self-in_default g c = (
  c.self.invariant.0,
  c.self.invariant.1,
  kept_grown _ c.self.invariant.2 (search rules) c.note.ensures (omega arith) (inl (refl, refl)) refl refl,
)

pub invariant_of-self-2 : goal.invariant_of-self-2
invariant_of-self-2 g c = (
  c.self.invariant.0,
  search (rules, arith),
  kept_grown _ c.self.invariant.2 (search rules) c.note-2.ensures (search (rules, arith)) (inr (refl, search rules)) refl (search rules),
)
