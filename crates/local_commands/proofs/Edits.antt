-- The change that edits a note which the tables allow to be edited.
use Rattle.std.specs.Prelude.{ℕ, ◌≡◌, List, codes, Option, Some, None, MatchOption, Result, Ok, Err}
use Rattle.std.proofs.lemmas.Grind.{common_steps}
use Rattle.std.proofs.Common.{arith, sym, ◌∙◌, inl, inr}
use Rattle.item_kinds.proofs.OneTime.{one_time}
use Rattle.item_kinds.specs.Kinds.{IsTimeOrZero, IsUpdated}
use Rattle.item_text.specs.Props.{value_of}
use Rattle.item_text.specs.declared.item.Item.{Item}
use Rattle.item_text.specs.declared.item.Prop.{Prop}
use Rattle.local_changes.specs.Editing.{Edits}
use Rattle.local_changes.specs.declared.store_err.StoreErr.{StoreErr}
use Rattle.local_commands.specs.Commands.Edit.{ChecksNote, MakesEdit}
use Rattle.local_commands.specs.Refusals.{store_refusal}
use Rattle.local_commands.specs.Stages.{MakesOr}

-- ---- one time of the last change

one_value : (value : List ℕ) (a b : ℕ) → IsTimeOrZero value a → IsTimeOrZero value b → a ≡ b
one_value value a b (inl of_a) (inl of_b) = one_time value a b of_a of_b
one_value value a b (inl of_a) (inr of_b) = absurd (of_b.1 a of_a)
one_value value a b (inr of_a) (inl of_b) = absurd (of_a.1 b of_b)
one_value value a b (inr of_a) (inr of_b) = of_a.0 ∙ sym of_b.0

pub one_updated : (props : List Prop) (a b : ℕ) → IsUpdated props a → IsUpdated props b → a ≡ b
one_updated props a b of_a of_b = by (value_of (codes "updated_time") props) of_a of_b where
  by : (o : Option (List ℕ)) → MatchOption o (a ≡ 0) (λ value. IsTimeOrZero value a)
      → MatchOption o (b ≡ 0) (λ value. IsTimeOrZero value b) → a ≡ b
  by None of_a of_b = of_a ∙ sym of_b
  by (Some value) of_a of_b = one_value value a b of_a of_b

-- ---- what may be refused

pub edit_unmade : (id : List ℕ) (title : Option (List ℕ)) (body : List ℕ) (now : ℕ)
    (note : Result Item StoreErr) (e : StoreErr) → ChecksNote id note None
    → Edits id title body now note (Err e)
    → MakesOr (MakesEdit id title body now note) (Err (store_refusal e))
edit_unmade id title body now (Err cause) e checks edits = cc
edit_unmade id title body now (Ok item) e checks edits =
    let same = one_updated item.props checks.0 edits.0 checks.1 edits.1 in
    grind (arith, common_steps)
