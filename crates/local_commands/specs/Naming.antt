-- The plan of a command that names a row by an id as it is typed: the tables say which id is meant.
use Rattle.std.specs.Prelude.{ℕ, ◌≡◌, List, [], Option, Some, None, Result, Ok, Err}
use Rattle.local_store.specs.declared.tables.Tables.{Tables}
use Rattle.local_commands.specs.declared.local_err.LocalErr.{LocalErr}
use Rattle.local_commands.specs.declared.local_err.LocalErr.TheVariants.{NotOne}
use Rattle.local_commands.specs.declared.start_count.StartCount.{StartCount}
use Rattle.local_commands.specs.declared.typed_id.TypedId.{TypedId}
use Rattle.local_commands.specs.declared.work.Work.{Work}
use Rattle.local_commands.specs.Running.{Plan}
use Rattle.local_commands.specs.TypedIds.{meant_id, meant_id_if}

-- what the tables refuse of what is meant, or that they don't say what is
abbrev pub ChecksMeant : {S : Type 0} → Result S StartCount → (S → Option LocalErr → Type 0)
    → Option LocalErr → Type 0
ChecksMeant (Ok meant) Checks refusal = Checks meant refusal
ChecksMeant (Err count) Checks refusal = refusal ≡ Some (NotOne count)

-- what is made of what is meant
abbrev pub MakesMeant : {S : Type 0} → Result S StartCount → (S → Result Work LocalErr → Type 0)
    → Result Work LocalErr → Type 0
MakesMeant (Ok meant) Makes made = Makes meant made
MakesMeant (Err count) Makes made = ⊥

-- The plan for what is meant in the tables. What it needs beside them is the same whatever is meant, as for
-- this one.
abbrev pub of_meant : {S : Type 0} → S → (Tables → Result S StartCount) → (S → Plan) → Plan
of_meant any meant plan = record (plan any) {
  Checks = λ t refusal. ChecksMeant (meant t) (λ s. (plan s).Checks t) refusal;
  Makes = λ t input now ids made.
      MakesMeant (meant t) (λ s. (plan s).Makes t input now ids) made;
}

-- a plan for the id that is typed
abbrev pub of_id : TypedId → (List ℕ → Plan) → Plan
of_id typed plan = of_meant [] (λ t. meant_id t typed) plan

-- one for two of them, the first one first
abbrev pub of_two_ids : TypedId → TypedId → (List ℕ → List ℕ → Plan) → Plan
of_two_ids typed second plan = of_id typed (λ id. of_id second (plan id))

-- one for an id that may be typed or not
abbrev pub of_id_if : Option TypedId → (Option (List ℕ) → Plan) → Plan
of_id_if typed plan = of_meant None (λ t. meant_id_if t typed) plan
