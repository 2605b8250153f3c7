-- `attach`: a new resource.
use Rattle.std.specs.Prelude.{ℕ, ◌≡◌, List, [], ◌∷◌, length, true, false, Some, None, Result, Ok}
use Rattle.local_changes.specs.Makers.{new_resource}
use Rattle.local_store.specs.declared.change.Change.{Change}
use Rattle.local_commands.specs.declared.act.Act.TheVariants.{MakeChange, SaveBlob}
use Rattle.local_commands.specs.declared.drawing.Drawing.TheVariants.{OneId}
use Rattle.local_commands.specs.declared.drawing.Ids.{Ids}
use Rattle.local_commands.specs.declared.drawing.Ids.TheVariants as ids
use Rattle.local_commands.specs.declared.intake.Intake.{Intake}
use Rattle.local_commands.specs.declared.work.Work.{Work}
use Rattle.local_commands.specs.Lines.{id_line}
use Rattle.local_commands.specs.declared.local_err.LocalErr.{LocalErr}
use Rattle.local_commands.specs.Running.{Plan}

-- the most bytes of a resource that is taken: 32 MiB
abbrev pub blob_limit : ℕ
blob_limit = 33554432

-- the bytes of a resource are any within the limit
abbrev pub blob_intake : Intake
blob_intake = record { limit = blob_limit; text = false }

-- the bytes are saved, then the resource is, and its id is printed
abbrev pub attach_work : List ℕ → List ℕ → Change → Work
attach_work id bytes change = record {
  acts = SaveBlob (record { id = id; bytes = bytes }) ∷ MakeChange change ∷ [];
  text = id_line id;
}

-- a resource of this name and type is saved under the drawn id, and the input as its bytes
abbrev pub MakesResource : List ℕ → List ℕ → List ℕ → ℕ → Ids → Result Work LocalErr → Type 0
MakesResource name mime bytes now (ids.One id) made =
    made ≡ Ok (attach_work id bytes (new_resource id name mime (length bytes) now))
MakesResource name mime bytes now drawn made = ⊥

-- the tables allow it always
abbrev pub attach_plan : List ℕ → List ℕ → Plan
attach_plan name mime = record {
  Checks = λ t refusal. refusal ≡ None;
  intake = Some blob_intake;
  clock = true;
  draws = OneId;
  bytes = true;
  Makes = λ t input now drawn made. MakesResource name mime input now drawn made;
}
