-- What the tables say of what is meant.
use Rattle.std.specs.Prelude.{◌≡◌, Option, Result, Ok, Err}
use Rattle.std.proofs.Common.{◌∙◌, sym}
use Rattle.local_commands.specs.Naming.{ChecksMeant}
use Rattle.local_commands.specs.declared.local_err.LocalErr.{LocalErr}
use Rattle.local_commands.specs.declared.start_count.StartCount.{StartCount}

-- the tables give one answer, if they give one of whatever is meant
pub one_meant : {S : Type 0} (meant : Result S StartCount) (Checks : S → Option LocalErr → Type 0)
    (one other : Option LocalErr) → ((s : S) → Checks s one → Checks s other → one ≡ other)
    → ChecksMeant meant Checks one → ChecksMeant meant Checks other → one ≡ other
one_meant (Ok s) Checks one other decided h k = decided s h k
one_meant (Err count) Checks one other decided h k = h ∙ sym k
