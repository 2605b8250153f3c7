-- A hall's first tree is in order.
use Rattle.std.proofs.Common.{ℕ, [], ◌∷◌, Bool, true, false, if◌then◌else◌}
use Rattle.std.proofs.lemmas.List.Elements.{All-cons, All-nil}
use Rattle.std.specs.Prelude.{All, nat_eq}
use Rattle.jop_base.specs.Keyed.{IsSorted}
use Rattle.jop_base.specs.Paths.{IsPath}
use Rattle.jop_target.specs.History.{IsOrderly}
use Rattle.jop_target.specs.Store.{file_key}
use Rattle.jop_target.specs.declared.tree.File.{File}
use Rattle.call_log.specs.Logs.{first_version_file, opening_tree}

paths : (b : Bool) → All (λ (f : File). IsPath f.path) (if b then first_version_file ∷ [] else [])
paths true = All-cons (λ (f : File). IsPath f.path) first_version_file [] tt (All-nil (λ (f : File). IsPath f.path))
paths false = All-nil (λ (f : File). IsPath f.path)

order : (b : Bool) → IsSorted file_key (if b then first_version_file ∷ [] else [])
order true = (tt, tt)
order false = tt

pub opening_orderly : (number : ℕ) → IsOrderly (opening_tree number)
opening_orderly number = record { paths = paths (nat_eq number 1); ordered = order (nat_eq number 1) }
