use Rattle.std.proofs.Common.{◌≡◌, drop}
use Rattle.std.specs.Prelude.{bytes_eq}
use Rattle.std.specs.List.{list_any}
use Rattle.local_commands.proofs.command.listing.is_among.Given as goal

abbrev pub invariant-loop-note : goal.invariant-loop-note
invariant-loop-note l =
    list_any (λ note. bytes_eq note l.id) l.notes
    ≡ list_any (λ note. bytes_eq note l.id) (drop l.note-index l.notes)
