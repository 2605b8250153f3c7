use Rattle.local_commands.proofs.Shown.{found_sound, none_found}
use Rattle.local_commands.proofs.command.show.make_text.Goals as goal

pub write_item-requires : goal.write_item-requires
write_item-requires c =
    found_sound c.args.number c.args.tables.now.conflicts c.as_slice.result.now c.in-Some.note
    c.note_of.result c.requires.sound.conflicts c.as_slice.ensures c.note_of.ensures c.in-Some.is

pub returns-in-None : goal.returns-in-None
returns-in-None c =
    none_found c.args.number c.args.tables.now.conflicts c.as_slice.result.now c.note_of.result
    c.requires.passed c.as_slice.ensures c.note_of.ensures c.in-None.is
