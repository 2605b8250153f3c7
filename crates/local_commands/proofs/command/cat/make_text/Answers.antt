use Rattle.local_commands.proofs.Plain.{plain_valid}
use Rattle.local_commands.proofs.command.cat.make_text.Goals as goal

pub write_item-requires : goal.write_item-requires
write_item-requires c =
    plain_valid c.args.tables.now c.args.id.now c.in_ok-item.item.now c.requires.sound
    c.in_ok-item.ensures
