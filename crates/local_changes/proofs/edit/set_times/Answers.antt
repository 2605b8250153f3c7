use Rattle.local_changes.proofs.EditedNotes.{own_field, both_times}
use Rattle.local_changes.proofs.edit.set_times.Goals as goal

pub set_time-requires-clause-key : goal.set_time-requires-clause-key
set_time-requires-clause-key c = own_field

pub returns : goal.returns
returns c =
    both_times c.args.item.now c.set_time.new.item c.set_time-2.new.item c.args.time
    c.in_ok-set_time.ensures c.in_ok-set_time-2.ensures
