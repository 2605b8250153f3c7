use Rattle.item_text.proofs.Parted.{reads_from_item_in, item_in-reads, item_in-refused}
use Rattle.item_text.proofs.laws.reads_to_what_it_reads_as.Goals as goal

pub returns-clause-as_item : goal.returns-clause-as_item
returns-clause-as_item c = reads_from_item_in

pub returns-clause-to_item : goal.returns-clause-to_item
returns-clause-to_item c = item_in-reads

pub returns-clause-refused : goal.returns-clause-refused
returns-clause-refused c = item_in-refused
