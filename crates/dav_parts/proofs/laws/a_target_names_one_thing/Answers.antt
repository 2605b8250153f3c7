use Rattle.dav_parts.proofs.PathLemmas.{path_target_unique, dir_target_unique}
use Rattle.dav_parts.proofs.laws.a_target_names_one_thing.Goals as goal

pub returns-clause-file : goal.returns-clause-file
returns-clause-file c = path_target_unique

pub returns-clause-folder : goal.returns-clause-folder
returns-clause-folder c = dir_target_unique
