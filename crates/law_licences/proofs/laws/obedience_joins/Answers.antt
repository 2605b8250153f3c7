use Rattle.law_licences.proofs.Joins.{Each-append, Each-parts, deeds_of-append, view_from-append}
use Rattle.law_licences.specs.Licences.{MayDo, MayMerge}
use Rattle.law_licences.proofs.laws.obedience_joins.Goals as goal

pub returns : goal.returns
returns c = record {
  joined = Each-append MayDo;
  parted = Each-parts MayDo;
  merging = Each-append MayMerge;
  seen = view_from-append;
  told = deeds_of-append;
}
