use Rattle.law_licences.proofs.Breaking.{opening-other, unopened, unsealed}
use Rattle.law_licences.proofs.stories.refuses_without_its_keys.Goals as goal

pub returns : goal.returns
returns c = record { unsealed = unsealed; unopened = unopened; opened = opening-other }
