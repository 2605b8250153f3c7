use Rattle.law_licences.proofs.Breaking.{put-info, set-info, opening, inside, no-session}
use Rattle.law_licences.proofs.stories.refuses_others.Goals as goal

pub returns : goal.returns
returns c = record {
  puts_info = put-info;
  sets_info = set-info;
  opens = opening;
  inside = inside;
  outside = no-session;
}
