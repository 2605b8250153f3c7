use Rattle.law_licences.proofs.Breaking.{unlisted, unread, changed, go-unlisted, go-changed, moved, finish, behind-page}
use Rattle.law_licences.proofs.stories.refuses_pages.Goals as goal

pub returns : goal.returns
returns c = record {
  unlisted = unlisted;
  unread = unread;
  changed = changed;
  go_unlisted = go-unlisted;
  go_changed = go-changed;
  moved = moved;
  finish = finish;
  behind = behind-page;
}
