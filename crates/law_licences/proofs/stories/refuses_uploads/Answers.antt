use Rattle.law_licences.proofs.Breaking.{unchecked, another, new, nothing, failure, unheard, session, stop, twice, text, sealed, unchanged, outside, failed-upload, unput-upload, others-upload, behind, blob-synced, blob-note}
use Rattle.law_licences.proofs.stories.refuses_uploads.Goals as goal

pub returns : goal.returns
returns c = record {
  unchecked = unchecked;
  another = another;
  new = new;
  nothing = nothing;
  failure = failure;
  unheard = unheard;
  session = session;
  stop = stop;
  twice = twice;
  text = text;
  sealed = sealed;
  unchanged = unchanged;
  outside = outside;
  upload_failed = failed-upload;
  upload_unput = unput-upload;
  upload_others = others-upload;
  blob_behind = behind;
  blob_synced = blob-synced;
  blob_of_note = blob-note;
}
