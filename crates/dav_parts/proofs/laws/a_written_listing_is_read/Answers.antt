use Rattle.dav_parts.proofs.LineLemmas.{body_read, files_unique}
use Rattle.dav_parts.proofs.laws.a_written_listing_is_read.Goals as goal

pub returns-clause-read : goal.returns-clause-read
returns-clause-read c = body_read

pub returns-clause-only : goal.returns-clause-only
returns-clause-only c = files_unique
