-- The written histories meet all premises but one, and aren't exclusive.
use Rattle.std.proofs.Common.{refl, ℕ, [], codes}
use Rattle.std.specs.Float.Numeral.{scan_numeral}
use Rattle.std.specs.Fmt.{digits}
use Rattle.std.specs.Str.{chars, is_utf8}
use Rattle.std.proofs.Math.Utf8.{encode}
use Rattle.std.proofs.lemmas.List.Elements.{All-nil, All-cons}
use Rattle.json.specs.Json.{value}
use Rattle.json.specs.Lex.{lex, punctuate}
use Rattle.json.specs.Print.{escape_byte}
use Rattle.json.specs.Text.{content}
use Rattle.json.specs.Word.{after_number, word}
use Rattle.serde_json.specs.Read.{number_of}
use Rattle.jop_base.specs.Keyed.{at, put, cut}
use Rattle.jop_base.specs.Paths.{IsPath}
use Rattle.jop_base.specs.declared.path.Path.TheVariants.{OldVersion}
use Rattle.jop_target.specs.History.{IsHonest, IsOrderly, tree_from}
use Rattle.jop_target.specs.Store.{reply_of, tree_after, entries_in}
use Rattle.jop_target.specs.declared.tree.File.{File}
use Rattle.lease.specs.Discipline.{lawful_from, session_from}
use Rattle.lease.specs.Exclusion.{AllKeepLocks, IsTimely, Upgrades}
use Rattle.lease.specs.Stories.{one}
use Rattle.lease.proofs.Written.{is_honest, is_timely, all_keep_locks}
use Rattle.target_upgrade.specs.Course.{allowed_from}
use Rattle.law_exclusion.specs.Target.{tree_info}
use Rattle.law_exclusion.specs.Exclusive.{AllKeepVersions, IsExclusive}
use Rattle.law_exclusion.specs.Learnt.{learnt_from}
use Rattle.law_exclusion.proofs.Written.{all_keep_versions, put_writes}
use Rattle.law_exclusion.specs.Broken.{first_version, info_deleted, put_at_another_version, shown_what_was, told_as, written_late, written_past_the_locks, written_unread}
use Rattle.law_exclusion.proofs.Unread.{PutsItem, ReadsOther, opens, put_as_read, reads_other}

-- ---- targets in order

orderly_first : IsOrderly first_version
orderly_first = record {
  paths = All-cons (λ (f : File). IsPath f.path) _ [] tt (All-nil (λ (f : File). IsPath f.path));
  ordered = (tt, tt);
}

orderly_told : (version : ℕ) → IsOrderly (told_as version)
orderly_told version = record {
  paths = All-cons (λ (f : File). IsPath f.path) _ [] tt (All-nil (λ (f : File). IsPath f.path));
  ordered = (tt, tt);
}

-- ---- a store that shows what was

pub timely_shown : IsTimely shown_what_was
unfolding session_from
timely_shown = is_timely shown_what_was refl

pub locks_shown : AllKeepLocks shown_what_was
unfolding lawful_from
locks_shown = all_keep_locks shown_what_was refl

pub versions_shown : AllKeepVersions shown_what_was
unfolding allowed_from escape_byte digits is_utf8 chars encode value punctuate
    lex content word after_number number_of scan_numeral
versions_shown = all_keep_versions shown_what_was refl

puts_shown : PutsItem shown_what_was 5 4
unfolding session_from
puts_shown = record { here = refl; holds = refl }

reads_shown : ReadsOther shown_what_was 5 one 3 2
unfolding learnt_from tree_info tree_from tree_after at put cut escape_byte digits is_utf8 chars encode value punctuate
    lex content word after_number number_of scan_numeral
reads_shown = record { versions = refl; tree = refl; other = refl }

pub broken_shown : ¬ (IsExclusive shown_what_was)
broken_shown exclusive =
    reads_other shown_what_was 5 one 3 2 reads_shown
    (put_as_read shown_what_was 5 4 puts_shown exclusive)

-- ---- a write past the locks

pub honest_past : IsHonest written_past_the_locks
unfolding reply_of tree_after at put cut entries_in escape_byte digits
honest_past = is_honest written_past_the_locks (orderly_told 3) refl

pub timely_past : IsTimely written_past_the_locks
unfolding session_from
timely_past = is_timely written_past_the_locks refl

pub versions_past : AllKeepVersions written_past_the_locks
unfolding allowed_from escape_byte digits is_utf8 chars encode value punctuate
    lex content word after_number number_of scan_numeral
versions_past = all_keep_versions written_past_the_locks refl

puts_past : PutsItem written_past_the_locks 7 6
unfolding session_from
puts_past = record { here = refl; holds = refl }

reads_past : ReadsOther written_past_the_locks 7 one 3 2
unfolding learnt_from tree_info tree_from tree_after at put cut escape_byte digits is_utf8 chars encode value punctuate
    lex content word after_number number_of scan_numeral
reads_past = record { versions = refl; tree = refl; other = refl }

pub broken_past : ¬ (IsExclusive written_past_the_locks)
broken_past exclusive =
    reads_other written_past_the_locks 7 one 3 2 reads_past
    (put_as_read written_past_the_locks 7 6 puts_past exclusive)

-- ---- an info of another version

pub honest_put : IsHonest put_at_another_version
unfolding reply_of tree_after at put cut entries_in escape_byte digits
honest_put = is_honest put_at_another_version (orderly_told 3) refl

pub timely_put : IsTimely put_at_another_version
unfolding session_from
timely_put = is_timely put_at_another_version refl

pub locks_put : AllKeepLocks put_at_another_version
unfolding lawful_from
locks_put = all_keep_locks put_at_another_version refl

puts_put : PutsItem put_at_another_version 11 9
unfolding session_from
puts_put = record { here = refl; holds = refl }

reads_put : ReadsOther put_at_another_version 11 one 3 2
unfolding learnt_from tree_info tree_from tree_after at put cut escape_byte digits is_utf8 chars encode value punctuate
    lex content word after_number number_of scan_numeral
reads_put = record { versions = refl; tree = refl; other = refl }

pub broken_put : ¬ (IsExclusive put_at_another_version)
broken_put exclusive =
    reads_other put_at_another_version 11 one 3 2 reads_put
    (put_as_read put_at_another_version 11 9 puts_put exclusive)

-- ---- an info that is deleted

pub honest_deleted : IsHonest info_deleted
unfolding reply_of tree_after at put cut entries_in escape_byte digits
honest_deleted = is_honest info_deleted (orderly_told 3) refl

pub timely_deleted : IsTimely info_deleted
unfolding session_from
timely_deleted = is_timely info_deleted refl

pub locks_deleted : AllKeepLocks info_deleted
unfolding lawful_from
locks_deleted = all_keep_locks info_deleted refl

puts_deleted : PutsItem info_deleted 11 9
unfolding session_from
puts_deleted = record { here = refl; holds = refl }

reads_deleted : ReadsOther info_deleted 11 one 3 0
unfolding learnt_from tree_info tree_from tree_after at put cut escape_byte digits is_utf8 chars encode value punctuate
    lex content word after_number number_of scan_numeral
reads_deleted = record { versions = refl; tree = refl; other = refl }

pub broken_deleted : ¬ (IsExclusive info_deleted)
broken_deleted exclusive =
    reads_other info_deleted 11 one 3 0 reads_deleted
    (put_as_read info_deleted 11 9 puts_deleted exclusive)

-- ---- a write without reading

pub honest_unread : IsHonest written_unread
unfolding reply_of tree_after at put cut entries_in escape_byte digits
honest_unread = is_honest written_unread orderly_first refl

pub timely_unread : IsTimely written_unread
unfolding session_from
timely_unread = is_timely written_unread refl

pub locks_unread : AllKeepLocks written_unread
unfolding lawful_from
locks_unread = all_keep_locks written_unread refl

puts_unread : PutsItem written_unread 4 3
unfolding session_from
puts_unread = record { here = refl; holds = refl }

pub broken_unread : ¬ (IsExclusive written_unread)
unfolding learnt_from
broken_unread exclusive = (put_as_read written_unread 4 3 puts_unread exclusive).read refl

-- ---- a write that is late

pub honest_late : IsHonest written_late
unfolding reply_of tree_after at put cut entries_in escape_byte digits
honest_late = is_honest written_late orderly_first refl

pub locks_late : AllKeepLocks written_late
unfolding lawful_from
locks_late = all_keep_locks written_late refl

pub versions_late : AllKeepVersions written_late
unfolding allowed_from escape_byte digits is_utf8 chars encode value punctuate
    lex content word after_number number_of scan_numeral
versions_late = all_keep_versions written_late refl

upgrades_late : Upgrades written_late 22 one 1
unfolding session_from
upgrades_late = record {
  writes = put_writes written_late 22 one 180013 OldVersion (codes "2") refl refl;
  stamp = 1;
  holds = refl;
  numbered = refl;
}

reads_late : ReadsOther written_late 22 one 1 3
unfolding learnt_from tree_info tree_from tree_after at put cut escape_byte digits is_utf8 chars encode value punctuate
    lex content word after_number number_of scan_numeral
reads_late = record { versions = refl; tree = refl; other = refl }

pub broken_late : ¬ (IsExclusive written_late)
broken_late exclusive =
    reads_other written_late 22 one 1 3 reads_late
    (exclusive.as_read.upgrade 22 one 1 (opens written_late 22 one 1 upgrades_late refl))
