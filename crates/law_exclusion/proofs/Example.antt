-- The written histories meet the premises of the law.
use Rattle.std.proofs.Common.{refl, arith, [], codes}
use Rattle.std.proofs.lemmas.List.Elements.{All-nil, All-cons}
use Rattle.std.specs.Float.Numeral.{scan_numeral}
use Rattle.std.specs.Fmt.{digits}
use Rattle.std.specs.Str.{chars, is_utf8}
use Rattle.std.proofs.Math.Utf8.{encode}
use Rattle.json.specs.Json.{value}
use Rattle.json.specs.Lex.{lex, punctuate}
use Rattle.json.specs.Print.{escape_byte}
use Rattle.json.specs.Text.{content}
use Rattle.json.specs.Word.{after_number, word}
use Rattle.serde_json.specs.Read.{number_of}
use Rattle.jop_base.specs.Keyed.{at, put, cut}
use Rattle.jop_base.specs.Paths.{IsPath}
use Rattle.jop_base.specs.declared.path.Path.TheVariants.{Info as InfoFile, Item, OldVersion}
use Rattle.jop_target.specs.History.{IsHonest, IsOrderly}
use Rattle.jop_target.specs.Store.{reply_of, tree_after, entries_in}
use Rattle.jop_target.specs.declared.tree.File.{File}
use Rattle.lease.specs.Discipline.{lawful_from, session_from}
use Rattle.lease.specs.Exclusion.{AllKeepLocks, HasUpgrade, IsTimely, Upgrades}
use Rattle.lease.specs.Stories.{one, two}
use Rattle.lease.proofs.Written.{is_honest, is_timely, all_keep_locks, orderly_empty}
use Rattle.target_upgrade.specs.Course.{allowed_from}
use Rattle.law_exclusion.specs.Exclusive.{AllKeepVersions}
use Rattle.law_exclusion.proofs.Written.{all_keep_versions, put_writes}
use Rattle.law_exclusion.specs.Stories.{HasSync, begun_again, between_syncs, info_at, three}

orderly : IsOrderly between_syncs.opening
orderly = record {
  paths = All-cons (λ (f : File). IsPath f.path) _ [] tt (All-nil (λ (f : File). IsPath f.path));
  ordered = (tt, tt);
}

pub honest : IsHonest between_syncs
unfolding reply_of tree_after at put cut entries_in escape_byte digits
honest = is_honest between_syncs orderly refl

pub timely : IsTimely between_syncs
unfolding session_from
timely = is_timely between_syncs refl

pub locks : AllKeepLocks between_syncs
unfolding lawful_from
locks = all_keep_locks between_syncs refl

pub versions : AllKeepVersions between_syncs
unfolding allowed_from escape_byte digits is_utf8 chars encode value punctuate lex content word after_number
    number_of scan_numeral
versions = all_keep_versions between_syncs refl

first_write : Upgrades between_syncs 17 one 1
unfolding session_from
first_write = record {
  writes = put_writes between_syncs 17 one 19 OldVersion (codes "2") refl refl;
  stamp = 13;
  holds = refl;
  numbered = refl;
}

last_write : Upgrades between_syncs 20 one 1
unfolding session_from
last_write = record {
  writes = put_writes between_syncs 20 one 22 InfoFile (info_at 3) refl refl;
  stamp = 13;
  holds = refl;
  numbered = refl;
}

pub upgrade : HasUpgrade between_syncs
upgrade = record {
  client = one;
  session = 1;
  first = 17;
  last = 20;
  opens = first_write;
  closes = last_write;
  two = omega arith;
}

pub sync : HasSync between_syncs three
unfolding session_from
sync = record {
  place = 28;
  stamp = 32;
  writes = put_writes between_syncs 28 three 35 (Item three) [] refl refl;
  holds = refl;
}

-- ---- an upgrade that is begun again

pub honest_again : IsHonest begun_again
unfolding reply_of tree_after at put cut entries_in escape_byte digits
honest_again = is_honest begun_again orderly_empty refl

pub timely_again : IsTimely begun_again
unfolding session_from
timely_again = is_timely begun_again refl

pub locks_again : AllKeepLocks begun_again
unfolding lawful_from
locks_again = all_keep_locks begun_again refl

pub versions_again : AllKeepVersions begun_again
unfolding allowed_from escape_byte digits is_utf8 chars encode value punctuate lex content word after_number
    number_of scan_numeral
versions_again = all_keep_versions begun_again refl

pub stopped : Upgrades begun_again 9 one 1
unfolding session_from
stopped = record {
  writes = put_writes begun_again 9 one 9 OldVersion (codes "1") refl refl;
  stamp = 3;
  holds = refl;
  numbered = refl;
}

pub again : Upgrades begun_again 22 two 1
unfolding session_from
again = record {
  writes = put_writes begun_again 22 two 180010 OldVersion (codes "2") refl refl;
  stamp = 180004;
  holds = refl;
  numbered = refl;
}
