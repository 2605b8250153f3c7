-- The written history of an upgrade meets the premises of the law.
use Rattle.std.proofs.Common.{refl, arith, []}
use Rattle.jop_base.specs.Keyed.{at, put, cut}
use Rattle.jop_base.specs.declared.path.Path.TheVariants.{Info, OldVersion}
use Rattle.jop_target.specs.History.{IsHonest}
use Rattle.jop_target.specs.Store.{reply_of, tree_after, entries_in}
use Rattle.jop_target.specs.declared.call.Call.TheVariants.{Put}
use Rattle.lease.specs.Discipline.{lawful_from, session_from}
use Rattle.lease.specs.Exclusion.{IsTimely, AllKeepLocks, HasUpgrade, Upgrades}
use Rattle.lease.specs.Stories.{one, puts_empty, an_upgrade}
use Rattle.lease.proofs.Written.{is_honest, is_timely, all_keep_locks, orderly_empty}

pub honest : IsHonest an_upgrade
unfolding reply_of tree_after at put cut entries_in
honest = is_honest an_upgrade orderly_empty refl

pub timely : IsTimely an_upgrade
unfolding session_from
timely = is_timely an_upgrade refl

pub keep : AllKeepLocks an_upgrade
unfolding lawful_from
keep = all_keep_locks an_upgrade refl

first_write : Upgrades an_upgrade 5 one 1
unfolding session_from
first_write = record {
  writes =
      record {
        step = puts_empty one 5 OldVersion;
        call = Put OldVersion
            [];
        here = refl;
        by = refl;
        landed = refl;
        guarded = refl;
      };
  stamp = 3;
  holds = refl;
  numbered = refl;
}

last_write : Upgrades an_upgrade 9 one 1
unfolding session_from
last_write = record {
  writes =
      record {
        step = puts_empty one 7 Info;
        call = Put Info
            [];
        here = refl;
        by = refl;
        landed = refl;
        guarded = refl;
      };
  stamp = 3;
  holds = refl;
  numbered = refl;
}

pub upgrade : HasUpgrade an_upgrade
upgrade =
    record {
      client = one;
      session = 1;
      first = 5;
      last = 9;
      opens = first_write;
      closes = last_write;
      two = omega arith;
    }
