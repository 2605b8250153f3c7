-- The written histories are honest, their clients keep their locks, and each busy answer has its lock.
use Rattle.std.proofs.Common.{◌≡◌, ◌≤◌, refl, arith, inl, inr, ℕ, [], ◌∷◌}
use Rattle.std.specs.Prelude.{take, All}
use Rattle.std.proofs.lemmas.List.Elements.{All-nil, All-cons}
use Rattle.std.proofs.lemmas.List.Sums.{AllPass-from_list_all}
use Rattle.jop_base.specs.Id.{IsIdText, is_digit}
use Rattle.jop_base.specs.Keyed.{at, cut, put}
use Rattle.jop_base.specs.Paths.{IsPath, dir_of}
use Rattle.jop_base.specs.Times.{last_time}
use Rattle.jop_base.specs.declared.dir.Dir.TheVariants.{Locks}
use Rattle.jop_base.specs.declared.lock_name.LockKind.{LockKind}
use Rattle.jop_base.specs.declared.lock_name.LockKind.TheVariants.{Sync, Exclusive}
use Rattle.jop_target.specs.History.{IsHonest, IsOrderly, part_of}
use Rattle.jop_target.specs.Replies.{IsListing}
use Rattle.jop_target.specs.Store.{entries_in, reply_of, tree_after}
use Rattle.jop_target.specs.declared.event.Event.TheVariants.{Began}
use Rattle.jop_target.specs.declared.reply.Entry.{Entry}
use Rattle.jop_target.specs.declared.reply.Reply.TheVariants.{Done}
use Rattle.jop_target.specs.declared.tree.File.{File}
use Rattle.lease.specs.Discipline.{lawful_from, session_from}
use Rattle.lease.specs.Exclusion.{AllKeepLocks, IsTimely}
use Rattle.lease.specs.Outcomes.{IsBlocked}
use Rattle.lease.specs.Stories.{one, two, lock_of, shown}
use Rattle.lease.proofs.Written.{all_keep_locks, is_honest, is_timely, orderly_empty}
use Rattle.target_upgrade.specs.Course.{allowed_from}
use Rattle.law_exclusion.specs.Exclusive.{AllKeepVersions}
use Rattle.law_exclusion.proofs.Written.{all_keep_versions}
use Rattle.test_program.specs.Histories.{two_upgraders, renewed_in_time, renewed_too_late, behind_a_sync_lock, lock, both_locks}

-- ---- honest stores

id_one : IsIdText one
id_one = record { long = refl; digits = AllPass-from_list_all is_digit one refl }

id_two : IsIdText two
id_two = record { long = refl; digits = AllPass-from_list_all is_digit two refl }

path_one : (kind : LockKind) → IsPath (lock_of kind one)
path_one kind = record { client_type = omega arith; client = id_one }

path_two : (kind : LockKind) → IsPath (lock_of kind two)
path_two kind = record { client_type = omega arith; client = id_two }

pub honest_two : IsHonest two_upgraders
unfolding reply_of tree_after at put cut entries_in
honest_two = is_honest two_upgraders orderly_empty refl

pub honest_in_time : IsHonest renewed_in_time
unfolding reply_of tree_after at put cut entries_in
honest_in_time = is_honest renewed_in_time orderly_empty refl

pub honest_too_late : IsHonest renewed_too_late
unfolding reply_of tree_after at put cut entries_in
honest_too_late = is_honest renewed_too_late orderly_empty refl

orderly_behind : IsOrderly (behind_a_sync_lock 184999).opening
orderly_behind = record {
  paths = All-cons (λ (f : File). IsPath f.path) _ [] (path_two Sync)
      (All-nil (λ (f : File). IsPath f.path));
  ordered = (tt, tt);
}

pub honest_behind : IsHonest (behind_a_sync_lock 184999)
unfolding reply_of tree_after at put cut entries_in
honest_behind = is_honest (behind_a_sync_lock 184999) orderly_behind refl

-- ---- the discipline

pub keep_two : AllKeepLocks two_upgraders
unfolding lawful_from
keep_two = all_keep_locks two_upgraders refl

pub keep_in_time : AllKeepLocks renewed_in_time
unfolding lawful_from
keep_in_time = all_keep_locks renewed_in_time refl

pub keep_too_late : AllKeepLocks renewed_too_late
unfolding lawful_from
keep_too_late = all_keep_locks renewed_too_late refl

pub keep_behind : AllKeepLocks (behind_a_sync_lock 184999)
unfolding lawful_from
keep_behind = all_keep_locks (behind_a_sync_lock 184999) refl

-- ---- what is done under leases

pub versions_two : AllKeepVersions two_upgraders
unfolding allowed_from
versions_two = all_keep_versions two_upgraders refl

pub versions_in_time : AllKeepVersions renewed_in_time
unfolding allowed_from
versions_in_time = all_keep_versions renewed_in_time refl

pub versions_too_late : AllKeepVersions renewed_too_late
unfolding allowed_from
versions_too_late = all_keep_versions renewed_too_late refl

pub versions_behind : AllKeepVersions (behind_a_sync_lock 184999)
unfolding allowed_from
versions_behind = all_keep_versions (behind_a_sync_lock 184999) refl

pub timely_two : IsTimely two_upgraders
unfolding session_from
timely_two = is_timely two_upgraders refl

pub timely_in_time : IsTimely renewed_in_time
unfolding session_from
timely_in_time = is_timely renewed_in_time refl

pub timely_too_late : IsTimely renewed_too_late
unfolding session_from
timely_too_late = is_timely renewed_too_late refl

pub timely_behind : IsTimely (behind_a_sync_lock 184999)
unfolding session_from
timely_behind = is_timely (behind_a_sync_lock 184999) refl

-- ---- locks in the way

of_both : (P : Entry → Type 0) → P (shown Exclusive one 4) → P (shown Exclusive two 5) →
    All P both_locks
of_both P h k =
    All-cons P (shown Exclusive one 4) (shown Exclusive two 5 ∷ []) h
    (All-cons P (shown Exclusive two 5) [] k (All-nil P))

both_listed : (now : ℕ) → now ≤ last_time → IsListing Locks (record { now = now; entries = both_locks })
both_listed now early = record {
  now = early;
  paths = of_both (λ (e : Entry). IsPath e.path) (path_one Exclusive) (path_two Exclusive);
  inside = of_both (λ (e : Entry). dir_of e.path ≡ Locks) refl refl;
  stamps = of_both (λ (e : Entry). e.stamp ≤ last_time) (omega arith) (omega arith);
  rising = (refl, (tt, tt));
}

pub first_blocked : IsBlocked Exclusive one (part_of one two_upgraders.steps) (lock Exclusive two 5) 6
unfolding session_from
first_blocked = inr (record {
  listing = record { now = 6; entries = both_locks };
  at = refl;
  left = record {
    before = part_of one (take 9 two_upgraders.steps);
    asked = record {
      before = part_of one (take 8 two_upgraders.steps);
      asked = record { running = refl; lawful = refl; phase = refl };
      ends = refl;
      shape = both_listed 6 (omega arith);
      stands = record { running = refl; lawful = refl; phase = refl };
    };
    reply = Done 8;
    ends = refl;
    over = record { running = refl; lawful = refl; phase = refl };
  };
  stamp = 4;
  shown = refl;
  blocking = refl;
})

pub second_blocked : IsBlocked Exclusive two (part_of two two_upgraders.steps) (lock Exclusive one 4) 7
unfolding session_from
second_blocked = inr (record {
  listing = record { now = 7; entries = both_locks };
  at = refl;
  left = record {
    before = part_of two (take 10 two_upgraders.steps);
    asked = record {
      before = part_of two (take 9 two_upgraders.steps);
      asked = record { running = refl; lawful = refl; phase = refl };
      ends = refl;
      shape = both_listed 7 (omega arith);
      stands = record { running = refl; lawful = refl; phase = refl };
    };
    reply = Done 9;
    ends = refl;
    over = record { running = refl; lawful = refl; phase = refl };
  };
  stamp = 5;
  shown = refl;
  blocking = refl;
})

pub upgrader_blocked :
    IsBlocked Exclusive one (part_of one (behind_a_sync_lock 184999).steps) (lock Sync two 5000) 184999
unfolding session_from
upgrader_blocked = inl (record {
  listing = record { now = 184999; entries = shown Sync two 5000 ∷ [] };
  at = refl;
  ends = (Began ∷ [], refl);
  looked = record { running = refl; lawful = refl; phase = refl };
  blocking = refl;
})
