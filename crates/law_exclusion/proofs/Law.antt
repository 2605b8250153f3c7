-- The law of exclusion in its three parts.
use Rattle.std.proofs.Common.{◌≡◌, ◌≢◌, ◌<◌, ◌∙◌, refl, ap, sym, subst, arith, inl, inr, ℕ, List, [], ◌∷◌, true, Some}
use Rattle.std.specs.Prelude.{All, take}
use Rattle.jop_base.specs.declared.lock_name.LockKind.{LockKind}
use Rattle.jop_base.specs.declared.lock_name.LockKind.TheVariants.{Sync, Exclusive}
use Rattle.jop_target.specs.History.{History, IsHonest, WritesAt, is_guarded_call}
use Rattle.jop_target.specs.declared.call.Call.{Call}
use Rattle.jop_target.specs.declared.tree.Tree.{Tree}
use Rattle.lease.specs.Exclusion.{AllKeepLocks, Holds, IsTimely, Upgrades, phase_at, session_at}
use Rattle.lease.specs.Phase.{Held, role_of}
use Rattle.lease.specs.Idle.{is_work}
use Rattle.lease.proofs.Invariant.{no_kind, past_none, phase_in}
use Rattle.lease.proofs.Law.{apart_in, count-at, guarded_plain, kind_at, later, write_lease, write_unspent}
use Rattle.lease.proofs.World.{opening}
use Rattle.target_upgrade.specs.Steps.{UpgradeStage, Reads, ReadsOld, At, Gets, Upgraded, Stuck, awaited}
use Rattle.law_exclusion.specs.Target.{tree_version}
use Rattle.law_exclusion.proofs.Walked.{next_call}
use Rattle.law_exclusion.specs.Exclusive.{AllKeepVersions, IsAsReadAt, IsExclusive, OpensUpgrade}
use Rattle.law_exclusion.specs.Learnt.{Learnt, learnt_of}
use Rattle.law_exclusion.proofs.Known.{IsUnwritten, knows_at, part_at, sync_so, world}
use Rattle.law_exclusion.proofs.Sessions.{course_at, course_phase, matched, may_call, sync_told}
use Rattle.law_exclusion.proofs.Growth.{has_version, not_empty}
use Rattle.law_exclusion.proofs.Learning.{IsReadAt}
use Rattle.law_exclusion.proofs.Places.{tree-run}
use Rattle.law_exclusion.proofs.Trees.{IsSo}

version_read : (version : ℕ) (vs : List ℕ) → has_version version vs ≡ true → vs ≢ []
version_read version [] h = cc
version_read version (v ∷ vs) h = not_empty v vs

-- an upgrade writes behind what it has read
write_read : (s : UpgradeStage) (call : Call) (l : Learnt) → awaited s ≡ Some call →
    is_guarded_call call ≡ true → IsReadAt s l → l.versions ≢ []
write_read Reads call l next guarded h = cc
write_read ReadsOld call l next guarded h = cc
write_read (At step info) call l next guarded h = h
write_read (Gets ids info) call l next guarded h = h
write_read Upgraded call l next guarded h = cc
write_read Stuck call l next guarded h = cc

module _ (h : History) (honest : IsHonest h) (timely : IsTimely h) (keep : AllKeepLocks h)
    (versions : AllKeepVersions h) where
  abbrev learnt : ℕ → List ℕ → Learnt
  learnt place client = learnt_of (part_at h honest timely keep versions place client)

  as_read : (place : ℕ) (client : List ℕ) → (learnt place client).versions ≢ [] →
      IsSo (world h honest timely keep versions place).tree (learnt place client) →
      IsAsReadAt h place client
  as_read place client read so = record {
    read = read;
    each = subst (λ (t : Tree). All (λ (v : ℕ). tree_version t ≡ Some v)
        (learnt place client).versions) (tree-run (opening h.opening) (take place h.steps))
        so.versions;
  }

  sync : (place : ℕ) (client : List ℕ) (stamp : ℕ) → WritesAt h place client →
      Holds h place client Sync stamp → IsAsReadAt h place client
  sync place client stamp write held =
      let s = write.step in
      let own : phase_at s.client (take place h.steps) ≡ Held Sync stamp =
      ap (λ (c : List ℕ). phase_at c (take place h.steps)) write.by ∙ held in
      let told = sync_told h versions place s write.call stamp write.here
      write.landed write.guarded own in
      let read = version_read told.version (learnt place s.client).versions
      ((matched h versions place s.client).told told.version told.is).read in
      as_read place client
      (subst (λ (c : List ℕ). (learnt place c).versions ≢ []) write.by read)
      (sync_so h honest timely keep versions place client stamp
      (knows_at h honest timely keep versions place client) write held)

  -- an earlier write of the session is one of the same upgrade
  earlier_upgrades : (place : ℕ) (client : List ℕ) (session q : ℕ) →
      Upgrades h place client session → q < place → WritesAt h q client →
      session_at client (take q h.steps) ≡ session_at client (take place h.steps) →
      Upgrades h q client session
  earlier_upgrades place client session q upgrades lt write same =
      let lease = write_lease h honest timely keep q client write in
      let on = later h honest timely keep client q place (omega arith) in
      let count = count-at h honest timely keep client q
      ∙ (same ∙ sym (count-at h honest timely keep client place)) in
      let holds = kind_at h honest timely keep place client Exclusive upgrades.stamp
      upgrades.holds in
      let kind : lease.kind ≡ Exclusive = elim ((on.same count).lease lease.kind
      (kind_at h honest timely keep q client lease.kind lease.stamp lease.held)) [
        | inl past ↦ no_kind Exclusive (sym (past_none
            (phase_in (world h honest timely keep versions place) client) past) ∙ holds)
        | inr i ↦ let same : Some lease.kind ≡ Some Exclusive = sym i.0 ∙ holds in cc
      ] in
      record {
        writes = write;
        stamp = lease.stamp;
        holds = subst (λ (k : LockKind). Holds h q client k lease.stamp) kind lease.held;
        numbered = same ∙ upgrades.numbered;
      }

  upgrade_read : (place : ℕ) (client : List ℕ) (stamp : ℕ) → WritesAt h place client →
      Holds h place client Exclusive stamp → (learnt place client).versions ≢ []
  upgrade_read place client stamp write held =
      let s = write.step in
      let c = course_at h versions place s.client in
      let phase : c.lease.phase ≡ Held Exclusive stamp =
      course_phase h versions place s.client
      ∙ (ap (λ (d : List ℕ). phase_at d (take place h.steps)) write.by ∙ held) in
      let work : is_work c.lease.phase (role_of s.client write.call) ≡ true =
      rw (phase, guarded_plain s.client write.call write.guarded) refl in
      let next = next_call s.client c write.call stamp phase work
      (may_call h versions place s write.call write.here write.landed) in
      subst (λ (d : List ℕ). (learnt place d).versions ≢ []) write.by
      (write_read c.stage write.call (learnt place s.client) next.next write.guarded
      (matched h versions place s.client).stage)

  upgrade : (place : ℕ) (client : List ℕ) (session : ℕ) → OpensUpgrade h place client session →
      IsAsReadAt h place client
  upgrade place client session opens =
      let u = opens.upgrades in
      let unwritten : IsUnwritten h honest timely keep versions place client Exclusive =
      λ e q lt write same.
      let early = opens.first q (earlier_upgrades place client session q u lt write same) in
      omega arith in
      as_read place client (upgrade_read place client u.stamp u.writes u.holds)
      ((knows_at h honest timely keep versions place client).so Exclusive
      (record {
        held = kind_at h honest timely keep place client Exclusive u.stamp u.holds;
        unspent = write_unspent h honest timely keep place client Exclusive u.stamp u.writes
            u.holds;
      })
      unwritten)

  pub exclusive_in : IsExclusive h
  exclusive_in = record {
    apart = apart_in h honest timely keep;
    as_read = record { sync = sync; upgrade = upgrade };
  }
