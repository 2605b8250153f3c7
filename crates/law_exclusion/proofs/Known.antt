-- At every place of a history, what a session has read of the version is so, as long as its lease
-- isn't spent and it has made no write of an upgrade.
use Rattle.std.proofs.Common.{◌≡◌, ◌<◌, ◌∙◌, refl, sym, ap, subst, arith, inl, inr, ℕ, zero, suc, List, ◌++◌, true, Option, Some, None}
use Rattle.std.specs.Prelude.{bytes_eq, take, slice_get}
use Rattle.std.proofs.lemmas.Slice.Eq.{bytes_eq-Decides}
use Rattle.jop_base.specs.declared.lock_name.LockKind.{LockKind}
use Rattle.jop_base.specs.declared.lock_name.LockKind.TheVariants.{Sync, Exclusive}
use Rattle.jop_target.specs.History.{History, Step, Begins, IsHonest, WritesAt, is_guarded_call, landed_call, noted, part_of}
use Rattle.jop_target.specs.declared.call.Call.{Call}
use Rattle.jop_target.specs.declared.event.Event.{Event}
use Rattle.lease.specs.Discipline.{Session, session_from}
use Rattle.lease.specs.Exclusion.{AllKeepLocks, IsTimely, phase_at, session_at}
use Rattle.lease.specs.Phase.{Phase, Held}
use Rattle.lease.proofs.Invariant.{IsSpent, IsSpentAt, no_kind, other_spent, phase_in, same_or_not, steps}
use Rattle.lease.proofs.Law.{HasLease, at, invariant, phase-at, step_ok, write_lease, write_unspent}
use Rattle.lease.proofs.Moves.{kind_held}
use Rattle.lease.proofs.World.{World, happens, opening, run}
use Rattle.law_exclusion.specs.Target.{tree_version}
use Rattle.law_exclusion.specs.Exclusive.{AllKeepVersions}
use Rattle.law_exclusion.specs.Learnt.{Learnt, learnt_from, learnt_of, nothing_learnt}
use Rattle.law_exclusion.proofs.Growth.{learnt_from-append, of_version}
use Rattle.law_exclusion.proofs.Moved.{HasUnspent}
use Rattle.law_exclusion.proofs.Own.{KeepsTold, Knows, LandsKeeping, own_knows, other_knows}
use Rattle.law_exclusion.proofs.Trees.{IsSo}
use Rattle.law_exclusion.proofs.Places.{part-other, run-next, take_next, take_past}
use Rattle.law_exclusion.proofs.Landed.{excludes_none, landed_begins, not_exclusive, session-other, session-own}
use Rattle.law_exclusion.proofs.Sessions.{matched, part-next, sync_told}

-- ---- a history

-- what is known of a client in a world, by its part
abbrev KnowsIn : World → List Event → List ℕ → (LockKind → Type 0) → Type 0
KnowsIn w es client Reliable =
    Knows w.tree w.now client (phase_in w client) (learnt_of es) Reliable

module _ (h : History) (honest : IsHonest h) (timely : IsTimely h) (keep : AllKeepLocks h)
    (versions : AllKeepVersions h) where
  abbrev pub world : ℕ → World
  world place = at h honest timely keep place

  abbrev pub part_at : ℕ → List ℕ → List Event
  part_at place client = part_of client (take place h.steps)

  -- ---- who writes under a sync lease

  abbrev written : (place : ℕ) (s : Step) (call : Call) → slice_get h.steps place ≡ Some s →
      landed_call s.happens ≡ Some call → is_guarded_call call ≡ true → WritesAt h place s.client
  written place s call here landed guarded = record {
    step = s;
    call = call;
    here = here;
    by = refl;
    landed = landed;
    guarded = guarded;
  }

  -- the client has made no write in its session, unless its lease is a sync lease
  abbrev pub IsUnwritten : ℕ → List ℕ → LockKind → Type 0
  IsUnwritten place client k =
      k ≡ Exclusive → (q : ℕ) → q < place → WritesAt h q client →
      session_at client (take q h.steps) ≡ session_at client (take place h.steps) → ⊥

  abbrev pub KnowsAt : ℕ → List ℕ → Type 0
  KnowsAt place client =
      KnowsIn (world place) (part_at place client) client (IsUnwritten place client)

  pub sync_so : (place : ℕ) (client : List ℕ) (stamp : ℕ) → KnowsAt place client →
      WritesAt h place client → phase_at client (take place h.steps) ≡ Held Sync stamp →
      IsSo (world place).tree (learnt_of (part_at place client))
  sync_so place client stamp knows write held = knows.so Sync
      (record {
        held = ap kind_held (phase-at h honest timely keep client place ∙ held);
        unspent = write_unspent h honest timely keep place client Sync stamp write held;
      })
      (λ e. absurd (not_exclusive e))

  keeping : (place : ℕ) (s : Step) (call : Call) (stamp : ℕ) → KnowsAt place s.client →
      slice_get h.steps place ≡ Some s → landed_call s.happens ≡ Some call →
      is_guarded_call call ≡ true → phase_at s.client (take place h.steps) ≡ Held Sync stamp →
      KeepsTold (world place).tree call
  keeping place s call stamp knows here landed guarded held =
      let told = sync_told h versions place s call stamp here landed guarded held in
      let so = sync_so place s.client stamp knows (written place s call here landed guarded) held in
      let read = (matched h versions place s.client).told told.version told.is in
      record {
        version = told.version;
        known = read.known;
        keeps = told.keeps;
        at = of_version (λ (v : ℕ). tree_version (world place).tree ≡ Some v) told.version
            (learnt_of (part_at place s.client)).versions so.versions read.read;
      }

  -- ---- from a place to the next

  module _ (place : ℕ) (s : Step) (here : slice_get h.steps place ≡ Some s)
      (knows : (client : List ℕ) → KnowsAt place client) where
    lease_of : (call : Call) → landed_call s.happens ≡ Some call → is_guarded_call call ≡ true →
        HasLease (phase_at s.client (take place h.steps))
    lease_of call landed guarded =
        write_lease h honest timely keep place s.client (written place s call here landed guarded)

    kind_is : (kind : LockKind) (stamp : ℕ) →
        phase_at s.client (take place h.steps) ≡ Held kind stamp →
        kind_held (phase_in (world place) s.client) ≡ Some kind
    kind_is kind stamp held = ap kind_held (phase-at h honest timely keep s.client place ∙ held)

    sync_keeping : (call : Call) → landed_call s.happens ≡ Some call →
        is_guarded_call call ≡ true → (lease : HasLease (phase_at s.client (take place h.steps))) →
        lease.kind ≡ Sync → KeepsTold (world place).tree call
    sync_keeping call landed guarded lease sync =
        keeping place s call lease.stamp (knows s.client) here landed guarded
        (subst (λ (k : LockKind). phase_at s.client (take place h.steps) ≡ Held k lease.stamp) sync
        lease.held)

    -- the client itself
    own_back : ¬ (s.happens ≡ Begins) → (k : LockKind) →
        IsUnwritten (suc place) s.client k → IsUnwritten place s.client k
    own_back n k unwritten e q lt write same =
        unwritten e q (omega arith) write (same
        ∙ (sym (session-own (take place h.steps) s n)
        ∙ ap (session_at s.client) (sym (take_next h.steps place s here))))

    own_keeps : (k : LockKind) → IsUnwritten (suc place) s.client k →
        kind_held (phase_in (world place) s.client) ≡ Some k →
        LandsKeeping (world place).tree (landed_call s.happens)
    own_keeps Exclusive unwritten held call landed guarded =
        absurd (unwritten refl place (omega arith) (written place s call here landed guarded)
        (sym (session-own (take place h.steps) s (landed_begins s.happens call landed))
        ∙ ap (session_at s.client) (sym (take_next h.steps place s here))))
    own_keeps Sync unwritten held call landed guarded =
        let lease = lease_of call landed guarded in
        let same : Some lease.kind ≡ Some Sync = sym (kind_is lease.kind lease.stamp lease.held)
        ∙ held in
        sync_keeping call landed guarded lease cc

    at-own : (happens (world place) s).at s.client
        ≡ session_from s.client ((world place).at s.client) (noted s.happens)
    at-own =
        let same : bytes_eq s.client s.client ≡ true = (bytes_eq-Decides s.client s.client).1
        refl in
        rw same refl

    own_after : KnowsIn (happens (world place) s) (part_at place s.client ++ noted s.happens)
        s.client (IsUnwritten (suc place) s.client)
    own_after =
        let w = world place in
        let v = happens (world place) s in
        let l = learnt_of (part_at place s.client) in
        let ok = step_ok h honest timely keep place s here in
        let R = IsUnwritten (suc place) s.client in
        let after = own_knows s.client w.now s.moment w.tree (w.at s.client) l
        (IsUnwritten place s.client) R s.happens ok.later ok.honest
        ok.lawful (knows s.client) (record { back = own_back; keeps = own_keeps }) in
        subst (λ (t : Session). Knows v.tree v.now s.client t.phase
        (learnt_of (part_at place s.client ++ noted s.happens)) R) (sym at-own)
        (subst (λ (m : Learnt). Knows v.tree v.now s.client
        (session_from s.client (w.at s.client) (noted s.happens)).phase m R)
        (sym (learnt_from-append nothing_learnt (part_at place s.client) (noted s.happens))) after)

    -- another client
    other_keeps : (client : List ℕ) → ¬ (s.client ≡ client) → (k : LockKind) →
        HasUnspent (world place).tree.files (world place).now client
        (phase_in (world place) client) k → LandsKeeping (world place).tree (landed_call s.happens)
    other_keeps client n k has call landed guarded =
        let write = written place s call here landed guarded in
        let lease = lease_of call landed guarded in
        sync_keeping call landed guarded lease (excludes_none k lease.kind (λ x.
        elim ((invariant h honest timely keep place).spent client s.client k lease.kind
        (λ e. n (sym e)) has.held (kind_is lease.kind lease.stamp lease.held) x) [
          | inl spent ↦ has.unspent spent
          | inr spent ↦ write_unspent h honest timely keep place s.client lease.kind lease.stamp
              write lease.held spent
        ]))

    other_back : (client : List ℕ) → ¬ (s.client ≡ client) → (k : LockKind) →
        IsUnwritten (suc place) client k → IsUnwritten place client k
    other_back client n k unwritten e q lt write same =
        unwritten e q (omega arith) write (same
        ∙ (sym (session-other client (take place h.steps) s n)
        ∙ ap (session_at client) (sym (take_next h.steps place s here))))

    other_after : (client : List ℕ) → ¬ (s.client ≡ client) →
        KnowsIn (happens (world place) s) (part_at place client) client
        (IsUnwritten (suc place) client)
    other_after client n =
        let w = world place in
        let v = happens (world place) s in
        let l = learnt_of (part_at place client) in
        let R = IsUnwritten (suc place) client in
        let moved = steps w s (step_ok h honest timely keep place s here) in
        let same = moved.others_at client n in
        let spent : IsSpentAt w client → IsSpent v.tree.files v.now client (phase_in w client) =
        λ was. subst (IsSpent v.tree.files v.now client) same
        (other_spent s.client client w v moved n was) in
        subst (λ (p : Phase). Knows v.tree v.now client p l R) (sym same)
        (other_knows w.tree w.now s.moment client (phase_in w client) l (landed_call s.happens)
        (IsUnwritten place client) R (knows client) (record {
          back = other_back client n;
          spent = spent;
          keeps = other_keeps client n;
        }))

    world-next : world (suc place) ≡ happens (world place) s
    world-next =
        ap (run (opening h.opening)) (take_next h.steps place s here)
        ∙ run-next (opening h.opening) (take place h.steps) s

    after : (client : List ℕ) → KnowsAt (suc place) client
    after client = elim (same_or_not s.client client) [
      | inl e ↦ subst (KnowsAt (suc place)) e
          (subst (λ (v : World). KnowsIn v (part_at (suc place) s.client) s.client
          (IsUnwritten (suc place) s.client)) (sym world-next)
          (subst (λ (es : List Event). KnowsIn (happens (world place) s) es s.client
          (IsUnwritten (suc place) s.client)) (sym (part-next h versions place s here)) own_after))
      | inr n ↦
          let same : part_at (suc place) client ≡ part_at place client =
          ap (part_of client) (take_next h.steps place s here)
          ∙ part-other client (take place h.steps) s n in
          subst (λ (v : World). KnowsIn v (part_at (suc place) client) client
          (IsUnwritten (suc place) client)) (sym world-next)
          (subst (λ (es : List Event). KnowsIn (happens (world place) s) es client
          (IsUnwritten (suc place) client)) (sym same) (other_after client n))
    ]

  -- past the end
  past : (place : ℕ) → slice_get h.steps place ≡ None → (client : List ℕ) →
      KnowsAt place client → KnowsAt (suc place) client
  past place none client knows =
      let same = take_past h.steps place none in
      subst (λ (ss : List Step). KnowsIn (run (opening h.opening) ss) (part_of client ss) client
      (λ (k : LockKind). k ≡ Exclusive → (q : ℕ) → q < suc place → WritesAt h q client →
      session_at client (take q h.steps) ≡ session_at client ss → ⊥)) (sym same)
      (record {
        early = knows.early;
        so = λ k has unwritten. knows.so k has (λ e q lt write at. unwritten e q (omega arith) write
            at);
      })

  first : (client : List ℕ) → KnowsAt zero client
  unfolding learnt_from
  first client = record {
    early = λ e. refl;
    so = λ k has unwritten. no_kind k has.held;
  }

  next : (place : ℕ) (o : Option Step) → slice_get h.steps place ≡ o →
      ((client : List ℕ) → KnowsAt place client) → (client : List ℕ) → KnowsAt (suc place) client
  next place None none knows client = past place none client (knows client)
  next place (Some s) here knows client = after place s here knows client

  pub knows_at : (place : ℕ) (client : List ℕ) → KnowsAt place client
  knows_at zero client = first client
  knows_at (suc place) client =
      next place (slice_get h.steps place) refl (λ other. knows_at place other) client
