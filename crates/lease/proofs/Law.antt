-- The law of exclusion, from the invariant at each place of a history.
use Rattle.std.proofs.Common.{◌≡◌, ◌≤◌, ◌+◌, ◌∙◌, refl, ap, sym, subst, arith, inl, inr, ℕ, zero, suc, List, [], ◌∷◌, true, Some}
use Rattle.std.specs.Prelude.{take, slice_get}
use Rattle.jop_base.specs.declared.lock_name.LockKind.{LockKind}
use Rattle.jop_base.specs.declared.lock_name.LockKind.TheVariants.{Exclusive}
use Rattle.jop_base.specs.declared.path.Path.TheVariants.{Lock as LockFile, Temp as TempFile}
use Rattle.jop_target.specs.History.{Step, History, IsHonest, WritesAt, is_guarded_call}
use Rattle.jop_target.specs.declared.call.Call.{Call}
use Rattle.jop_target.specs.declared.call.Call.TheVariants.{Put, Delete, PutBlob}
use Rattle.lease.specs.Discipline.{Session}
use Rattle.lease.specs.Exclusion.{IsTimely, AllKeepLocks, IsHeldApart, IsInSpan, Holds, phase_at, session_at}
use Rattle.lease.specs.Locks.{LIFE}
use Rattle.lease.specs.Phase.{Phase, Held, Plain, role_of, allows}
use Rattle.lease.proofs.Invariant.{Invariant, IsSpentAt, IsSpent, Later, phase_in, steps, invariant_next, later-refl, later-trans, later-step, past_none, no_kind, same_or_not}
use Rattle.lease.proofs.Moves.{kind_held, is_past}
use Rattle.lease.proofs.World.{World, opening, happens, run, Allows, AllowsAll, allows_all, landed_allowed, at-run, count-run}

-- ---- places

abbrev pub world_at : World → List Step → ℕ → World
world_at w ss place = run w (take place ss)

-- at the opening no client has done anything
invariant_first : (h : History) → Invariant (opening h.opening)
invariant_first h = record { stands = λ client. tt; spent = λ a b k l n ha hb x. no_kind k ha }

invariant_at : (w : World) (ss : List Step) (place : ℕ) → AllowsAll w ss → Invariant w →
    Invariant (world_at w ss place)
invariant_at w ss zero ok h = h
invariant_at w [] (suc place) ok h = h
invariant_at w (s ∷ ss) (suc place) ok h =
    invariant_at (happens w s) ss place ok.1 (invariant_next s.client w (happens w s)
    (steps w s ok.0) h)

allows_at : (w : World) (ss : List Step) (place : ℕ) (s : Step) → AllowsAll w ss →
    slice_get ss place ≡ Some s → Allows (world_at w ss place) s
allows_at w [] place s ok e = cc
allows_at w (t ∷ ss) zero s ok e =
    let same : t ≡ s = cc in subst (λ (r : Step). Allows w r) same ok.0
allows_at w (t ∷ ss) (suc place) s ok e = allows_at (happens w t) ss place s ok.1 e

later_from : (client : List ℕ) (w : World) (ss : List Step) (place : ℕ) → AllowsAll w ss →
    Later client w (world_at w ss place)
later_from client w ss zero ok = later-refl client w
later_from client w [] (suc place) ok = later-refl client w
later_from client w (s ∷ ss) (suc place) ok =
    later-trans client w (happens w s) (world_at (happens w s) ss place)
    (later-step s.client client w (happens w s) (steps w s ok.0))
    (later_from client (happens w s) ss place ok.1)

later_at : (client : List ℕ) (w : World) (ss : List Step) (i j : ℕ) → AllowsAll w ss → i ≤ j →
    Later client (world_at w ss i) (world_at w ss j)
later_at client w ss zero j ok m = later_from client w ss j ok
later_at client w ss (suc i) zero ok m = absurd (omega arith)
later_at client w [] (suc i) (suc j) ok m = later-refl client w
later_at client w (s ∷ ss) (suc i) (suc j) ok m =
    later_at client (happens w s) ss i j ok.1 (omega arith)

-- ---- who may write

-- a phase in which a client has a lease
pub record HasLease (phase : Phase) : Type 0 where
  pub kind : LockKind
  pub stamp : ℕ
  pub held : phase ≡ Held kind stamp

pub guarded_plain : (client : List ℕ) (call : Call) → is_guarded_call call ≡ true →
    role_of client call ≡ Plain
guarded_plain client (Put (LockFile name) content) g = cc
guarded_plain client (Put (TempFile id) content) g = cc
guarded_plain client (Put path content) g = refl
guarded_plain client (Delete (LockFile name)) g = cc
guarded_plain client (Delete (TempFile id)) g = cc
guarded_plain client (Delete path) g = refl
guarded_plain client (PutBlob id len) g = refl
guarded_plain client call g = cc

pub plain_lease : (client : List ℕ) (phase : Phase) → allows client phase Plain ≡ true → HasLease phase
plain_lease client (Held kind stamp) a = record { kind = kind; stamp = stamp; held = refl }
plain_lease client phase a = cc

-- guarded calls are made under a lease alone
pub has_lease : (client : List ℕ) (phase : Phase) (call : Call) → is_guarded_call call ≡ true →
    allows client phase (role_of client call) ≡ true → HasLease phase
has_lease client phase call g a = plain_lease client phase (rw (guarded_plain client call g) at a)

-- ---- the law

-- what the machine says of a history
module _ (h : History) (honest : IsHonest h) (timely : IsTimely h) (keep : AllKeepLocks h) where
  abbrev pub at : ℕ → World
  at place = world_at (opening h.opening) h.steps place

  allowed : AllowsAll (opening h.opening) h.steps
  allowed = allows_all (opening h.opening) h.steps honest.steps keep.each

  pub phase-at : (client : List ℕ) (place : ℕ) →
      phase_in (at place) client ≡ phase_at client (take place h.steps)
  phase-at client place =
      ap (λ (s : Session). s.phase) (at-run client (opening h.opening) (take place h.steps))

  pub count-at : (client : List ℕ) (place : ℕ) →
      (at place).count client ≡ session_at client (take place h.steps)
  count-at client place =
      let e = count-run client (opening h.opening) (take place h.steps) in omega arith

  pub step_ok : (place : ℕ) (s : Step) → slice_get h.steps place ≡ Some s → Allows (at place) s
  step_ok place s e = allows_at (opening h.opening) h.steps place s allowed e

  pub later : (client : List ℕ) (i j : ℕ) → i ≤ j → Later client (at i) (at j)
  later client i j m = later_at client (opening h.opening) h.steps i j allowed m

  pub invariant : (place : ℕ) → Invariant (at place)
  invariant place = invariant_at (opening h.opening) h.steps place allowed (invariant_first h)

  -- who writes has a lease
  pub write_lease : (place : ℕ) (client : List ℕ) → WritesAt h place client →
      HasLease (phase_at client (take place h.steps))
  write_lease place client write =
      let s = write.step in
      let a = landed_allowed s.client ((at place).at s.client) s.happens write.call
      (step_ok place s write.here).lawful write.landed in
      let l = has_lease s.client (phase_in (at place) s.client) write.call write.guarded a in
      subst HasLease (phase-at client place) (subst
      (λ (c : List ℕ). HasLease (phase_in (at place) c)) write.by l)

  -- a lease under which its client writes isn't spent
  pub write_unspent : (place : ℕ) (client : List ℕ) (kind : LockKind) (stamp : ℕ) →
      WritesAt h place client → Holds h place client kind stamp → IsSpentAt (at place) client → ⊥
  write_unspent place client kind stamp write held spent =
      let end : stamp + LIFE ≤ (at place).now = subst
      (IsSpent (at place).tree.files (at place).now client) (phase-at client place ∙ held)
      spent in
      let now = (step_ok place write.step write.here).later in
      let time = timely.each place client kind stamp write held in
      omega arith

  pub kind_at : (place : ℕ) (client : List ℕ) (kind : LockKind) (stamp : ℕ) →
      Holds h place client kind stamp → kind_held (phase_in (at place) client) ≡ Some kind
  kind_at place client kind stamp held = ap kind_held (phase-at client place ∙ held)

  -- within a span the client has its lease, and it isn't spent
  record InSpan (place : ℕ) (client : List ℕ) (session : ℕ) : Type 0 where
    lease : kind_held (phase_in (at place) client) ≡ Some Exclusive
    unspent : IsSpentAt (at place) client → ⊥
    numbered : session_at client (take place h.steps) ≡ session

  in_span : (place : ℕ) (client : List ℕ) (session : ℕ) → IsInSpan h place client session →
      InSpan place client session
  in_span place client session span =
      let a = later client span.first place span.after in
      let b = later client place span.last span.before in
      let x = count-at client span.first ∙ span.opens.numbered in
      let y = count-at client place in
      let z = count-at client span.last ∙ span.closes.numbered in
      let p = a.count in
      let q = b.count in
      let f = a.same (omega arith) in
      let g = b.same (omega arith) in
      let ends : is_past (phase_in (at span.last) client) ≡ true →
      ⊥ = λ d. no_kind Exclusive (sym (past_none (phase_in (at span.last) client) d) ∙
      kind_at span.last client Exclusive span.closes.stamp span.closes.holds) in
      elim (f.lease Exclusive
      (kind_at span.first client Exclusive span.opens.stamp span.opens.holds)) [
        | inl d ↦ absurd (ends (g.past d))
        | inr i ↦ record {
          lease = i.0;
          unspent = λ s. elim (g.lease Exclusive i.0) [
            | inl d ↦ ends d
            | inr j ↦ write_unspent span.last client Exclusive span.closes.stamp span.closes.writes
                span.closes.holds (j.1 s)
          ];
          numbered = omega arith;
        }
      ]

  alone : (place : ℕ) (client other : List ℕ) (session : ℕ) → IsInSpan h place client session →
      WritesAt h place other → other ≡ client
  alone place client other session span write =
      let own = in_span place client session span in
      let lease = write_lease place other write in
      elim (same_or_not other client) [
        | inl e ↦ e
        | inr n ↦ elim ((invariant place).spent client other Exclusive lease.kind (λ e. n (sym e))
            own.lease (kind_at place other lease.kind lease.stamp lease.held) refl) [
              | inl s ↦ absurd (own.unspent s)
              | inr s ↦ absurd (write_unspent place other lease.kind lease.stamp write lease.held s)
            ]
      ]

  apart : (place : ℕ) (client other : List ℕ) (session number : ℕ) →
      IsInSpan h place client session → IsInSpan h place other number →
      (client ≡ other) × (session ≡ number)
  apart place client other session number one two =
      let a = in_span place client session one in
      let b = in_span place other number two in
      elim (same_or_not client other) [
        | inl e ↦ (
          e,
          sym a.numbered ∙ ap (λ (c : List ℕ). session_at c (take place h.steps)) e ∙
              b.numbered,
        )
        | inr n ↦ elim ((invariant place).spent client other Exclusive Exclusive n a.lease b.lease
            refl) [
              | inl s ↦ absurd (a.unspent s)
              | inr s ↦ absurd (b.unspent s)
            ]
      ]

  pub apart_in : IsHeldApart h
  apart_in = record { alone = alone; apart = apart }
