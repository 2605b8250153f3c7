-- Where in a history a client is shown the locks, and what it was shown.
use Rattle.std.proofs.Common.{◌≡◌, ◌⊎◌, ◌∙◌, refl, sym, ap, subst, arith, inl, inr, ℕ, zero, suc, List, [], ◌∷◌, ◌++◌, append_assoc, length, length-append, Bool, true, false, cond, Some}
use Rattle.std.specs.Prelude.{bytes_eq, take, slice_get}
use Rattle.std.proofs.lemmas.Slice.Eq.{bytes_eq-Decides}
use Rattle.jop_base.specs.declared.dir.Dir.TheVariants.{Locks}
use Rattle.jop_base.specs.declared.lock_name.LockKind.{LockKind}
use Rattle.jop_target.specs.History.{History, Step, Happening, Begins, Answered, Unheard, Changed, Ends, Stopped, IsHonest, IsHonestFrom, IsHonestReply, landed_call, tree_with, tree_from, tree_at, noted, part_of}
use Rattle.jop_target.specs.Store.{entries_in, reply_of}
use Rattle.jop_target.specs.declared.call.Call.TheVariants.{List as ListDir}
use Rattle.jop_target.specs.declared.event.Event.{Event}
use Rattle.jop_target.specs.declared.event.Event.TheVariants.{Began, Sent, Called, Made, Ended}
use Rattle.jop_target.specs.declared.reply.Listing.{Listing}
use Rattle.jop_target.specs.declared.reply.Reply.TheVariants.{Listed}
use Rattle.jop_target.specs.declared.tree.Tree.{Tree}
use Rattle.lease.specs.declared.lock.Lock.{Lock}
use Rattle.lease.specs.Blocked.{IsShown, StandsInTheWay, NamesALiveLock}
use Rattle.lease.specs.Locks.{blocking_in}
use Rattle.lease.proofs.Blocks.{stands_in_the_way}

-- ---- what is shown is what stands there

honest_at : (tree : Tree) (now : ℕ) (ss : List Step) (place : ℕ) (s : Step) →
    IsHonestFrom tree now ss → slice_get ss place ≡ Some s →
    IsHonestReply (tree_from tree (take place ss)) s.moment s.happens
unfolding tree_from
honest_at tree now [] place s h e = cc
honest_at tree now (t ∷ ss) zero s h e =
    let same : t ≡ s = cc in subst (λ (r : Step). IsHonestReply tree r.moment r.happens) same h.1
honest_at tree now (t ∷ ss) (suc place) s h e =
    honest_at (tree_with tree t.moment (landed_call t.happens)) t.moment ss place s h.2 e

-- the listing has the entries of the tree
shows : (h : History) (place : ℕ) (client : List ℕ) (listing : Listing) → IsHonest h →
    IsShown h place client listing → (now : ℕ) ×
    (listing ≡ record { now = now; entries = entries_in (tree_at h place).files Locks })
shows h place client listing honest shown =
    let reply = honest_at h.opening 0 h.steps place shown.step honest.steps shown.here in
    let told : IsHonestReply (tree_at h place) shown.step.moment
    (Answered (ListDir Locks) (Listed listing) shown.landed) = subst
    (IsHonestReply (tree_at h place) shown.step.moment) shown.listed reply in
    let seen : Listed listing ≡ Listed (record {
      now = told.1.0;
      entries = entries_in (tree_at h place).files Locks;
    }) = told.1.2 ∙ (unfold reply_of in refl) in
    (told.1.0, cc)

pub stood : (h : History) (place : ℕ) (client : List ℕ) (listing : Listing) (kind : LockKind)
    (lock : Lock) → IsHonest h → IsShown h place client listing →
    blocking_in kind client listing ≡ Some lock →
    StandsInTheWay (tree_at h place).files listing.now kind client lock
stood h place client listing kind lock honest shown blocks =
    let is = shows h place client listing honest shown in
    subst (λ (l : Listing). blocking_in kind client l ≡ Some lock →
    StandsInTheWay (tree_at h place).files l.now kind client lock) (sym is.1)
    (stands_in_the_way kind client is.0 (tree_at h place).files lock) blocks

-- ---- an event of a part has its place

-- the client's step at a place notes this listing, behind these events
record Noted (steps : List Step) (client : List ℕ) (before : List Event)
    (listing : Listing) : Type 0 where
  place : ℕ
  step : Step
  landed : Bool
  here : slice_get steps place ≡ Some step
  by : step.client ≡ client
  listed : step.happens ≡ Answered (ListDir Locks) (Listed listing) landed
  so_far : part_of client (take place steps) ≡ before

no_event : (before after : List Event) (e : Event) → [] ≡ before ++ e ∷ after → ⊥
no_event before after e h = omega (arith, ap length h, length-append before (e ∷ after))

later_on : (s : Step) (ss : List Step) (client : List ℕ) (before : List Event) (listing : Listing)
    (n : Noted ss client before listing) (whole : List Event) →
    part_of client (take (suc n.place) (s ∷ ss)) ≡ whole → Noted (s ∷ ss) client whole listing
later_on s ss client before listing n whole is =
    record {
      place = suc n.place;
      step = n.step;
      landed = n.landed;
      here = n.here;
      by = n.by;
      listed = n.listed;
      so_far = is;
    }

-- the happening that is noted as a listing
noted_listing : (x : Happening) (e : Event) (listing : Listing) → noted x ≡ e ∷ [] →
    e ≡ Called (ListDir Locks) (Listed listing) → (landed : Bool) × (x ≡ Answered (ListDir Locks)
    (Listed listing) landed)
noted_listing (Answered call reply landed) e listing h k = (landed, cc)
noted_listing x e listing h k = cc

-- what a client notes is nothing, or one event
notes : (x : Happening) → (noted x ≡ []) ⊎ ((e : Event) × (noted x ≡ e ∷ []))
notes Begins = inr (Began, refl)
notes (Answered call reply landed) = inr (Called call reply, refl)
notes (Unheard call landed) = inr (Sent call, refl)
notes (Changed number) = inr (Made number, refl)
notes Ends = inr (Ended, refl)
notes Stopped = inl refl

-- the events of the later steps have their places
abbrev FindsLater : List Step → List ℕ → List Event → Listing → Type 0
FindsLater ss client after listing =
    (before : List Event) → part_of client ss ≡ before ++ Called (ListDir Locks) (Listed listing)
    ∷ after → Noted ss client before listing

noted_first : (client : List ℕ) (s : Step) (ss : List Step) (before after : List Event)
    (listing : Listing) (first : Event) → bytes_eq s.client client ≡ true →
    noted s.happens ≡ first ∷ [] → FindsLater ss client after listing →
    first ∷ part_of client ss ≡ before ++ Called (ListDir Locks) (Listed listing) ∷ after →
    Noted (s ∷ ss) client before listing
noted_first client s ss [] after listing first own is later h =
    let it = noted_listing s.happens first listing is cc in
    record {
      place = 0;
      step = s;
      landed = it.0;
      here = refl;
      by = (bytes_eq-Decides s.client client).0 own;
      listed = it.1;
      so_far = refl;
    }
noted_first client s ss (b ∷ bs) after listing first own is later h =
    let n = later bs cc in
    let same : first ≡ b = cc in
    later_on s ss client bs listing n (b ∷ bs) (rw (own, is, n.so_far, same) refl)

noted_own : (client : List ℕ) (s : Step) (ss : List Step) (before after : List Event)
    (listing : Listing) → bytes_eq s.client client ≡ true → FindsLater ss client after listing →
    noted s.happens ++ part_of client ss ≡ before ++ Called (ListDir Locks)
    (Listed listing) ∷ after → Noted (s ∷ ss) client before listing
noted_own client s ss before after listing own later h = elim (notes s.happens) [
  | inl none ↦
      let n = later before (rw none at h) in
      later_on s ss client before listing n before (rw (own, none) n.so_far)
  | inr one ↦ noted_first client s ss before after listing one.0 own one.1 later (rw (one.1) at h)
]

noted_here : (client : List ℕ) (s : Step) (ss : List Step) (before after : List Event)
    (listing : Listing) (t : Bool) → bytes_eq s.client client ≡ t →
    FindsLater ss client after listing → cond t (noted s.happens ++ part_of client ss)
    (part_of client ss) ≡ before ++ Called (ListDir Locks) (Listed listing) ∷ after →
    Noted (s ∷ ss) client before listing
noted_here client s ss before after listing true e later h =
    noted_own client s ss before after listing e later h
noted_here client s ss before after listing false e later h =
    let n = later before h in
    later_on s ss client before listing n before (rw e n.so_far)

noted_at : (client : List ℕ) (steps : List Step) (before after : List Event) (listing : Listing) →
    part_of client steps ≡ before ++ Called (ListDir Locks) (Listed listing) ∷ after →
    Noted steps client before listing
noted_at client [] before after listing h = absurd (no_event before after _ h)
noted_at client (s ∷ ss) before after listing h =
    noted_here client s ss before after listing (bytes_eq s.client client) refl
    (λ earlier. noted_at client ss earlier after listing) h

-- a trail in which a listing shows a lock in the way names one that stood there
pub names : (kind : LockKind) (client : List ℕ) (before after : List Event) (listing : Listing)
    (lock : Lock) → blocking_in kind client listing ≡ Some lock →
    NamesALiveLock kind client (before ++ Called (ListDir Locks)
    (Listed listing) ∷ after) lock listing.now
names kind client before after listing lock blocks h honest ends =
    let whole = ends.part ∙ sym (append_assoc ends.earlier before
    (Called (ListDir Locks) (Listed listing) ∷ after)) in
    let n = noted_at client h.steps (ends.earlier ++ before) after listing whole in
    let shown : IsShown h n.place client listing = record
    { step = n.step; landed = n.landed; here = n.here; by = n.by; listed = n.listed } in
    record {
      place = n.place;
      listing = listing;
      shown = shown;
      at = refl;
      in_trail = rw (n.so_far) (omega (arith, length-append ends.earlier before));
      stood = stood h n.place client listing kind lock honest shown blocks;
    }
