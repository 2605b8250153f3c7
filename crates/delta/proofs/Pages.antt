-- What pages come to over two listings.
use Rattle.std.specs.Prelude.{ℕ, ◌≡◌, ◌≤◌, ◌<◌, List, [], ◌∷◌, Bool, true, false, ◌&&◌, ◌||◌, not, nat_lt, nat_eq, max, Contains, filter, refl, Option, Some, None}
use Rattle.std.proofs.Common.{ap, sym, ◌∙◌, subst, inl, inr, arith}
use Rattle.std.specs.BTreeSet.{BTreeSet, contains}
use Rattle.std.specs.Bool.{Decides}
use Rattle.std.proofs.lemmas.Bool.{ltb-true, eqb-true, lt-ltb, eq-eqb, or_cases, and_from, and_parts, not-true, cases_order, or_left, or_right, both_ways}
use Rattle.std.proofs.lemmas.Map.Made.{is_member-Decides}
use Rattle.std.proofs.lemmas.Slice.Eq.{bytes_eq-Decides}
use Rattle.jop_base.specs.declared.context.Context.{Context}
use Rattle.jop_target.specs.declared.reply.Listing.{Listing}
use Rattle.delta.specs.Marks.{mark_id, ids_of, is_at, is_new, latest, marks_of}
use Rattle.delta.specs.Order.{IsInOrder, IsSetOf, Lists, includes, id_cmp, mark_cmp}
use Rattle.delta.specs.Page.{IsGoneOf, IsNext, IsPageOf, IsSeenAt, IsTaken, ShowsFile}
use Rattle.delta.specs.Sets.{IsRecord, is_deleted, is_gone, is_out, is_past}
use Rattle.delta.specs.Tombs.{counts_as_deleted, recorded_in}
use Rattle.delta.specs.declared.mark.Mark.{Mark}
use Rattle.delta.specs.declared.page.Page.{Page}
use Rattle.delta.proofs.Lists.{in-cases, in-none, kept-in, kept-passes, kept-stood, made-from, made-in}
use Rattle.delta.proofs.Sorting.{has-by_cmp, lists-as, lists-ids, lists-marks, lists-one-ids, lists-one-marks, rising-none}

-- ---- each part of a page

-- a set of ids contains those that stand among them
contains-is : (ids : List (List ℕ)) (set : BTreeSet (List ℕ)) (id : List ℕ) → IsSetOf id_cmp ids set
    → contains id_cmp set id ≡ includes ids id
contains-is ids set id h = h.0 id ∙ has-by_cmp ids id

-- what is out of a set of ids isn't one of them
out-is : (ids : List (List ℕ)) (set : BTreeSet (List ℕ)) (id : List ℕ) → IsSetOf id_cmp ids set
    → is_out set id ≡ not (includes ids id)
out-is ids set id h = ap not (contains-is ids set id h)

past-is : (context : Context) (seen : BTreeSet (List ℕ)) (m : Mark) → IsSetOf id_cmp context.seen seen
    → is_past context.moment seen m ≡ is_new context m
past-is context seen m h =
    ap (λ b. nat_lt context.moment m.stamp || (nat_eq context.moment m.stamp && b)) (out-is context.seen seen m.id h)

pub taken-is : (context : Context) (seen : BTreeSet (List ℕ)) (marks new : List Mark) (taken : List (List ℕ))
    → IsSetOf id_cmp context.seen seen
    → IsInOrder mark_cmp (filter (is_past context.moment seen) marks) new → taken ≡ ids_of new
    → IsTaken context marks taken
taken-is context seen marks new taken s h e =
    let p = is_past context.moment seen in
    record {
      new = new;
      lists = lists-as new
          (λ m c. (kept-stood p marks m c, sym (past-is context seen m s) ∙ kept-passes p marks m c))
          (λ m n. kept-in p marks m n.0 (past-is context seen m s ∙ n.1))
          (lists-marks _ new h);
      ids = e;
    }

-- an id counts as deleted by the set of what is recorded just where it does by the listing
deleted-is : (tombs : Option Listing) (recorded : Option (BTreeSet (List ℕ))) (id : List ℕ)
    → IsRecord tombs recorded → is_deleted recorded id ≡ counts_as_deleted tombs id
deleted-is None None id h = refl
deleted-is (Some tombs) (Some recorded) id h = contains-is (recorded_in tombs.entries) recorded id h
deleted-is None (Some recorded) id h = absurd h
deleted-is (Some tombs) None id h = absurd h

pub gone-is : (synced : List (List ℕ)) (shown : BTreeSet (List ℕ))
    (recorded : Option (BTreeSet (List ℕ))) (marks : List Mark) (tombs : Option Listing)
    (gone : List (List ℕ))
    → IsSetOf id_cmp (ids_of marks) shown → IsRecord tombs recorded
    → IsInOrder id_cmp (filter (is_gone shown recorded) synced) gone
    → Lists id_cmp (IsGoneOf synced marks tombs) gone
gone-is synced shown recorded marks tombs gone s r h =
    let p = is_gone shown recorded in
    lists-as gone
    (λ id c.
    let is = and_parts (is_out shown id) (is_deleted recorded id) (kept-passes p synced id c) in (
      kept-stood p synced id c,
      sym (out-is (ids_of marks) shown id s) ∙ is.0,
      sym (deleted-is tombs recorded id r) ∙ is.1,
    ))
    (λ id n. kept-in p synced id n.0
    (and_from (is_out shown id) (is_deleted recorded id)
    (out-is (ids_of marks) shown id s ∙ n.1) (deleted-is tombs recorded id r ∙ n.2)))
    (lists-ids _ gone h)

marked : (moment : ℕ) (id : List ℕ) (m : Mark) → m.stamp ≡ moment → m.id ≡ id
    → m ≡ record { stamp = moment; id = id }
marked moment id m s i = λ k. record { stamp = s k; id = i k }

seen-to : (now moment : ℕ) (marks : List Mark) (id : List ℕ) → moment < now
    → Contains (ids_of (filter (is_at moment) marks)) id → IsSeenAt now moment marks id
seen-to now moment marks id l c =
    let k = made-from mark_id (filter (is_at moment) marks) id c in (
      l,
      subst (λ m. Contains marks m)
          (marked moment id k.x (eqb-true _ _ (kept-passes (is_at moment) marks k.x k.stood)) k.is)
          (kept-stood (is_at moment) marks k.x k.stood),
    )

seen-from : (now moment : ℕ) (marks : List Mark) (id : List ℕ)
    → IsSeenAt now moment marks id → Contains (ids_of (filter (is_at moment) marks)) id
seen-from now moment marks id h =
    made-in mark_id (filter (is_at moment) marks) (record { stamp = moment; id = id })
    (kept-in (is_at moment) marks _ h.1 (eq-eqb moment moment refl))

pub seen-is : (now moment : ℕ) (marks : List Mark) (seen : List (List ℕ)) → moment < now
    → IsInOrder id_cmp (ids_of (filter (is_at moment) marks)) seen
    → Lists id_cmp (IsSeenAt now moment marks) seen
seen-is now moment marks seen l h =
    lists-as seen (λ id c. seen-to now moment marks id l c) (seen-from now moment marks) (lists-ids _ seen h)

pub unseen-is : (now moment : ℕ) (marks : List Mark) → now ≤ moment
    → Lists id_cmp (IsSeenAt now moment marks) []
unseen-is now moment marks l = record {
  rising = rising-none;
  whole = λ id h. absurd (omega (arith, l, h.0));
  only = λ id c. absurd (in-none id c);
}

-- ---- the last moment

latest-least : (moment : ℕ) (marks : List Mark) → moment ≤ latest moment marks
unfolding latest
latest-least moment [] = omega arith
latest-least moment (m ∷ ms) = omega (arith, latest-least (max moment m.stamp) ms)

latest-all : (moment : ℕ) (marks : List Mark) (m : Mark) → Contains marks m → m.stamp ≤ latest moment marks
unfolding latest
latest-all moment [] m h = absurd (in-none m h)
latest-all moment (n ∷ ns) m h = elim (in-cases n ns m h) [
  | inl k ↦ omega (arith, latest-least (max moment n.stamp) ns, ap (λ (x : Mark). x.stamp) k)
  | inr k ↦ latest-all (max moment n.stamp) ns m k
]

-- ---- over two listings

has-contains : (ids : List (List ℕ)) (id : List ℕ) → Decides (includes ids id) (Contains ids id)
has-contains = is_member-Decides bytes_eq-Decides

not-has : (b : Bool) → (b ≡ true → ⊥) → b ≡ false
not-has true h = absurd (h refl)
not-has false h = refl

has-none : (ids : List (List ℕ)) (id : List ℕ) → (Contains ids id → ⊥) → includes ids id ≡ false
has-none ids id h = not-has (includes ids id) (λ e. h ((has-contains ids id).0 e))

taken-has : (context : Context) (marks : List Mark) (taken : List (List ℕ)) (m : Mark)
    → IsTaken context marks taken → Contains marks m → is_new context m ≡ true → Contains taken m.id
taken-has context marks taken m h c n =
    subst (λ ids. Contains ids m.id) (sym h.ids) (made-in mark_id h.new m (h.lists.whole m (c, n)))

-- an item that was written when the earlier listing was taken or later is new to the later one
next-new : (now : ℕ) (before next : Context) (marks : List Mark) (m : Mark) → IsNext now before marks next
    → now ≤ m.stamp → next.moment ≤ m.stamp → is_new next m ≡ true
next-new now before next marks m h l k = elim (cases_order next.moment m.stamp) [
  | inl e ↦ or_right (nat_lt next.moment m.stamp) (nat_eq next.moment m.stamp && not (includes next.seen m.id))
      (rw (eq-eqb _ _ e, has-none next.seen m.id (λ c. omega (arith, (h.seen.only m.id c).0, e, l))) refl)
  | inr o ↦ elim o [
    | inl s ↦ or_left (nat_lt next.moment m.stamp) (nat_eq next.moment m.stamp && not (includes next.seen m.id)) (lt-ltb _ _ s)
    | inr s ↦ absurd (omega (arith, s, k))
  ]
]

-- a file that was seen before the earlier listing was taken isn't new to the later one
next-old : (now : ℕ) (before next : Context) (marks : List Mark) (m n : Mark) → IsNext now before marks next
    → Contains marks m → m.stamp < now → n.id ≡ m.id → n.stamp ≡ m.stamp → is_new next n ≡ true → ⊥
next-old now before next marks m n h c l i s new =
    let last : m.stamp ≤ next.moment = subst (λ x. m.stamp ≤ x) (sym h.moment) (latest-all before.moment marks m c) in
    elim (or_cases (nat_lt next.moment n.stamp) (nat_eq next.moment n.stamp && not (includes next.seen n.id)) new) [
      | inl k ↦ omega (arith, ltb-true _ _ k, last, s)
      | inr k ↦
          let both = and_parts (nat_eq next.moment n.stamp) (not (includes next.seen n.id)) k in
          let e : next.moment ≡ n.stamp = eqb-true _ _ both.0 in
          both_ways (includes next.seen n.id) (not-true (includes next.seen n.id) both.1)
          ((has-contains next.seen n.id).1 (h.seen.whole n.id
          (omega (arith, e, s, l), subst (λ x. Contains marks x) (marked next.moment n.id m (sym (e ∙ s)) (sym i)) c)))
    ]

pub misses : (first later : Listing) (tombs later_tombs : Option Listing) (context : Context)
    (synced ids : List (List ℕ)) (page next : Page) (m : Mark)
    → IsPageOf first tombs context synced page → IsPageOf later later_tombs page.next ids next
    → ShowsFile later m → first.now ≤ m.stamp → page.next.moment ≤ m.stamp
    → Contains next.taken m.id
misses first later tombs later_tombs context synced ids page next m p q c h k =
    taken-has page.next (marks_of later.entries) next.taken m q.taken c
    (next-new first.now context page.next (marks_of first.entries) m p.next h k)

pub fetches : (first later : Listing) (tombs later_tombs : Option Listing) (context : Context)
    (synced ids : List (List ℕ)) (page next : Page) (m : Mark)
    → IsPageOf first tombs context synced page → IsPageOf later later_tombs page.next ids next
    → ShowsFile first m → m.stamp < first.now
    → ((n : Mark) → ShowsFile later n → n.id ≡ m.id → n.stamp ≡ m.stamp)
    → Contains next.taken m.id → ⊥
fetches first later tombs later_tombs context synced ids page next m p q c l same taken =
    let k = made-from mark_id q.taken.new m.id
    (subst (λ ids. Contains ids m.id) q.taken.ids taken) in
    let is = q.taken.lists.only k.x k.stood in
    next-old first.now context page.next (marks_of first.entries) m k.x p.next c l k.is (same k.x is.0 k.is) is.1

-- ---- a listing has one page

pub one-taken : (context : Context) (marks : List Mark) (one other : List (List ℕ))
    → IsTaken context marks one → IsTaken context marks other → one ≡ other
one-taken context marks one other a b = a.ids ∙ ap ids_of (lists-one-marks a.new b.new a.lists b.lists) ∙ sym b.ids

pub one-next : (now : ℕ) (before : Context) (marks : List Mark) (one other : Context)
    → IsNext now before marks one → IsNext now before marks other → one ≡ other
one-next now before marks one other a b =
    let m : one.moment ≡ other.moment = a.moment ∙ sym b.moment in
    let s : one.seen ≡ other.seen = lists-one-ids one.seen other.seen
    (subst (λ x. Lists id_cmp (IsSeenAt now x marks) one.seen) m a.seen) b.seen in
    λ k. record { moment = m k; seen = s k }

pub one-page : (listing : Listing) (tombs : Option Listing) (context : Context)
    (synced : List (List ℕ)) (one other : Page) → IsPageOf listing tombs context synced one
    → IsPageOf listing tombs context synced other → one ≡ other
one-page listing tombs context synced one other a b =
    let t = one-taken context (marks_of listing.entries) one.taken other.taken a.taken b.taken in
    let g = lists-one-ids one.gone other.gone a.gone b.gone in
    let n = one-next listing.now context (marks_of listing.entries) one.next other.next a.next b.next in
    λ k. record { taken = t k; gone = g k; next = n k }

-- ---- what is gone

pub gone-recorded : (listing tombs : Listing) (context : Context) (synced : List (List ℕ))
    (page : Page) (id : List ℕ) → IsPageOf listing (Some tombs) context synced page → Contains page.gone id
    → Contains (recorded_in tombs.entries) id
gone-recorded listing tombs context synced page id p c =
    (has-contains (recorded_in tombs.entries) id).0 (p.gone.only id c).2

pub gone-unshown : (listing : Listing) (tombs : Option Listing) (context : Context)
    (synced : List (List ℕ)) (page : Page) (m : Mark) → IsPageOf listing tombs context synced page
    → ShowsFile listing m → Contains page.gone m.id → ⊥
gone-unshown listing tombs context synced page m p shows c =
    let ids = ids_of (marks_of listing.entries) in
    both_ways (includes ids m.id) (not-true (includes ids m.id) (p.gone.only m.id c).1)
    ((has-contains ids m.id).1 (made-in mark_id (marks_of listing.entries) m shows))
