-- What holds at every place of a history: each lease has its lock file, and of two leases that
-- exclude each other one has run out.
use Rattle.std.proofs.Common.{◌≡◌, ◌≤◌, ◌<◌, ◌+◌, ◌⊎◌, ◌∙◌, refl, sym, subst, arith, inl, inr, ℕ, List, Bool, true, false, Option, Some, None}
use Rattle.std.specs.Prelude.{bytes_eq}
use Rattle.std.proofs.lemmas.Bool.{false≢true, false_from_ne_true}
use Rattle.std.proofs.lemmas.Slice.Eq.{bytes_eq-Decides}
use Rattle.jop_base.specs.declared.lock_name.LockKind.{LockKind}
use Rattle.jop_base.specs.declared.lock_name.LockKind.TheVariants.{Sync, Exclusive}
use Rattle.jop_target.specs.History.{Step, landed_call}
use Rattle.jop_target.specs.declared.tree.File.{File}
use Rattle.lease.specs.Locks.{LIFE, excludes}
use Rattle.lease.specs.Phase.{Phase, Free, Held, Renewing}
use Rattle.lease.proofs.LockFiles.{own_lock, IsPast, blocking-past}
use Rattle.lease.proofs.Moves.{Move, Opens, Stays, Enters, Puts, Renews, Leaves, kind_held, is_past}
use Rattle.lease.proofs.World.{World, happens, Allows, turn, untouched}

-- ---- the words

-- A lease that is held has its lock file with its stamp; one that is being renewed has the file
-- that was put anew.
abbrev pub Stands : List File → List ℕ → Phase → Type 0
Stands files client (Held kind stamp) = own_lock files kind client ≡ Some stamp
Stands files client (Renewing kind stamp) = (next : ℕ) × (own_lock files kind client ≡ Some next)
Stands files client phase = Unit {0}

abbrev pub IsLate : ℕ → ℕ → Option ℕ → Type 0
IsLate now stamp None = ⊥
IsLate now stamp (Some next) = (stamp + LIFE ≤ next) ⊎ (next + LIFE ≤ now)

-- A lease has run out: its time is over, or its lock was put anew too late, or so long ago that
-- this time is over too.
abbrev pub IsSpent : List File → ℕ → List ℕ → Phase → Type 0
IsSpent files now client (Held kind stamp) = stamp + LIFE ≤ now
IsSpent files now client (Renewing kind stamp) = IsLate now stamp (own_lock files kind client)
IsSpent files now client phase = ⊥

abbrev pub phase_in : World → List ℕ → Phase
phase_in w client = (w.at client).phase

abbrev pub IsSpentAt : World → List ℕ → Type 0
IsSpentAt w client = IsSpent w.tree.files w.now client (phase_in w client)

pub record Invariant (w : World) : Type 0 where
  pub stands : (client : List ℕ) → Stands w.tree.files client (phase_in w client)
  pub spent : (a b : List ℕ) (k l : LockKind) → ¬ (a ≡ b) → kind_held (phase_in w a) ≡ Some k →
      kind_held (phase_in w b) ≡ Some l → excludes k l ≡ true → IsSpentAt w a ⊎ IsSpentAt w b

-- ---- one client

stands_same : (old new : List File) (client : List ℕ) (p : Phase) →
    ((k : LockKind) → own_lock new k client ≡ own_lock old k client) → Stands old client p →
    Stands new client p
stands_same old new client (Held kind stamp) e h = e kind ∙ h
stands_same old new client (Renewing kind stamp) e h = (h.0, e kind ∙ h.1)
stands_same old new client p e h = tt

late_later : (now later stamp : ℕ) (o : Option ℕ) → now ≤ later → IsLate now stamp o →
    IsLate later stamp o
late_later now later stamp None m h = h
late_later now later stamp (Some next) m (inl h) = inl h
late_later now later stamp (Some next) m (inr h) = inr (omega arith)

pub spent_same : (old new : List File) (now later : ℕ) (client : List ℕ) (p : Phase) →
    ((k : LockKind) → own_lock new k client ≡ own_lock old k client) → now ≤ later →
    IsSpent old now client p → IsSpent new later client p
spent_same old new now later client (Held kind stamp) e m h = omega arith
spent_same old new now later client (Renewing kind stamp) e m h =
    rw (e kind) (late_later now later stamp (own_lock old kind client) m h)
spent_same old new now later client p e m h = h

pub no_kind : (k : LockKind) {P : Type 0} → None ≡ Some k → P
no_kind k h = cc

pub past_none : (p : Phase) → is_past p ≡ true → kind_held p ≡ None
past_none (Held kind stamp) h = cc
past_none (Renewing kind stamp) h = cc
past_none p h = refl

stands_none : (files : List File) (client : List ℕ) (p : Phase) → kind_held p ≡ None →
    Stands files client p
stands_none files client (Held kind stamp) h = no_kind kind (sym h)
stands_none files client (Renewing kind stamp) h = no_kind kind (sym h)
stands_none files client p h = tt

stands_moved : (client : List ℕ) (moment : ℕ) (old new : List File) (p q : Phase) →
    Move client moment old new p q → Stands old client p → Stands new client q
stands_moved client moment old new p q (Opens a b e) h = stands_none new client q e
stands_moved client moment old new p q (Stays e f) h = rw e (stands_same old new client p f h)
stands_moved client moment old new p q (Enters kind stamp now b e n lock free m) h = rw (e, n) lock
stands_moved client moment old new p q (Puts kind stamp b e lock) h = rw e (moment, lock)
stands_moved client moment old new p q (Renews kind stamp next b e n lock m) h = rw (e, n) lock
stands_moved client moment old new p q (Leaves e) h = stands_none new client q (past_none q e)

-- a session that is past its lease gets none
past_moved : (client : List ℕ) (moment : ℕ) (old new : List File) (p q : Phase) →
    Move client moment old new p q → is_past p ≡ true → is_past q ≡ true
past_moved client moment old new p q (Opens a b e) h = absurd (false≢true (sym b ∙ h))
past_moved client moment old new p q (Stays e f) h = rw e h
past_moved client moment old new p q (Enters kind stamp now b e n lock free m) h =
    absurd (false≢true (rw b at h))
past_moved client moment old new p q (Puts kind stamp b e lock) h = absurd (false≢true (rw b at h))
past_moved client moment old new p q (Renews kind stamp next b e n lock m) h =
    absurd (false≢true (rw b at h))
past_moved client moment old new p q (Leaves e) h = e

-- What comes of a lease: it is given up, or it keeps its kind, and stays spent if it was.
abbrev pub Keeps : LockKind → Phase → Type 0 → Type 0 → Type 0
Keeps kind q was is = (is_past q ≡ true) ⊎ ((kind_held q ≡ Some kind) × (was → is))

keeps_late : (now moment stamp next : ℕ) (o : Option ℕ) → o ≡ Some next → next < stamp + LIFE →
    now ≤ moment → IsLate now stamp o → next + LIFE ≤ moment
keeps_late now moment stamp next o e f m h = go (rw e at h)
  where
    go : IsLate now stamp (Some next) → next + LIFE ≤ moment
    go (inl h) = omega arith
    go (inr h) = omega arith

pub keeps : (client : List ℕ) (now moment : ℕ) (old new : List File) (p q : Phase)
    (kind : LockKind) → Move client moment old new p q → now ≤ moment → kind_held p ≡ Some kind →
    Keeps kind q (IsSpent old now client p) (IsSpent new moment client q)
keeps client now moment old new p q kind (Opens a b e) m h = no_kind kind (sym a ∙ h)
keeps client now moment old new p q kind (Stays e f) m h =
    rw e (inr (h, spent_same old new now moment client p f m))
keeps client now moment old new p q kind (Enters k stamp t b e n lock free u) m h =
    no_kind kind (rw b at h)
keeps client now moment old new p q kind (Puts k stamp b e lock) m h =
    rw (e, b) (inr (rw b at h, λ s. rw lock (inl (omega arith))))
keeps client now moment old new p q kind (Renews k stamp next b e n lock u) m h =
    rw (e, b) (inr (
      rw b at h,
      λ s. keeps_late now moment stamp next (own_lock old k client)
          lock u m s,
    ))
keeps client now moment old new p q kind (Leaves e) m h = inl e

-- ---- two clients

-- whoever takes a lease has seen that each other lease that it excludes is spent
others_spent : (old new : List File) (now moment : ℕ) (l : LockKind) (b : List ℕ) (r : Phase) →
    IsPast old now l b → now ≤ moment → ((k : LockKind) → own_lock new k b ≡ own_lock old k b) →
    kind_held r ≡ Some l → Stands old b r → IsSpent new moment b r
others_spent old new now moment l b (Held kind stamp) past m e h s =
    let same : kind ≡ l = cc in
    let p = past.past stamp (rw (← same) s) in
    omega arith
others_spent old new now moment l b (Renewing kind stamp) past m e h s =
    let same : kind ≡ l = cc in
    let p = past.past s.0 (rw (← same) s.1) in
    rw (e kind, s.1) (inr (omega arith))
others_spent old new now moment l b r past m e h s = cc

-- a move of one client, beside another client that has a lease
pair_moved : (client b : List ℕ) (now moment : ℕ) (old new : List File) (p q r : Phase)
    (k l : LockKind) → ¬ (client ≡ b) → now ≤ moment →
    ((j : LockKind) → own_lock new j b ≡ own_lock old j b) → Stands old b r →
    ((j : LockKind) → kind_held p ≡ Some j → excludes j l ≡ true →
    IsSpent old now client p ⊎ IsSpent old now b r) → kind_held q ≡ Some k → kind_held r ≡ Some l →
    excludes k l ≡ true → Move client moment old new p q →
    IsSpent new moment client q ⊎ IsSpent new moment b r
pair_moved client b now moment old new p q r k l n m e s ih hq hr x (Opens a c d) =
    no_kind k (sym d ∙ hq)
pair_moved client b now moment old new p q r k l n m e s ih hq hr x (Leaves d) =
    no_kind k (sym (past_none q d) ∙ hq)
pair_moved client b now moment old new p q r k l n m e s ih hq hr x
    (Enters j stamp t before after f lock free u) =
    let held : Some j ≡ Some k = rw after at hq in
    let same : j ≡ k = cc in
    inr (others_spent old new t moment l b r (blocking-past j l client b t old n
    (subst (λ (i : LockKind). excludes i l ≡ true) (sym same) x) free) u e hr s)
pair_moved client b now moment old new p q r k l n m e s ih hq hr x (Stays d f) =
    elim (ih k (rw d at hq) x) [
      | inl h ↦ inl (rw d (spent_same old new now moment client p f m h))
      | inr h ↦ inr (spent_same old new now moment b r e m h)
    ]
pair_moved client b now moment old new p q r k l n m e s ih hq hr x (Puts j stamp before after lock)
    =
    let same : Some j ≡ Some k = rw after at hq in
    elim (ih k (rw before same) x) [
      | inl h ↦ elim (keeps client now moment old new p q k (Puts j stamp before after lock) m
          (rw before same)) [
            | inl d ↦ no_kind k (sym (past_none q d) ∙ hq)
            | inr g ↦ inl (g.1 h)
          ]
      | inr h ↦ inr (spent_same old new now moment b r e m h)
    ]
pair_moved client b now moment old new p q r k l n m e s ih hq hr x
    (Renews j stamp next before after f lock u) =
    let same : Some j ≡ Some k = rw after at hq in
    elim (ih k (rw before same) x) [
      | inl h ↦ elim (keeps client now moment old new p q k
          (Renews j stamp next before after f lock u) m (rw before same)) [
            | inl d ↦ no_kind k (sym (past_none q d) ∙ hq)
            | inr g ↦ inl (g.1 h)
          ]
      | inr h ↦ inr (spent_same old new now moment b r e m h)
    ]

-- ---- one step of the machine

-- a step of one client, as the invariant sees it
pub record Steps (client : List ℕ) (w v : World) : Type 0 where
  pub later : w.now ≤ v.now
  pub own : (((phase_in v client) ≡ Free) × (w.count client < v.count client)) ⊎ Move client v.now
      w.tree.files v.tree.files (phase_in w client) (phase_in v client)
  pub count : w.count client ≤ v.count client
  pub others_at : (b : List ℕ) → ¬ (client ≡ b) → (phase_in v b) ≡ (phase_in w b)
  pub others_count : (b : List ℕ) → ¬ (client ≡ b) → v.count b ≡ w.count b
  pub others_lock : (b : List ℕ) (k : LockKind) → ¬ (client ≡ b) →
      own_lock v.tree.files k b ≡ own_lock w.tree.files k b

pub apart : (a b : List ℕ) → ¬ (a ≡ b) → bytes_eq a b ≡ false
apart a b n = false_from_ne_true (bytes_eq a b) (λ e. n ((bytes_eq-Decides a b).0 e))

pub same_or_not : (a b : List ℕ) → (a ≡ b) ⊎ ¬ (a ≡ b)
same_or_not a b = go (bytes_eq a b) refl
  where
    go : (t : Bool) → bytes_eq a b ≡ t → (a ≡ b) ⊎ ¬ (a ≡ b)
    go true e = inl ((bytes_eq-Decides a b).0 e)
    go false e = inr (λ p. false≢true (sym e ∙ (bytes_eq-Decides a b).1 p))

pub steps : (w : World) (s : Step) → Allows w s → Steps s.client w (happens w s)
steps w s ok =
    let same : bytes_eq s.client s.client ≡ true = (bytes_eq-Decides s.client s.client).1 refl in
    record {
      later = ok.later;
      own =
          rw (phase_in, same) (elim (turn s.client s.moment w.tree (w.at s.client)
          s.happens ok.honest ok.lawful) [
            | inl h ↦ inl (h.0, rw h.1 (omega arith))
            | inr h ↦ inr h
          ]);
      count = rw same (omega arith);
      others_at = λ b n. rw (phase_in, apart s.client b n) refl;
      others_count = λ b n. rw (apart s.client b n) refl;
      others_lock =
          λ b k n. untouched s.client b k s.moment w.tree (w.at s.client) s.happens
          (landed_call s.happens) n ok.lawful refl;
    }

pub other_spent : (client b : List ℕ) (w v : World) → Steps client w v → ¬ (client ≡ b) →
    IsSpentAt w b → IsSpentAt v b
other_spent client b w v s n h =
    rw (s.others_at b n) (spent_same w.tree.files v.tree.files w.now v.now b (phase_in w b)
    (λ k. s.others_lock b k n) s.later h)

excludes-sym : (k l : LockKind) → excludes k l ≡ excludes l k
excludes-sym Sync Sync = refl
excludes-sym Sync Exclusive = refl
excludes-sym Exclusive Sync = refl
excludes-sym Exclusive Exclusive = refl

swapped : {A B : Type 0} → A ⊎ B → B ⊎ A
swapped (inl a) = inr a
swapped (inr b) = inl b

-- the client of the step, beside another
own_pair : (client b : List ℕ) (w v : World) (k l : LockKind) → Steps client w v → Invariant w →
    ¬ (client ≡ b) → kind_held (phase_in v client) ≡ Some k → kind_held (phase_in v b) ≡ Some l →
    excludes k l ≡ true → IsSpentAt v client ⊎ IsSpentAt v b
own_pair client b w v k l s h n hk hl x =
    let hl' : kind_held (phase_in w b) ≡ Some l = rw (s.others_at b n) at hl in
    elim s.own [
      | inl f ↦ no_kind k (rw f.0 at hk)
      | inr move ↦ rw (s.others_at b n) (pair_moved client b w.now v.now w.tree.files v.tree.files
          (phase_in w client) (phase_in v client) (phase_in w b) k l n s.later
          (λ j. s.others_lock b j n) (h.stands b) (λ j g y. h.spent client b j l n g hl' y)
          hk hl' x move)
    ]

pub invariant_next : (client : List ℕ) (w v : World) → Steps client w v → Invariant w → Invariant v
invariant_next client w v s h = record {
  stands = λ b. elim (same_or_not client b) [
    | inl e ↦ subst (λ (c : List ℕ). Stands v.tree.files c (phase_in v c)) e own_stands
    | inr n ↦ rw (s.others_at b n) (stands_same w.tree.files v.tree.files b (phase_in w b)
        (λ k. s.others_lock b k n) (h.stands b))
  ];
  spent = λ a b k l n ha hb x. pair a b k l n ha hb x (same_or_not client a) (same_or_not client b);
}
  where
    own_stands : Stands v.tree.files client (phase_in v client)
    own_stands = elim s.own [
      | inl f ↦ rw f.0 tt
      | inr move ↦ stands_moved client v.now w.tree.files v.tree.files (phase_in w client)
          (phase_in v client) move (h.stands client)
    ]

    pair : (a b : List ℕ) (k l : LockKind) → ¬ (a ≡ b) → kind_held (phase_in v a) ≡ Some k →
        kind_held (phase_in v b) ≡ Some l → excludes k l ≡ true → (client ≡ a) ⊎ ¬ (client ≡ a) →
        (client ≡ b) ⊎ ¬ (client ≡ b) → IsSpentAt v a ⊎ IsSpentAt v b
    pair a b k l n ha hb x (inl e) (inl f) = absurd (n (sym e ∙ f))
    pair a b k l n ha hb x (inl e) (inr f) =
        subst (λ (c : List ℕ). IsSpentAt v c ⊎ IsSpentAt v b) e
        (own_pair client b w v k l s h f (subst
        (λ (c : List ℕ). kind_held (phase_in v c) ≡ Some k) (sym e) ha) hb x)
    pair a b k l n ha hb x (inr e) (inl f) =
        subst (λ (c : List ℕ). IsSpentAt v a ⊎ IsSpentAt v c) f
        (swapped (own_pair client a w v l k s h e
        (subst (λ (c : List ℕ). kind_held (phase_in v c) ≡ Some l) (sym f) hb) ha
        (excludes-sym l k ∙ x)))
    pair a b k l n ha hb x (inr e) (inr f) =
        elim (h.spent a b k l n (rw (s.others_at a e) at ha) (rw (s.others_at b f) at hb) x) [
          | inl g ↦ inl (other_spent client a w v s e g)
          | inr g ↦ inr (other_spent client b w v s f g)
        ]

-- ---- a client's session from one place to a later one

pub record GoesOn (client : List ℕ) (w v : World) : Type 0 where
  pub past : is_past (phase_in w client) ≡ true → is_past (phase_in v client) ≡ true
  pub lease : (k : LockKind) → kind_held (phase_in w client) ≡ Some k →
      Keeps k (phase_in v client) (IsSpentAt w client) (IsSpentAt v client)

pub record Later (client : List ℕ) (w v : World) : Type 0 where
  pub count : w.count client ≤ v.count client
  -- in one session
  pub same : w.count client ≡ v.count client → GoesOn client w v

pub later-refl : (client : List ℕ) (w : World) → Later client w w
later-refl client w =
    record {
      count = omega arith;
      same = λ e. record {
        past = λ h. h;
        lease = λ k h. inr (h, λ s. s);
      };
    }

pub later-trans : (client : List ℕ) (u v w : World) → Later client u v → Later client v w →
    Later client u w
later-trans client u v w a b =
    let p = a.count in
    let q = b.count in
    record {
      count = omega arith;
      same = λ e.
          let f = a.same (omega arith) in
          let g = b.same (omega arith) in
          record {
            past = λ h. g.past (f.past h);
            lease = λ k h. elim (f.lease k h) [
              | inl i ↦ inl (g.past i)
              | inr i ↦ elim (g.lease k i.0) [
                | inl j ↦ inl j
                | inr j ↦ inr (j.0, λ s. j.1 (i.1 s))
              ]
            ];
          };
    }

pub later-step : (client b : List ℕ) (w v : World) → Steps client w v → Later b w v
later-step client b w v s = elim (same_or_not client b) [
  | inl e ↦ subst (λ (c : List ℕ). Later c w v) e own
  | inr n ↦ record {
    count = rw (s.others_count b n) (omega arith);
    same = λ e. record {
      past = λ h. rw (s.others_at b n) h;
      lease = λ k h. inr (rw (s.others_at b n) h, other_spent client b w v s n);
    };
  }
]
  where
    own : Later client w v
    own = elim s.own [
      | inl f ↦ record { count = s.count; same = λ e. let g = f.1 in absurd (omega arith) }
      | inr move ↦ record {
        count = s.count;
        same = λ e. record {
          past =
              past_moved client v.now w.tree.files v.tree.files (phase_in w client)
              (phase_in v client) move;
          lease =
              λ k h. keeps client w.now v.now w.tree.files v.tree.files (phase_in w client)
              (phase_in v client) k move s.later h;
        };
      }
    ]
