-- The lock files of a tree: which calls change them, and what a listing shows of them.
use Rattle.std.proofs.Common.{◌≡◌, ◌≤◌, ◌+◌, ◌∙◌, refl, sym, ap, subst, arith, ℕ, List, [], ◌∷◌, ◌++◌, append_assoc, codes, length, length-append, Bool, true, false, cond, ◌&&◌, not, nat_eq, find, option_map, Option, Some, None}
use Rattle.std.specs.Prelude.{bytes_eq}
use Rattle.std.proofs.lemmas.Option.{same_Some}
use Rattle.std.proofs.lemmas.Bool.{and_parts, ltb-false, eqb-true}
use Rattle.std.proofs.lemmas.List.{append_cancel_right}
use Rattle.std.proofs.lemmas.Slice.Eq.{bytes_eq-Decides}
use Rattle.jop_base.specs.LockNames.{Name, kind_digit, file_name}
use Rattle.jop_base.proofs.KeyedLaws.{same_text, bytes_eq-refl}
use Rattle.jop_base.specs.Keyed.{at}
use Rattle.jop_base.specs.Paths.{path_text}
use Rattle.jop_base.specs.declared.dir.Dir.TheVariants.{Locks}
use Rattle.jop_base.specs.declared.lock_name.LockKind.{LockKind}
use Rattle.jop_base.specs.declared.lock_name.LockKind.TheVariants.{Sync, Exclusive}
use Rattle.jop_base.specs.declared.path.Path.{Path}
use Rattle.jop_base.specs.declared.path.Path.TheVariants.{Item, Lock as LockFile}
use Rattle.jop_target.specs.Store.{is_same, file_at, entries_in}
use Rattle.jop_target.specs.declared.tree.Content.{Content}
use Rattle.jop_target.specs.declared.tree.File.{File}
use Rattle.lease.specs.declared.lock.Lock.{Lock}
use Rattle.lease.proofs.Calls.{same_kind-itself}
use Rattle.lease.specs.Locks.{LIFE, CLIENT_TYPE, own_name, is_own, is_own_of, same_kind, excludes, is_in_way, locks_in, own_stamp, blocking_in}

-- the stamp of a client's own lock of a kind
abbrev pub own_lock : List File → LockKind → List ℕ → Option ℕ
own_lock files kind client =
    option_map (λ (f : File). f.stamp) (file_at files (LockFile (own_name kind client)))

-- whether the path is that of a client's own lock of a kind
abbrev pub is_own_path : LockKind → List ℕ → Path → Bool
is_own_path kind client (LockFile name) = is_own client name && same_kind kind name.kind
is_own_path kind client path = false

-- ---- names

pub same_kind-same : (a b : LockKind) → same_kind a b ≡ true → a ≡ b
same_kind-same Sync Sync h = refl
same_kind-same Exclusive Exclusive h = refl
same_kind-same Sync Exclusive h = cc
same_kind-same Exclusive Sync h = cc

-- a lock is one client's at most
pub own_one : (a b : List ℕ) (name : Name) → is_own a name ≡ true → is_own b name ≡ true → a ≡ b
own_one a b name h k =
    sym ((bytes_eq-Decides name.client a).0 (and_parts _ _ h).1) ∙
    (bytes_eq-Decides name.client b).0 (and_parts _ _ k).1

-- the name of a client's own lock is known by its parts
pub own_is : (kind : LockKind) (client : List ℕ) (name : Name) →
    (is_own client name && same_kind kind name.kind) ≡ true → name ≡ own_name kind client
own_is kind client name h =
    let parts = and_parts (is_own client name) (same_kind kind name.kind) h in
    let own = and_parts (nat_eq name.client_type CLIENT_TYPE) (bytes_eq name.client client)
    parts.0 in
    let k : name.kind ≡ kind = sym (same_kind-same kind name.kind parts.1) in
    let t : name.client_type ≡ CLIENT_TYPE = eqb-true name.client_type CLIENT_TYPE own.0 in
    let c : name.client ≡ client = (bytes_eq-Decides name.client client).0 own.1 in
    λ i. record { kind = k i; client_type = t i; client = c i }

own_name-own : (kind : LockKind) (client : List ℕ) →
    (is_own client (own_name kind client) && same_kind kind kind) ≡ true
own_name-own kind client =
    let c : bytes_eq client client ≡ true = (bytes_eq-Decides client client).1 refl in
    rw (c, same_kind-itself kind) refl

kind_digit-one : (a b : LockKind) → kind_digit a ≡ kind_digit b → a ≡ b
kind_digit-one Sync Sync h = refl
kind_digit-one Exclusive Exclusive h = refl
kind_digit-one Sync Exclusive h = absurd (omega (arith, h))
kind_digit-one Exclusive Sync h = absurd (omega (arith, h))

-- ---- texts of paths

-- locks of one text have one name
file_name-one : (a b : Name) → file_name a ≡ file_name b → a ≡ b
file_name-one a b h =
    let k : a.kind ≡ b.kind = kind_digit-one a.kind b.kind cc in
    let shown : 48 + a.client_type ≡ 48 + b.client_type = cc in
    let t : a.client_type ≡ b.client_type = omega (arith, shown) in
    let c : a.client ≡ b.client = append_cancel_right a.client b.client (codes ".json") cc in
    λ i. record { kind = k i; client_type = t i; client = c i }

pub last_same : (xs ys : List ℕ) (x y : ℕ) → xs ++ x ∷ [] ≡ ys ++ y ∷ [] → x ≡ y
last_same [] [] x y h = cc
last_same [] (b ∷ ys) x y h = absurd (omega (arith, ap length h, length-append ys (y ∷ [])))
last_same (a ∷ xs) [] x y h = absurd (omega (arith, ap length h, length-append xs (x ∷ [])))
last_same (a ∷ xs) (b ∷ ys) x y h =
    last_same xs ys x y cc

-- no item has the text of a lock
item_apart : (id : List ℕ) (name : Name) → path_text (Item id) ≡ path_text (LockFile name) → ⊥
item_apart id name h =
    let item = append_assoc id (codes ".m") (100 ∷ []) in
    let lock = append_assoc name.client (codes ".jso") (110 ∷ []) in
    let front = codes "locks/" ++ (kind_digit name.kind ∷ 95 ∷ (48 + name.client_type) ∷ 95 ∷
    (name.client ++ codes ".jso")) in
    let ends : path_text (LockFile name) ≡ front ++ 110 ∷ [] = ap
    (λ (t : List ℕ). codes "locks/" ++ (kind_digit name.kind ∷ 95 ∷ (48 + name.client_type)
    ∷ 95 ∷ t)) (sym lock) in
    omega (arith, last_same (id ++ codes ".m") front 100 110 (item ∙ (h ∙ ends)))

-- ---- paths

both_or_none : (a b : Bool) → (a ≡ true → b ≡ true) → (b ≡ true → a ≡ true) → a ≡ b
both_or_none true b h k = sym (h refl)
both_or_none false true h k = k refl
both_or_none false false h k = refl

pub never : (b : Bool) → (b ≡ true → ⊥) → b ≡ false
never true h = absurd (h refl)
never false h = refl

lock_name : (a b : Name) → path_text (LockFile a) ≡ path_text (LockFile b) → a ≡ b
lock_name a b h = file_name-one a b cc

-- whether a path is that of a client's own lock is seen by its parts
pub is_same-own : (kind : LockKind) (client : List ℕ) (p : Path) →
    is_same p (LockFile (own_name kind client)) ≡ is_own_path kind client p
is_same-own kind client (LockFile name) = both_or_none _ _
    (λ same. subst (λ (n : Name). (is_own client n && same_kind kind n.kind) ≡ true)
    (sym (lock_name name (own_name kind client) (same_text _ _ same))) (own_name-own kind client))
    (λ own. subst (λ (n : Name). is_same (LockFile n) (LockFile (own_name kind client)) ≡ true)
    (sym (own_is kind client name own)) (bytes_eq-refl
    (path_text (LockFile (own_name kind client)))))
is_same-own kind client (Item id) =
    never _ (λ same. item_apart id (own_name kind client)
    (same_text (path_text (Item id)) (path_text (LockFile (own_name kind client))) same))
is_same-own kind client p = refl

-- ---- listings of the locks

-- the locks among the files, in their order
abbrev locks_among : List File → List Lock
locks_among files = locks_in (entries_in files Locks)

first_stamp : (kind : LockKind) (client : List ℕ) (b : Bool) (f : File) (lock : Lock)
    (fs : List File) (locks : List Lock) → lock.stamp ≡ f.stamp →
    option_map (λ (l : Lock). l.stamp)
    (find (is_own_of kind client) locks) ≡ own_lock fs kind client →
    option_map (λ (l : Lock). l.stamp) (cond b (Some lock)
    (find (is_own_of kind client) locks)) ≡ option_map (λ (g : File). g.stamp)
    (cond b (Some f) (file_at fs (LockFile (own_name kind client))))
first_stamp kind client true f lock fs locks same h = ap (λ (u : ℕ). Some u) same
first_stamp kind client false f lock fs locks same h = h

own_stamp-more : (kind : LockKind) (client : List ℕ) (p : Path) (content : Content) (stamp : ℕ)
    (fs : List File) → option_map (λ (l : Lock). l.stamp)
    (find (is_own_of kind client) (locks_among fs)) ≡ own_lock fs kind client →
    option_map (λ (l : Lock). l.stamp) (find (is_own_of kind client)
    (locks_among (record { path = p; content = content; stamp = stamp } ∷ fs))) ≡ own_lock
    (record { path = p; content = content; stamp = stamp } ∷ fs) kind client
unfolding entries_in at
own_stamp-more kind client (LockFile name) content stamp fs h =
    rw (is_same-own kind client (LockFile name))
    (first_stamp kind client (is_own_path kind client (LockFile name))
    (record { path = LockFile name; content = content; stamp = stamp })
    (record { name = name; stamp = stamp }) fs (locks_among fs) refl h)
own_stamp-more kind client (Item id) content stamp fs h = rw (is_same-own kind client (Item id)) h
own_stamp-more kind client p content stamp fs h = h

-- a listing shows a client's own lock as it stands
pub own_stamp-listed : (kind : LockKind) (client : List ℕ) (now : ℕ) (files : List File) →
    own_stamp kind client (record {
      now = now;
      entries = entries_in files Locks;
    }) ≡ own_lock files kind client
own_stamp-listed kind client now [] = unfold entries_in at in refl
own_stamp-listed kind client now (f ∷ fs) =
    own_stamp-more kind client f.path f.content f.stamp fs (own_stamp-listed kind client now fs)

not_own : (a b : List ℕ) (name : Name) (t : Bool) → ¬ (a ≡ b) → is_own b name ≡ true →
    is_own a name ≡ t → not t ≡ true
not_own a b name true n k h = absurd (n (own_one a b name h k))
not_own a b name false n k h = refl

-- if nothing is in the way, the lock of another client that excludes this one is out of date
out_of_date : (kind l : LockKind) (a b : List ℕ) (now stamp : ℕ) (name : Name) → ¬ (a ≡ b) →
    excludes kind l ≡ true → is_own_path l b (LockFile name) ≡ true →
    is_in_way kind a now (record { name = name; stamp = stamp }) ≡ false → stamp + LIFE ≤ now
out_of_date kind l a b now stamp name n x own free =
    let parts = and_parts (is_own b name) (same_kind l name.kind) own in
    let same : excludes kind name.kind ≡ true = subst (λ (j : LockKind). excludes kind j ≡ true)
    (same_kind-same l name.kind parts.1) x in
    ltb-false now (stamp + LIFE) (rw (same, not_own a b name (is_own a name) n parts.0 refl)
    at free)

-- a client's lock of a kind, if there is one, is past its life
pub record IsPast (files : List File) (now : ℕ) (kind : LockKind) (client : List ℕ) : Type 0 where
  pub past : (u : ℕ) → own_lock files kind client ≡ Some u → u + LIFE ≤ now

not_found : (t : Bool) (x : Lock) (rest : Option Lock) → cond t (Some x) rest ≡ None →
    (t ≡ false) × (rest ≡ None)
not_found true x rest h = cc
not_found false x rest h = (refl, h)

blocking-more : (kind l : LockKind) (a b : List ℕ) (now : ℕ) (p : Path) (content : Content)
    (stamp : ℕ) (fs : List File) → ¬ (a ≡ b) → excludes kind l ≡ true →
    (find (is_in_way kind a now) (locks_among fs) ≡ None → IsPast fs now l b) →
    find (is_in_way kind a now)
    (locks_among (record { path = p; content = content; stamp = stamp } ∷ fs)) ≡ None →
    IsPast (record { path = p; content = content; stamp = stamp } ∷ fs) now l b
unfolding entries_in at
blocking-more kind l a b now (LockFile name) content stamp fs n x ih h =
    record {
      past = λ u. rw (is_same-own l b (LockFile name))
          (go (is_own_path l b (LockFile name)) refl u);
    }
  where
    parts : (is_in_way kind a now (record { name = name; stamp = stamp }) ≡ false) ×
        (find (is_in_way kind a now) (locks_among fs) ≡ None)
    parts = not_found (is_in_way kind a now (record { name = name; stamp = stamp })) _ _ h

    go : (t : Bool) → is_own_path l b (LockFile name) ≡ t → (u : ℕ) →
        option_map (λ (g : File). g.stamp)
        (cond t (Some (record { path = LockFile name; content = content; stamp = stamp }))
        (file_at fs (LockFile (own_name l b)))) ≡ Some u → u + LIFE ≤ now
    go true e u k =
        subst (λ (v : ℕ). v + LIFE ≤ now) (same_Some stamp u k)
        (out_of_date kind l a b now stamp name n x e parts.0)
    go false e u k = (ih parts.1).past u k
blocking-more kind l a b now (Item id) content stamp fs n x ih h =
    record { past = λ u k. (ih h).past u (rw (is_same-own l b (Item id)) at k) }
blocking-more kind l a b now p content stamp fs n x ih h = record { past = (ih h).past }

-- of a listing in which nothing is in the way, each other client's lock that would exclude this one
-- is past its life
pub blocking-past : (kind l : LockKind) (a b : List ℕ) (now : ℕ) (files : List File) → ¬ (a ≡ b) →
    excludes kind l ≡ true →
    blocking_in kind a (record { now = now; entries = entries_in files Locks }) ≡ None →
    IsPast files now l b
blocking-past kind l a b now [] n x h =
    record { past = λ u k. let none : None ≡ Some u = unfold at in k in cc }
blocking-past kind l a b now (f ∷ fs) n x h =
    blocking-more kind l a b now f.path f.content f.stamp fs n x
    (blocking-past kind l a b now fs n x) h
