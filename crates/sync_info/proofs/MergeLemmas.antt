-- Joining the records of two infos.
use Rattle.std.proofs.Common.{◌≡◌, ℕ, ◌≤◌, List, [], ◌∷◌, ◌++◌, Bool, true, false, not, ◌||◌, cond, Option, Some, None, IfSome, nat_lt, refl, sym, ap, ap₂, ◌∙◌, append-nil}
use Rattle.std.proofs.lemmas.Bool.{and_parts, and_from, or_parts, or_from, or_right, or_left, not-true, not_from_false, not_from_true, cond-true, cond-false, cond_both, false≢true, false_from_ne_true}
use Rattle.std.proofs.lemmas.List.{map-append}
use Rattle.std.proofs.lemmas.List.Elements.{filter-append}
use Rattle.std.proofs.lemmas.List.Folds.{list_any-append}
use Rattle.std.proofs.lemmas.Slice.Eq.{bytes_eq-Decides}
use Rattle.std.specs.List.{AllByRecursion, filter, find, list_any}
use Rattle.std.specs.Str.{bytes_eq}
use Rattle.jop_base.specs.Times.{last_time}
use Rattle.sync_info.specs.Info.{has_id, are_distinct, IsKeyRecord, AreKeys, IsActive, IsInfo}
use Rattle.sync_info.specs.Merge.{later, later_record, renewed, missing, joined_keys, merged}
use Rattle.sync_info.specs.declared.info.Info.{Info}
use Rattle.sync_info.specs.declared.key_record.KeyRecord.{KeyRecord}
use Rattle.sync_info.specs.declared.timed.Timed.{Timed}

-- ---- settings

later_from : {T : Type 0} (b : Bool) (l r : Timed T) → nat_lt r.updated l.updated ≡ b
    → (later l (later l r) ≡ later l r) × (later (later l r) r ≡ later l r)
later_from true l r is =
    let won : later l r ≡ l = cond-true _ l r is in (
      ap (later l) won
          ∙ cond_both (nat_lt l.updated l.updated) l l (λ x. x ≡ l) (λ e. refl) (λ e. refl)
          ∙ sym won,
      ap (λ x. later x r) won,
    )
later_from false l r is =
    let kept : later l r ≡ r = cond-false _ l r is in (
      ap (later l) kept,
      ap (λ x. later x r) kept
          ∙ cond_both (nat_lt r.updated r.updated) r r (λ x. x ≡ r) (λ e. refl) (λ e. refl)
          ∙ sym kept,
    )

later-left : {T : Type 0} (l r : Timed T) → later l (later l r) ≡ later l r
later-left l r = (later_from (nat_lt r.updated l.updated) l r refl).0

later-right : {T : Type 0} (l r : Timed T) → later (later l r) r ≡ later l r
later-right l r = (later_from (nat_lt r.updated l.updated) l r refl).1

later-itself : {T : Type 0} (s : Timed T) → later s s ≡ s
later-itself s = cond_both (nat_lt s.updated s.updated) s s (λ x. x ≡ s) (λ e. refl) (λ e. refl)

-- ---- the record of an id

has_id-itself : (k : KeyRecord) → has_id k.id k ≡ true
has_id-itself k = (bytes_eq-Decides k.id k.id).1 refl

id-has_id : (id : List ℕ) (k : KeyRecord) → has_id id k ≡ true → k.id ≡ id
id-has_id id k = (bytes_eq-Decides k.id id).0

-- the test goes both ways
has_id-swap : (k l : KeyRecord) → has_id k.id l ≡ false → has_id l.id k ≡ false
has_id-swap k l other =
    false_from_ne_true _
    (λ same. false≢true (sym other ∙ (bytes_eq-Decides l.id k.id).1 (sym (id-has_id l.id k same))))

find-id : (id : List ℕ) (ks : List KeyRecord) → IfSome (find (has_id id) ks) (λ k. k.id ≡ id)
find-id id [] = tt
find-id id (k ∷ ks) =
    cond_both (has_id id k) (Some k) (find (has_id id) ks) (λ o. IfSome o (λ k. k.id ≡ id))
    (id-has_id id k) (λ other. find-id id ks)

lacks : (id : List ℕ) (ks : List KeyRecord) → list_any (has_id id) ks ≡ false
    → AllByRecursion (λ k. has_id id k ≡ false) ks
lacks id [] none = tt
lacks id (k ∷ ks) none = let parts = or_parts (has_id id k) _ none in (parts.0, lacks id ks parts.1)

found_later : (k : KeyRecord) (ks some : List KeyRecord)
    → AllByRecursion (λ x. has_id k.id x ≡ false) some
    → AllByRecursion (λ x. find (has_id x.id) ks ≡ Some x) some
    → AllByRecursion (λ x. find (has_id x.id) (k ∷ ks) ≡ Some x) some
found_later k ks [] others found = tt
found_later k ks (x ∷ some) others found = (
  cond-false (has_id x.id k) _ _ (has_id-swap k x others.0) ∙ found.0,
  found_later k ks some others.1 found.1,
)

-- among records with ids of their own, each is the one that its id finds
found : (ks : List KeyRecord) → are_distinct ks ≡ true
    → AllByRecursion (λ k. find (has_id k.id) ks ≡ Some k) ks
found [] distinct = tt
found (k ∷ ks) distinct =
    let parts = and_parts (not (list_any (has_id k.id) ks)) (are_distinct ks) distinct in
    let others = lacks k.id ks (not-true _ parts.0) in
    (cond-true (has_id k.id k) _ _ (has_id-itself k), found_later k ks ks others (found ks parts.1))

-- ---- the later record

-- the record that takes the place of a remote one
abbrev now : List KeyRecord → KeyRecord → KeyRecord
now local key = later_record (find (has_id key.id) local) key

later_record-id : (o : Option KeyRecord) (k : KeyRecord) → IfSome o (λ x. x.id ≡ k.id)
    → (later_record o k).id ≡ k.id
later_record-id None k same = refl
later_record-id (Some x) k same =
    cond_both (nat_lt k.updated x.updated) x k (λ y. y.id ≡ k.id) (λ e. same) (λ e. refl)

now-id : (local : List KeyRecord) (k : KeyRecord) → (now local k).id ≡ k.id
now-id local k = later_record-id (find (has_id k.id) local) k (find-id k.id local)

later_record-itself : (k : KeyRecord) → later_record (Some k) k ≡ k
later_record-itself k =
    cond_both (nat_lt k.updated k.updated) k k (λ x. x ≡ k) (λ e. refl) (λ e. refl)

again_from : (b : Bool) (x k : KeyRecord) → nat_lt k.updated x.updated ≡ b
    → (later_record (Some x) (later_record (Some x) k) ≡ later_record (Some x) k)
    × (later_record (Some (later_record (Some x) k)) k ≡ later_record (Some x) k)
again_from true x k is =
    let won : later_record (Some x) k ≡ x = cond-true _ x k is in (
      ap (later_record (Some x)) won ∙ later_record-itself x ∙ sym won,
      ap (λ y. later_record (Some y) k) won,
    )
again_from false x k is =
    let kept : later_record (Some x) k ≡ k = cond-false _ x k is in (
      ap (later_record (Some x)) kept,
      ap (λ y. later_record (Some y) k) kept ∙ later_record-itself k
          ∙ sym kept,
    )

-- once more with the same local record changes nothing
later_record-left : (o : Option KeyRecord) (k : KeyRecord)
    → later_record o (later_record o k) ≡ later_record o k
later_record-left None k = refl
later_record-left (Some x) k = (again_from (nat_lt k.updated x.updated) x k refl).0

-- nor does the same remote record once more
later_record-right : (o : Option KeyRecord) (k : KeyRecord)
    → later_record (Some (later_record o k)) k ≡ later_record o k
later_record-right None k = later_record-itself k
later_record-right (Some x) k = (again_from (nat_lt k.updated x.updated) x k refl).1

now-left : (local : List KeyRecord) (k : KeyRecord) → now local (now local k) ≡ now local k
now-left local k = ap (λ id. later_record (find (has_id id) local) (now local k)) (now-id local k)
    ∙ later_record-left (find (has_id k.id) local) k

-- ---- lists of them

renewed-append : (local some more : List KeyRecord)
    → renewed local (some ++ more) ≡ renewed local some ++ renewed local more
renewed-append local some more = map-append (now local) some more

renewed-left : (local remote : List KeyRecord)
    → renewed local (renewed local remote) ≡ renewed local remote
renewed-left local [] = refl
renewed-left local (k ∷ ks) = ap₂ (λ x xs. x ∷ xs) (now-left local k) (renewed-left local ks)

renewed-found : (local some : List KeyRecord)
    → AllByRecursion (λ k. find (has_id k.id) local ≡ Some k) some → renewed local some ≡ some
renewed-found local [] each = refl
renewed-found local (k ∷ ks) each =
    ap₂ (λ x xs. x ∷ xs) (ap (λ o. later_record o k) each.0 ∙ later_record-itself k)
    (renewed-found local ks each.1)

has-renewed : (id : List ℕ) (local remote : List KeyRecord)
    → list_any (has_id id) (renewed local remote) ≡ list_any (has_id id) remote
has-renewed id local [] = refl
has-renewed id local (k ∷ ks) =
    ap₂ (λ here rest. here || rest) (ap (λ x. bytes_eq x id) (now-id local k))
    (has-renewed id local ks)

-- what holds of each holds of those that pass a test
all-filter : (P : KeyRecord → Type 0) (test : KeyRecord → Bool) (ks : List KeyRecord)
    → AllByRecursion P ks → AllByRecursion P (filter test ks)
all-filter P test [] each = tt
all-filter P test (k ∷ ks) each =
    cond_both (test k) _ _ (AllByRecursion P) (λ e. (each.0, all-filter P test ks each.1))
    (λ e. all-filter P test ks each.1)

all-weaker : (P Q : KeyRecord → Type 0) → ((k : KeyRecord) → P k → Q k) → (ks : List KeyRecord)
    → AllByRecursion P ks → AllByRecursion Q ks
all-weaker P Q weaker [] each = tt
all-weaker P Q weaker (k ∷ ks) each = (weaker k each.0, all-weaker P Q weaker ks each.1)

all-append : (P : KeyRecord → Type 0) (some more : List KeyRecord) → AllByRecursion P some
    → AllByRecursion P more → AllByRecursion P (some ++ more)
all-append P [] more each rest = rest
all-append P (k ∷ ks) more each rest = (each.0, all-append P ks more each.1 rest)

filter-each : (test : KeyRecord → Bool) (ks : List KeyRecord)
    → AllByRecursion (λ k. test k ≡ true) ks → filter test ks ≡ ks
filter-each test [] each = refl
filter-each test (k ∷ ks) each = cond-true (test k) _ _ each.0
    ∙ ap (λ more. k ∷ more) (filter-each test ks each.1)

filter-none : (test : KeyRecord → Bool) (ks : List KeyRecord)
    → AllByRecursion (λ k. test k ≡ false) ks → filter test ks ≡ []
filter-none test [] each = refl
filter-none test (k ∷ ks) each = cond-false (test k) _ _ each.0 ∙ filter-none test ks each.1

-- ---- which ids are there

none-lacks : (id : List ℕ) (ks : List KeyRecord) → AllByRecursion (λ k. has_id id k ≡ false) ks
    → list_any (has_id id) ks ≡ false
none-lacks id [] each = refl
none-lacks id (k ∷ ks) each = or_from (has_id id k) _ each.0 (none-lacks id ks each.1)

has-more : (k : KeyRecord) (ks some : List KeyRecord)
    → AllByRecursion (λ x. list_any (has_id x.id) ks ≡ true) some
    → AllByRecursion (λ x. list_any (has_id x.id) (k ∷ ks) ≡ true) some
has-more k ks some each = all-weaker _ _ (λ x had. or_right (has_id x.id k) _ had) some each

has-itself : (ks : List KeyRecord) → AllByRecursion (λ k. list_any (has_id k.id) ks ≡ true) ks
has-itself [] = tt
has-itself (k ∷ ks) =
    (or_left (has_id k.id k) _ (has_id-itself k), has-more k ks ks (has-itself ks))

had-renewed : (local all some : List KeyRecord)
    → AllByRecursion (λ k. list_any (has_id k.id) all ≡ true) some
    → AllByRecursion (λ k. list_any (has_id k.id) all ≡ true) (renewed local some)
had-renewed local all [] each = tt
had-renewed local all (k ∷ ks) each =
    (ap (λ id. list_any (has_id id) all) (now-id local k) ∙ each.0, had-renewed local all ks each.1)

missing-lacked : (local remote : List KeyRecord)
    → AllByRecursion (λ k. list_any (has_id k.id) remote ≡ false) (missing local remote)
missing-lacked [] remote = tt
missing-lacked (k ∷ ks) remote =
    cond_both (not (list_any (has_id k.id) remote)) _ _
    (AllByRecursion (λ k. list_any (has_id k.id) remote ≡ false))
    (λ lacked. (not-true _ lacked, missing-lacked ks remote)) (λ e. missing-lacked ks remote)

-- a local record that the remote ones lack is among those that are missing
abbrev IsGathered : List KeyRecord → List KeyRecord → KeyRecord → Type 0
IsGathered remote gathered k = list_any (has_id k.id) remote ≡ false
    → list_any (has_id k.id) gathered ≡ true

gathered_first : (k : KeyRecord) (ks remote : List KeyRecord)
    → IsGathered remote (missing (k ∷ ks) remote) k
gathered_first k ks remote lacked =
    ap (list_any (has_id k.id))
    (cond-true (not (list_any (has_id k.id) remote)) _ _ (not_from_false _ lacked))
    ∙ or_left (has_id k.id k) _ (has_id-itself k)

gathered_more : (k x : KeyRecord) (ks remote : List KeyRecord)
    → IsGathered remote (missing ks remote) x → IsGathered remote (missing (k ∷ ks) remote) x
gathered_more k x ks remote so_far lacked =
    cond_both (not (list_any (has_id k.id) remote)) _ _ (λ all. list_any (has_id x.id) all ≡ true)
    (λ e. or_right (has_id x.id k) _ (so_far lacked)) (λ e. so_far lacked)

gathered : (local remote : List KeyRecord)
    → AllByRecursion (IsGathered remote (missing local remote)) local
gathered [] remote = tt
gathered (k ∷ ks) remote = (
  gathered_first k ks remote,
  all-weaker _ _ (λ x so_far. gathered_more k x ks remote so_far) ks (gathered ks remote),
)

has-joined_by : (b : Bool) (local remote : List KeyRecord) (k : KeyRecord)
    → list_any (has_id k.id) remote ≡ b → IsGathered remote (missing local remote) k
    → list_any (has_id k.id) (joined_keys local remote) ≡ true
has-joined_by true local remote k there gather =
    list_any-append (has_id k.id) (renewed local remote) (missing local remote)
    ∙ or_left _ _ (has-renewed k.id local remote ∙ there)
has-joined_by false local remote k lacked gather =
    list_any-append (has_id k.id) (renewed local remote) (missing local remote)
    ∙ or_right (list_any (has_id k.id) (renewed local remote)) _ (gather lacked)

has-joined : (local remote : List KeyRecord)
    → AllByRecursion (λ k. list_any (has_id k.id) (joined_keys local remote) ≡ true) local
has-joined local remote =
    all-weaker _ _
    (λ k gather. has-joined_by (list_any (has_id k.id) remote) local remote k refl gather) local
    (gathered local remote)

missing-had : (local remote : List KeyRecord)
    → AllByRecursion (λ k. list_any (has_id k.id) remote ≡ true) local → missing local remote ≡ []
missing-had local remote each =
    filter-none _ local (all-weaker _ _ (λ k had. not_from_true _ had) local each)

-- ---- joining once more

joined-left : (local remote : List KeyRecord) → are_distinct local ≡ true
    → joined_keys local (joined_keys local remote) ≡ joined_keys local remote
joined-left local remote distinct =
    let kept = renewed-found local (missing local remote)
    (all-filter (λ k. find (has_id k.id) local ≡ Some k) _ local (found local distinct)) in
    ap₂ (λ some more. some ++ more)
    (renewed-append local (renewed local remote) (missing local remote)
    ∙ ap₂ (λ some more. some ++ more) (renewed-left local remote) kept)
    (missing-had local (joined_keys local remote) (has-joined local remote))
    ∙ append-nil (joined_keys local remote)

found-renewed_by : (b : Bool) (local more : List KeyRecord) (id : List ℕ) (x k : KeyRecord)
    (ks : List KeyRecord) → has_id id x ≡ b
    → (find (has_id id) ks ≡ Some k
    → find (has_id id) (renewed local ks ++ more) ≡ Some (now local k))
    → cond b (Some x) (find (has_id id) ks) ≡ Some k
    → find (has_id id) (renewed local (x ∷ ks) ++ more) ≡ Some (now local k)
found-renewed_by true local more id x k ks same later is =
    let first : x ≡ k = cc in
    cond-true _ _ _ (ap (λ y. bytes_eq y id) (now-id local x) ∙ same)
    ∙ ap (λ y. Some (now local y)) first
found-renewed_by false local more id x k ks other later is =
    cond-false _ _ _ (ap (λ y. bytes_eq y id) (now-id local x) ∙ other) ∙ later is

found-renewed : (local more : List KeyRecord) (id : List ℕ) (k : KeyRecord) (ks : List KeyRecord)
    → find (has_id id) ks ≡ Some k
    → find (has_id id) (renewed local ks ++ more) ≡ Some (now local k)
found-renewed local more id k [] is = absurd (cc)
found-renewed local more id k (x ∷ ks) is =
    found-renewed_by (has_id id x) local more id x k ks refl (found-renewed local more id k ks) is

renewed-right : (local more all some : List KeyRecord)
    → AllByRecursion (λ k. find (has_id k.id) all ≡ Some k) some
    → renewed (renewed local all ++ more) some ≡ renewed local some
renewed-right local more all [] each = refl
renewed-right local more all (k ∷ ks) each =
    ap₂ (λ x xs. x ∷ xs)
    (ap (λ o. later_record o k) (found-renewed local more k.id k all each.0)
    ∙ later_record-right (find (has_id k.id) local) k) (renewed-right local more all ks each.1)

joined-right : (local remote : List KeyRecord) → are_distinct remote ≡ true
    → joined_keys (joined_keys local remote) remote ≡ joined_keys local remote
joined-right local remote distinct =
    let new = missing local remote in
    ap₂ (λ some more. some ++ more) (renewed-right local new remote remote (found remote distinct))
    (filter-append _ (renewed local remote) new
    ∙ ap₂ (λ some more. some ++ more)
    (missing-had (renewed local remote) remote
    (had-renewed local remote remote (has-itself remote)))
    (filter-each _ new
    (all-weaker _ _ (λ k lacked. not_from_false _ lacked) new (missing-lacked local remote))))

joined-itself : (ks : List KeyRecord) → are_distinct ks ≡ true → joined_keys ks ks ≡ ks
joined-itself ks distinct =
    ap₂ (λ some more. some ++ more) (renewed-found ks ks (found ks distinct))
    (missing-had ks ks (has-itself ks)) ∙ append-nil ks

-- ---- what is joined is valid

lacks-filter : (id : List ℕ) (test : KeyRecord → Bool) (ks : List KeyRecord)
    → list_any (has_id id) ks ≡ false → list_any (has_id id) (filter test ks) ≡ false
lacks-filter id test ks none =
    none-lacks id (filter test ks)
    (all-filter (λ k. has_id id k ≡ false) test ks (lacks id ks none))

distinct-filter : (test : KeyRecord → Bool) (ks : List KeyRecord) → are_distinct ks ≡ true
    → are_distinct (filter test ks) ≡ true
distinct-filter test [] distinct = refl
distinct-filter test (k ∷ ks) distinct =
    let parts = and_parts (not (list_any (has_id k.id) ks)) (are_distinct ks) distinct in
    cond_both (test k) _ _ (λ some. are_distinct some ≡ true)
    (λ e. and_from _ _ (not_from_false _ (lacks-filter k.id test ks (not-true _ parts.0)))
    (distinct-filter test ks parts.1)) (λ e. distinct-filter test ks parts.1)

distinct-append : (local some more : List KeyRecord) → are_distinct some ≡ true
    → are_distinct more ≡ true → AllByRecursion (λ m. list_any (has_id m.id) some ≡ false) more
    → are_distinct (renewed local some ++ more) ≡ true
distinct-append local [] more first rest apart = rest
distinct-append local (k ∷ ks) more first rest apart =
    let parts = and_parts (not (list_any (has_id k.id) ks)) (are_distinct ks) first in
    let others =
    none-lacks k.id more
    (all-weaker _ _
    (λ m lacked. has_id-swap m k (or_parts (has_id m.id k) _ lacked).0) more apart) in
    let lacked = list_any-append (has_id k.id) (renewed local ks) more
    ∙ or_from _ _ (has-renewed k.id local ks ∙ not-true _ parts.0) others in
    and_from _ _
    (not_from_false _
    (ap (λ id. list_any (has_id id) (renewed local ks ++ more)) (now-id local k) ∙ lacked))
    (distinct-append local ks more parts.1 rest
    (all-weaker _ _ (λ m lacked. (or_parts (has_id m.id k) _ lacked).1) more apart))

find-all : (P : KeyRecord → Type 0) (test : KeyRecord → Bool) (ks : List KeyRecord)
    → AllByRecursion P ks → IfSome (find test ks) P
find-all P test [] each = tt
find-all P test (k ∷ ks) each =
    cond_both (test k) (Some k) (find test ks) (λ o. IfSome o P) (λ e. each.0)
    (λ e. find-all P test ks each.1)

later_record-all : (P : KeyRecord → Type 0) (o : Option KeyRecord) (k : KeyRecord) → IfSome o P
    → P k → P (later_record o k)
later_record-all P None k local remote = remote
later_record-all P (Some x) k local remote =
    cond_both (nat_lt k.updated x.updated) x k P (λ e. local) (λ e. remote)

all-renewed : (P : KeyRecord → Type 0) (local some : List KeyRecord) → AllByRecursion P local
    → AllByRecursion P some → AllByRecursion P (renewed local some)
all-renewed P local [] each rest = tt
all-renewed P local (k ∷ ks) each rest = (
  later_record-all P (find (has_id k.id) local) k (find-all P (has_id k.id) local each) rest.0,
  all-renewed P local ks each rest.1,
)

AreKeys-joined : (local remote : List KeyRecord) → AreKeys local → AreKeys remote
    → AreKeys (joined_keys local remote)
AreKeys-joined local remote own others = record {
  records = all-append IsKeyRecord (renewed local remote) (missing local remote)
      (all-renewed IsKeyRecord local remote own.records others.records)
      (all-filter IsKeyRecord _ local own.records);
  distinct = distinct-append local remote (missing local remote) others.distinct
      (distinct-filter _ local own.distinct) (missing-lacked local remote);
}

-- ---- whole infos

pub IsInfo-merged : (l r : Info) → IsInfo l → IsInfo r → IsInfo (merged l r)
IsInfo-merged l r local remote = record {
  version = remote.version;
  e2ee = cond_both (nat_lt r.e2ee.updated l.e2ee.updated) l.e2ee r.e2ee (λ s. s.updated ≤ last_time)
      (λ e. local.e2ee) (λ e. remote.e2ee);
  active = cond_both (nat_lt r.active.updated l.active.updated) l.active r.active IsActive
      (λ e. local.active) (λ e. remote.active);
  keys = AreKeys-joined l.keys r.keys local.keys remote.keys;
  others = remote.others;
}

pub merged-left : (l r : Info) → IsInfo l → merged l (merged l r) ≡ merged l r
merged-left l r local =
    rw (
      later-left l.e2ee r.e2ee,
      later-left l.active r.active,
      joined-left l.keys r.keys local.keys.distinct,
    ) refl

pub merged-right : (l r : Info) → IsInfo r → merged (merged l r) r ≡ merged l r
merged-right l r remote =
    rw (
      later-right l.e2ee r.e2ee,
      later-right l.active r.active,
      joined-right l.keys r.keys remote.keys.distinct,
    ) refl

pub merged-itself : (i : Info) → IsInfo i → merged i i ≡ i
merged-itself i valid =
    rw (later-itself i.e2ee, later-itself i.active, joined-itself i.keys valid.keys.distinct) refl
