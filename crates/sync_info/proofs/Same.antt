-- What `==` says of two infos: that they are one.
use Rattle.std.specs.Prelude.{◌≡◌, List, Bool, ◌&&◌, nat_eq, bytes_eq, refl}
use Rattle.std.specs.Bool.{Decides}
use Rattle.std.specs.Cmp.Lexicographic.{pointwise}
use Rattle.std.specs.Cmp.{booleans_Decides, unsigned_Decides}
use Rattle.std.proofs.Math.Bool.{beq}
use Rattle.std.proofs.lemmas.Bool.Decides.{Decides-and}
use Rattle.std.proofs.lemmas.Slice.Eq.{bytes_eq-Decides, slice_eq-Decides}
use Rattle.sync_info.specs.declared.info.Info.{Info}
use Rattle.sync_info.specs.declared.key_record.KeyRecord.{KeyRecord}
use Rattle.sync_info.specs.declared.member.Member.{Member}
use Rattle.sync_info.specs.declared.timed.Timed.{Timed}

-- a test that decides one thing decides another that holds exactly with it
decides_as : {P Q : Type 0} (r : Bool) → (P → Q) → (Q → P) → Decides r P → Decides r Q
decides_as r to from d = (λ is. to (d.0 is), λ q. d.1 (from q))

abbrev same_timed : {T : Type 0} → (T → T → Bool) → Timed T → Timed T → Bool
same_timed E a b = E a.value b.value && nat_eq a.updated b.updated

abbrev same_member : Member → Member → Bool
same_member a b = bytes_eq a.name b.name && bytes_eq a.json b.json

abbrev same_record : KeyRecord → KeyRecord → Bool
same_record a b =
    bytes_eq a.id b.id
    && (bytes_eq a.content b.content
    && (nat_eq a.updated b.updated && pointwise same_member a.others b.others))

abbrev same_info : Info → Info → Bool
same_info a b =
    nat_eq a.version b.version
    && (same_timed beq a.e2ee b.e2ee
    && (same_timed bytes_eq a.active b.active
    && (pointwise same_record a.keys b.keys && pointwise same_member a.others b.others)))

timed_decides : {T : Type 0} (E : T → T → Bool) → ((x y : T) → Decides (E x y) (x ≡ y))
    → (a b : Timed T) → Decides (same_timed E a b) (a ≡ b)
timed_decides E each a b =
    decides_as (same_timed E a b)
    (λ (h : (a.value ≡ b.value) × (a.updated ≡ b.updated)).
    λ i. record { value = h.0 i; updated = h.1 i })
    (λ (h : a ≡ b). (λ i. (h i).value, λ i. (h i).updated))
    (Decides-and (E a.value b.value) (nat_eq a.updated b.updated) (each a.value b.value)
    (unsigned_Decides a.updated b.updated))

member_decides : (a b : Member) → Decides (same_member a b) (a ≡ b)
member_decides a b =
    decides_as (same_member a b)
    (λ (h : (a.name ≡ b.name) × (a.json ≡ b.json)). λ i. record { name = h.0 i; json = h.1 i })
    (λ (h : a ≡ b). (λ i. (h i).name, λ i. (h i).json))
    (Decides-and (bytes_eq a.name b.name) (bytes_eq a.json b.json)
    (bytes_eq-Decides a.name b.name) (bytes_eq-Decides a.json b.json))

members_decide : (xs ys : List Member) → Decides (pointwise same_member xs ys) (xs ≡ ys)
members_decide xs ys =
    slice_eq-Decides member_decides xs ys (pointwise same_member xs ys) refl

record_decides : (a b : KeyRecord) → Decides (same_record a b) (a ≡ b)
record_decides a b =
    decides_as (same_record a b)
    (λ (h : (a.id ≡ b.id) × ((a.content ≡ b.content)
    × ((a.updated ≡ b.updated) × (a.others ≡ b.others)))).
    λ i. record { id = h.0 i; content = h.1.0 i; updated = h.1.1.0 i; others = h.1.1.1 i })
    (λ (h : a ≡ b).
    (λ i. (h i).id, (λ i. (h i).content, (λ i. (h i).updated, λ i. (h i).others))))
    (Decides-and _ _ (bytes_eq-Decides a.id b.id)
    (Decides-and _ _ (bytes_eq-Decides a.content b.content)
    (Decides-and _ _ (unsigned_Decides a.updated b.updated)
    (members_decide a.others b.others))))

-- so it is for infos
pub info_decides : (a b : Info) → Decides (same_info a b) (a ≡ b)
info_decides a b =
    decides_as (same_info a b)
    (λ (h : (a.version ≡ b.version) × ((a.e2ee ≡ b.e2ee) × ((a.active ≡ b.active)
    × ((a.keys ≡ b.keys) × (a.others ≡ b.others))))).
    λ i. record {
      version = h.0 i;
      e2ee = h.1.0 i;
      active = h.1.1.0 i;
      keys = h.1.1.1.0 i;
      others = h.1.1.1.1 i;
    })
    (λ (h : a ≡ b). (
      λ i. (h i).version,
      (λ i. (h i).e2ee, (λ i. (h i).active, (λ i. (h i).keys, λ i. (h i).others))),
    ))
    (Decides-and _ _ (unsigned_Decides a.version b.version)
    (Decides-and _ _ (timed_decides beq booleans_Decides a.e2ee b.e2ee)
    (Decides-and _ _ (timed_decides bytes_eq bytes_eq-Decides a.active b.active)
    (Decides-and _ _
    (slice_eq-Decides record_decides a.keys b.keys (pointwise same_record a.keys b.keys) refl)
    (members_decide a.others b.others)))))
