-- Members that are kept.
use Rattle.std.proofs.Common.{◌≡◌, ◌<◌, ◌^◌, ℕ, arith, List, [], ◌∷◌, ◌++◌, map, false, refl, sym, ap, ◌∙◌, append_assoc}
use Rattle.std.proofs.lemmas.Bool.{cond_both, cond-false}
use Rattle.std.specs.Cmp.Lexicographic.{slice_cmp}
use Rattle.std.specs.List.{AllByRecursion}
use Rattle.std.specs.List.Sorted.{IsStrictlySortedBy}
use Rattle.std.specs.Ordering.{nat_cmp}
use Rattle.serde_json.specs.Data.{Data, Members, no_members, member}
use Rattle.serde_json.specs.Written.{compact_text}
use Rattle.sync_info.specs.Info.{is_own_member, AreKeptMembers, IsInfo, new_info}
use Rattle.sync_info.specs.Read.{kept_of}
use Rattle.sync_info.proofs.Sound.{IsBefore, IsBelow, AreSoundMembers}
use Rattle.sync_info.specs.declared.holder.Holder.{Holder}
use Rattle.sync_info.specs.declared.holder.Holder.TheVariants as holder
use Rattle.sync_info.specs.declared.member.Member.{Member}

-- one member more is kept
pub kept_more : (of : Holder) (name : List ℕ) (d : Data) (ms : Members) (all kept : List Member)
    → is_own_member of name ≡ false → all ≡ kept ++ kept_of of (member name d ms)
    → all ≡ (kept ++ record { name = name; json = compact_text d } ∷ []) ++ kept_of of ms
kept_more of name d ms all kept foreign so_far = so_far
    ∙ ap (λ more. kept ++ more) (cond-false _ _ _ foreign)
    ∙ sym (append_assoc kept _ (kept_of of ms))

-- none of those that are kept is the holder's own
pub foreign-kept_of : (of : Holder) (ms : Members)
    → AllByRecursion (λ m. is_own_member of m.name ≡ false) (kept_of of ms)
foreign-kept_of of no_members = tt
foreign-kept_of of (member name d ms) =
    cond_both (is_own_member of name) _ _ (AllByRecursion (λ m. is_own_member of m.name ≡ false))
    (λ own. foreign-kept_of of ms) (λ foreign. (foreign, foreign-kept_of of ms))

abbrev names_kept : Holder → Members → List (List ℕ)
names_kept of ms = map (λ m. m.name) (kept_of of ms)

before-kept_of : (of : Holder) (first : List ℕ) (ms : Members) → IsBefore first ms
    → AllByRecursion (IsBelow first) (names_kept of ms)
before-kept_of of first no_members above = tt
before-kept_of of first (member k d ms) above =
    let P : List Member
    → Type 0 = λ kept. AllByRecursion (IsBelow first) (map (λ m. m.name) kept) in
    let rest = before-kept_of of first ms above.1 in
    cond_both (is_own_member of k) _ _ P (λ own. rest) (λ foreign. (above.0, rest))

-- members are kept in the order of their names
pub sorted-kept_of : (of : Holder) (ms : Members) → AreSoundMembers ms
    → IsStrictlySortedBy (slice_cmp nat_cmp) (names_kept of ms)
unfolding IsStrictlySortedBy
sorted-kept_of of no_members sound = tt
sorted-kept_of of (member k d ms) sound =
    let P : List Member
    → Type 0 = λ kept. IsStrictlySortedBy (slice_cmp nat_cmp) (map (λ m. m.name) kept) in
    let rest = sorted-kept_of of ms sound.2 in
    cond_both (is_own_member of k) _ _ P (λ own. rest)
    (λ foreign. (before-kept_of of k ms sound.1, rest))

pub AreKept-nil : (of : Holder) → AreKeptMembers of []
unfolding IsStrictlySortedBy
AreKept-nil of = record { foreign = tt; sorted = tt; compact = tt }

pub IsInfo-new_info : (version : ℕ) → version < 2 ^ 64 → IsInfo (new_info version)
IsInfo-new_info version small = record {
  version = small;
  e2ee = omega arith;
  active = record { name = refl; updated = omega arith };
  keys = record { records = tt; distinct = refl };
  others = AreKept-nil holder.Info;
}
