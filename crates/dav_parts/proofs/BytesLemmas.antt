-- Texts that are compared byte by byte, and the test for the name of a blob.
use Rattle.std.proofs.Common.{◌≡◌, ℕ, List, ◌++◌, length, true, false, ◌==◌, ◌&&◌, take, drop, Option, Some, None, IfSome, IfNone, refl, sym, ap, ◌∙◌, arith}
use Rattle.std.specs.Prelude.{codes, bytes_eq}
use Rattle.std.specs.Option.{is_some}
use Rattle.std.specs.List.{list_all}
use Rattle.std.proofs.lemmas.Bool.{and_parts, eqb-true, eq-eqb, false_from_ne_true}
use Rattle.std.proofs.lemmas.List.{take-append-drop}
use Rattle.std.proofs.lemmas.List.Sums.{AllPass-from_list_all, list_all-from_AllPass}
use Rattle.std.proofs.lemmas.Slice.Eq.{bytes_eq-Decides}
use Rattle.jop_base.specs.Id.{IsIdText, is_digit}
use Rattle.dav_parts.specs.Targets.{is_blob_target}

pub bytes_eq_same : (xs ys : List ℕ) → xs ≡ ys → bytes_eq xs ys ≡ true
bytes_eq_same xs ys e = (bytes_eq-Decides xs ys).1 e

pub bytes_eq_is : (xs ys : List ℕ) → bytes_eq xs ys ≡ true → xs ≡ ys
bytes_eq_is xs ys h = (bytes_eq-Decides xs ys).0 h

blob_is : (name : List ℕ) → IsIdText name → is_blob_target (codes "/.resource/" ++ name) ≡ true
blob_is name id = rw (
  eq-eqb (length (codes "/.resource/" ++ name)) 43 (omega (arith, id.long)),
  list_all-from_AllPass is_digit name id.digits,
) refl

blob_isnt : (name : List ℕ) → (IsIdText name → ⊥) → is_blob_target (codes "/.resource/" ++ name)
    ≡ false
blob_isnt name none = false_from_ne_true _ (λ h.
    let parts = and_parts (length (codes "/.resource/" ++ name) == 43) (list_all is_digit name) h in
    let long = eqb-true (length (codes "/.resource/" ++ name)) 43 parts.0 in
    none (record { long = omega arith; digits = AllPass-from_list_all is_digit name parts.1 }))

-- what is read as an id passes the test
pub blob_named : (name : List ℕ) (read : Option (List ℕ)) → IfSome read (λ id. (id ≡ name)
    × IsIdText name) → IfNone read (IsIdText name → ⊥)
    → is_some read ≡ is_blob_target (codes "/.resource/" ++ name)
blob_named name (Some id) some none = sym (blob_is name some.1)
blob_named name None some none = sym (blob_isnt name none)

-- a target that is none of the folder of bytes names no blob
pub no_blob : (target : List ℕ) → ((name : List ℕ) → ¬ (target ≡ codes "/.resource/" ++ name))
    → false ≡ is_blob_target target
no_blob target none = sym (false_from_ne_true (is_blob_target target) (λ h.
    let parts = and_parts (bytes_eq (take 11 target) (codes "/.resource/"))
    ((length target == 43) && list_all is_digit (drop 11 target)) h in
    none (drop 11 target) (sym (take-append-drop 11 target)
    ∙ ap (λ (t : List ℕ). t ++ drop 11 target)
    (bytes_eq_is (take 11 target) (codes "/.resource/") parts.0))))
