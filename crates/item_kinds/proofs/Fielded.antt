-- What one pair of an item says.
use Rattle.std.proofs.Common.{◌≡◌, ℕ, List, Option, Some, None, Bool, false, refl, sym, ap, ◌∙◌, subst, inl, inr, Bor, ◌↔◌}
use Rattle.std.specs.Prelude.{MatchOption, IfSome, IfNone, IsTrue, codes, option_map, unwrap_or, bytes_eq}
use Rattle.std.proofs.lemmas.Slice.Eq.{bytes_eq-Decides}
use Rattle.std.proofs.lemmas.Bool.{false≢true}
use Rattle.jop_base.specs.declared.text.Text.{Text}
use Rattle.item_text.specs.declared.item.Prop.{Prop}
use Rattle.item_text.specs.Props.{value_of}
use Rattle.item_kinds.specs.Times.{IsTime}
use Rattle.item_kinds.specs.Kinds.{IsTimeOrZero, IsUpdated}

value_is : (props : List Prop) (key : List ℕ) (r : Option (Bor Text)) (value : Bor Text)
    → option_map (λ v. v.now) r ≡ value_of key props → r ≡ Some value
    → value_of key props ≡ Some value.now
value_is props key r value e is = sym e
    ∙ ap (λ (o : Option (Bor Text)). option_map (λ v. v.now) o) is

value_no : (props : List Prop) (key : List ℕ) (r : Option (Bor Text))
    → option_map (λ v. v.now) r ≡ value_of key props → r ≡ None → value_of key props ≡ None
value_no props key r e is = sym e ∙ ap (λ (o : Option (Bor Text)). option_map (λ v. v.now) o) is

time_or_zero : (text : List ℕ) (r : Option ℕ) → IfSome r (IsTime text)
    → IfNone r ((time : ℕ) → ¬ IsTime text time) → IsTimeOrZero text (unwrap_or r 0)
time_or_zero text (Some time) some none = inl some
time_or_zero text None some none = inr (refl, none)

pub updated_some : (props : List Prop) (r : Option (Bor Text)) (value : Bor Text) (text : List ℕ)
    (read : Option ℕ) (result : ℕ)
    → option_map (λ v. v.now) r ≡ value_of (codes "updated_time") props → r ≡ Some value
    → text ≡ value.now
    → IfSome read (IsTime text) → IfNone read ((time : ℕ) → ¬ IsTime text time)
    → result ≡ unwrap_or read 0 → IsUpdated props result
updated_some props r value text read result e is same some none out =
    let P : Option (List ℕ)
    → Type 0 = λ o. MatchOption o (result ≡ 0) (λ v. IsTimeOrZero v result) in
    let Q : List ℕ → Type 0 = λ v. IsTimeOrZero v result in
    let R : ℕ → Type 0 = λ n. IsTimeOrZero text n in
    subst P (sym (value_is props (codes "updated_time") r value e is))
    (subst Q same (subst R (sym out) (time_or_zero text read some none)))

pub updated_none : (props : List Prop) (r : Option (Bor Text))
    → option_map (λ v. v.now) r ≡ value_of (codes "updated_time") props → r ≡ None
    → IsUpdated props 0
updated_none props r e is =
    let P : Option (List ℕ)
    → Type 0 = λ o. MatchOption o (◌≡◌ {A = ℕ} 0 0) (λ v. IsTimeOrZero v 0) in
    subst P (sym (value_no props (codes "updated_time") r e is)) refl

pub sealed_some : (props : List Prop) (r : Option (Bor Text)) (value : Bor Text) (text : List ℕ)
    (same : Bool) → option_map (λ v. v.now) r ≡ value_of (codes "encryption_applied") props
    → r ≡ Some value → text ≡ value.now → same ≡ bytes_eq text (codes "1")
    → IsTrue same ↔ (value_of (codes "encryption_applied") props ≡ Some (codes "1"))
sealed_some props r value text same e is now test =
    let known = value_is props (codes "encryption_applied") r value e is in
    let decides = bytes_eq-Decides text (codes "1") in (
      (λ yes. known ∙ ap (λ (t : List ℕ). Some t) (sym now ∙ decides.0 (sym test ∙ yes))),
      (λ one. let equal : value.now ≡ codes "1" = let both = sym known ∙ one in cc in test
          ∙ decides.1 (now ∙ equal)),
    )

pub sealed_none : (props : List Prop) (r : Option (Bor Text))
    → option_map (λ v. v.now) r ≡ value_of (codes "encryption_applied") props → r ≡ None
    → IsTrue false ↔ (value_of (codes "encryption_applied") props ≡ Some (codes "1"))
sealed_none props r e is =
    let none = value_no props (codes "encryption_applied") r e is in (
      (λ yes. absurd (false≢true yes)),
      (λ one. absurd (let both : None ≡ Some (codes "1") = sym none ∙ one in cc)),
    )
