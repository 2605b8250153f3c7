-- A part for each of a list.
use Rattle.std.specs.Prelude.{ℕ, ◌+◌, ◌<◌, ◌≤◌, ◌≡◌, List, [], ◌∷◌, ◌++◌, length, take, drop, Bool, refl}
use Rattle.std.proofs.Common.{sym, ap, subst, ◌∙◌, append-nil, get_or}
use Rattle.std.proofs.lemmas.List.{append_assoc, drop_more, take_all, take_more}
use Rattle.jop_target.specs.declared.call.Call.{Call}
use Rattle.law_licences.proofs.Joins.{view_from-append}
use Rattle.law_licences.specs.Deeds.{Deed}
use Rattle.law_licences.specs.Views.{View, view_from}
use Rattle.session.proofs.Ending.{does_as}
use Rattle.session.proofs.Joins.{does_then}
use Rattle.session.specs.Doing.{Does}
use Rattle.session.specs.Parts.{ForEach, Nothing, Part, Then}
use Rattle.session.specs.Work.{WorkNow, view_of}

-- one part alone
alone : (P : Part) (v : View) (ds : List Deed) → Then Nothing P v ds → P v ds
unfolding view_from
alone P v ds h =
    let same : ds ≡ h.second =
    h.both ∙ ap (λ (first : List Deed). first ++ h.second) h.before in
    subst (λ (x : List Deed). P v x) (sym same)
    (subst (λ (first : List Deed). P (view_from v first) h.second) h.before h.behind)

pub ForEach-push : {A : Type 0} (P : A → Part) (xs : List A) (x : A) (v : View) (ds : List Deed)
    → Then (ForEach P xs) (P x) v ds → ForEach P (xs ++ x ∷ []) v ds
unfolding ForEach
ForEach-push P [] x v ds h = record {
  first = ds;
  second = [];
  both = sym (append-nil ds);
  before = alone (P x) v ds h;
  behind = refl;
}
ForEach-push P (y ∷ ys) x v ds h =
    let b = h.before in
    let at : view_from v h.first ≡ view_from (view_from v b.first) b.second =
    ap (λ (first : List Deed). view_from v first) b.both
    ∙ view_from-append v b.first b.second in
    record {
      first = b.first;
      second = b.second ++ h.second;
      both =
          h.both
          ∙ (ap (λ (first : List Deed). first ++ h.second) b.both
          ∙ append_assoc b.first b.second h.second);
      before = b.before;
      behind = ForEach-push P ys x (view_from v b.first) (b.second ++ h.second) (record {
        first = b.second;
        second = h.second;
        both = refl;
        before = b.behind;
        behind = subst (λ (w : View). P x w h.second) at h.behind;
      });
    }

-- one more of a list
pub does_more : {A : Type 0} (P : A → Part) (sort : Call → Bool) (xs : List A) (x : A)
    (a b c : WorkNow) → Does (ForEach P xs) sort a b → Does (P x) sort b c
    → Does (ForEach P (xs ++ x ∷ [])) sort a c
does_more P sort xs x a b c h k =
    does_as (Then (ForEach P xs) (P x)) (ForEach P (xs ++ x ∷ [])) sort a c
    (λ shown ds. ForEach-push P xs x (view_of shown a.site) ds)
    (does_then (ForEach P xs) (P x) sort a b c h k)

-- ---- in a loop

-- from a place on stand the one that is there, and then those behind it
pub here_and_left : {A : Type 0} (xs : List A) (i : ℕ) (x : A) → i < length xs
    → x ≡ get_or xs i x → drop i xs ≡ x ∷ drop (i + 1) xs
here_and_left xs i x within is =
    drop_more xs i x within ∙ ap (λ y. y ∷ drop (i + 1) xs) (sym is)

-- those before a place are done, and then the one that stands there
pub does_here : {A : Type 0} (P : A → Part) (sort : Call → Bool) (xs : List A) (i : ℕ) (x : A)
    (a b c : WorkNow) → i < length xs → x ≡ get_or xs i x
    → Does (ForEach P (take i xs)) sort a b → Does (P x) sort b c
    → Does (ForEach P (take (i + 1) xs)) sort a c
does_here P sort xs i x a b c within is h k =
    let more : take (i + 1) xs ≡ take i xs ++ x ∷ [] =
    take_more xs i x within ∙ ap (λ y. take i xs ++ y ∷ []) (sym is) in
    subst (λ ys. Does (ForEach P ys) sort a c) (sym more)
    (does_more P sort (take i xs) x a b c h k)

-- all of them are done
pub does_all : {A : Type 0} (P : A → Part) (sort : Call → Bool) (xs : List A) (i : ℕ)
    (a b : WorkNow) → length xs ≤ i → Does (ForEach P (take i xs)) sort a b
    → Does (ForEach P xs) sort a b
does_all P sort xs i a b end h =
    subst (λ ys. Does (ForEach P ys) sort a b) (take_all i xs end) h
