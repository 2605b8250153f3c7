-- A body is one listing: of two lists that rise and hold the same files each is the other.
use Rattle.std.proofs.Common.{◌≡◌, ◌∙◌, refl, sym, ap, subst, arith, ℕ, zero, suc, ◌<◌, List, [], ◌∷◌, length, get_or, true, ◌⊎◌, inl, inr, Some, None, Option}
use Rattle.std.specs.Prelude.{Contains, IsPermutation}
use Rattle.std.proofs.lemmas.Bool.{false≢true}
use Rattle.std.proofs.lemmas.List.Elements.{Contains-append_cases, Contains-append_right}
use Rattle.std.proofs.lemmas.List.Sorted.{Contains-permutation, IsPermutation-sym}
use Rattle.jop_base.specs.Keyed.{IsAfter, text_lt}
use Rattle.jop_base.proofs.KeyedLaws.{bytes_eq-refl, bytes_eq-text_lt, text_lt-trans}
use Rattle.jop_base.specs.declared.dir.Dir.{Dir}
use Rattle.jop_target.specs.Replies.{IsRising}
use Rattle.jop_target.specs.Store.{entry_key}
use Rattle.jop_target.specs.declared.reply.Entry.{Entry}
use Rattle.dav_listing.specs.Listings.{AreFilesOf, ListsFiles}
use Rattle.dav_listing.specs.declared.member.Member.{Member}
use Rattle.dav_listing.proofs.OneClass.{files_once}
use Rattle.dav_listing.proofs.Repeated.{after_later}

not_before_itself : (key : List ℕ) → text_lt key key ≡ true → ⊥
not_before_itself key h = false≢true (sym (bytes_eq-text_lt key key h) ∙ bytes_eq-refl key)

the_one : (f e : Entry) (k : ℕ) → k < length (f ∷ []) → get_or (f ∷ []) k e ≡ e → f ≡ e
the_one f e zero lt is = is
the_one f e (suc k) lt is = absurd (omega arith)

is_one : (f e : Entry) → Contains (f ∷ []) e → f ≡ e
is_one f e (k, lt, is) = the_one f e k lt is

later : (key : List ℕ) (es : List Entry) (x : Entry) → IsAfter entry_key key es → IsRising es
    → Contains es x → text_lt key (entry_key x) ≡ true
later key [] x h k (i, lt, is) = absurd (omega arith)
later key (y ∷ ys) x h k there = at (Contains-append_cases (y ∷ []) ys x there)
    (later key ys x (after_later key y ys h k.0) k.1)
  where
    at : Contains (y ∷ []) x ⊎ Contains ys x → (Contains ys x → text_lt key (entry_key x) ≡ true)
        → text_lt key (entry_key x) ≡ true
    at (inl here) rest = subst (λ (e : Entry). text_lt key (entry_key e) ≡ true) (is_one y x here) h
    at (inr there) rest = rest there

same_first : (e f : Entry) (es fs : List Entry) → IsRising (e ∷ es) → IsRising (f ∷ fs)
    → Contains (f ∷ []) e ⊎ Contains fs e → Contains (e ∷ []) f ⊎ Contains es f → e ≡ f
same_first e f es fs h k (inl here) other = sym (is_one f e here)
same_first e f es fs h k (inr there) (inl here) = is_one e f here
same_first e f es fs h k (inr there) (inr beside) =
    absurd (not_before_itself (entry_key e)
    (text_lt-trans (entry_key e) (entry_key f) (entry_key e)
    (later (entry_key e) es f h.0 h.1 beside) (later (entry_key f) fs e k.0 k.1 there)))

in_rest : (e f x : Entry) (es fs : List Entry) → IsRising (e ∷ es) → e ≡ f → Contains es x
    → Contains (f ∷ []) x ⊎ Contains fs x → Contains fs x
in_rest e f x es fs h same inside (inl here) =
    absurd (not_before_itself (entry_key e)
    (subst (λ (y : Entry). text_lt (entry_key e) (entry_key y) ≡ true)
    (sym (same ∙ is_one f x here)) (later (entry_key e) es x h.0 h.1 inside)))
in_rest e f x es fs h same inside (inr there) = there

rising_same : (es fs : List Entry) → IsRising es → IsRising fs
    → ((x : Entry) → Contains es x → Contains fs x) → ((x : Entry) → Contains fs x → Contains es x)
    → es ≡ fs
rising_same [] [] h k forth back = refl
rising_same [] (f ∷ fs) h k forth back =
    let here = back f (0, omega arith, refl) in absurd (omega (arith, here.1))
rising_same (e ∷ es) [] h k forth back =
    let here = forth e (0, omega arith, refl) in absurd (omega (arith, here.1))
rising_same (e ∷ es) (f ∷ fs) h k forth back =
    let same = same_first e f es fs h k
    (Contains-append_cases (f ∷ []) fs e (forth e (0, omega arith, refl)))
    (Contains-append_cases (e ∷ []) es f (back f (0, omega arith, refl))) in
    let rest = rising_same es fs h.1 k.1
    (λ x there. in_rest e f x es fs h same there
    (Contains-append_cases (f ∷ []) fs x (forth x (Contains-append_right (e ∷ []) es x there))))
    (λ x there. in_rest f e x fs es k (sym same) there
    (Contains-append_cases (e ∷ []) es x (back x (Contains-append_right (f ∷ []) fs x there)))) in
    λ i. same i ∷ rest i

list_or : Option (List Member) → List Member
list_or (Some ms) = ms
list_or None = []

pub body_is_one_listing : (dir : Dir) (folder body : List ℕ) (one other : List Entry)
    → ListsFiles dir folder body one → ListsFiles dir folder body other → one ≡ other
unfolding list_or
body_is_one_listing dir folder body one other l m =
    let members : l.members ≡ m.members = ap list_or (sym l.shown ∙ m.shown) in
    let files = files_once dir folder m.members l.files m.files
    (subst (λ (ms : List Member). AreFilesOf dir folder ms l.files) members l.files_of) m.files_of in
    let same = subst (λ (fs : List Entry). IsPermutation fs one) files l.same in
    rising_same one other l.rising m.rising
    (λ x there. Contains-permutation m.files other x m.same
    (Contains-permutation one m.files x (IsPermutation-sym m.files one same) there))
    (λ x there. Contains-permutation m.files one x same
    (Contains-permutation other m.files x (IsPermutation-sym m.files other m.same) there))
