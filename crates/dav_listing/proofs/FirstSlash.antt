-- Where the first slash of a text stands.
use Rattle.std.proofs.Common.{◌≡◌, ◌∙◌, sym, ap, ℕ, ◌+◌, ◌<◌, ◌≤◌, List, [], length, get_or, drop, ◌==◌}
use Rattle.std.proofs.lemmas.Bool.{cond-true, cond-false, eq-eqb, ne_eqb}
use Rattle.std.proofs.lemmas.List.{drop_more, drop_all}
use Rattle.dav_listing.specs.Hrefs.{from_slash}

pub from_slash-here : (text : List ℕ) (i d : ℕ) → i < length text → get_or text i d ≡ 47
    → from_slash (drop i text) ≡ drop i text
unfolding from_slash
from_slash-here text i d inside here =
    ap from_slash (drop_more text i d inside)
    ∙ cond-true (get_or text i d == 47) _ _ (eq-eqb (get_or text i d) 47 here)
    ∙ sym (drop_more text i d inside)

pub from_slash-later : (text : List ℕ) (i d : ℕ) → i < length text → ¬ (get_or text i d ≡ 47)
    → from_slash (drop i text) ≡ from_slash (drop (i + 1) text)
unfolding from_slash
from_slash-later text i d inside other =
    ap from_slash (drop_more text i d inside)
    ∙ cond-false (get_or text i d == 47) _ _ (ne_eqb (get_or text i d) 47 other)

pub from_slash-end : (text : List ℕ) (i : ℕ) → length text ≤ i → from_slash (drop i text) ≡ []
unfolding from_slash
from_slash-end text i done = ap from_slash (drop_all i text done)
