-- What is said of a list of deeds is said of its parts.
use Rattle.std.specs.Prelude.{ℕ, ◌≡◌, ◌+◌, List, [], ◌∷◌, ◌++◌, refl}
use Rattle.std.proofs.Common.{ap}
use Rattle.jop_target.specs.declared.event.Event.{Event}
use Rattle.jop_target.specs.declared.event.Event.TheVariants.{Began, Sent, Called, Made, Ended}
use Rattle.local_store.specs.Tale.{made_in, numbers_from}
use Rattle.local_store.specs.declared.change.Change.{Change}
use Rattle.law_licences.specs.Deeds.{Deed, Begins, Asks, Makes, Ends, deeds_of}
use Rattle.law_licences.specs.Licences.{Each}
use Rattle.law_licences.specs.Views.{View, view_from, seen}
use Rattle.std.specs.Prelude.{Some, None}

pub view_from-append : (v : View) (ds es : List Deed)
    → view_from v (ds ++ es) ≡ view_from (view_from v ds) es
unfolding view_from
view_from-append v [] es = refl
view_from-append v (d ∷ ds) es = view_from-append (seen v d) ds es

pub Each-append : (P : View → Deed → Type 0) (v : View) (ds es : List Deed)
    → Each P v ds → Each P (view_from v ds) es → Each P v (ds ++ es)
unfolding view_from Each
Each-append P v [] es h k = k
Each-append P v (d ∷ ds) es h k = (h.0, Each-append P (seen v d) ds es h.1 k)

pub Each-parts : (P : View → Deed → Type 0) (v : View) (ds es : List Deed)
    → Each P v (ds ++ es) → Each P v ds × Each P (view_from v ds) es
unfolding view_from Each
Each-parts P v [] es h = (tt, h)
Each-parts P v (d ∷ ds) es h =
    let rest = Each-parts P (seen v d) ds es h.1 in ((h.0, rest.0), rest.1)

-- two parts of a trail, where the first has as many changes as are told beside it
pub deeds_of-append : (es fs : List Event) (cs ds : List Change) (n : ℕ)
    → made_in es ≡ numbers_from n cs
    → deeds_of (es ++ fs) (cs ++ ds) ≡ deeds_of es cs ++ deeds_of fs ds
unfolding deeds_of made_in
deeds_of-append [] fs [] ds n told = refl
deeds_of-append [] fs (c ∷ cs) ds n told = cc
deeds_of-append (Began ∷ es) fs cs ds n told =
    ap (λ (rest : List Deed). Begins ∷ rest) (deeds_of-append es fs cs ds n told)
deeds_of-append (Sent call ∷ es) fs cs ds n told =
    ap (λ (rest : List Deed). Asks call None ∷ rest) (deeds_of-append es fs cs ds n told)
deeds_of-append (Called call reply ∷ es) fs cs ds n told =
    ap (λ (rest : List Deed). Asks call (Some reply) ∷ rest) (deeds_of-append es fs cs ds n told)
deeds_of-append (Made number ∷ es) fs [] ds n told = cc
deeds_of-append (Made number ∷ es) fs (c ∷ cs) ds n told =
    let rest : made_in es ≡ numbers_from (n + 1) cs = cc in
    ap (λ (rest : List Deed). Makes c ∷ rest) (deeds_of-append es fs cs ds (n + 1) rest)
deeds_of-append (Ended ∷ es) fs cs ds n told =
    ap (λ (rest : List Deed). Ends ∷ rest) (deeds_of-append es fs cs ds n told)
