-- If no step of a history is refused, then each client does what it may, by its own part.
use Rattle.std.proofs.Common.{◌≡◌, refl, subst, cond, ℕ, ◌+◌, List, [], ◌∷◌, Bool, true, false, Option}
use Rattle.std.specs.Prelude.{bytes_eq}
use Rattle.std.proofs.lemmas.Bool.{and_from}
use Rattle.item_text.specs.declared.item.Item.{Item}
use Rattle.jop_base.proofs.KeyedLaws.{same_text}
use Rattle.law_kept.specs.Acts.{Act, FileStep, FileHistory}
use Rattle.law_kept.specs.Fair.{AllObey}
use Rattle.law_kept.specs.Licences.{may_act, obeys}
use Rattle.law_kept.specs.Own.{own_after, acts_by}
use Rattle.law_kept.specs.Refusals.{refused_from, refused_places}
use Rattle.law_kept.specs.Standing.{World, desk_after, desk_beside, opening_world, happened}

obeys_first : (reads : List ℕ → Option Item) (w : World) (client : List ℕ) (act : Act)
    (whole : List Act) (mine : Bool)
    → (mine ≡ true → may_act reads (w.at client).own act ≡ true)
    → obeys reads
    (cond mine (desk_after w.file (w.at client) act) (desk_beside (w.at client) act)).own
    whole ≡ true
    → obeys reads (w.at client).own (cond mine (act ∷ whole) whole) ≡ true
unfolding obeys
obeys_first reads w client act whole true may rest =
    and_from (may_act reads (w.at client).own act)
    (obeys reads (own_after (w.at client).own act) whole)
    (may refl) rest
obeys_first reads w client act whole false may rest = rest

obeys_if : (reads : List ℕ → Option Item) (place : ℕ) (w : World) (ss : List FileStep)
    (client : List ℕ)
    → refused_from reads place w ss ≡ [] → obeys reads (w.at client).own (acts_by client ss) ≡ true
unfolding refused_from obeys acts_by
obeys_if reads place w [] client none = refl
obeys_if reads place w (s ∷ ss) client none =
    by (may_act reads (w.at s.client).own s.act) refl none
    (λ rest. obeys_if reads (place + 1) (happened w s) ss client rest)
  where
    by : (may : Bool) → may_act reads (w.at s.client).own s.act ≡ may
        → cond may (refused_from reads (place + 1) (happened w s) ss)
        (place ∷ refused_from reads (place + 1) (happened w s) ss) ≡ []
        → (refused_from reads (place + 1) (happened w s) ss ≡ []
        → obeys reads ((happened w s).at client).own (acts_by client ss) ≡ true)
        → obeys reads (w.at client).own
        (cond (bytes_eq s.client client) (s.act ∷ acts_by client ss) (acts_by client ss)) ≡ true
    by true may rest later =
        obeys_first reads w client s.act (acts_by client ss) (bytes_eq s.client client)
        (λ mine. subst (λ (c : List ℕ). may_act reads (w.at c).own s.act ≡ true)
        (same_text s.client client mine) may)
        (later rest)
    by false may rest later = cc

pub all_obey : (reads : List ℕ → Option Item) (h : FileHistory) → refused_places reads h ≡ []
    → AllObey reads h.steps
all_obey reads h none client = obeys_if reads 0 (opening_world h.opening) h.steps client none
