-- What holds at each place of a fair history, and what the step that is made there leaves.
use Rattle.std.proofs.Common.{◌≡◌, ◌∙◌, ◌<◌, ◌⊎◌, arith, refl, sym, ap, subst, cond, ℕ, zero, suc, List, [], ◌∷◌, Bool, true, false, Option, Some, None}
use Rattle.std.specs.Prelude.{take, slice_get, bytes_eq}
use Rattle.std.proofs.lemmas.Bool.{false≢true, and_parts}
use Rattle.item_text.specs.declared.item.Item.{Item}
use Rattle.jop_base.proofs.KeyedLaws.{bytes_eq-refl}
use Rattle.law_kept.specs.Acts.{Act, Begins, Gets, Puts, Deletes, Changes, Ends, Elsewhere, FileStep, Version}
use Rattle.law_kept.specs.Fair.{file_bytes}
use Rattle.law_kept.specs.Honest.{bytes_after, is_honest, is_honest_from}
use Rattle.law_kept.specs.Licences.{may_act, obeys}
use Rattle.law_kept.specs.Own.{Own, own_after, acts_by, own_from}
use Rattle.law_kept.specs.Standing.{World, file_after, desk_after, desk_beside, happened, world_from}
use Rattle.law_kept.proofs.Clients.{some_same}

-- ---- the world

pub world_next : (w : World) (ss : List FileStep) (place : ℕ) (s : FileStep)
    → slice_get ss place ≡ Some s
    → world_from w (take (suc place) ss) ≡ happened (world_from w (take place ss)) s
unfolding world_from
world_next w [] place s here = cc
world_next w (t ∷ ss) zero s here = ap (happened w) (some_same t s here)
world_next w (t ∷ ss) (suc place) s here = world_next (happened w t) ss place s here

pub take_past : (ss : List FileStep) (place : ℕ) → slice_get ss place ≡ None
    → take (suc place) ss ≡ take place ss
take_past [] zero past = refl
take_past [] (suc place) past = refl
take_past (s ∷ ss) zero past = cc
take_past (s ∷ ss) (suc place) past = ap (λ (l : List FileStep). s ∷ l) (take_past ss place past)

-- ---- what a client knows is what it knows by its own part

own_step : (w : World) (client : List ℕ) (s : FileStep) (ss : List FileStep) (mine : Bool)
    → own_from
    (cond mine (desk_after w.file (w.at client) s.act) (desk_beside (w.at client) s.act)).own
    (acts_by client ss)
    ≡ own_from (w.at client).own (cond mine (s.act ∷ acts_by client ss) (acts_by client ss))
unfolding own_from
own_step w client s ss true = refl
own_step w client s ss false = refl

pub own_run : (w : World) (client : List ℕ) (ss : List FileStep)
    → ((world_from w ss).at client).own ≡ own_from (w.at client).own (acts_by client ss)
unfolding world_from own_from acts_by
own_run w client [] = refl
own_run w client (s ∷ ss) =
    own_run (happened w s) client ss ∙ own_step w client s ss (bytes_eq s.client client)

obeys_later : (reads : List ℕ → Option Item) (o : Own) (act : Act) (whole part : List Act)
    (next : Act)
    (mine : Bool)
    → ((p : Own) → obeys reads p whole ≡ true → may_act reads (own_from p part) next ≡ true)
    → obeys reads o (cond mine (act ∷ whole) whole) ≡ true
    → may_act reads (own_from o (cond mine (act ∷ part) part)) next ≡ true
unfolding obeys own_from
obeys_later reads o act whole part next true later all =
    later (own_after o act)
    (and_parts (may_act reads o act) (obeys reads (own_after o act) whole) all).1
obeys_later reads o act whole part next false later all = later o all

may_if_first : (reads : List ℕ → Option Item) (o : Own) (act : Act) (whole : List Act) (mine : Bool)
    → mine ≡ true → obeys reads o (cond mine (act ∷ whole) whole) ≡ true → may_act reads o act ≡ true
unfolding obeys
may_if_first reads o act whole true is all =
    (and_parts (may_act reads o act) (obeys reads (own_after o act) whole) all).0
may_if_first reads o act whole false is all = absurd (false≢true is)

obeys_here : (reads : List ℕ → Option Item) (o : Own) (s : FileStep) (ss : List FileStep)
    → obeys reads o (acts_by s.client (s ∷ ss)) ≡ true → may_act reads o s.act ≡ true
unfolding acts_by
obeys_here reads o s ss all =
    may_if_first reads o s.act (acts_by s.client ss) (bytes_eq s.client s.client)
    (bytes_eq-refl s.client) all

pub obeys_at : (reads : List ℕ → Option Item) (o : Own) (ss : List FileStep) (place : ℕ)
    (s : FileStep)
    → slice_get ss place ≡ Some s → obeys reads o (acts_by s.client ss) ≡ true
    → may_act reads (own_from o (acts_by s.client (take place ss))) s.act ≡ true
unfolding own_from acts_by
obeys_at reads o [] place s here all = cc
obeys_at reads o (t ∷ ss) zero s here all =
    obeys_here reads o s ss
    (subst (λ (u : FileStep). obeys reads o (acts_by s.client (u ∷ ss)) ≡ true) (some_same t s here)
    all)
obeys_at reads o (t ∷ ss) (suc place) s here all =
    obeys_later reads o t.act (acts_by s.client ss) (acts_by s.client (take place ss)) s.act
    (bytes_eq t.client s.client) (λ p rest. obeys_at reads p ss place s here rest) all

-- ---- the store

pub file_bytes-file_after : (stood : Option Item) (file : Option Version) (act : Act)
    → file_bytes (file_after stood file act) ≡ bytes_after (file_bytes file) act
file_bytes-file_after stood file (Puts bytes true heard) = refl
file_bytes-file_after stood file (Puts bytes false heard) = refl
file_bytes-file_after stood file (Deletes true) = refl
file_bytes-file_after stood file (Deletes false) = refl
file_bytes-file_after stood file Begins = refl
file_bytes-file_after stood file (Gets answer) = refl
file_bytes-file_after stood file (Changes change) = refl
file_bytes-file_after stood file Ends = refl
file_bytes-file_after stood file Elsewhere = refl

pub honest_at : (w : World) (ss : List FileStep) (place : ℕ) (s : FileStep)
    → slice_get ss place ≡ Some s
    → is_honest_from (file_bytes w.file) ss ≡ true
    → is_honest (file_bytes (world_from w (take place ss)).file) s.act ≡ true
unfolding world_from is_honest_from
honest_at w [] place s here all = cc
honest_at w (t ∷ ss) zero s here all =
    let first =
    (and_parts (is_honest (file_bytes w.file) t.act)
    (is_honest_from (bytes_after (file_bytes w.file) t.act) ss) all).0 in
    subst (λ (u : FileStep). is_honest (file_bytes w.file) u.act ≡ true) (some_same t s here) first
honest_at w (t ∷ ss) (suc place) s here all =
    let rest =
    (and_parts (is_honest (file_bytes w.file) t.act)
    (is_honest_from (bytes_after (file_bytes w.file) t.act) ss) all).1 in
    let same = file_bytes-file_after (w.at t.client).stands.row w.file t.act in
    honest_at (happened w t) ss place s here
    (subst (λ (file : Option (List ℕ)). is_honest_from file ss ≡ true) (sym same) rest)

pub before_or_here : (k now : ℕ) → k < suc now → (k < now) ⊎ (k ≡ now)
before_or_here k now h = grind arith
