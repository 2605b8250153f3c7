-- What each client writes down, and what it does, in a woven history.
use Rattle.std.proofs.Common.{◌≡◌, ◌⊎◌, ◌∙◌, refl, ap, arith, inl, inr, ℕ, ◌≤◌, zero, suc, List, [], ◌∷◌, ◌++◌, Bool, true, false, if◌then◌else◌}
use Rattle.std.proofs.Math.Nat.{le-suc_iff}
use Rattle.std.specs.Prelude.{bytes_eq}
use Rattle.jop_base.proofs.KeyedLaws.{same_text}
use Rattle.jop_target.specs.History.{noted, part_of}
use Rattle.jop_target.specs.declared.event.Event.{Event}
use Rattle.jop_target.specs.declared.event.Event.TheVariants.{Began, Sent, Called, Made, Ended}
use Rattle.jop_target.specs.declared.tree.Tree.{Tree}
use Rattle.law_licences.specs.Deeds.{Deed, deed_by, deeds_in}
use Rattle.local_store.specs.Tale.{TaleStep, plain_steps}
use Rattle.call_log.specs.declared.entry.LogEntry.{LogEntry}
use Rattle.run_premises.specs.Steps.{happening_of}
use Rattle.woven.specs.Telling.{AreApart, AreSeated, told_deed, deeds_told}
use Rattle.woven.specs.Weaving.{Clients, DoAgree, ToldEvent, events_told, weave}
use Rattle.woven.proofs.Parts.{Reads, all_by, picked, woven_apart, woven_part}

-- ---- what is written down

abbrev pub notes : TaleStep → List Event
notes s = noted s.step.happens

abbrev pub note : ToldEvent → List Event
note t = t.event ∷ []

notes_are : (event : Event) (stands : Bool) → noted (happening_of event stands) ≡ event ∷ []
notes_are Began stands = refl
notes_are (Sent call) stands = refl
notes_are (Called call reply) stands = refl
notes_are (Made number) stands = refl
notes_are Ended stands = refl

reads_notes : Reads notes note
reads_notes client moment t = notes_are t.event t.stands

part_is : (client : List ℕ) (ss : List TaleStep) → part_of client (plain_steps ss) ≡ picked notes client ss
part_is client [] = refl
part_is client (s ∷ ss) =
    ap (λ (es : List Event). if bytes_eq s.step.client client then noted s.step.happens ++ es else es)
    (part_is client ss)

notes_all : (ts : List ToldEvent) → all_by note ts ≡ events_told ts
notes_all [] = refl
notes_all (t ∷ ts) = ap (λ (es : List Event). t.event ∷ es) (notes_all ts)

-- ---- what is done

abbrev pub deeds : TaleStep → List Deed
deeds s = deed_by s.step.happens s.change ∷ []

abbrev pub deed : ToldEvent → List Deed
deed t = told_deed t ∷ []

reads_deeds : Reads deeds deed
reads_deeds client moment t = refl

deeds_are : (client : List ℕ) (ss : List TaleStep) → deeds_in client ss ≡ picked deeds client ss
unfolding deeds_in
deeds_are client [] = refl
deeds_are client (s ∷ ss) =
    ap (λ (ds : List Deed). if bytes_eq s.step.client client then deed_by s.step.happens s.change ∷ ds else ds)
    (deeds_are client ss)

deeds_all : (ts : List ToldEvent) → all_by deed ts ≡ deeds_told ts
deeds_all [] = refl
deeds_all (t ∷ ts) = ap (λ (ds : List Deed). told_deed t ∷ ds) (deeds_all ts)

-- ---- whose an id is

-- the id is that of one of the first seats, or of none of them
abbrev pub Owner : (ℕ → List ℕ) → ℕ → List ℕ → Type 0
Owner id count me =
    ((k : ℕ) × (1 ≤ k) × (k ≤ count) × (id k ≡ me))
    ⊎ ((m : ℕ) → 1 ≤ m → m ≤ count → bytes_eq (id m) me ≡ false)

pub owner : (id : ℕ → List ℕ) (me : List ℕ) (n : ℕ) → Owner id n me
owner id me zero = inr (λ m low upto. absurd (omega (arith, low, upto)))
owner id me (suc n) = go (bytes_eq (id (suc n)) me) refl (owner id me n)
  where
    go : (b : Bool) → bytes_eq (id (suc n)) me ≡ b → Owner id n me → Owner id (suc n) me
    go true is before = inl (suc n, omega arith, omega arith, same_text (id (suc n)) me is)
    go false is (inl h) = inl (h.0, h.1, omega (arith, h.2), h.3)
    go false is (inr none) = inr (λ m low upto. elim (le-suc_iff.0 upto) [
      | inl fits ↦ none m low fits
      | inr last ↦ ap (λ (j : ℕ). bytes_eq (id j) me) last ∙ is
    ])

-- ---- in a woven history

pub part_told : (tree : Tree) (log : List LogEntry) (clients : Clients) → AreApart clients → AreSeated clients log
    → DoAgree clients log → (k : ℕ) → 1 ≤ k → k ≤ clients.count
    → part_of (clients.id k) (plain_steps (weave tree log clients).steps) ≡ events_told (clients.told k)
part_told tree log clients apart seated agree k low high =
    part_is (clients.id k) (weave tree log clients).steps
    ∙ (woven_part notes note reads_notes tree log clients apart seated agree k low high
    ∙ notes_all (clients.told k))

pub part_none : (tree : Tree) (log : List LogEntry) (clients : Clients) → AreSeated clients log → (me : List ℕ)
    → ((m : ℕ) → 1 ≤ m → m ≤ clients.count → bytes_eq (clients.id m) me ≡ false)
    → part_of me (plain_steps (weave tree log clients).steps) ≡ []
part_none tree log clients seated me none =
    part_is me (weave tree log clients).steps ∙ woven_apart notes tree log clients seated me none

pub deeds_of_told : (tree : Tree) (log : List LogEntry) (clients : Clients) → AreApart clients
    → AreSeated clients log → DoAgree clients log → (k : ℕ) → 1 ≤ k → k ≤ clients.count
    → deeds_in (clients.id k) (weave tree log clients).steps ≡ deeds_told (clients.told k)
deeds_of_told tree log clients apart seated agree k low high =
    deeds_are (clients.id k) (weave tree log clients).steps
    ∙ (woven_part deeds deed reads_deeds tree log clients apart seated agree k low high
    ∙ deeds_all (clients.told k))

pub deeds_none : (tree : Tree) (log : List LogEntry) (clients : Clients) → AreSeated clients log → (me : List ℕ)
    → ((m : ℕ) → 1 ≤ m → m ≤ clients.count → bytes_eq (clients.id m) me ≡ false)
    → deeds_in me (weave tree log clients).steps ≡ []
deeds_none tree log clients seated me none =
    deeds_are me (weave tree log clients).steps ∙ woven_apart deeds tree log clients seated me none
