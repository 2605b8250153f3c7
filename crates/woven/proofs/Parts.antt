-- What stands in a woven history of each client is what its seat tells, in order.
use Rattle.std.proofs.Common.{◌≡◌, ◌⊎◌, ◌∙◌, refl, sym, ap, subst, arith, inl, inr, ℕ, ◌≤◌, zero, suc, List, [], ◌∷◌, ◌++◌, Bool, true, false, if◌then◌else◌, append_assoc, append-nil}
use Rattle.std.proofs.lemmas.Bool.{false≢true, eq-eqb, eqb-true}
use Rattle.std.proofs.lemmas.List.Elements.{All-head, All-tail}
use Rattle.std.proofs.Math.Nat.{le-suc_iff}
use Rattle.std.specs.Prelude.{All, bytes_eq, nat_eq}
use Rattle.jop_base.proofs.KeyedLaws.{bytes_eq-refl, same_text}
use Rattle.jop_target.specs.Runs.{is_failed}
use Rattle.jop_target.specs.declared.tree.Tree.{Tree}
use Rattle.local_store.specs.Tale.{TaleStep}
use Rattle.call_log.specs.Agreeing.{answers_to}
use Rattle.call_log.specs.declared.entry.LogEntry.{LogEntry}
use Rattle.woven.specs.Telling.{AreApart, AreSeated}
use Rattle.woven.specs.Weaving.{Clients, DoAgree, ToldEvent, StandFor, before_next, rest_told, first_step, from_next, opening_steps, told_step, log_steps, weave, with_told}
use Rattle.woven.proofs.Honest.{AreReady, Starts, next_starts, ready_after, ready_failed, answers_here, stand_next, stands_first}

-- ---- what is read in a client's steps

abbrev pub picked : {X : Type 0} → (TaleStep → List X) → List ℕ → List TaleStep → List X
picked of client [] = []
picked of client (s ∷ ss) =
    if bytes_eq s.step.client client then of s ++ picked of client ss else picked of client ss

abbrev pub all_by : {X : Type 0} → (ToldEvent → List X) → List ToldEvent → List X
all_by by [] = []
all_by by (t ∷ ts) = by t ++ all_by by ts

-- what is read in a step is what its client tells there
abbrev pub Reads : {X : Type 0} → (TaleStep → List X) → (ToldEvent → List X) → Type 0
Reads of by = (client : List ℕ) (moment : ℕ) (t : ToldEvent) → of (told_step client moment t) ≡ by t

if_append : {X : Type 0} (b : Bool) (x xs ys : List X)
    → (if b then x ++ (xs ++ ys) else xs ++ ys) ≡ (if b then x ++ xs else xs) ++ ys
if_append true x xs ys = sym (append_assoc x xs ys)
if_append false x xs ys = refl

pub picked-append : {X : Type 0} (of : TaleStep → List X) (client : List ℕ) (ss rs : List TaleStep)
    → picked of client (ss ++ rs) ≡ picked of client ss ++ picked of client rs
picked-append of client [] rs = refl
picked-append {X} of client (s ∷ ss) rs =
    ap (λ (xs : List X). if bytes_eq s.step.client client then of s ++ xs else xs)
    (picked-append of client ss rs)
    ∙ if_append (bytes_eq s.step.client client) (of s) (picked of client ss) (picked of client rs)

-- ---- the client's own

-- up to its next entry, and from there on
own_next : {X : Type 0} (of : TaleStep → List X) (by : ToldEvent → List X) → Reads of by
    → (client me : List ℕ) → bytes_eq client me ≡ true → (moment : ℕ) (ts : List ToldEvent)
    → picked of me (before_next client moment ts) ++ all_by by (from_next ts) ≡ all_by by ts
own_next of by reads client me own moment [] = refl
own_next {X} of by reads client me own moment (t ∷ ts) =
    go t.stands (own_next of by reads client me own moment ts)
  where
    mine : (b : Bool) → b ≡ true
        → (if b then of (told_step client moment t) ++ picked of me (before_next client moment ts)
        else picked of me (before_next client moment ts))
        ≡ by t ++ picked of me (before_next client moment ts)
    mine true is = ap (λ (xs : List X). xs ++ picked of me (before_next client moment ts)) (reads client moment t)
    mine false is = absurd (false≢true is)

    go : (b : Bool)
        → picked of me (before_next client moment ts) ++ all_by by (from_next ts) ≡ all_by by ts
        → picked of me (if b then [] else told_step client moment t ∷ before_next client moment ts)
        ++ all_by by (if b then t ∷ ts else from_next ts) ≡ by t ++ all_by by ts
    go true more = refl
    go false more =
        ap (λ (xs : List X). xs ++ all_by by (from_next ts)) (mine (bytes_eq client me) own)
        ∙ (append_assoc (by t) (picked of me (before_next client moment ts)) (all_by by (from_next ts))
        ∙ ap (λ (xs : List X). by t ++ xs) more)

own_first : {X : Type 0} (of : TaleStep → List X) (by : ToldEvent → List X) → Reads of by
    → (client me : List ℕ) → bytes_eq client me ≡ true → (moment : ℕ) (t : ToldEvent) (ts : List ToldEvent)
    → picked of me (first_step client moment (t ∷ ts)) ≡ by t
own_first {X} of by reads client me own moment t ts = go (bytes_eq client me) own
  where
    go : (b : Bool) → b ≡ true → (if b then of (told_step client moment t) ++ [] else []) ≡ by t
    go true is = append-nil (of (told_step client moment t)) ∙ reads client moment t
    go false is = absurd (false≢true is)

-- ---- another's

none_of : {X : Type 0} (b : Bool) (x xs : List X) → b ≡ false → xs ≡ []
    → (if b then x ++ xs else xs) ≡ []
none_of true x xs is none = absurd (false≢true (sym is))
none_of false x xs is none = none

others_next : {X : Type 0} (of : TaleStep → List X) (client me : List ℕ) → bytes_eq client me ≡ false
    → (moment : ℕ) (ts : List ToldEvent) → picked of me (before_next client moment ts) ≡ []
others_next of client me other moment [] = refl
others_next {X} of client me other moment (t ∷ ts) =
    go t.stands (others_next of client me other moment ts)
  where
    go : (b : Bool) → picked of me (before_next client moment ts) ≡ []
        → picked of me (if b then [] else told_step client moment t ∷ before_next client moment ts) ≡ []
    go true more = refl
    go false more = none_of (bytes_eq client me) (of (told_step client moment t))
        (picked of me (before_next client moment ts)) other more

others_first : {X : Type 0} (of : TaleStep → List X) (client me : List ℕ) → bytes_eq client me ≡ false
    → (moment : ℕ) (ts : List ToldEvent) → picked of me (first_step client moment ts) ≡ []
others_first of client me other moment [] = refl
others_first {X} of client me other moment (t ∷ ts) =
    none_of (bytes_eq client me) (of (told_step client moment t)) [] other refl

-- ---- an entry of one seat, and what comes behind it

-- which of the seats, from 1 to so many, has this id
abbrev pub Knows : (ℕ → List ℕ) → ℕ → List ℕ → ℕ → Type 0
Knows id count me k = (seat : ℕ) → 1 ≤ seat → seat ≤ count → bytes_eq (id seat) me ≡ nat_eq k seat

entry_part : {X : Type 0} (of : TaleStep → List X) (by : ToldEvent → List X) → Reads of by
    → (client me : List ℕ) (seat k : ℕ) → bytes_eq client me ≡ nat_eq k seat
    → (moment : ℕ) (told : ℕ → List ToldEvent) (first : ToldEvent) (rest : List ToldEvent) (later : List TaleStep)
    → told seat ≡ first ∷ rest
    → picked of me later ≡ all_by by (with_told told seat (from_next rest) k)
    → picked of me (first_step client moment (first ∷ rest) ++ (before_next client moment rest ++ later))
    ≡ all_by by (told k)
entry_part {X} of by reads client me seat k is moment told first rest later whole after =
    picked-append of me (first_step client moment (first ∷ rest)) (before_next client moment rest ++ later)
    ∙ (ap (λ (xs : List X). picked of me (first_step client moment (first ∷ rest)) ++ xs)
    (picked-append of me (before_next client moment rest) later
    ∙ ap (λ (xs : List X). picked of me (before_next client moment rest) ++ xs) after)
    ∙ go (nat_eq k seat) refl)
  where
    go : (b : Bool) → nat_eq k seat ≡ b
        → picked of me (first_step client moment (first ∷ rest))
        ++ (picked of me (before_next client moment rest)
        ++ all_by by (if b then from_next rest else told k)) ≡ all_by by (told k)
    go true same =
        let own : bytes_eq client me ≡ true = is ∙ same in
        let told_here : told k ≡ first ∷ rest = ap told (eqb-true k seat same) ∙ whole in
        ap (λ (xs : List X). xs ++ (picked of me (before_next client moment rest) ++ all_by by (from_next rest)))
        (own_first of by reads client me own moment first rest)
        ∙ (ap (λ (xs : List X). by first ++ xs) (own_next of by reads client me own moment rest)
        ∙ sym (ap (λ (ts : List ToldEvent). all_by by ts) told_here))
    go false apart =
        let other : bytes_eq client me ≡ false = is ∙ apart in
        ap (λ (xs : List X). xs ++ (picked of me (before_next client moment rest) ++ all_by by (told k)))
        (others_first of client me other moment (first ∷ rest))
        ∙ ap (λ (xs : List X). xs ++ all_by by (told k)) (others_next of client me other moment rest)

nothing_left : {X : Type 0} (by : ToldEvent → List X) (ts : List ToldEvent) → StandFor [] ts → Starts ts
    → [] ≡ all_by by ts
unfolding StandFor
nothing_left by [] h starts = refl
nothing_left by (t ∷ ts) h starts = absurd (false≢true (sym h.0 ∙ starts))

abbrev pub IsSeat : ℕ → LogEntry → Type 0
IsSeat count e = (1 ≤ e.seat) × (e.seat ≤ count)

later_part : {X : Type 0} (of : TaleStep → List X) (by : ToldEvent → List X) → Reads of by
    → (id : ℕ → List ℕ) (count : ℕ) (me : List ℕ) (k : ℕ) → Knows id count me k
    → (es : List LogEntry) → All (IsSeat count) es → (told : ℕ → List ToldEvent) → AreReady told es
    → picked of me (log_steps id told es) ≡ all_by by (told k)
unfolding log_steps
later_part of by reads id count me k knows [] seated told ready =
    nothing_left by (told k) (ready.stand k) (ready.starts k)
later_part {X} of by reads id count me k knows (e ∷ es) seated told ready =
    go (later_part of by reads id count me k knows es (All-tail (IsSeat count) e es seated))
    (is_failed e.reply) refl
  where
    one_by_one : List ToldEvent → List TaleStep
    one_by_one ts =
        first_step (id e.seat) e.moment ts
        ++ (before_next (id e.seat) e.moment (rest_told ts)
        ++ log_steps id (with_told told e.seat (from_next (rest_told ts))) es)

    go : ((others : ℕ → List ToldEvent) → AreReady others es
        → picked of me (log_steps id others es) ≡ all_by by (others k))
        → (b : Bool) → is_failed e.reply ≡ b
        → picked of me (if b then log_steps id told es else one_by_one (told e.seat)) ≡ all_by by (told k)
    go more true failed = more told (ready_failed told e es ready failed)
    go more false heard =
        let own = stands_first e (answers_to e.seat es) (told e.seat) (ready.starts e.seat)
        (subst (λ (answers : List LogEntry). StandFor answers (told e.seat)) (answers_here e es heard)
        (ready.stand e.seat)) in
        let here = All-head (IsSeat count) e es seated in
        let others = with_told told e.seat (from_next own.rest) in
        let after = more others (ready_after told e es own.rest ready own.others) in
        subst (λ (ts : List ToldEvent). picked of me (one_by_one ts) ≡ all_by by (told k)) (sym own.whole)
        (entry_part of by reads (id e.seat) me e.seat k (knows e.seat here.0 here.1) e.moment told own.first own.rest
        (log_steps id others es) own.whole after)

-- ---- before the first entries

opening_apart : {X : Type 0} (of : TaleStep → List X) (id : ℕ → List ℕ) (me : List ℕ) (told : ℕ → List ToldEvent)
    (n : ℕ) → ((m : ℕ) → 1 ≤ m → m ≤ n → bytes_eq (id m) me ≡ false)
    → picked of me (opening_steps id told n) ≡ []
unfolding opening_steps
opening_apart of id me told zero apart = refl
opening_apart {X} of id me told (suc n) apart =
    picked-append of me (opening_steps id told n) (before_next (id (suc n)) 0 (told (suc n)))
    ∙ (ap (λ (xs : List X). xs ++ picked of me (before_next (id (suc n)) 0 (told (suc n))))
    (opening_apart of id me told n (λ m low upto. apart m low (omega (arith, upto))))
    ∙ others_next of (id (suc n)) me (apart (suc n) (omega arith) (omega arith)) 0 (told (suc n)))

differ : (k m : ℕ) → ¬ (k ≡ m) → nat_eq k m ≡ false
differ k m other = by (nat_eq k m) refl
  where
    by : (b : Bool) → nat_eq k m ≡ b → b ≡ false
    by false is = refl
    by true is = absurd (other (eqb-true k m is))

opening_part : {X : Type 0} (of : TaleStep → List X) (by : ToldEvent → List X) → Reads of by
    → (id : ℕ → List ℕ) (count : ℕ) (me : List ℕ) (k : ℕ) → Knows id count me k → 1 ≤ k
    → (told : ℕ → List ToldEvent) (n : ℕ) → n ≤ count → k ≤ n
    → picked of me (opening_steps id told n) ++ all_by by (from_next (told k)) ≡ all_by by (told k)
unfolding opening_steps
opening_part of by reads id count me k knows low told zero within upto = absurd (omega (arith, low, upto))
opening_part {X} of by reads id count me k knows low told (suc n) within upto =
    ap (λ (xs : List X). xs ++ all_by by (from_next (told k)))
    (picked-append of me (opening_steps id told n) (before_next (id (suc n)) 0 (told (suc n))))
    ∙ (append_assoc (picked of me (opening_steps id told n))
    (picked of me (before_next (id (suc n)) 0 (told (suc n)))) (all_by by (from_next (told k)))
    ∙ go (λ (fits : k ≤ n). opening_part of by reads id count me k knows low told n (omega (arith, within)) fits)
    (le-suc_iff.0 upto))
  where
    here : bytes_eq (id (suc n)) me ≡ nat_eq k (suc n)
    here = knows (suc n) (omega arith) within

    go : (k ≤ n → picked of me (opening_steps id told n) ++ all_by by (from_next (told k)) ≡ all_by by (told k))
        → (k ≤ n) ⊎ (k ≡ suc n)
        → picked of me (opening_steps id told n)
        ++ (picked of me (before_next (id (suc n)) 0 (told (suc n))) ++ all_by by (from_next (told k)))
        ≡ all_by by (told k)
    go more (inl fits) =
        let other : bytes_eq (id (suc n)) me ≡ false = here ∙ differ k (suc n) (λ is. omega (arith, is, fits)) in
        ap (λ (xs : List X). picked of me (opening_steps id told n) ++ (xs ++ all_by by (from_next (told k))))
        (others_next of (id (suc n)) me other 0 (told (suc n)))
        ∙ more fits
    go more (inr is) =
        let own : bytes_eq (id (suc n)) me ≡ true = here ∙ eq-eqb k (suc n) is in
        let none : (m : ℕ) → 1 ≤ m → m ≤ n → bytes_eq (id m) me ≡ false =
        λ m first fits. knows m first (omega (arith, fits, within)) ∙ differ k m (λ e. omega (arith, e, is, fits)) in
        ap (λ (xs : List X). xs ++ (picked of me (before_next (id (suc n)) 0 (told (suc n)))
        ++ all_by by (from_next (told k)))) (opening_apart of id me told n none)
        ∙ (ap (λ (j : ℕ). picked of me (before_next (id (suc n)) 0 (told (suc n))) ++ all_by by (from_next (told j))) is
        ∙ (own_next of by reads (id (suc n)) me own 0 (told (suc n))
        ∙ ap (λ (j : ℕ). all_by by (told j)) (sym is)))

-- ---- the whole history

knows_own : (clients : Clients) → AreApart clients → (k : ℕ) → 1 ≤ k → k ≤ clients.count
    → Knows clients.id clients.count (clients.id k) k
knows_own clients apart k low high seat first last = go (nat_eq k seat) refl
  where
    go : (b : Bool) → nat_eq k seat ≡ b → bytes_eq (clients.id seat) (clients.id k) ≡ b
    go true same =
        ap (λ (j : ℕ). bytes_eq (clients.id seat) (clients.id j)) (eqb-true k seat same)
        ∙ bytes_eq-refl (clients.id seat)
    go false other = by (bytes_eq (clients.id seat) (clients.id k)) refl
      where
        by : (t : Bool) → bytes_eq (clients.id seat) (clients.id k) ≡ t → t ≡ false
        by false is = refl
        by true is = absurd (false≢true (sym other ∙ eq-eqb k seat
            (sym (apart seat k first last low high (same_text (clients.id seat) (clients.id k) is)))))

-- of the client of a seat stands there what the seat tells
pub woven_part : {X : Type 0} (of : TaleStep → List X) (by : ToldEvent → List X) → Reads of by
    → (tree : Tree) (log : List LogEntry) (clients : Clients) → AreApart clients → AreSeated clients log
    → DoAgree clients log → (k : ℕ) → 1 ≤ k → k ≤ clients.count
    → picked of (clients.id k) (weave tree log clients).steps ≡ all_by by (clients.told k)
woven_part {X} of by reads tree log clients apart seated agree k low high =
    let me = clients.id k in
    let knows = knows_own clients apart k low high in
    let told = λ (seat : ℕ). from_next (clients.told seat) in
    let ready : AreReady told log = record {
      stand = λ seat. stand_next (answers_to seat log) (clients.told seat) (agree seat);
      starts = λ seat. next_starts (clients.told seat);
    } in
    picked-append of me (opening_steps clients.id clients.told clients.count) (log_steps clients.id told log)
    ∙ (ap (λ (xs : List X). picked of me (opening_steps clients.id clients.told clients.count) ++ xs)
    (later_part of by reads clients.id clients.count me k knows log seated told ready)
    ∙ opening_part of by reads clients.id clients.count me k knows low clients.told clients.count (omega arith) high)

-- ---- who has no seat

later_apart : {X : Type 0} (of : TaleStep → List X) (id : ℕ → List ℕ) (count : ℕ) (me : List ℕ)
    → ((m : ℕ) → 1 ≤ m → m ≤ count → bytes_eq (id m) me ≡ false)
    → (es : List LogEntry) → All (IsSeat count) es → (told : ℕ → List ToldEvent)
    → picked of me (log_steps id told es) ≡ []
unfolding log_steps
later_apart of id count me apart [] seated told = refl
later_apart {X} of id count me apart (e ∷ es) seated told =
    go (later_apart of id count me apart es (All-tail (IsSeat count) e es seated)) (is_failed e.reply)
  where
    go : ((others : ℕ → List ToldEvent) → picked of me (log_steps id others es) ≡ [])
        → (b : Bool)
        → picked of me (if b then log_steps id told es
        else first_step (id e.seat) e.moment (told e.seat)
        ++ (before_next (id e.seat) e.moment (rest_told (told e.seat))
        ++ log_steps id (with_told told e.seat (from_next (rest_told (told e.seat)))) es)) ≡ []
    go more true = more told
    go more false =
        let here = All-head (IsSeat count) e es seated in
        let other = apart e.seat here.0 here.1 in
        let later = log_steps id (with_told told e.seat (from_next (rest_told (told e.seat)))) es in
        picked-append of me (first_step (id e.seat) e.moment (told e.seat))
        (before_next (id e.seat) e.moment (rest_told (told e.seat)) ++ later)
        ∙ (ap (λ (xs : List X). xs
        ++ picked of me (before_next (id e.seat) e.moment (rest_told (told e.seat)) ++ later))
        (others_first of (id e.seat) me other e.moment (told e.seat))
        ∙ (picked-append of me (before_next (id e.seat) e.moment (rest_told (told e.seat))) later
        ∙ (ap (λ (xs : List X). xs ++ picked of me later)
        (others_next of (id e.seat) me other e.moment (rest_told (told e.seat)))
        ∙ more (with_told told e.seat (from_next (rest_told (told e.seat)))))))

-- of nobody else stands anything there
pub woven_apart : {X : Type 0} (of : TaleStep → List X) (tree : Tree) (log : List LogEntry) (clients : Clients)
    → AreSeated clients log → (me : List ℕ)
    → ((m : ℕ) → 1 ≤ m → m ≤ clients.count → bytes_eq (clients.id m) me ≡ false)
    → picked of me (weave tree log clients).steps ≡ []
woven_apart {X} of tree log clients seated me apart =
    let told = λ (seat : ℕ). from_next (clients.told seat) in
    picked-append of me (opening_steps clients.id clients.told clients.count) (log_steps clients.id told log)
    ∙ (ap (λ (xs : List X). xs ++ picked of me (log_steps clients.id told log))
    (opening_apart of clients.id me clients.told clients.count apart)
    ∙ later_apart of clients.id clients.count me apart log seated told)
