-- A woven history is honest.
use Rattle.std.proofs.Common.{◌≡◌, ◌∙◌, refl, sym, ap, subst, inl, inr, arith, ℕ, ◌≤◌, zero, suc, List, [], ◌∷◌, ◌++◌, Bool, true, false, ◌&&◌, if◌then◌else◌, append_assoc}
use Rattle.std.proofs.lemmas.Bool.{false≢true, eq-eqb, eqb-true}
use Rattle.std.proofs.lemmas.List.{map-append}
use Rattle.std.specs.Prelude.{nat_eq, None}
use Rattle.call_log.specs.Agreeing.{MayStandFor, is_answer_to, answers_to, may_stand_alone}
use Rattle.call_log.specs.declared.entry.LogEntry.{LogEntry}
use Rattle.call_log.specs.Logs.{IsHonestEntry, IsHonestLog, tree_after_entry, IsHonestLogFrom}
use Rattle.jop_target.specs.History.{Step, IsHonest, IsHonestFrom, IsHonestReply, IsOrderly, landed_call, tree_with}
use Rattle.jop_target.specs.Runs.{is_failed}
use Rattle.jop_target.specs.Store.{reply_of, tree_after}
use Rattle.jop_target.specs.declared.call.Call.{Call}
use Rattle.jop_target.specs.declared.event.Event.{Event}
use Rattle.jop_target.specs.declared.event.Event.TheVariants.{Began, Sent, Called, Made, Ended}
use Rattle.jop_target.specs.declared.reply.Reply.{Reply}
use Rattle.jop_target.specs.declared.reply.Reply.TheVariants.{Listed, Got, GotBlob, Absent, Done, Failed, TooLarge}
use Rattle.jop_target.specs.declared.tree.Tree.{Tree}
use Rattle.local_store.specs.Tale.{TaleStep, plain, plain_steps}
use Rattle.run_premises.specs.Steps.{happening_of}
use Rattle.woven.specs.Weaving.{Clients, DoAgree, ToldEvent, StandFor, before_next, rest_told, first_step, from_next, opening_steps, told_step, log_steps, weave, with_told}
use Rattle.woven.proofs.Answered.{answered}

-- ---- one step

-- an answer that isn't `Failed` is honest if it is the store's at that moment
honest_reply : (tree : Tree) (moment : ℕ) (call : Call) (reply : Reply) →
    reply ≡ reply_of tree moment call → IsHonestReply tree moment (happening_of (Called call reply) true)
honest_reply tree moment call Failed is = tt
honest_reply tree moment call (Listed l) is = (refl, (moment, omega arith, is))
honest_reply tree moment call (Got n c) is = (refl, (moment, omega arith, is))
honest_reply tree moment call (GotBlob n l) is = (refl, (moment, omega arith, is))
honest_reply tree moment call (Absent n) is = (refl, (moment, omega arith, is))
honest_reply tree moment call (Done n) is = (refl, (moment, omega arith, is))
honest_reply tree moment call (TooLarge l) is = (refl, (moment, omega arith, is))

-- what stands for no entry may be told without landing
failed_reply : (tree : Tree) (moment : ℕ) (call : Call) (reply : Reply) → is_failed reply ≡ true →
    IsHonestReply tree moment (happening_of (Called call reply) false)
failed_reply tree moment call Failed is = tt
failed_reply tree moment call (Listed l) is = cc
failed_reply tree moment call (Got n c) is = cc
failed_reply tree moment call (GotBlob n l) is = cc
failed_reply tree moment call (Absent n) is = cc
failed_reply tree moment call (Done n) is = cc
failed_reply tree moment call (TooLarge l) is = cc

calm_reply : (tree : Tree) (moment : ℕ) (event : Event) → may_stand_alone event ≡ true →
    IsHonestReply tree moment (happening_of event false)
calm_reply tree moment (Called call reply) is = failed_reply tree moment call reply is
calm_reply tree moment Began is = tt
calm_reply tree moment (Sent call) is = tt
calm_reply tree moment (Made n) is = tt
calm_reply tree moment Ended is = tt

calm_call : (event : Event) → landed_call (happening_of event false) ≡ None
calm_call (Called call reply) = refl
calm_call Began = refl
calm_call (Sent call) = refl
calm_call (Made n) = refl
calm_call Ended = refl

-- ---- what a client does between its entries

earlier : (tree : Tree) (now later : ℕ) (ss : List Step) → now ≤ later →
    IsHonestFrom tree later ss → IsHonestFrom tree now ss
earlier tree now later [] upto h = tt
earlier tree now later (s ∷ ss) upto h = (omega (arith, upto, h.0), h.1, h.2)

-- the first of what is told, and what it may stand for
abbrev Calm : ToldEvent → Type 0
Calm t = t.stands ≡ false → may_stand_alone t.event ≡ true

calm_first : (es : List LogEntry) (t : ToldEvent) (ts : List ToldEvent) → StandFor es (t ∷ ts) → Calm t
unfolding StandFor
calm_first [] t ts h not_standing = h.1
calm_first (e ∷ es) t ts h not_standing = elim h [
  | inl skipped ↦ skipped.1
  | inr standing ↦ absurd (false≢true (sym not_standing ∙ standing.0))
]

calm_rest : (es : List LogEntry) (t : ToldEvent) (ts : List ToldEvent) → StandFor es (t ∷ ts) → t.stands ≡ false →
    StandFor es ts
unfolding StandFor
calm_rest [] t ts h not_standing = h.2
calm_rest (e ∷ es) t ts h not_standing = elim h [
  | inl skipped ↦ skipped.2
  | inr standing ↦ absurd (false≢true (sym not_standing ∙ standing.0))
]

pub stand_next : (es : List LogEntry) (ts : List ToldEvent) → StandFor es ts → StandFor es (from_next ts)
stand_next es [] h = h
stand_next es (t ∷ ts) h = by (stand_next es ts) t.stands refl
  where
    by : (StandFor es ts → StandFor es (from_next ts))
        → (b : Bool) → t.stands ≡ b → StandFor es (if b then t ∷ ts else from_next ts)
    by more true is = h
    by more false is = more (calm_rest es t ts h is)

pub calm_ahead : (es : List LogEntry) (ts : List ToldEvent) → StandFor es ts →
    (client : List ℕ) (tree : Tree) (now moment : ℕ) (rest : List Step) → now ≤ moment →
    IsHonestFrom tree moment rest →
    IsHonestFrom tree now (plain_steps (before_next client moment ts) ++ rest)
calm_ahead es [] h client tree now moment rest upto k = earlier tree now moment rest upto k
calm_ahead es (t ∷ ts) h client tree now moment rest upto k =
    by (λ (g : StandFor es ts). calm_ahead es ts g client tree moment moment rest (omega arith) k) t.stands refl
  where
    by : (StandFor es ts → IsHonestFrom tree moment (plain_steps (before_next client moment ts) ++ rest)) →
        (b : Bool) → t.stands ≡ b →
        IsHonestFrom tree now (plain_steps
        (if b then [] else told_step client moment t ∷ before_next client moment ts) ++ rest)
    by ahead true is = earlier tree now moment rest upto k
    by ahead false is =
        let more = ahead (calm_rest es t ts h is) in (
          upto,
          rw is (calm_reply tree moment t.event (calm_first es t ts h is)),
          rw (is, calm_call t.event) more,
        )

-- ---- an entry and what stands for it

-- the first of what is told stands for an entry, or nothing is told
abbrev pub Starts : List ToldEvent → Type 0
Starts [] = Unit {0}
Starts (t ∷ ts) = t.stands ≡ true

pub next_starts : (ts : List ToldEvent) → Starts (from_next ts)
next_starts [] = tt
next_starts (t ∷ ts) = by (next_starts ts) t.stands refl
  where
    by : Starts (from_next ts) → (b : Bool) → t.stands ≡ b → Starts (if b then t ∷ ts else from_next ts)
    by more true is = is
    by more false is = more

-- what stands for an honest entry is honest, and does to the tree what the entry does
stand_reply : (tree : Tree) (e : LogEntry) (event : Event) → MayStandFor event e →
    e.reply ≡ reply_of tree e.moment e.call → IsHonestReply tree e.moment (happening_of event true)
stand_reply tree e (Called call reply) stands is =
    honest_reply tree e.moment call reply
    (sym stands.2 ∙ (is ∙ ap (λ (c : Call). reply_of tree e.moment c) stands.1))
stand_reply tree e (Sent call) stands is = tt
stand_reply tree e Began stands is = absurd stands
stand_reply tree e (Made n) stands is = absurd stands
stand_reply tree e Ended stands is = absurd stands

stand_tree : (tree : Tree) (e : LogEntry) (event : Event) → MayStandFor event e →
    tree_with tree e.moment (landed_call (happening_of event true)) ≡ tree_after tree e.moment e.call
stand_tree tree e (Called call reply) stands = ap (λ (c : Call). tree_after tree e.moment c) (sym stands.1)
stand_tree tree e (Sent call) stands = ap (λ (c : Call). tree_after tree e.moment c) (sym stands)
stand_tree tree e Began stands = absurd stands
stand_tree tree e (Made n) stands = absurd stands
stand_tree tree e Ended stands = absurd stands

failed_is : (r : Reply) → is_failed r ≡ true → r ≡ Failed
failed_is Failed is = refl
failed_is (Listed l) is = cc
failed_is (Got n c) is = cc
failed_is (GotBlob n l) is = cc
failed_is (Absent n) is = cc
failed_is (Done n) is = cc
failed_is (TooLarge l) is = cc

-- a failed entry has not landed
failed_tree : (tree : Tree) (e : LogEntry) → IsHonestEntry tree e → is_failed e.reply ≡ true →
    tree_after_entry tree e ≡ tree
failed_tree tree e honest failed = elim honest [
  | inl f ↦ rw f.1 refl
  | inr a ↦ absurd (answered tree e.moment e.call (sym a.1 ∙ failed_is e.reply failed))
]

-- an answered entry has landed, with the store's own answer
answered_entry : (tree : Tree) (e : LogEntry) → IsHonestEntry tree e → is_failed e.reply ≡ false →
    (tree_after_entry tree e ≡ tree_after tree e.moment e.call) × (e.reply ≡ reply_of tree e.moment e.call)
answered_entry tree e honest heard = elim honest [
  | inl f ↦ absurd (false≢true (sym heard ∙ f.0))
  | inr a ↦ (rw a.0 refl, a.1)
]

-- ---- the entries of a seat

pub answers_here : (e : LogEntry) (es : List LogEntry) → is_failed e.reply ≡ false →
    answers_to e.seat (e ∷ es) ≡ e ∷ answers_to e.seat es
answers_here e es heard =
    let is : is_answer_to e.seat e ≡ true = rw (heard, same_nat e.seat) refl in
    ap (λ (b : Bool). if b then e ∷ answers_to e.seat es else answers_to e.seat es) is
  where
    same_nat : (n : ℕ) → nat_eq n n ≡ true
    same_nat n = eq-eqb n n refl

answers_other : (seat : ℕ) (e : LogEntry) (es : List LogEntry) → nat_eq e.seat seat ≡ false →
    answers_to seat (e ∷ es) ≡ answers_to seat es
answers_other seat e es other =
    let is : is_answer_to seat e ≡ false = rw other refl in
    ap (λ (b : Bool). if b then e ∷ answers_to seat es else answers_to seat es) is

answers_failed : (seat : ℕ) (e : LogEntry) (es : List LogEntry) → is_failed e.reply ≡ true →
    answers_to seat (e ∷ es) ≡ answers_to seat es
answers_failed seat e es failed =
    let is : is_answer_to seat e ≡ false = rw failed (and_false (nat_eq e.seat seat)) in
    ap (λ (b : Bool). if b then e ∷ answers_to seat es else answers_to seat es) is
  where
    and_false : (b : Bool) → (b && false) ≡ false
    and_false true = refl
    and_false false = refl

-- ---- the whole log

-- what each seat tells stands for its entries, and begins with the first of them
pub record AreReady (told : ℕ → List ToldEvent) (es : List LogEntry) : Type 0 where
  pub stand : (seat : ℕ) → StandFor (answers_to seat es) (told seat)
  pub starts : (seat : ℕ) → Starts (told seat)

pub ready_failed : (told : ℕ → List ToldEvent) (e : LogEntry) (es : List LogEntry) → AreReady told (e ∷ es) →
    is_failed e.reply ≡ true → AreReady told es
ready_failed told e es ready failed = record {
  stand = λ seat. subst (λ (answers : List LogEntry). StandFor answers (told seat))
      (answers_failed seat e es failed) (ready.stand seat);
  starts = ready.starts;
}

-- what stands first, and what is behind it
pub record StandsFirst (e : LogEntry) (answers : List LogEntry) (ts : List ToldEvent) : Type 0 where
  pub first : ToldEvent
  pub rest : List ToldEvent
  pub whole : ts ≡ first ∷ rest
  pub stands : first.stands ≡ true
  pub is : MayStandFor first.event e
  pub others : StandFor answers rest

pub stands_first : (e : LogEntry) (answers : List LogEntry) (ts : List ToldEvent) → Starts ts →
    StandFor (e ∷ answers) ts → StandsFirst e answers ts
unfolding StandFor
stands_first e answers [] starts h = absurd h
stands_first e answers (t ∷ ts) starts h = elim h [
  | inl skipped ↦ absurd (false≢true (sym skipped.0 ∙ starts))
  | inr here ↦ record {
    first = t;
    rest = ts;
    whole = refl;
    stands = here.0;
    is = here.1;
    others = here.2;
  }
]

pub ready_after : (told : ℕ → List ToldEvent) (e : LogEntry) (es : List LogEntry) (rest : List ToldEvent) →
    AreReady told (e ∷ es) → StandFor (answers_to e.seat es) rest →
    AreReady (with_told told e.seat (from_next rest)) es
ready_after told e es rest ready others = record { stand = stand; starts = starts }
  where
    flipped : (a b : ℕ) → nat_eq a b ≡ false → nat_eq b a ≡ false
    flipped a b apart = go (nat_eq b a) refl
      where
        go : (c : Bool) → nat_eq b a ≡ c → c ≡ false
        go false is = refl
        go true is = absurd (false≢true (sym apart ∙ eq-eqb a b (sym (eqb-true b a is))))

    stand : (seat : ℕ) → StandFor (answers_to seat es) (with_told told e.seat (from_next rest) seat)
    stand seat = by (nat_eq seat e.seat) refl
      where
        by : (b : Bool) → nat_eq seat e.seat ≡ b →
            StandFor (answers_to seat es) (if b then from_next rest else told seat)
        by true same =
            subst (λ (n : ℕ). StandFor (answers_to n es) (from_next rest)) (sym (eqb-true seat e.seat same))
            (stand_next (answers_to e.seat es) rest others)
        by false apart =
            subst (λ (answers : List LogEntry). StandFor answers (told seat))
            (answers_other seat e es (flipped seat e.seat apart)) (ready.stand seat)

    starts : (seat : ℕ) → Starts (with_told told e.seat (from_next rest) seat)
    starts seat = by (nat_eq seat e.seat)
      where
        by : (b : Bool) → Starts (if b then from_next rest else told seat)
        by true = next_starts rest
        by false = ready.starts seat

pub honest_steps : (id : ℕ → List ℕ) (es : List LogEntry) (told : ℕ → List ToldEvent) (tree : Tree) (now : ℕ) →
    IsHonestLogFrom tree now es → AreReady told es →
    IsHonestFrom tree now (plain_steps (log_steps id told es))
unfolding IsHonestLogFrom log_steps
honest_steps id [] told tree now honest ready = tt
honest_steps id (e ∷ es) told tree now honest ready = by (honest_steps id es) (is_failed e.reply) refl
  where
    abbrev_steps : List ToldEvent → List TaleStep
    abbrev_steps ts =
        first_step (id e.seat) e.moment ts
        ++ (before_next (id e.seat) e.moment (rest_told ts)
        ++ log_steps id (with_told told e.seat (from_next (rest_told ts))) es)

    by : ((others : ℕ → List ToldEvent) (left : Tree) (from : ℕ) → IsHonestLogFrom left from es → AreReady others es →
        IsHonestFrom left from (plain_steps (log_steps id others es)))
        → (b : Bool) → is_failed e.reply ≡ b →
        IsHonestFrom tree now (plain_steps
        (if b then log_steps id told es else abbrev_steps (told e.seat)))
    by more true failed =
        let same = failed_tree tree e honest.1 failed in
        let rest : IsHonestLogFrom tree e.moment es =
        subst (λ (t : Tree). IsHonestLogFrom t e.moment es) same honest.2 in
        earlier tree now e.moment (plain_steps (log_steps id told es)) honest.0
        (more told tree e.moment rest (ready_failed told e es ready failed))
    by more false heard =
        let own = stands_first e (answers_to e.seat es) (told e.seat) (ready.starts e.seat)
        (subst (λ (answers : List LogEntry). StandFor answers (told e.seat)) (answers_here e es heard)
        (ready.stand e.seat)) in
        let entry = answered_entry tree e honest.1 heard in
        let later = log_steps id (with_told told e.seat (from_next own.rest)) es in
        let after : IsHonestFrom (tree_after tree e.moment e.call) e.moment (plain_steps later) =
        more (with_told told e.seat (from_next own.rest)) (tree_after tree e.moment e.call) e.moment
        (subst (λ (t : Tree). IsHonestLogFrom t e.moment es) entry.0 honest.2)
        (ready_after told e es own.rest ready own.others) in
        let calm = calm_ahead (answers_to e.seat es) own.rest own.others (id e.seat)
        (tree_after tree e.moment e.call) e.moment e.moment (plain_steps later) (omega arith) after in
        let whole : IsHonestFrom (tree_after tree e.moment e.call) e.moment
        (plain_steps (before_next (id e.seat) e.moment own.rest ++ later)) =
        subst (λ (ss : List Step). IsHonestFrom (tree_after tree e.moment e.call) e.moment ss)
        (sym (map-append (λ (s : TaleStep). s.step) (before_next (id e.seat) e.moment own.rest) later)) calm in
        subst (λ (ts : List ToldEvent). IsHonestFrom tree now (plain_steps (abbrev_steps ts))) (sym own.whole) (
          honest.0,
          rw own.stands (stand_reply tree e own.first.event own.is entry.1),
          rw (own.stands, stand_tree tree e own.first.event own.is) whole,
        )

-- ---- before the first entries

pub honest_opening : (id : ℕ → List ℕ) (told : ℕ → List ToldEvent) (es : List LogEntry) (n : ℕ) (tree : Tree)
    (rest : List Step) → ((seat : ℕ) → StandFor (answers_to seat es) (told seat)) → IsHonestFrom tree 0 rest →
    IsHonestFrom tree 0 (plain_steps (opening_steps id told n) ++ rest)
unfolding opening_steps
honest_opening id told es zero tree rest stand h = h
honest_opening id told es (suc n) tree rest stand h =
    let last = before_next (id (suc n)) 0 (told (suc n)) in
    let calm = calm_ahead (answers_to (suc n) es) (told (suc n)) (stand (suc n)) (id (suc n)) tree 0 0 rest
    (omega arith) h in
    let whole = honest_opening id told es n tree (plain_steps last ++ rest) stand calm in
    subst (λ (ss : List Step). IsHonestFrom tree 0 ss)
    (sym (ap (λ (ss : List Step). ss ++ rest) (map-append (λ (s : TaleStep). s.step) (opening_steps id told n) last)
    ∙ append_assoc (plain_steps (opening_steps id told n)) (plain_steps last) rest)) whole

-- ---- the history

pub woven_honest : (tree : Tree) (log : List LogEntry) (clients : Clients) → IsOrderly tree →
    IsHonestLog tree log → DoAgree clients log → IsHonest (plain (weave tree log clients))
woven_honest tree log clients orderly honest agree =
    let told = λ (seat : ℕ). from_next (clients.told seat) in
    let ready : AreReady told log = record {
      stand = λ seat. stand_next (answers_to seat log) (clients.told seat) (agree seat);
      starts = λ seat. next_starts (clients.told seat);
    } in
    let later = log_steps clients.id told log in
    let after = honest_steps clients.id log told tree 0 honest ready in
    record {
      opening = orderly;
      steps = subst (λ (ss : List Step). IsHonestFrom tree 0 ss)
          (sym (map-append (λ (s : TaleStep). s.step) (opening_steps clients.id clients.told clients.count) later))
          (honest_opening clients.id clients.told log clients.count tree (plain_steps later) agree after);
    }
