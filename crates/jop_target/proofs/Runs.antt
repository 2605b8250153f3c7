-- How runs of a line join.
use Rattle.std.specs.Prelude.{ℕ, ◌≤◌, ◌≡◌, List, [], ◌∷◌, ◌++◌, Bool, true, false, ◌||◌, Option, Some, None, Ok, Err, refl}
use Rattle.std.specs.declared.alloc.AllocError.{AllocError}
use Rattle.std.proofs.Common.{sym, ap, subst, ◌∙◌, inl, inr, arith, append_assoc, append-nil}
use Rattle.std.proofs.Math.Bool.{or_assoc, or-false}
use Rattle.std.proofs.lemmas.Bool.{or_cases, or_parts}
use Rattle.std.proofs.lemmas.List.Elements.{All-append, All-cons, All-nil}
use Rattle.jop_outside.specs.Outside.{HasRisen}
use Rattle.jop_target.specs.declared.call.Call.{Call}
use Rattle.jop_target.specs.declared.reply.Reply.{Reply}
use Rattle.jop_target.specs.declared.reply.Reply.TheVariants.{Failed}
use Rattle.jop_target.specs.declared.event.Event.{Event}
use Rattle.jop_target.specs.declared.event.Event.TheVariants.{Began, Sent, Called, Made, Ended}
use Rattle.jop_target.specs.Replies.{Answers, IsCallable}
use Rattle.jop_target.specs.Store.{Store, store_after}
use Rattle.jop_target.specs.Trail.{LineNow, IsAnswered, IsUnheard}
use Rattle.jop_target.specs.Runs.{LeadsTo, TellsRun, is_failed, has_failed, Continues}

-- ---- stores

pub LeadsTo-append : (xs ys : List Event) (s t u : Store) →
    LeadsTo s xs t → LeadsTo t ys u → LeadsTo s (xs ++ ys) u
unfolding LeadsTo
LeadsTo-append [] ys s t u h k = subst (λ (v : Store). LeadsTo v ys u) h k
LeadsTo-append (Called call reply ∷ xs) ys s t u h k =
    (h.0, h.1, h.2, LeadsTo-append xs ys (store_after s call h.0) t u h.3 k)
LeadsTo-append (Sent call ∷ xs) ys s t u h k = elim h [
  | inl landed ↦
      inl (landed.0, landed.1, LeadsTo-append xs ys (store_after s call landed.0) t u landed.2 k)
  | inr not ↦ inr (LeadsTo-append xs ys s t u not k)
]
LeadsTo-append (Began ∷ xs) ys s t u h k = LeadsTo-append xs ys s t u h k
LeadsTo-append (Made n ∷ xs) ys s t u h k = LeadsTo-append xs ys s t u h k
LeadsTo-append (Ended ∷ xs) ys s t u h k = LeadsTo-append xs ys s t u h k

pub TellsRun-append : (a b c : Option Store) (xs ys : List Event) →
    TellsRun a xs b → TellsRun b ys c → TellsRun a (xs ++ ys) c
TellsRun-append None None c xs ys h k = k
TellsRun-append None (Some s) c xs ys h k = cc
TellsRun-append (Some s) None c xs ys h k = cc (h.1)
TellsRun-append (Some s) (Some r) c xs ys h k =
    let same : h.0 ≡ r = cc (h.1) in
    (k.0, k.1, LeadsTo-append xs ys s r k.0 (subst (λ (t : Store). LeadsTo s xs t) same h.2) k.2)

TellsRun-same : (o : Option Store) → TellsRun o [] o
unfolding LeadsTo
TellsRun-same None = refl
TellsRun-same (Some s) = (s, refl, refl)

TellsRun-answered : (a b : Option Store) (call : Call) (bytes : List ℕ) (reply : Reply) →
    IsCallable call bytes → Answers a call bytes (Ok reply) b →
    TellsRun a (Called call reply ∷ []) b
unfolding LeadsTo
TellsRun-answered None b call bytes reply may h = h
TellsRun-answered (Some s) b call bytes reply may h =
    (store_after s call bytes, h.1, (bytes, may, h.0, refl))

TellsRun-unheard : (a b : Option Store) (call : Call) (bytes : List ℕ) (e : AllocError) →
    IsCallable call bytes → Answers a call bytes (Err e) b → TellsRun a (Sent call ∷ []) b
unfolding LeadsTo
TellsRun-unheard None b call bytes e may h = h
TellsRun-unheard (Some s) b call bytes e may h = elim h [
  | inl landed ↦ (store_after s call bytes, landed, inl (bytes, may, refl))
  | inr not ↦ (s, not, inr refl)
]

-- ---- faults

pub has_failed-append : (xs ys : List Event) →
    has_failed (xs ++ ys) ≡ (has_failed xs || has_failed ys)
unfolding has_failed
has_failed-append [] ys = refl
has_failed-append (Called call reply ∷ xs) ys =
    ap (λ (b : Bool). is_failed reply || b) (has_failed-append xs ys)
    ∙ sym (or_assoc (is_failed reply) (has_failed xs) (has_failed ys))
has_failed-append (Sent call ∷ xs) ys = has_failed-append xs ys
has_failed-append (Began ∷ xs) ys = has_failed-append xs ys
has_failed-append (Made n ∷ xs) ys = has_failed-append xs ys
has_failed-append (Ended ∷ xs) ys = has_failed-append xs ys

has_failed-one : (call : Call) (reply : Reply) →
    has_failed (Called call reply ∷ []) ≡ is_failed reply
unfolding has_failed
has_failed-one call reply = or-false (is_failed reply)

failed_reply : (reply : Reply) → is_failed reply ≡ true → reply ≡ Failed
failed_reply Failed is = refl
failed_reply reply is = cc

other_reply : (reply : Reply) → is_failed reply ≡ false → ¬ (reply ≡ Failed)
other_reply reply not failed = let is : is_failed reply ≡ true = ap is_failed failed in cc

HasRisen-before : (a b c : ℕ) → a ≤ b → HasRisen b c → HasRisen a c
HasRisen-before a b c le rose = omega arith

HasRisen-after : (a b c : ℕ) → HasRisen a b → b ≤ c → HasRisen a c
HasRisen-after a b c rose le = omega arith

-- ---- runs

pub continues_same : (P : Event → Type 0) (s : LineNow) → Continues P s s
unfolding has_failed
continues_same P s = record {
  more = [];
  trail = sym (append-nil s.trail);
  each = All-nil P;
  later = omega arith;
  fault = λ failed. cc;
  stays = λ none. refl;
  store = TellsRun-same s.target.store;
}

pub continues_on : (P : Event → Type 0) (a b c : LineNow) →
    Continues P a b → Continues P b c → Continues P a c
continues_on P a b c h k =
    let both = has_failed-append h.more k.more in
    let onto = ap (λ (t : List Event). t ++ k.more) h.trail in
    record {
      more = h.more ++ k.more;
      trail = k.trail ∙ (onto ∙ append_assoc a.trail h.more k.more);
      each = All-append P h.more k.more h.each k.each;
      later = omega (arith, h.later, k.later);
      fault = λ failed.
          elim (or_cases (has_failed h.more) (has_failed k.more) (sym both ∙ failed)) [
            | inl first ↦ HasRisen-after _ _ _ (h.fault first) k.later
            | inr later ↦ HasRisen-before _ _ _ h.later (k.fault later)
          ];
      stays = λ none.
          let parts = or_parts (has_failed h.more) (has_failed k.more) (sym both ∙ none) in
          k.stays parts.1 ∙ h.stays parts.0;
      store =
          TellsRun-append a.target.store b.target.store c.target.store
          h.more k.more h.store k.store;
    }

pub continues_answered : (P : Event → Type 0) (old new : LineNow)
    (call : Call) (before after : List ℕ) (reply : Reply) →
    IsCallable call before → IsAnswered old call before new after reply → P (Called call reply) →
    Continues P old new
continues_answered P old new call before after reply may h each =
    let here = has_failed-one call reply in
    record {
      more = Called call reply ∷ [];
      trail = h.trail;
      each = All-cons P (Called call reply) [] each (All-nil P);
      later = h.later;
      fault = λ failed. h.fault (failed_reply reply (sym here ∙ failed));
      stays = λ none. h.stays (other_reply reply (sym here ∙ none));
      store = TellsRun-answered old.target.store new.target.store call before reply may h.answers;
    }

pub continues_unheard : (P : Event → Type 0) (old new : LineNow)
    (call : Call) (before after : List ℕ) (e : AllocError) →
    IsCallable call before → IsUnheard old call before new after e → P (Sent call) →
    Continues P old new
unfolding has_failed
continues_unheard P old new call before after e may h each = elim h [
  | inl same ↦ subst (λ (s : LineNow). Continues P old s) (sym same.0) (continues_same P old)
  | inr sent ↦ record {
    more = Sent call ∷ [];
    trail = sent.trail;
    each = All-cons P (Sent call) [] each (All-nil P);
    later = omega (arith, sent.stays);
    fault = λ failed. cc;
    stays = λ none. sent.stays;
    store = TellsRun-unheard old.target.store new.target.store call before e may sent.answers;
  }
]

pub continues_weaker : (P Q : Event → Type 0) (old new : LineNow) →
    ((e : Event) → P e → Q e) → Continues P old new → Continues Q old new
continues_weaker P Q old new weaker h = record {
  more = h.more;
  trail = h.trail;
  each = λ i d lt. weaker _ (h.each i d lt);
  later = h.later;
  fault = h.fault;
  stays = h.stays;
  store = h.store;
}
