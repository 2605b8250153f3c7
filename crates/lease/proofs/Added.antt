-- How the calls of a lease add up.
use Rattle.std.proofs.Common.{◌≡◌, ◌∙◌, refl, sym, ap, List, [], ◌∷◌, ◌++◌, append_assoc, append-nil, Bool, true, false}
use Rattle.jop_target.specs.declared.call.Call.{Call}
use Rattle.jop_target.specs.declared.event.Event.{Event}
use Rattle.jop_target.specs.declared.event.Event.TheVariants.{Sent, Called}
use Rattle.jop_target.specs.declared.reply.Reply.{Reply}
use Rattle.jop_target.specs.declared.reply.Reply.TheVariants.{Failed}
use Rattle.jop_target.specs.Runs.{is_failed, has_failed}
use Rattle.jop_target.proofs.Runs.{has_failed-append}
use Rattle.lease.specs.Added.{AddsCalls, calls_in}

-- ---- events

calls_in-append : (xs ys : List Event) → calls_in (xs ++ ys) ≡ calls_in xs ++ calls_in ys
unfolding calls_in
calls_in-append [] ys = refl
calls_in-append (Sent call ∷ xs) ys = ap (λ (cs : List Call). call ∷ cs) (calls_in-append xs ys)
calls_in-append (Called call reply ∷ xs) ys =
    ap (λ (cs : List Call). call ∷ cs) (calls_in-append xs ys)
calls_in-append (e ∷ xs) ys = calls_in-append xs ys

-- behind calls that were all heard
has_failed-behind : (xs ys : List Event) (failed : Bool) → has_failed xs ≡ false →
    has_failed ys ≡ failed →
    has_failed (xs ++ ys) ≡ failed
has_failed-behind xs ys failed h k = rw (has_failed-append xs ys, h) k

pub not_failed : (reply : Reply) → ¬ (reply ≡ Failed) → is_failed reply ≡ false
not_failed Failed n = absurd (n refl)
not_failed reply n = refl

-- ---- calls

pub adds_none : (calls : List Call) (old new : List Event) → new ≡ old →
    AddsCalls calls calls false old new
unfolding calls_in has_failed
adds_none calls old new is =
    record { more = []; trail = is ∙ sym (append-nil old); order = refl; fails = refl }

pub adds_sent : (call : Call) (rest : List Call) (old new : List Event) →
    new ≡ old ++ Sent call ∷ [] → AddsCalls (call ∷ rest) rest false old new
unfolding calls_in has_failed
adds_sent call rest old new is =
    record { more = Sent call ∷ []; trail = is; order = refl; fails = refl }

pub adds_heard : (call : Call) (rest : List Call) (reply : Reply) (old new : List Event) →
    new ≡ old ++ Called call reply ∷ [] → ¬ (reply ≡ Failed) →
    AddsCalls (call ∷ rest) rest false old new
unfolding calls_in has_failed
adds_heard call rest reply old new is heard = record {
  more = Called call reply ∷ [];
  trail = is;
  order = refl;
  fails = rw (not_failed reply heard) refl;
}

pub adds_failed : (call : Call) (rest : List Call) (old new : List Event) →
    new ≡ old ++ Called call Failed ∷ [] → AddsCalls (call ∷ rest) rest true old new
unfolding calls_in has_failed
adds_failed call rest old new is =
    record { more = Called call Failed ∷ []; trail = is; order = refl; fails = refl }

-- an answer of either kind
pub adds_called : (call : Call) (rest : List Call) (reply : Reply) (old new : List Event) →
    new ≡ old ++ Called call reply ∷ [] →
    (failed : Bool) × AddsCalls (call ∷ rest) rest failed old new
unfolding calls_in has_failed
adds_called call rest reply old new is = (
  has_failed (Called call reply ∷ []),
  record {
    more = Called call reply ∷
        [];
    trail = is;
    order = refl;
    fails = refl;
  },
)

-- some more calls, none of which was made
pub adds_more : (calls rest others : List Call) (failed : Bool) (old new : List Event) →
    AddsCalls calls rest failed old new → AddsCalls (calls ++ others)
    (rest ++ others) failed old new
adds_more calls rest others failed old new h = record {
  more = h.more;
  trail = h.trail;
  order =
      ap (λ (cs : List Call). cs ++ others) h.order ∙ append_assoc (calls_in h.more) rest others;
  fails = h.fails;
}

-- some calls were made, and then others
pub adds_on : (first calls rest : List Call) (failed : Bool) (a b c : List Event) →
    AddsCalls first [] false a b → AddsCalls calls rest failed b c →
    AddsCalls (first ++ calls) rest failed a c
adds_on first calls rest failed a b c h k = record {
  more = h.more ++ k.more;
  trail = k.trail ∙ (ap (λ (t : List Event). t ++ k.more) h.trail ∙ append_assoc a h.more k.more);
  order =
      let made : first ≡ calls_in h.more = h.order ∙ append-nil (calls_in h.more) in
      ap (λ (cs : List Call). cs ++ calls) made
      ∙ (ap (λ (cs : List Call). calls_in h.more ++ cs) k.order
      ∙ (sym (append_assoc (calls_in h.more) (calls_in k.more) rest)
      ∙ ap (λ (cs : List Call). cs ++ rest) (sym (calls_in-append h.more k.more))));
  fails = has_failed-behind h.more k.more failed h.fails k.fails;
}
