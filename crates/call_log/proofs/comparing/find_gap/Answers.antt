use Rattle.std.proofs.Common.{◌≡◌, ◌∙◌, ℕ, ◌+◌, List, [], ◌∷◌, ◌++◌, ap, arith, length, map, refl, sym, subst, take}
use Rattle.std.specs.List.{Contains}
use Rattle.std.proofs.lemmas.Bool.{false≢true}
use Rattle.std.proofs.lemmas.List.{length-map, take_all, take_more}
use Rattle.std.proofs.lemmas.Option.{slice_get_read}
use Rattle.jop_target.specs.declared.event.Event.{Event}
use Rattle.call_log.specs.Agreeing.{LeadsOn, LeadsThrough}
use Rattle.call_log.proofs.Gaps.{gap_at_end, gap_here, open_of}
use Rattle.call_log.proofs.Leading.{AreWays, HasLed, ways_first, ways_on}
use Rattle.call_log.proofs.comparing.find_gap.Goals as goal

pub loop-index-init : goal.loop-index-init
loop-index-init c =
    let is : c.push.new.self.items ≡ 0 ∷ [] =
    c.in_ok-push.ensures.items ∙ ap (λ (xs : List ℕ). xs ++ 0 ∷ []) c.new-ways.ensures.items in
    record {
      ways = ways_first (map (λ e. e.now) c.args.answers.now) c.push.new.self.items is;
      some = λ none. let bad : 0 ∷ [] ≡ [] = sym is ∙ none in cc;
    }

pub returns-then-is_none : goal.returns-then-is_none
returns-then-is_none c =
    let leads = LeadsOn (map (λ e. e.now) c.args.answers.now) c.index-trail-index.result in
    let goes = subst (λ (ws : List ℕ). HasLed leads ws c.go_on.new.next.items)
    c.as_slice.ensures.value c.in_ok-go_on.ensures in
    gap_here (map (λ e. e.now) c.args.answers.now) c.args.trail.now c.loop-index.ways.items
    c.go_on.new.next.items c.loop-index.index c.index-trail-index.result c.gap_at.result
    (omega (arith, c.loop-index-test.true))
    c.loop-index.invariant.ways c.loop-index.invariant.some goes
    (sym c.as_slice-in-loop-index.ensures.value ∙ c.is_none.ensures.0 c.if-is_none.true)
    (slice_get_read c.args.trail.now _ c.loop-index.index c.index-trail-index.result refl
    (omega (arith, c.loop-index-test.true)) c.index-trail-index.is)
    (open_of c.loop-index.ways.items c.as_slice-then-is_none.result.now c.loop-index.index c.gap_at.result
    c.as_slice-then-is_none.ensures.value c.gap_at.ensures.some c.gap_at.ensures.none)

pub loop-index-preserved : goal.loop-index-preserved
loop-index-preserved c =
    let answers = map (λ e. e.now) c.args.answers.now in
    let t = c.index-trail-index.result in
    let goes = subst (λ (ws : List ℕ). HasLed (LeadsOn answers t) ws c.go_on.new.next.items)
    c.as_slice.ensures.value c.in_ok-go_on.ensures in
    let ways = ways_on answers (take c.loop-index.index c.args.trail.now) t
    c.loop-index.ways.items c.go_on.new.next.items c.loop-index.invariant.ways goes in
    let more : take (c.loop-index.index + 1) c.args.trail.now
    ≡ take c.loop-index.index c.args.trail.now ++ t ∷ [] =
    take_more c.args.trail.now c.loop-index.index t (omega (arith, c.loop-index-test.true))
    ∙ ap (λ (x : Event). take c.loop-index.index c.args.trail.now ++ x ∷ []) (sym c.index-trail-index.is) in
    let led : AreWays answers (take (c.loop-index.index + 1) c.args.trail.now) c.go_on.new.next.items =
    subst (λ (ts : List Event). AreWays answers ts c.go_on.new.next.items) (sym more) ways in
    let items = ap (λ v. v.items) c.swap.ensures.x_after in
    record {
      ways = subst (λ (ws : List ℕ). AreWays answers (take (c.loop-index.index + 1) c.args.trail.now) ws)
          (sym items) led;
      some = λ none. false≢true (sym c.if-is_none.false
          ∙ c.is_none.ensures.1 (c.as_slice-in-loop-index.ensures.value ∙ (sym items ∙ none)));
    }

pub returns-then-is_there : goal.returns-then-is_there
returns-then-is_there c =
    let answers = map (λ e. e.now) c.args.answers.now in
    let whole = take_all c.loop-index.index c.args.trail.now (omega (arith, c.loop-index-test.false)) in
    let there = subst (λ (n : ℕ). Contains c.loop-index.ways.items n)
    (sym (length-map c.args.answers.now (λ e. e.now)))
    (subst (λ (ws : List ℕ). Contains ws (length c.args.answers.now)) c.as_slice-2.ensures.value
    (c.is_there.ensures.0 c.if-is_there.true)) in
    subst (λ (ts : List Event). LeadsThrough answers 0 ts (length answers)) whole
    ((c.loop-index.invariant.ways (length answers)).0 there)

pub returns : goal.returns
returns c =
    let answers = map (λ e. e.now) c.args.answers.now in
    let whole = take_all c.loop-index.index c.args.trail.now (omega (arith, c.loop-index-test.false)) in
    let missing : ¬ Contains c.loop-index.ways.items (length answers) =
    λ there. false≢true (sym c.if-is_there.false ∙ c.is_there.ensures.1
    (subst (λ (ws : List ℕ). Contains ws (length c.args.answers.now)) (sym c.as_slice-2.ensures.value)
    (subst (λ (n : ℕ). Contains c.loop-index.ways.items n)
    (length-map c.args.answers.now (λ e. e.now)) there))) in
    gap_at_end answers c.args.trail.now c.loop-index.ways.items c.gap_at-2.result
    (subst (λ (ts : List Event). AreWays answers ts c.loop-index.ways.items) whole
    c.loop-index.invariant.ways)
    c.loop-index.invariant.some missing
    (open_of c.loop-index.ways.items c.as_slice-3.result.now (length c.args.trail.now) c.gap_at-2.result
    c.as_slice-3.ensures.value c.gap_at-2.ensures.some c.gap_at-2.ensures.none)
