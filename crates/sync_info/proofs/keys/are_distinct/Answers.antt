use Rattle.std.proofs.Common.{◌≡◌, ◌+◌, ◌-◌, ◌∷◌, drop, not, sym, ap, ◌∙◌, arith}
use Rattle.std.proofs.lemmas.Bool.{and_from, not-false}
use Rattle.std.specs.BTreeSet.{contains}
use Rattle.std.specs.Cmp.Lexicographic.{slice_cmp}
use Rattle.std.specs.List.{list_any}
use Rattle.std.specs.Ordering.{nat_cmp}
use Rattle.sync_info.specs.Info.{has_id, are_distinct}
use Rattle.sync_info.proofs.KeyLemmas.{from_here, repeated, seen_more}
use Rattle.sync_info.proofs.keys.are_distinct.Goals as goal

pub returns-then-not-branch : goal.returns-then-not-branch
returns-then-not-branch c =
    let i = c.loop-i.i in
    let keys = c.args.keys.now in
    let key = c.index-keys-i.result in
    let digits : c.digits.result ≡ key.id = c.digits.ensures.same
    ∙ ap (λ k. k.id) (sym c.index-keys-i.is) in
    let next : (i - 1) + 1 ≡ i = omega arith in
    let here = from_here keys (i - 1) key (omega arith) c.index-keys-i.is
    ∙ ap (λ n. key ∷ drop n keys) next in
    let seen : list_any (has_id key.id) (drop i keys)
    ≡ contains (slice_cmp nat_cmp) c.loop-i.seen c.digits.result =
    ap (λ id. list_any (has_id id) (drop i keys)) (sym digits)
    ∙ sym (c.loop-i.invariant.seen c.digits.result) in
    sym (repeated keys (i - 1) key (drop i keys) here
    (seen ∙ not-false _ (sym c.in_ok-insert.ensures.added ∙ c.if-not-branch.true)))

pub loop-i-preserved : goal.loop-i-preserved
loop-i-preserved c =
    let i = c.loop-i.i in
    let keys = c.args.keys.now in
    let key = c.index-keys-i.result in
    let digits : c.digits.result ≡ key.id = c.digits.ensures.same
    ∙ ap (λ k. k.id) (sym c.index-keys-i.is) in
    let next : (i - 1) + 1 ≡ i = omega arith in
    let here = from_here keys (i - 1) key (omega arith) c.index-keys-i.is
    ∙ ap (λ n. key ∷ drop n keys) next in
    let seen : list_any (has_id key.id) (drop i keys)
    ≡ contains (slice_cmp nat_cmp) c.loop-i.seen c.digits.result =
    ap (λ id. list_any (has_id id) (drop i keys)) (sym digits)
    ∙ sym (c.loop-i.invariant.seen c.digits.result) in
    record {
      distinct = ap are_distinct here
          ∙ and_from _ _
          (ap not seen ∙ sym c.in_ok-insert.ensures.added ∙ c.if-not-branch.false)
          c.loop-i.invariant.distinct;
      seen = λ id. seen_more key (drop i keys) id c.digits.result _ _ digits
          (c.loop-i.invariant.seen id) (c.in_ok-insert.ensures.updates.0 id)
          ∙ ap (list_any (has_id id)) (sym here);
    }
