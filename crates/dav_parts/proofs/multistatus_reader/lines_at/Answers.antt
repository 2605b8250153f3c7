use Rattle.std.proofs.Common.{◌≡◌, sym, subst, ◌∙◌, ap, List, [], ◌∷◌, ◌++◌, None, append_assoc, append-nil}
use Rattle.std.specs.Prelude.{not}
use Rattle.std.proofs.lemmas.Bool.{false≢true}
use Rattle.jop_target.specs.declared.reply.Entry.{Entry}
use Rattle.dav_parts.specs.Multistatus.{ending, ReadsLines}
use Rattle.dav_parts.proofs.BytesLemmas.{bytes_eq_same, bytes_eq_is}
use Rattle.dav_parts.proofs.LineLemmas.{none_by, no_line, no_follower, only_more, not_false}
use Rattle.dav_parts.proofs.multistatus_reader.lines_at.Goals as goal

pub returns-in_default : goal.returns-in_default
returns-in_default c = λ all h.
    let rest = c.loop-rest.invariant.only all h in
    let goes : c.loop-rest.rest.now ≡ ending
    → ⊥ = λ e. false≢true (sym (c.ne.ensures
    ∙ ap not (bytes_eq_same _ _ (e ∙ sym c.ending.ensures))) ∙ c.loop-rest-test.true) in
    no_line c.args.dir c.loop-rest.before c.loop-rest.rest.now goes
    (none_by c.line_at.result _ c.line_at.ensures.none c.in_default.not-Some) rest.0 rest.2

pub returns-then-not-follows : goal.returns-then-not-follows
returns-then-not-follows c = λ all h.
    let rest = c.loop-rest.invariant.only all h in
    let goes : c.loop-rest.rest.now ≡ ending
    → ⊥ = λ e. false≢true (sym (c.ne.ensures
    ∙ ap not (bytes_eq_same _ _ (e ∙ sym c.ending.ensures))) ∙ c.loop-rest-test.true) in
    no_follower c.args.dir c.loop-rest.before c.loop-rest.rest.now c.in-Some.entry
    c.in-Some.behind.now goes c.in-Some.ensures.some (λ follows.
    false≢true (sym c.if-not-follows.true ∙ c.follows.ensures.1 follows)) rest.0 rest.2

pub loop-rest-preserved : goal.loop-rest-preserved
loop-rest-preserved c =
    let goes : c.loop-rest.rest.now ≡ ending
    → ⊥ = λ e. false≢true (sym (c.ne.ensures
    ∙ ap not (bytes_eq_same _ _ (e ∙ sym c.ending.ensures))) ∙ c.loop-rest-test.true) in
    record {
      sound = λ more h. subst (λ (es : List Entry). ReadsLines c.args.dir None es c.args.text.now)
          (sym (ap (λ (es : List Entry). es ++ more) c.in_ok-push.ensures.ok
          ∙ append_assoc c.loop-rest.entries (c.in-Some.entry ∷ []) more))
          (c.loop-rest.invariant.sound (c.in-Some.entry ∷ more) (
            c.in-Some.behind.now,
            c.in-Some.ensures.some,
            c.follows.ensures.0 c.if-not-follows.false,
            h,
          ));
      only = λ all h.
          let rest = c.loop-rest.invariant.only all h in
          only_more c.args.dir c.loop-rest.before c.loop-rest.entries c.push.new.self all
          c.loop-rest.rest.now c.in-Some.entry c.in-Some.behind.now c.in_ok-push.ensures.ok goes
          c.in-Some.ensures.some rest.0 rest.1 rest.2;
    }

pub returns : goal.returns
returns c =
    let here = bytes_eq_is _ _ (not_false _ (sym c.ne.ensures ∙ c.loop-rest-test.false))
    ∙ c.ending.ensures in
    subst (λ (es : List Entry). ReadsLines c.args.dir None es c.args.text.now)
    (append-nil c.loop-rest.entries) (c.loop-rest.invariant.sound [] here)
