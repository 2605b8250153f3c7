use Rattle.std.proofs.Common.{◌≡◌, true, List, sym, subst, rules, arith}
use Rattle.std.proofs.lemmas.List.Elements.{All-push}
use Rattle.std.specs.List.{AllPass}
use Rattle.jed_format.specs.Chunk.{is_chunk}
use Rattle.jed_format.specs.declared.sjcl_chunk.SjclChunk.{SjclChunk}
use Rattle.jed_format.proofs.Chunks.{stands_after, refused_without_piece, refused_with_piece, stands_last, stands_out, some_left, nothing_left}
use Rattle.jed_format.proofs.jed_reader.chunks_in.Goals as goal
use Rattle.jed_format.proofs.jed_reader.chunks_in.Goals.{else-loop-n-test, then-loop-n-test+then-is_empty}

pub returns-in_default-clause-err : goal.returns-in_default-clause-err
returns-in_default-clause-err c =
    let some = some_left c.loop-n.rest.now c.is_empty.result c.is_empty.ensures c.if-is_empty.false in
    refused_without_piece c.loop-n.invariant.stands c.loop-n-test.true some c.in_default.ensures.piece

pub returns-in_err-chunk-clause-err : goal.returns-in_err-chunk-clause-err
returns-in_err-chunk-clause-err c =
    let some = some_left c.loop-n.rest.now c.is_empty.result c.is_empty.ensures c.if-is_empty.false in
    let refused = refused_with_piece c.in-Some.piece.now c.in_err-chunk.field-0.0 c.loop-n.invariant.stands
    c.loop-n-test.true some c.in-Some.ensures.piece c.in_err-chunk.ensures.err in
    search rules

pub loop-n-preserved : goal.loop-n-preserved
loop-n-preserved c =
    let some = some_left c.loop-n.rest.now c.is_empty.result c.is_empty.ensures c.if-is_empty.false in
    let P : List SjclChunk → Type 0 = AllPass is_chunk in
    record {
      stands = stands_after c.in-Some.piece.now c.from-rest.result.now c.in_ok-chunk.chunk c.push.new.self
          c.loop-n.invariant.stands c.loop-n-test.true some c.in-Some.ensures.piece c.in_ok-chunk.ensures.ok
          c.in_ok-push.ensures.ok c.from-rest.ensures;
      valid = subst P (sym c.in_ok-push.ensures.ok)
          (All-push (λ x. is_chunk x ≡ true) c.loop-n.chunks c.in_ok-chunk.chunk c.loop-n.invariant.valid c.in_ok-chunk.ensures.valid);
    }

pub returns-clause-ok : goal.returns-clause-ok
returns-clause-ok c = elim c.loop-n-test.branch [
  | else-loop-n-test w ↦ stands_out c.loop-n.invariant.stands (omega arith)
  | then-loop-n-test+then-is_empty w ↦
      stands_last c.loop-n.invariant.stands
      (nothing_left c.loop-n.rest.now w.is_empty.result w.is_empty.ensures w.if-is_empty.true)
]
