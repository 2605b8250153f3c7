use Rattle.std.proofs.Common.{List, ℕ, ap, subst, sym, ◌∙◌}
use Rattle.std.specs.Str.{IsUtf8}
use Rattle.jed_format.specs.Chunk.{chunk_in}
use Rattle.jed_format.specs.Write.{are_visible, chunk_text}
use Rattle.jed_format.proofs.Texts.{chunk_in-chunk_text}
use Rattle.jed_format.proofs.Visible.{IsUtf8-visible, chunk_visible}
use Rattle.jed_format.proofs.writer.write_chunk.Goals as goal

pub returns-clause-reads_back : goal.returns-clause-reads_back
returns-clause-reads_back c =
    λ n. ap (λ (text : List ℕ). chunk_in text n) c.in_ok-text.ensures
    ∙ chunk_in-chunk_text c.args.chunk.now n c.prove_sjcl.ensures

pub returns-clause-visible : goal.returns-clause-visible
returns-clause-visible c =
    ap are_visible c.in_ok-text.ensures ∙ chunk_visible c.args.chunk.now c.prove_sjcl.ensures

pub returns-clause-utf8 : goal.returns-clause-utf8
returns-clause-utf8 c =
    subst IsUtf8 (sym c.in_ok-text.ensures)
    (IsUtf8-visible (chunk_text c.args.chunk.now) (chunk_visible c.args.chunk.now c.prove_sjcl.ensures))
