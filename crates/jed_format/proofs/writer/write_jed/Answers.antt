use Rattle.std.proofs.Common.{◌≡◌, ◌<◌, ◌^◌, length, List, subst, ap, sym, ◌∙◌}
use Rattle.std.specs.List.{All, AllByRecursion}
use Rattle.std.specs.Str.{IsUtf8}
use Rattle.jed_format.specs.Jed.{jed_in}
use Rattle.jed_format.specs.Write.{IsSjcl, are_visible, chunk_text, jed_text}
use Rattle.jed_format.specs.declared.jed.Jed.{Jed}
use Rattle.jed_format.specs.declared.sjcl_chunk.SjclChunk.{SjclChunk}
use Rattle.jed_format.proofs.JedBack.{jed_in-jed_text}
use Rattle.jed_format.proofs.Lists.{all_by}
use Rattle.jed_format.proofs.Visible.{IsUtf8-visible, jed_visible}
use Rattle.jed_format.proofs.writer.write_jed.Goals as goal

-- the parts of each chunk are bytes
each : (j : Jed) (chunks : List SjclChunk) → chunks ≡ j.chunks → All IsSjcl chunks → AllByRecursion IsSjcl j.chunks
each j chunks same sjcl =
    let P : List SjclChunk → Type 0 = All IsSjcl in
    all_by IsSjcl j.chunks (subst P same sjcl)

pub returns-clause-reads_back : goal.returns-clause-reads_back
returns-clause-reads_back c =
    let j = c.args.jed.now in
    ap jed_in c.in_ok-text.ensures
    ∙ jed_in-jed_text j c.requires.method c.prove_valid.ensures (each j _ c.as_slice.ensures c.prove_all.ensures)
    (all_by (λ x. length (chunk_text x) < 2 ^ 24) j.chunks c.requires.short)

pub returns-clause-visible : goal.returns-clause-visible
returns-clause-visible c =
    let j = c.args.jed.now in
    ap are_visible c.in_ok-text.ensures
    ∙ jed_visible j c.prove_valid.ensures (each j _ c.as_slice.ensures c.prove_all.ensures)

pub returns-clause-utf8 : goal.returns-clause-utf8
returns-clause-utf8 c =
    let j = c.args.jed.now in
    subst IsUtf8 (sym c.in_ok-text.ensures)
    (IsUtf8-visible (jed_text j)
    (jed_visible j c.prove_valid.ensures (each j _ c.as_slice.ensures c.prove_all.ensures)))
