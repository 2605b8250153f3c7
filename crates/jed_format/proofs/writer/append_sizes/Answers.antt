use Rattle.std.proofs.Common.{◌++◌, codes, decimal, string_bytes, ap, ◌∙◌}
use Rattle.jed_format.proofs.Lists.{behind_three}
use Rattle.jed_format.proofs.writer.append_sizes.Goals as goal

pub returns : goal.returns
returns c =
    behind_three _ _ _ _ _ _ _ c.in_ok-append_number.ensures
    (c.in_ok-append_number-2.ensures
    ∙ ap (λ n. string_bytes c.append_number.new.text ++ (codes ",\"ks\":" ++ decimal n)) c.from.ensures)
    (c.in_ok-append_number-3.ensures
    ∙ ap (λ n. string_bytes c.append_number-2.new.text ++ (codes ",\"ts\":" ++ decimal n)) c.from-2.ensures)
