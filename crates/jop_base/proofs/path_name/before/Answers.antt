use Rattle.std.proofs.Common.{◌≡◌, ◌++◌, ◌-◌, ◌∙◌, ap, arith, List, ℕ, length, drop, length-append}
use Rattle.std.proofs.Math.Seq.{drop-append_seam}
use Rattle.std.proofs.lemmas.Slice.Eq.{bytes_eq-Decides}
use Rattle.jop_base.proofs.path_name.before.Goals as goal

-- the ending is what stands at the place of its length from the end
drop-append : (start ending name : List ℕ)
    → start ++ ending ≡ name → drop (length name - length ending) name ≡ ending
drop-append start ending name is =
    let place : length name - length ending ≡ length start =
    omega (arith, ap length is, length-append start ending) in
    let seam = drop-append_seam start ending in
    cc

pub returns-else-eq-clause-none : goal.returns-else-eq-clause-none
returns-else-eq-clause-none c = λ start is.
    let same = c.split_at.ensures.back ∙ drop-append start c.args.ending.now c.args.name.now is in
    let equal = (bytes_eq-Decides c.split_at.result.1.now c.args.ending.now).1 same in
    cc (equal, c.eq.ensures, c.if-eq.false)
