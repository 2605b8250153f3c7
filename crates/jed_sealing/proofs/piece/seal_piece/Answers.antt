use Rattle.std.proofs.Common.{◌≡◌, length, rules}
use Rattle.jed_sealing.proofs.OnePiece.{brief_piece}
use Rattle.jed_sealing.proofs.piece.seal_piece.Goals as goal

pub returns-clause-brief : goal.returns-clause-brief
returns-clause-brief c =
    let grain = c.args.grain.now in
    let iv : length grain.iv ≡ 16 = search rules in
    let salt : length grain.salt ≡ 8 = search rules in
    brief_piece c.args.strength c.args.piece.now _ _ c.in_ok-ct.ct.items grain c.in_ok-sealed.sealed
    c.in_ok-sealed.ensures c.in_ok-ct.ensures iv salt c.requires.short
