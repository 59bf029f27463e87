use Rattle.std.proofs.Common.{length, ap, arith}
use Rattle.word_code.proofs.Pieces.{number_below}
use Rattle.word_code.proofs.code.Code.body.Goals as goal

pub piece_at-requires-clause-inside : goal.piece_at-requires-clause-inside
piece_at-requires-clause-inside c =
    let inside = number_below _ _ _ _ c.self.view_is c.number.ensures c.requires.exists in
    omega (arith, inside, ap length c.deref-2.ensures.value)
