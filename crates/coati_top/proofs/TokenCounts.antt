-- How many tokens a source has: no more than bytes, since each has one.
use Rattle.std.proofs.Common.{ℕ, ◌+◌, ◌≤◌, List, [], ◌∷◌, length, arith}
use Rattle.task_lex.specs.Span.{AreInOrder}
use Rattle.task_lex.specs.declared.token.Token.{Token}

count_from : (place : ℕ) (tokens : List Token) (len : ℕ) → AreInOrder place tokens len → place + length tokens ≤ len
count_from place [] len order = omega (arith, order)
count_from place (token ∷ tokens) len order =
    let more = count_from token.end tokens len order.2 in omega (arith, more, order.0, order.1)

-- the tokens of a source of this length
pub few_tokens : (tokens : List Token) (len : ℕ) → AreInOrder 0 tokens len → length tokens ≤ len
few_tokens tokens len order = let bound = count_from 0 tokens len order in omega (arith, bound)
