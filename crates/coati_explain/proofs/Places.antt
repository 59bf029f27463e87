-- Faults and tokens lie within their source.
use Rattle.std.proofs.Common.{◌≡◌, ℕ, ◌+◌, ◌≤◌, List, length, ap, arith, length-append}
use Rattle.task_lex.specs.Reading.{FaultAt, Reads, nothing, gap, token}
use Rattle.task_lex.specs.declared.token.Token.{Token}

-- what is left of a text is what was not read
Reads-length : (place : ℕ) (text : List ℕ) (tokens : List Token) (behind : ℕ) (left : List ℕ) → Reads place text tokens behind left
    → behind + length left ≡ place + length text
Reads-length _ _ _ _ _ (nothing place text) = omega arith
Reads-length _ _ _ _ _ (gap place text word rest tokens behind left here is read) =
    omega (arith, Reads-length (place + length word) rest tokens behind left read, ap length here, length-append word rest)
Reads-length _ _ _ _ _ (token found place text word rest tokens behind left here is read) =
    omega (arith, Reads-length (place + length word) rest tokens behind left read, ap length here, length-append word rest)

-- a fault of the bytes of a text
pub FaultAt-within : (text : List ℕ) (at : ℕ) (IsBad : List ℕ → Type 0) → FaultAt text at IsBad → at ≤ length text
FaultAt-within text at IsBad fault = omega (arith, Reads-length 0 text fault.tokens at fault.left fault.before)
