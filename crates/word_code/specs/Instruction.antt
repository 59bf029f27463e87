-- Instructions as words: an opcode, and its operand words behind it. No instruction starts where
-- the word is no opcode, an operand word is missing, or an operand breaks its range.
use Rattle.std.specs.Prelude.{ℕ, ◌+◌, ◌-◌, ◌==◌, ◌≤◌, ◌<◌, nat_lt, nat_le, Bool, true, if◌then◌else◌, List, [], ◌∷◌, length, slice_get, Option, Some, None}
use Rattle.coati_word.specs.declared.operator.Op.{Op}
use Rattle.coati_word.specs.declared.operator.Op.TheVariants as op
use Rattle.coati_word.specs.declared.operator.Op1.{Op1}
use Rattle.coati_word.specs.declared.operator.Op1.TheVariants as op1
use Rattle.word_code.specs.declared.instruction.Instr.{Instr}
use Rattle.word_code.specs.declared.instruction.Instr.TheVariants.{Push, GetL, SetL, LoadV, StoreV, LoadX, StoreX, Jump, JumpZ, Next, Halt, Done, Give, Two, One}

-- the operators by their numbers
abbrev pub binary_operators : List Op
binary_operators =
    op.Or ∷ op.Xor ∷ op.And ∷ op.Eq ∷ op.Ne ∷ op.Lt ∷ op.Le ∷ op.Gt ∷ op.Ge ∷ op.Shl ∷ op.Shr
    ∷ op.Add ∷ op.Sub ∷ op.Mul ∷ op.Div ∷ op.Rem ∷ []

abbrev pub unary_operators : List Op1
unary_operators = op1.Neg ∷ op1.Inv ∷ op1.Zero ∷ []

-- the number of a binary operator
abbrev pub binary_number : Op → ℕ
binary_number op.Or = 0
binary_number op.Xor = 1
binary_number op.And = 2
binary_number op.Eq = 3
binary_number op.Ne = 4
binary_number op.Lt = 5
binary_number op.Le = 6
binary_number op.Gt = 7
binary_number op.Ge = 8
binary_number op.Shl = 9
binary_number op.Shr = 10
binary_number op.Add = 11
binary_number op.Sub = 12
binary_number op.Mul = 13
binary_number op.Div = 14
binary_number op.Rem = 15

-- the number of a unary operator
abbrev pub unary_number : Op1 → ℕ
unary_number op1.Neg = 0
unary_number op1.Inv = 1
unary_number op1.Zero = 2

-- the words of an instruction
abbrev pub encoded : Instr → List ℕ
encoded (Push k) = 1 ∷ k ∷ []
encoded (GetL i) = 2 ∷ i ∷ []
encoded (SetL i) = 3 ∷ i ∷ []
encoded (LoadV a) = 4 ∷ a ∷ []
encoded (StoreV a) = 5 ∷ a ∷ []
encoded (LoadX a n) = 6 ∷ a ∷ n ∷ []
encoded (StoreX a n) = 7 ∷ a ∷ n ∷ []
encoded (Jump t) = 8 ∷ t ∷ []
encoded (JumpZ t) = 9 ∷ t ∷ []
encoded (Next t) = 10 ∷ t ∷ []
encoded Halt = 11 ∷ []
encoded Done = 12 ∷ []
encoded (Give n) = 13 ∷ n ∷ []
encoded (Two o) = (32 + binary_number o) ∷ []
encoded (One o) = (48 + unary_number o) ∷ []

-- how many words it has
abbrev pub width : Instr → ℕ
width instr = length (encoded instr)

-- its operands are in their ranges: there are 32 locals, no array is empty, and a message has at
-- most four words
abbrev pub IsEncodable : Instr → Type 0
IsEncodable (GetL i) = i < 32
IsEncodable (SetL i) = i < 32
IsEncodable (LoadX a n) = 0 < n
IsEncodable (StoreX a n) = 0 < n
IsEncodable (Give n) = n ≤ 4
IsEncodable _ = Unit {0}

-- an instruction and its count of words, read from the words behind an opcode
abbrev pub Reader : Type 0
Reader = List ℕ → Option (Instr × ℕ)

-- a word that is no opcode
abbrev pub no_opcode : Reader
no_opcode words = None

-- an instruction without operands
abbrev pub alone : Instr → Reader
alone instr words = Some (instr, 1)

-- an instruction with one operand in its range
abbrev pub with_word : (ℕ → Bool) → (ℕ → Instr) → Reader
with_word is_allowed instr [] = None
with_word is_allowed instr (k ∷ more) = if is_allowed k then Some (instr k, 2) else None

abbrev pub with_any : (ℕ → Instr) → Reader
with_any = with_word (λ k. true)

abbrev pub with_local : (ℕ → Instr) → Reader
with_local = with_word (λ i. nat_lt i 32)

-- an instruction with the first word of an array and its length
abbrev pub with_array : (ℕ → ℕ → Instr) → Reader
with_array instr [] = None
with_array instr (a ∷ []) = None
with_array instr (a ∷ n ∷ more) = if n == 0 then None else Some (instr a n, 3)

-- the readers of the opcodes from 0 on
abbrev pub readers : List Reader
readers =
    no_opcode
    ∷ with_any Push
    ∷ with_local GetL
    ∷ with_local SetL
    ∷ with_any LoadV
    ∷ with_any StoreV
    ∷ with_array LoadX
    ∷ with_array StoreX
    ∷ with_any Jump
    ∷ with_any JumpZ
    ∷ with_any Next
    ∷ alone Halt
    ∷ alone Done
    ∷ with_word (λ n. nat_le n 4) Give
    ∷ []

abbrev pub read_by : Option Reader → Reader
read_by None words = None
read_by (Some reader) words = reader words

-- the instruction of an operator, where there is one
abbrev pub of_operator : {O : Type 0} → (O → Instr) → Option O → Option (Instr × ℕ)
of_operator instr None = None
of_operator instr (Some o) = Some (instr o, 1)

-- the instruction that starts these words, and its count of words
abbrev pub decoded : List ℕ → Option (Instr × ℕ)
decoded [] = None
decoded (opcode ∷ words) =
    if nat_lt opcode 32 then read_by (slice_get readers opcode) words
    else (if nat_lt opcode 48 then of_operator Two (slice_get binary_operators (opcode - 32))
    else of_operator One (slice_get unary_operators (opcode - 48)))
