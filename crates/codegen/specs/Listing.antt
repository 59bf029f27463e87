-- The listing of a program's code: for each body a line with its kind and its name, and then a
-- line for each instruction, with the word at which it starts, its text and its operands.
use Rattle.std.specs.Prelude.{ℕ, zero, suc, ◌+◌, ◌-◌, List, [], ◌∷◌, ◌++◌, Option, Some, None, codes, decimal, flat_map}
use Rattle.coati_word.specs.declared.operator.Op.{Op}
use Rattle.coati_word.specs.declared.operator.Op.TheVariants as op
use Rattle.coati_word.specs.declared.operator.Op1.{Op1}
use Rattle.coati_word.specs.declared.operator.Op1.TheVariants as op1
use Rattle.task_syntax.specs.declared.program.Program.{Program}
use Rattle.task_syntax.specs.declared.program.Event.{Event}
use Rattle.task_syntax.specs.declared.program.TaskDecl.{TaskDecl}
use Rattle.task_syntax.specs.Names.{tasks}
use Rattle.word_code.specs.declared.instruction.Instr.{Instr}
use Rattle.word_code.specs.declared.instruction.Instr.TheVariants.{Push, GetL, SetL, LoadV, StoreV, LoadX, StoreX, Jump, JumpZ, Next, Halt, Done, Give, Two, One}
use Rattle.word_code.specs.Instruction.{decoded}
use Rattle.task_check.specs.Bodies.{task_body, top_half, bottom_half}
use Rattle.codegen.specs.Bodies.{words_of_body}

-- the text of an operator
abbrev pub operator_text : Op → List ℕ
operator_text op.Or = codes "or"
operator_text op.Xor = codes "xor"
operator_text op.And = codes "and"
operator_text op.Eq = codes "eq"
operator_text op.Ne = codes "ne"
operator_text op.Lt = codes "lt"
operator_text op.Le = codes "le"
operator_text op.Gt = codes "gt"
operator_text op.Ge = codes "ge"
operator_text op.Shl = codes "shl"
operator_text op.Shr = codes "shr"
operator_text op.Add = codes "add"
operator_text op.Sub = codes "sub"
operator_text op.Mul = codes "mul"
operator_text op.Div = codes "div"
operator_text op.Rem = codes "rem"

abbrev pub unary_text : Op1 → List ℕ
unary_text op1.Neg = codes "neg"
unary_text op1.Inv = codes "inv"
unary_text op1.Zero = codes "zero"

-- the text of an instruction
abbrev pub instr_text : Instr → List ℕ
instr_text (Push k) = codes "push"
instr_text (GetL i) = codes "getl"
instr_text (SetL i) = codes "setl"
instr_text (LoadV a) = codes "loadv"
instr_text (StoreV a) = codes "storev"
instr_text (LoadX a n) = codes "loadx"
instr_text (StoreX a n) = codes "storex"
instr_text (Jump t) = codes "jump"
instr_text (JumpZ t) = codes "jumpz"
instr_text (Next t) = codes "next"
instr_text Halt = codes "halt"
instr_text Done = codes "done"
instr_text (Give n) = codes "give"
instr_text (Two o) = operator_text o
instr_text (One o) = unary_text o

-- its operands
abbrev pub operands : Instr → List ℕ
operands (Push k) = k ∷ []
operands (GetL i) = i ∷ []
operands (SetL i) = i ∷ []
operands (LoadV a) = a ∷ []
operands (StoreV a) = a ∷ []
operands (LoadX a n) = a ∷ n ∷ []
operands (StoreX a n) = a ∷ n ∷ []
operands (Jump t) = t ∷ []
operands (JumpZ t) = t ∷ []
operands (Next t) = t ∷ []
operands (Give n) = n ∷ []
operands _ = []

-- a field with the space before it
abbrev pub field : List ℕ → List ℕ
field text = codes " " ++ text

abbrev pub operand_field : ℕ → List ℕ
operand_field operand = field (decimal operand)

-- the line of an instruction at a word
abbrev pub instr_line : ℕ → Instr → List ℕ
instr_line at instr = decimal at ++ (field (instr_text instr)
    ++ (flat_map operand_field (operands instr) ++ codes "\n"))

-- the line of what starts at a word, where an instruction does
abbrev pub line_at : ℕ → Option (Instr × ℕ) → List ℕ
line_at at None = []
line_at at (Some found) = instr_line at found.0

-- how many operand words it has
abbrev pub operand_count : Option (Instr × ℕ) → ℕ
operand_count None = 0
operand_count (Some found) = found.1 - 1

-- the lines of the instructions among words that begin at a word, of which so many are operands of
-- what stands before them
abbrev pub lines_from : ℕ → ℕ → List ℕ → List ℕ
lines_from at operands [] = []
lines_from at (suc operands) (word ∷ words) = lines_from (at + 1) operands words
lines_from at zero (word ∷ words) = line_at at (decoded (word ∷ words))
    ++ lines_from (at + 1) (operand_count (decoded (word ∷ words))) words

-- the lines of a body, by its kind, its name and its words
abbrev pub body_lines : List ℕ → List ℕ → List ℕ → List ℕ
body_lines kind name words = kind ++ (field name ++ (codes "\n" ++ lines_from 0 0 words))

module _ (program : Program) where
  abbrev pub task_lines : TaskDecl → List ℕ
  task_lines task = body_lines (codes "task") task.name.text
      (words_of_body program (task_body task))

  -- both halves of an event have its name
  abbrev pub event_lines : Event → List ℕ
  event_lines event =
      body_lines (codes "top") event.name.text (words_of_body program (top_half event))
      ++ body_lines (codes "bottom") event.name.text (words_of_body program (bottom_half event))

  -- the listing of the program: its tasks by number, then its events
  abbrev pub listing : List ℕ
  listing = flat_map task_lines (tasks program) ++ flat_map event_lines program.events
