-- Which programs are accepted, and how another one is refused: at the rule of least number that it
-- breaks, at its least place.
use Rattle.std.specs.Prelude.{ℕ, ◌≡◌, ◌≤◌, ◌<◌, ◌==◌, ⊤, List, [], ◌∷◌, map, find, slice_index_or, Option, Some, None, Result, Err}
use Rattle.task_syntax.specs.declared.program.Program.{Program}
use Rattle.task_check.specs.declared.rule.Rule.{Rule}
use Rattle.task_check.specs.declared.rule.Rule.TheVariants.{TwiceNamed, Unknown, WrongKind, BadCount, BadBuffer, TooManyWords, TooManyTasks, NoEnding, EarlyEnding, IntoTx, TopReadsNv, GiveShape, LoopAssigned, TooManyLocals, TooDeepStack, TooLong}
use Rattle.task_check.specs.declared.fault.CheckFault.{CheckFault}
use Rattle.task_check.specs.declared.fault.CheckFault.TheVariants as fault
use Rattle.task_check.specs.Counts.{bad_buffer_places, bad_count_places, too_many_tasks_places, too_many_words_places}
use Rattle.task_check.specs.Endings.{no_ending_places, early_ending_places}
use Rattle.task_check.specs.Gives.{give_shape_places}
use Rattle.task_check.specs.Least.{IsLeast}
use Rattle.task_check.specs.Loops.{loop_assigned_places}
use Rattle.task_check.specs.Measures.{too_many_locals_places, too_deep_stack_places, too_long_places}
use Rattle.task_check.specs.NameRules.{twice_named_places, unknown_places, wrong_kind_places}
use Rattle.task_check.specs.Tops.{top_reads_nv_places}
use Rattle.task_check.specs.Transitions.{into_tx_places}

-- rules are numbered from 1
abbrev pub number_of : Rule → ℕ
number_of TwiceNamed = 1
number_of Unknown = 2
number_of WrongKind = 3
number_of BadCount = 4
number_of BadBuffer = 5
number_of TooManyWords = 6
number_of TooManyTasks = 7
number_of NoEnding = 8
number_of EarlyEnding = 9
number_of IntoTx = 10
number_of TopReadsNv = 11
number_of GiveShape = 12
number_of LoopAssigned = 13
number_of TooManyLocals = 14
number_of TooDeepStack = 15
number_of (TooLong number) = 16

-- for each rule by its number the places at which the program breaks it; there is no rule 0
abbrev pub rules : Program → List (List ℕ)
rules program =
    []
    ∷ twice_named_places program  -- 1
    ∷ unknown_places program  -- 2
    ∷ wrong_kind_places program  -- 3
    ∷ bad_count_places program  -- 4
    ∷ bad_buffer_places program  -- 5
    ∷ too_many_words_places program  -- 6
    ∷ too_many_tasks_places program  -- 7
    ∷ no_ending_places program  -- 8
    ∷ early_ending_places program  -- 9
    ∷ into_tx_places program  -- 10
    ∷ top_reads_nv_places program  -- 11
    ∷ give_shape_places program  -- 12
    ∷ loop_assigned_places program  -- 13
    ∷ too_many_locals_places program  -- 14
    ∷ too_deep_stack_places program  -- 15
    ∷ map (λ (body : ℕ × ℕ). body.0) (too_long_places program)  -- 16
    ∷ []

-- the places at which the program breaks the rule of a number
abbrev pub places : ℕ → Program → List ℕ
places number program = slice_index_or (rules program) number []

-- the program keeps the rules from one number up to another, which is not among them
abbrev pub Keeps : Program → ℕ → ℕ → Type 0
Keeps program first behind = (number : ℕ) → first ≤ number → number < behind →
    places number program ≡ []

-- rule 16 tells the number of the first body at the place
abbrev pub TellsNumber : Program → Rule → ℕ → Type 0
TellsNumber program (TooLong number) at = find (λ (body : ℕ
    × ℕ). body.0 == at) (too_long_places program) ≡ Some (at, number)
TellsNumber program rule at = ⊤

-- of the rules from one number up to another this is the first that the program breaks, and this
-- its least place
pub record IsFirstBroken (program : Program) (first behind : ℕ) (rule : Rule) (at : ℕ)
    : Type 0 where
  pub from : first ≤ number_of rule
  pub before : number_of rule < behind
  pub earlier : Keeps program first (number_of rule)
  pub here : IsLeast (places (number_of rule) program) at
  pub number : TellsNumber program rule at

-- what a reading of these rules finds: the first that is broken, or none
abbrev pub IsFound : Program → ℕ → ℕ → Option (Rule × ℕ) → Type 0
IsFound program first behind None = Keeps program first behind
IsFound program first behind (Some broken) = IsFirstBroken program first behind broken.0 broken.1

-- the program keeps all rules
abbrev pub IsAccepted : Program → Type 0
IsAccepted program = Keeps program 1 17

-- the refusal of a program: its first broken rule, at its least place
abbrev pub IsRefusal : Program → CheckFault → Type 0
IsRefusal program (fault.Rule rule at) = IsFirstBroken program 1 17 rule at
IsRefusal program fault.OutOfMemory = ⊤

-- the answer is this one, unless memory was refused
abbrev pub IsAnswer : Result Program CheckFault → Result Program CheckFault → Type 0
IsAnswer (Err fault.OutOfMemory) answer = Unit {0}
IsAnswer result answer = answer ≡ result
