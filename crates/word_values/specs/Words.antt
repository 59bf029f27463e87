-- Words of 16 bits in stores, courses and programs.
use Rattle.std.specs.Prelude.{ℕ, List}
use Rattle.std.specs.List.{AllByRecursion}
use Rattle.coati_word.specs.declared.ending.Ending.{Ending}
use Rattle.coati_word.specs.declared.ending.Ending.TheVariants.{Given}
use Rattle.coati_word.specs.OperatorLaws.{IsWord}
use Rattle.task_syntax.specs.declared.program.Program.{Program}
use Rattle.task_syntax.specs.Course.{Access, Course, Store, after, readings}
use Rattle.task_syntax.specs.Events.{event_course}
use Rattle.task_syntax.specs.Names.{opening_values}
use Rattle.task_syntax.specs.Units.{task_course}

-- each of the values is a word
abbrev pub AreWords : List ℕ → Type 0
AreWords values = AllByRecursion IsWord values

-- what the store holds are words
abbrev pub HoldsWords : Store → Type 0
HoldsWords store = (word : ℕ) → IsWord (store word)

-- where what it reads are words, a course writes words alone, and its answer is so
abbrev pub GivesWords : {A : Type 0} → (A → Type 0) → Course A → Type 0
GivesWords IsAnswer (Course.ends result) = IsAnswer result
GivesWords IsAnswer (Course.reads word go_on) =
    (value : ℕ) → IsWord value → GivesWords IsAnswer (go_on value)
GivesWords IsAnswer (Course.writes word value rest) = IsWord value × GivesWords IsAnswer rest

-- what is given are words
abbrev pub EndsInWords : Ending → Type 0
EndsInWords (Given values) = AreWords values
EndsInWords _ = Unit {0}

-- the variables begin with words, and tasks and events write words alone
pub record IsOfWords (program : Program) : Type 0 where
  pub opening : AreWords (opening_values program)
  pub tasks : (task : ℕ) → GivesWords EndsInWords (task_course program task)
  pub events : (event argument : ℕ) → IsWord argument →
      GivesWords EndsInWords (event_course program event argument)

-- accesses read words, and leave words behind them
pub record StayInWords (done : List Access) (store : Store) : Type 0 where
  pub reads : AllByRecursion (λ reading. IsWord reading.value) (readings done)
  pub store_after : HoldsWords (after done store)
