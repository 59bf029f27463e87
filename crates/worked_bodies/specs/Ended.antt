-- How a body came to its end on the machine, and by how many machine steps.
use Rattle.std.specs.Prelude.{ℕ, ◌≡◌, ◌+◌, List}
use Rattle.coati_word.specs.declared.ending.Ending.{Ending}
use Rattle.coati_word.specs.declared.reading.Reading.{Reading}
use Rattle.task_syntax.specs.declared.body.BodyId.{BodyId}
use Rattle.task_syntax.specs.Course.{Access}
use Rattle.word_code.specs.Code.{Bodies}
use Rattle.word_cpu.specs.Meaning.{Meaning}
use Rattle.word_cpu.specs.declared.cpu.Cpu.{Cpu}
use Rattle.word_cpu.specs.declared.turn.Turn.TheVariants.{Ended}
use Rattle.word_cpu.specs.Reached.{Comes}
use Rattle.word_cpu.specs.Turning.{IsStep}

module _ {V : Type 0} (meaning : Meaning V) (code : Bodies) where
  -- a machine that was started on a body ends it by the last of so many steps, with these
  -- readings, and the view is then this
  pub record EndsBy (body : BodyId) (params : List ℕ) (view : V) (steps : ℕ) (read : List Reading)
      (ending : Ending) (new : V) : Type 0 where
    pub spent : ℕ
    pub done : List Access
    pub before : Cpu
    pub last : Cpu
    pub now : V
    pub comes : Comes meaning code body params view spent done read before now
    pub ends : IsStep meaning code before last now new (Ended ending)
    pub steps_are : steps ≡ spent + 1
