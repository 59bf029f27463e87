-- What the units and events of a program do on words.
use Rattle.std.proofs.Common.{◌≡◌, ℕ, List, arith}
use Rattle.std.specs.Prelude.{Some}
use Rattle.std.specs.List.{AllByRecursion}
use Rattle.coati_word.specs.declared.reading.Reading.{Reading}
use Rattle.coati_word.specs.OperatorLaws.{IsWord}
use Rattle.task_syntax.specs.declared.program.Program.{Program}
use Rattle.task_syntax.specs.Course.{Access, Store, after, readings}
use Rattle.task_syntax.specs.Events.{event_effect}
use Rattle.task_syntax.specs.ProgramLaws.{EventsTouchVariables, HasNoEmptyArray, IsVariableWord, StaysAmongVariables, UnitsTouchVariables}
use Rattle.task_syntax.specs.Units.{Reached, tasks_effect}
use Rattle.trace_out.specs.Printed.{IsReading}
use Rattle.word_values.specs.Laws.{EventsStayInWords, UnitsStayInWords}
use Rattle.word_values.specs.Words.{HoldsWords, IsOfWords, StayInWords}
use Rattle.shown_runs.proofs.Alls.{all-zipped}
use Rattle.shown_runs.proofs.Touched.{Stay, reads-variables, stay}

-- the accesses are to variable words, what they read may be shown, and words are left
pub record IsEffect (program : Program) (done : List Access) (store : Store) : Type 0 where
  pub stays : Stay program done
  pub reads : AllByRecursion (IsReading program) (readings done)
  pub store_after : HoldsWords (after done store)

-- so are those of each unit and event
pub record HasEffects (program : Program) : Type 0 where
  pub units : (task count : ℕ) (store : Store) (reached : Reached) → HoldsWords store → tasks_effect program task store count ≡ Some reached
      → IsEffect program reached.done store
  pub events : (event argument : ℕ) (store : Store) → IsWord argument → HoldsWords store
      → IsEffect program (event_effect program event argument store) store

effect : (program : Program) (done : List Access) (store : Store) → StaysAmongVariables program done → StayInWords done store
    → IsEffect program done store
effect program done store among words =
    let stays = stay program done among in
    record {
      stays = stays;
      reads = all-zipped (λ (reading : Reading). IsVariableWord program reading.word) (λ (reading : Reading). IsWord reading.value)
          (IsReading program) (readings done) (λ reading word value. record { word = word; value = omega (arith, value) })
          (reads-variables program done stays) words.reads;
      store_after = words.store_after;
    }

pub has-effects : UnitsTouchVariables → EventsTouchVariables → UnitsStayInWords → EventsStayInWords → (program : Program)
    → HasNoEmptyArray program → IsOfWords program → HasEffects program
has-effects touch_units touch_events stay_units stay_events program arrays words = record {
  units = λ task count store reached holds is.
      effect program reached.done store (touch_units program task count store reached arrays is).stays
      (stay_units program task count store reached words holds is);
  events = λ event argument store is holds.
      effect program (event_effect program event argument store) store ((touch_events program event argument arrays).stays store)
      (stay_events program event argument store words is holds);
}
