-- What a course that stays among the variables reads and shares are variable words.
use Rattle.std.proofs.Common.{◌≡◌, ◌≤◌, ◌==◌, ℕ, zero, suc, arith, Bool, true, false, List, [], ◌∷◌, refl, subst, if◌then◌else◌}
use Rattle.std.specs.Prelude.{Option, Some, None, option_and_then}
use Rattle.std.specs.List.{AllByRecursion}
use Rattle.std.proofs.lemmas.List.Elements.{recursion_from_All}
use Rattle.std.proofs.lemmas.Bool.Decides.{nat_tests}
use Rattle.coati_word.specs.declared.reading.Reading.{Reading}
use Rattle.task_syntax.specs.declared.program.Program.{Program}
use Rattle.task_syntax.specs.Course.{Access, Store, readings}
use Rattle.task_syntax.specs.ProgramLaws.{IsVariableWord, StaysAmongVariables, word_of}
use Rattle.task_syntax.specs.Units.{Reached, is_inside, tasks_effect, unless_inside, whole_effect}
use Rattle.task_syntax.specs.Written.{is_shared}

module _ (program : Program) where
  abbrev pub Stay : List Access → Type 0
  Stay done = AllByRecursion (λ access. IsVariableWord program (word_of access)) done

  pub reads-variables : (done : List Access) → Stay done → AllByRecursion (λ (reading : Reading). IsVariableWord program reading.word) (readings done)
  reads-variables [] stay = tt
  reads-variables (Access.read word value ∷ more) stay = (stay.0, reads-variables more stay.1)
  reads-variables (Access.wrote word value ∷ more) stay = reads-variables more stay.1

  pub shares-variable : (done : List Access) (word : ℕ) → Stay done → is_shared done word ≡ true → IsVariableWord program word
  shares-variable [] word stay shared = absurd cc
  shares-variable (Access.read other value ∷ more) word stay shared = by (other == word) refl shared (shares-variable more word stay.1)
    where
      by : (same : Bool) → (other == word) ≡ same → (if same then true else is_shared more word) ≡ true
          → (is_shared more word ≡ true → IsVariableWord program word) → IsVariableWord program word
      by true is shared later = let e : other ≡ word = grind (arith, nat_tests, is) in subst (IsVariableWord program) e stay.0
      by false is shared later = later shared
  shares-variable (Access.wrote other value ∷ more) word stay shared = by (other == word) shared (shares-variable more word stay.1)
    where
      by : (same : Bool) → (if same then false else is_shared more word) ≡ true → (is_shared more word ≡ true → IsVariableWord program word)
          → IsVariableWord program word
      by true shared later = absurd cc
      by false shared later = later shared

  pub stay : (done : List Access) → StaysAmongVariables program done → Stay done
  stay done all = recursion_from_All (λ access. IsVariableWord program (word_of access)) done all

  -- where a unit is whole, its tasks have reached that
  pub whole-reached : (task : ℕ) (store : Store) (count : ℕ) (reached : Reached) → whole_effect program task store count ≡ Some reached
      → tasks_effect program task store count ≡ Some reached
  whole-reached task store count reached = by (tasks_effect program task store count)
    where
      outside : (there : Reached) (inside : Bool) → (if inside then None else Some there) ≡ Some reached → Some there ≡ Some reached
      outside there true is = absurd cc
      outside there false is = is

      by : (found : Option Reached) → option_and_then (unless_inside program task) found ≡ Some reached → found ≡ Some reached
      by None is = absurd cc
      by (Some there) is = outside there (is_inside program task there.place) is

  -- the first tasks of a unit are one at least
  pub some-tasks : (task : ℕ) (store : Store) (count : ℕ) (reached : Reached) → tasks_effect program task store count ≡ Some reached → 1 ≤ count
  some-tasks task store zero reached is = absurd cc
  some-tasks task store (suc more) reached is = omega arith
