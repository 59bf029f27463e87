-- The least number in common, and the word on which an event clashes with tasks.
use Rattle.std.proofs.Common.{◌≡◌, ◌∙◌, ◌↔◌, ℕ, ◌<◌, ◌≤◌, List, length, get_or, refl, sym, subst, arith}
use Rattle.std.specs.Prelude.{Contains, Option, Some, None, slice_index}
use Rattle.std.proofs.lemmas.List.{get_or_default}
use Rattle.std.proofs.lemmas.List.Elements.{Contains-get_or}
use Rattle.task_syntax.specs.declared.program.Program.{Program}
use Rattle.task_syntax.specs.Course.{Access}
use Rattle.task_syntax.specs.CourseLaws.{WrittenWordsAreTold}
use Rattle.task_syntax.specs.Units.{Reached, tasks_effect}
use Rattle.task_syntax.specs.Events.{event_effect}
use Rattle.task_syntax.specs.Written.{is_shared, is_written}
use Rattle.serial_run.specs.Touched.{TellsShared, TellsWords}
use Rattle.serial_log.specs.declared.held.Held.{Held}
use Rattle.serial_log.specs.SerialRun.{Stand}
use Rattle.serial_log.specs.Aborts.{IsClashWord, IsLeastClash}
use Rattle.coati_replay.specs.Least.{IsLeastCommon}

-- a lower number that both lists have
pub lower : (left right : List ℕ) (at number : ℕ) → at < length left → get_or left at 0 < number → Contains right (get_or left at 0) → IsLeastCommon left right number → ⊥
lower left right at number within below in_right least = let le = least.least (get_or left at 0) (Contains-get_or left at 0 within) in_right in omega arith

-- no lower one is left
pub least-is : (left right : List ℕ) (number count : ℕ) → Contains left number → Contains right number → length left ≤ count →
    ((at : ℕ) → at < count → Contains right (slice_index left at) → number ≤ slice_index left at) → IsLeastCommon left right number
least-is left right number count in_left in_right all none_lower = record {
  in_left = in_left;
  in_right = in_right;
  least = λ other (at, within, is) there.
      let same : slice_index left at ≡ other = get_or_default left at 0 other within ∙ is in
      subst (λ (n : ℕ). number ≤ n) same (none_lower at (omega arith) (subst (λ (n : ℕ). Contains right n) (sym same) there));
}

-- words that are told, as a clash
clash-of : WrittenWordsAreTold → (event tasks : List Access) (written shared : List ℕ) (word : ℕ) → TellsWords (is_written event) written → TellsWords (is_shared tasks) shared →
    IsLeastCommon written shared word ↔ IsLeastClash event tasks word
clash-of told event tasks written shared word first second = (
  λ common. record {
    clash = record { written = (told event word).contained.1 ((first.exact word).0 common.in_left); shared = (second.exact word).0 common.in_right };
    least = λ other clash. common.least other ((first.exact other).1 ((told event other).contained.0 clash.written)) ((second.exact other).1 clash.shared);
  },
  λ least. record {
    in_left = (first.exact word).1 ((told event word).contained.0 least.clash.written);
    in_right = (second.exact word).1 least.clash.shared;
    least = λ other there here. least.least other (record { written = (told event other).contained.1 ((first.exact other).0 there); shared = (second.exact other).0 here });
  },
)

module _ (told : WrittenWordsAreTold) (program : Program) (stand : Stand) (count : ℕ) (held : Held) (word : ℕ) (written : List ℕ)
    (first : TellsWords (is_written (event_effect program held.event held.argument stand.store)) written) where
  clash-by : (shared : List ℕ) (some : Option Reached) → tasks_effect program stand.place stand.store count ≡ some → TellsShared some (Some shared) →
      IsLeastCommon written shared word ↔ IsClashWord program stand count held word
  clash-by shared None is second = absurd second
  clash-by shared (Some reached) is second =
      let event = event_effect program held.event held.argument stand.store in (
        λ common. record { reached = reached; tasks = is; least = (clash-of told event reached.done written shared word first second).0 common },
        λ clash.
            let some : Some reached ≡ Some clash.reached = sym is ∙ clash.tasks in
            let same : reached ≡ clash.reached = cc in
            (clash-of told event reached.done written shared word first second).1 (subst (λ (r : Reached). IsLeastClash event r.done word) (sym same) clash.least),
      )

  pub clash-word : (shared : List ℕ) → TellsShared (tasks_effect program stand.place stand.store count) (Some shared) → IsLeastCommon written shared word ↔ IsClashWord program stand count held word
  clash-word shared second = clash-by shared (tasks_effect program stand.place stand.store count) refl second

  -- the event doesn't write the word
  pub unwritten : (Contains written word → ⊥) → IsClashWord program stand count held word → ⊥
  unwritten never clash =
      let event = event_effect program held.event held.argument stand.store in
      never ((first.exact word).1 ((told event word).contained.0 clash.least.clash.written))
