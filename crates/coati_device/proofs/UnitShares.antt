-- Where a task has ended, in mode buffi: the flags that its merge joins are of the words that all
-- tasks of the unit share so far.
use Rattle.std.proofs.Common.{◌≡◌, ◌==◌, ℕ, zero, suc, ◌+◌, ◌<◌, List, ◌++◌, Bool, true, false, Some, None, if◌then◌else◌, refl, sym, ap, subst, ◌∙◌, arith}
use Rattle.std.specs.Prelude.{option_and_then}
use Rattle.task_syntax.specs.declared.program.Program.{Program}
use Rattle.task_syntax.specs.Course.{Access, Store, accesses, after}
use Rattle.task_syntax.specs.CourseLaws.{AccessesJoinUp, LastWritesTellTheStore, WrittenWordsAreTold}
use Rattle.task_syntax.specs.Units.{Reached, followed_by, is_inside, one_more, task_course, task_effect, tasks_effect}
use Rattle.nv_memory.specs.Seats.{Memory}
use Rattle.nv_memory.specs.State.{State, state}
use Rattle.nv_memory.specs.Words.{attempt_flag, current, mark, mode, opened, tx_flag}
use Rattle.serial_log.specs.SerialRun.{Stand}
use Rattle.serial_log.specs.Standing.{Standing}
use Rattle.commit_log.specs.OpenUnit.{unit_flag}
use Rattle.word_code.specs.Code.{Bodies}
use Rattle.coati_device.specs.declared.device.Phase.TheVariants.{End}
use Rattle.coati_device.specs.Attempt.{is_read_below}
use Rattle.coati_device.specs.OpenUnit.{UnitFits}
use Rattle.coati_device.specs.Points.{IsFit, Reads}
use Rattle.coati_device.specs.Rows.{IsClear}
use Rattle.coati_device.proofs.Grown.{HasGrown}
use Rattle.coati_device.proofs.TaskFlags.{SharesJoined, first_shares, joined_shares}
use Rattle.coati_device.proofs.UnitGrows.{base_alone, base_of_unit, empty_alone, next_at_clear, no_merge, place_closed, shut, tx_at_clear, unit_there}

-- the flags at no merge are the transaction's
flag_at_clear : (s : State) (word : ℕ) → mark s ≡ 0 → tx_flag s word ≡ unit_flag s word
flag_at_clear s word clear = rw clear refl

-- one task more, where the tasks before it lead inside
one_further : (program : Program) (stand : Stand) (n : ℕ) (reached : Reached)
    → tasks_effect program stand.place stand.store n ≡ Some reached
    → is_inside program stand.place reached.place ≡ true
    → tasks_effect program stand.place stand.store (n + 1)
    ≡ Some (followed_by reached
    (task_effect program reached.place (after reached.done stand.store)))
one_further program stand zero reached is inside = absurd cc
one_further program stand (suc n) reached is inside =
    let next : suc n + 1 ≡ suc (suc n) = omega arith in
    let more : Reached =
    followed_by reached (task_effect program reached.place (after reached.done stand.store)) in
    ap (tasks_effect program stand.place stand.store) next
    ∙ ap (option_and_then (one_more program stand.place stand.store)) is
    ∙ ap (λ (b : Bool). if b then Some more else None) inside

some_of : (one other : Reached) → Some one ≡ Some other → one ≡ other
some_of one other same = cc

-- the accesses of the task to run
abbrev done_last : Program → State → Store → List Access
done_last program s base = accesses (task_course program (current s)) base

-- the attempt's flags are of what the task has read
abbrev FlagsOf : State → List Access → Type 0
FlagsOf s done = mode s ≡ 1 → (word : ℕ) → word < s.n → attempt_flag s word
    ≡ is_read_below s done word

module _ (program : Program) (code : Bodies) (m : Memory) (reads : Reads) (standing : Standing)
    (place : ℕ) (fit : IsFit program code m reads (End place) standing) (clear : IsClear (state m))
    (joins : AccessesJoinUp) (lasts : LastWritesTellTheStore) (told : WrittenWordsAreTold)
    (grown : HasGrown program (state m) standing.run (reads.unit ++ reads.attempt)
    (reads.finished + 1) place) where
  shares_by : (is : Bool) → (opened (state m) == 1) ≡ is
      → UnitFits program (state m) standing.run reads.unit reads.finished is
      → SharesJoined (state m) grown.whole.done
  shares_by true e unit =
      let s = state m in
      let before = unit.reached in
      let base = after before.done standing.run.store in
      let here : current s ≡ before.place = next_at_clear s clear.mark ∙ unit.next in
      let last : FlagsOf s (done_last program s base) =
      subst (λ (b : Store). FlagsOf s (done_last program s b))
      (base_of_unit program s standing reads.unit reads.finished lasts clear.mark fit.stands unit)
      fit.attempt.made.flags in
      let further =
      one_further program standing.run reads.finished before unit.tasks unit.inside in
      let whole : followed_by before (task_effect program before.place base) ≡ grown.whole =
      some_of _ _ (sym further ∙ grown.tasks) in
      subst (λ (reached : Reached). SharesJoined s reached.done) whole
      (subst (λ (task : ℕ). SharesJoined s
      (before.done ++ accesses (task_course program task) base)) here
      (joined_shares joins told s before.done (done_last program s base)
      (λ word. tx_at_clear s word clear.mark ∙ unit.log word)
      (λ buffi word low. flag_at_clear s word clear.mark ∙ unit.flags buffi word low) last))
  shares_by false e unit =
      let s = state m in
      let stand = standing.run in
      let here : current s ≡ stand.place =
      sym (place_closed s clear.mark e) ∙ fit.stands.place in
      let empty = empty_alone program code m reads standing place fit clear e in
      let last : FlagsOf s (done_last program s stand.store) =
      subst (λ (b : Store). FlagsOf s (done_last program s b))
      (base_alone program s standing empty fit.stands) fit.attempt.made.flags in
      let whole : task_effect program stand.place stand.store ≡ grown.whole =
      some_of _ _
      (ap (λ (n : ℕ). tasks_effect program stand.place stand.store (n + 1)) (sym unit.none)
      ∙ grown.tasks) in
      subst (λ (reached : Reached). SharesJoined s reached.done) whole
      (subst (λ (task : ℕ). SharesJoined s (accesses (task_course program task) stand.store)) here
      (first_shares s (done_last program s stand.store) empty
      (fit.memory.closed.flags (shut program code m reads standing place fit clear e)
      (no_merge program code m reads standing place fit clear)) last))

  -- so they are with the task that has ended
  pub unit_shares : SharesJoined (state m) grown.whole.done
  unit_shares =
      shares_by (opened (state m) == 1) refl
      (unit_there program code m reads standing place fit clear)
