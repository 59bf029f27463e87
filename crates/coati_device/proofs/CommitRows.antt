-- Writes of a commit leave that memory fits where the history leads.
use Rattle.std.proofs.Common.{◌≡◌, ◌≢◌, ◌==◌, ◌<◌, ℕ, ap, refl, sym, subst, ◌∙◌, arith, inl, inr, Option, Some, Bool, List, length, true, false, if◌then◌else◌}
use Rattle.std.specs.Option.{unwrap_or}
use Rattle.coati_word.specs.declared.reading.Reading.{Reading}
use Rattle.task_syntax.specs.declared.program.Program.{Program}
use Rattle.task_syntax.specs.declared.body.BodyId.{BodyId}
use Rattle.task_syntax.specs.declared.body.BodyId.TheVariants.{Bottom, Task, Top}
use Rattle.task_syntax.specs.Course.{Store, accesses, answer}
use Rattle.task_syntax.specs.Names.{tasks}
use Rattle.task_syntax.specs.Units.{place_after, task_course}
use Rattle.serial_log.specs.declared.held.Held.{Held}
use Rattle.serial_log.specs.SerialRun.{Stand}
use Rattle.serial_log.specs.Standing.{Standing, standing_of}
use Rattle.nv_memory.specs.declared.log.Log.TheVariants as log
use Rattle.nv_memory.specs.InRange.{InRange, IsClosed}
use Rattle.nv_memory.specs.Logs.{log_value}
use Rattle.nv_memory.specs.Seats.{Memory}
use Rattle.nv_memory.specs.State.{Change, State, first_undone, put, state}
use Rattle.nv_memory.specs.StandsFor.{committed_word}
use Rattle.nv_memory.specs.Words.{attempt_flag, current, doomed, mark, mode, opened}
use Rattle.commit_log.specs.Changes.{commit_changes}
use Rattle.commit_log.specs.Laws.{IsCommitWrite}
use Rattle.commit_log.proofs.Commits.{IsOfCommit, commit_of, commits_keep, commits_keep_unit}
use Rattle.commit_log.proofs.Commits.IsOfCommit.{into_tx, unit, event}
use Rattle.commit_log.proofs.Nexts.{clear_is_none}
use Rattle.commit_log.proofs.Taking.{IsEventWrite}
use Rattle.commit_log.proofs.Taking.IsEventWrite.{lands, frees, rests}
use Rattle.word_code.specs.Code.{Bodies}
use Rattle.word_cpu.specs.declared.cpu.Cpu.{Cpu}
use Rattle.codegen.specs.Bodies.{program_code}
use Rattle.coati_device.specs.declared.device.Device.{Device}
use Rattle.coati_device.specs.declared.device.Phase.{Phase}
use Rattle.coati_device.specs.declared.device.Phase.TheVariants.{Choose, Run, End, EndBottom}
use Rattle.coati_device.specs.Attempt.{HasEnded, HasMade, IsAttempt, IsBehindTask, IsRunningIn, base_word}
use Rattle.coati_device.specs.Laws.{Fits}
use Rattle.coati_device.specs.OpenUnit.{OpenUnitFits, has_unit}
use Rattle.coati_device.specs.Points.{IsFit, Reads, reads_of}
use Rattle.coati_device.specs.TaskView.{HasWritten}
use Rattle.coati_device.proofs.CommitMarks.{MarksAfter, event_marks, into_tx_marks, unit_marks}
use Rattle.coati_device.proofs.LogRows.{HasEndedOn, ended_on}
use Rattle.coati_device.proofs.MemoryWrites.{fit_written, state_written}
use Rattle.coati_device.proofs.OpenUnits.{no_unit_kept, open_unit_kept}
use Rattle.coati_device.proofs.UnitGrows.{pointwise}

-- whether a unit is open, by the marker
merging_has_unit : (s t : State) → mark s ≡ 1 → MarksAfter 1 1 s t → has_unit t ≡ has_unit s
merging_has_unit s t one marks = elim marks.mark_now [
  | inl goes ↦ rw (goes, one, marks.same_doom) refl
  | inr ends ↦ rw (ends.0, ends.1, one, marks.same_doom) refl
]

none_open : (doomed : ℕ) → (if doomed == 1 then false else false) ≡ false
none_open doomed = by (doomed == 1)
  where
    by : (b : Bool) → (if b then false else false) ≡ false
    by true = refl
    by false = refl

taken_has_none : (s t : State) → MarksAfter 2 0 s t → has_unit t ≡ false
taken_has_none s t marks = elim marks.mark_now [
  | inl goes ↦ rw goes refl
  | inr ends ↦ rw (ends.0, ends.1) (none_open (doomed t))
]

event_has_unit : (s t : State) → mark s ≡ 3 → MarksAfter 3 (opened s) s t → has_unit t ≡ has_unit s
event_has_unit s t three marks =
    let same : opened t ≡ opened s = elim marks.open_now [ inl e ↦ e | inr e ↦ e ] in
    elim marks.mark_now [
      | inl goes ↦ rw (goes, three, same, marks.same_doom) refl
      | inr ends ↦ rw (ends.0, three, same, marks.same_doom) refl
    ]

commit_mode : (s : State) (change : Change) → IsOfCommit s change → mode (put s change) ≡ mode s
commit_mode s change (into_tx one writes) = (into_tx_marks s one change writes).same_mode
commit_mode s change (unit two writes) = (unit_marks s two change writes).same_mode
commit_mode s change (event three writes) = (event_marks s three change writes).same_mode

-- each write of a commit leaves the mode
pub applying_leaves_mode : (s : State) (change : Change) → InRange s → IsClosed s →
    first_undone s (commit_changes s) ≡ Some change → mode (put s change) ≡ mode s
applying_leaves_mode s change range closed next =
    commit_mode s change
    (commit_of s change (record { range = range; closed = closed; next = next }))

-- the open unit stays; that of a unit's own commit counts no more from the mark on
module _ (program : Program) (s : State) (change : Change) (is : IsCommitWrite s change)
    (stand : Stand) (read : List Reading) (finished : ℕ) where
  commit_unit : IsOfCommit s change → OpenUnitFits program s stand read finished →
      OpenUnitFits program (put s change) stand read finished
  commit_unit (into_tx one writes) fits =
      open_unit_kept program s (put s change) stand read finished
      (record {
        unit = commits_keep_unit s change is (λ two. omega (arith, one, two));
        open_same = merging_has_unit s (put s change) one (into_tx_marks s one change writes);
        mode_same = (into_tx_marks s one change writes).same_mode;
        words_same = refl;
      }) fits
  commit_unit (unit two writes) fits =
      no_unit_kept program s (put s change) stand read finished (rw two refl)
      (taken_has_none s (put s change) (unit_marks s two change writes)) fits
  commit_unit (event three writes) fits =
      open_unit_kept program s (put s change) stand read finished
      (record {
        unit = commits_keep_unit s change is (λ two. omega (arith, three, two));
        open_same = event_has_unit s (put s change) three (event_marks s three change writes);
        mode_same = (event_marks s three change writes).same_mode;
        words_same = refl;
      }) fits

-- what an ended attempt has made stands beside what an event's commit writes
pub record LeavesMade (s t : State) : Type 0 where
  pub task : (word : ℕ) → log_value t log.Task word ≡ log_value s log.Task word
  pub tx : (word : ℕ) → log_value t log.Tx word ≡ log_value s log.Tx word
  pub flags : (word : ℕ) → attempt_flag t word ≡ attempt_flag s word
  pub same_current : current t ≡ current s
  pub same_mode : mode t ≡ mode s
  pub same_words : t.n ≡ s.n

event_leaves : (s : State) (change : Change) → IsEventWrite s change → LeavesMade s (put s change)
event_leaves s change (lands word) = subst (λ (c : Change). LeavesMade s (put s c)) (sym word.is)
    (record {
      task = λ other. refl;
      tx = λ other. refl;
      flags = λ other. refl;
      same_current = refl;
      same_mode = refl;
      same_words = refl;
    })
event_leaves s change (frees applied differs is) =
    subst (λ (c : Change). LeavesMade s (put s c)) (sym is)
    (record {
      task = λ other. refl;
      tx = λ other. refl;
      flags = λ other. refl;
      same_current = refl;
      same_mode = refl;
      same_words = refl;
    })
event_leaves s change (rests there is) =
    subst (λ (c : Change). LeavesMade s (put s c)) (sym is)
    (record {
      task = λ other. refl;
      tx = λ other. refl;
      flags = λ other. refl;
      same_current = refl;
      same_mode = refl;
      same_words = refl;
    })

-- so an ended attempt stays, where the committed words do
pub ended_beside : (program : Program) (s t : State) (read : List Reading) (place : ℕ) →
    LeavesMade s t → ((word : ℕ) → committed_word t word ≡ committed_word s word) →
    IsBehindTask program t → HasEndedOn program s read place → HasEndedOn program t read place
ended_beside program s t read place leaves words behind has =
    let base : base_word s ≡ base_word t =
    sym (pointwise (base_word t) (base_word s)
    (λ word. ap (λ (o : Option ℕ). unwrap_or o (committed_word t word)) (leaves.tx word)
    ∙ ap (unwrap_or (log_value s log.Tx word)) (words word))) in
    let task : current s ≡ current t = sym leaves.same_current in
    let made : HasMade t read (accesses (task_course program (current s)) (base_word s)) =
    record {
      log = λ word. leaves.task word ∙ has.made.log word;
      reads = has.made.reads;
      flags = λ buffi word low.
          let within : word < s.n = subst (λ (n : ℕ). word < n) leaves.same_words low in
          leaves.flags word ∙ has.made.flags (sym leaves.same_mode ∙ buffi) word within
          ∙ rw (leaves.tx word) refl;
    } in
    record {
      at = behind;
      made = subst
          (λ (store : Store). HasMade t read
          (accesses (task_course program (current t)) store)) base
          (subst
          (λ (number : ℕ). HasMade t read
          (accesses (task_course program number) (base_word s))) task made);
      leads = has.leads
          ∙ ap (λ (number : ℕ). place_after (answer (task_course program number) (base_word s)))
          task
          ∙ ap (λ (store : Store). place_after
          (answer (task_course program (current t)) store)) base;
    }

-- the ended attempt while a commit is under way: it can be that of an event alone
module _ (program : Program) (s : State) (change : Change) (is : IsCommitWrite s change)
    (read : List Reading) (place : ℕ) where
  ended_under_commit : IsOfCommit s change → HasEndedOn program s read place →
      HasEndedOn program (put s change) read place
  ended_under_commit (into_tx one writes) has = absurd (elim has.at.mark [
    | inl none ↦ omega (arith, one, none)
    | inr three ↦ omega (arith, one, three)
  ])
  ended_under_commit (unit two writes) has = absurd (elim has.at.mark [
    | inl none ↦ omega (arith, two, none)
    | inr three ↦ omega (arith, two, three)
  ])
  ended_under_commit (event three writes) has =
      let marks = event_marks s three change writes in
      let leaves = event_leaves s change writes in
      ended_beside program s (put s change) read place leaves
      (commits_keep s change is).meaning.words
      (record {
        mark = elim marks.mark_now [ inl still ↦ inr still | inr ended ↦ inl ended.0 ];
        doomed = marks.same_doom ∙ has.at.doomed;
        task = subst (λ (task : ℕ). task < length (tasks program)) (sym leaves.same_current)
            has.at.task;
      }) has

-- no other attempt is there under a commit
module _ (program : Program) (code : Bodies) (m n : Memory) (rest : List Held) (read : List Reading)
    (marked : mark (state m) ≢ 0) where
  running_under_commit : (cpu : Cpu) (left : ℕ) (body : BodyId) →
      IsRunningIn program code m rest read cpu left body →
      IsRunningIn program code n rest read cpu left body
  running_under_commit cpu left (Task task) runs = absurd (marked runs.at.clear.mark)
  running_under_commit cpu left (Top number) runs = runs
  running_under_commit cpu left (Bottom number) runs = absurd (marked runs.at.clear.mark)

  attempt_under_commit : (phase : Phase) →
      ((place : ℕ) → HasEnded program m read place → HasEnded program n read place) →
      IsAttempt program code m rest read phase → IsAttempt program code n rest read phase
  attempt_under_commit Choose ended attempt = tt
  attempt_under_commit (Run cpu left) ended attempt =
      running_under_commit cpu left cpu.body attempt
  attempt_under_commit (End place) ended attempt = ended place attempt
  attempt_under_commit EndBottom ended attempt = absurd (marked attempt.at.clear.mark)

commit_marked : (s : State) (change : Change) →
    first_undone s (commit_changes s) ≡ Some change → mark s ≢ 0
commit_marked s change next clear = let none = clear_is_none s clear in absurd cc

commit_fits : (program : Program) (code : Bodies) (m n : Memory) (change : Change) (reads : Reads)
    (phase : Phase) (standing : Standing) →
    first_undone (state m) (commit_changes (state m)) ≡ Some change → HasWritten m change n →
    IsFit program code m reads phase standing → IsFit program code n reads phase standing
commit_fits program code m n change reads phase standing next writes fit =
    let s = state m in
    let is : IsCommitWrite s change =
    record { range = fit.memory.range; closed = fit.memory.closed; next = next } in
    let of = commit_of s change is in
    let keeps = commits_keep s change is in
    let places = keeps.places (length (tasks program)) fit.memory.places in
    let after = sym (state_written m n change fit.memory.memory writes) in
    fit_written program code m n change reads phase standing writes
    (record {
      ranges = record {
        range = keeps.range;
        places = places;
        closed = keeps.closed;
        mode = rw (commit_mode s change of) fit.memory.mode;
      };
      same = keeps.meaning;
    })
    (commit_unit program s change is standing.run reads.unit reads.finished of fit.unit)
    (attempt_under_commit program code m n standing.rest reads.attempt
    (commit_marked s change next) phase
    (λ place ended. ended_on program n reads.attempt place
    (subst (λ (t : State). HasEndedOn program t reads.attempt place) after
    (ended_under_commit program s change is reads.attempt place of
    (record { at = ended.at; made = ended.made; leads = ended.leads }))))
    fit.attempt)
    fit

pub applies_keep : (program : Program) (old new : Device) (change : Change) (image : Memory) →
    Fits program old →
    first_undone (state old.image) (commit_changes (state old.image)) ≡ Some change →
    HasWritten old.image change image → new ≡ record old { image = image } → Fits program new
applies_keep program old new change image fit next writes is =
    subst (Fits program) (sym is)
    (commit_fits program (program_code program) old.image image change (reads_of old) old.phase
    (standing_of program old.history.marks) next writes fit)
