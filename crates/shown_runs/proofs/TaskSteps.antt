-- What a step of the executor and a raised posting count: a task takes a step, and only a handler
-- takes more time.
use Rattle.std.proofs.Common.{◌≡◌, ℕ, ◌+◌, ◌-◌, ◌≤◌, ◌==◌, Bool, true, false, if◌then◌else◌, List, [], ◌∷◌, ◌++◌, length, refl, sym, ap, ◌∙◌, subst, arith, append-nil, length-append}
use Rattle.coati_word.specs.declared.reading.Reading.{Reading}
use Rattle.task_syntax.specs.declared.program.Program.{Program}
use Rattle.serial_log.specs.declared.mark.Mark.{Mark}
use Rattle.serial_log.specs.declared.mark.MarkKind.TheVariants.{Boot}
use Rattle.serial_log.specs.declared.posted.Answer.{Answer}
use Rattle.serial_log.specs.declared.posted.Answer.TheVariants.{Full}
use Rattle.serial_log.specs.declared.script.Posting.{Posting}
use Rattle.serial_log.specs.History.{AreRecordsIn, IsRecordIn, Past}
use Rattle.serial_log.proofs.Records.{records_more, records_push}
use Rattle.word_code.specs.Code.{Bodies}
use Rattle.coati_device.specs.declared.device.Device.{Device}
use Rattle.coati_device.specs.declared.hand.Hand.{Hand}
use Rattle.coati_device.specs.Cursors.{answered, next_posting}
use Rattle.coati_device.specs.Raises.{Handles, IsHandStep, Raises, Ran}
use Rattle.coati_device.specs.Raises.Handles.{takes, loses}
use Rattle.coati_device.specs.Raises.IsHandStep.{tops, fills, fills_last, begins_bottom, bottoms, accepts}
use Rattle.coati_device.specs.Raises.Raises.{fulls, handles}
use Rattle.coati_device.specs.Raises.Ran.{begins, goes_on}
use Rattle.coati_device.specs.Rows.{IsRow, IsStepOf, has_attempt}
use Rattle.coati_device.specs.Rows.IsRow.{applies, undoes, sleeps, empties, unflags, starts, runs, prepares, joins, commits, empties_entry, starts_bottom, runs_bottom, prepares_event, commits_event, aborts, prepares_drain, drains}
use Rattle.coati_device.specs.Ticks.{cut, passed, ticked}
use Rattle.shown_runs.specs.Counts.{HaveTasksWithin, handlers_time, tasks_in, time_in}
use Rattle.shown_runs.proofs.Marks.{time_pushed, within_more, within_pushed}

abbrev time_of : Device → ℕ
time_of d = handlers_time d.history.marks

-- neither the open unit nor one before it has more tasks than this, and the readings are there
pub record Counts (most : ℕ) (d : Device) : Type 0 where
  pub finished : d.finished ≤ most
  pub told : HaveTasksWithin most d.history.marks
  pub records : AreRecordsIn (length d.history.readings) d.history.marks

-- what counts so many tasks at most, in the same time
record Follows (most : ℕ) (old new : Device) : Type 0 where
  counts : Counts most new
  steps : new.steps ≡ old.steps
  clock : new.clock ≡ old.clock
  time : time_of new ≡ time_of old

module _ (program : Program) (code : Bodies) (most : ℕ) (old : Device) (before : Counts most old) where
  abbrev Row : Device → Type 0
  Row new = Follows (most + 1) old new

  more_told : HaveTasksWithin (most + 1) old.history.marks
  more_told = within_more most (most + 1) old.history.marks (omega arith) before.told

  -- nothing is told, and the open unit stays
  tells_none : (new : Device) → old.history ≡ new.history → new.finished ≡ old.finished → new.steps ≡ old.steps → new.clock ≡ old.clock
      → Row new
  tells_none new same finished steps clock =
      let few = before.finished in
      record {
        counts = record {
          finished = omega (arith, few, finished);
          told = subst (λ (past : Past). HaveTasksWithin (most + 1) past.marks) same more_told;
          records = subst (λ (past : Past). AreRecordsIn (length past.readings) past.marks) same before.records;
        };
        steps = steps;
        clock = clock;
        time = sym (ap (λ (past : Past). handlers_time past.marks) same);
      }

  -- a mark is told, with what was read
  tells_one : (new : Device) (mark : Mark) (reads : List Reading) → old.history.marks ++ mark ∷ [] ≡ new.history.marks
      → old.history.readings ++ reads ≡ new.history.readings → tasks_in mark.kind ≤ most + 1 → time_in mark.at mark.kind ≡ 0
      → IsRecordIn (length old.history.readings + length reads) mark.kind → new.finished ≤ most + 1 → new.steps ≡ old.steps
      → new.clock ≡ old.clock → Row new
  tells_one new mark reads marks readings few none there finished steps clock =
      let past = old.history in
      let count : length new.history.readings ≡ length past.readings + length reads =
      sym (ap length readings) ∙ length-append past.readings reads in
      let more : length past.readings ≤ length past.readings + length reads = omega arith in
      let records = records_push past.marks mark (length past.readings + length reads)
      (records_more past.marks (length past.readings) (length past.readings + length reads) more before.records) there in
      let pushed = time_pushed past.marks mark in
      record {
        counts = record {
          finished = finished;
          told = subst (HaveTasksWithin (most + 1)) marks (within_pushed (most + 1) past.marks mark more_told few);
          records = subst (λ (n : ℕ). AreRecordsIn n new.history.marks) (sym count)
              (subst (AreRecordsIn (length past.readings + length reads)) marks records);
        };
        steps = steps;
        clock = clock;
        time = sym (ap handlers_time marks) ∙ omega (arith, pushed, none);
      }

  given_up : (ended : Bool) → (if ended then old.finished + 1 else old.finished) ≤ most + 1
  given_up true = let few = before.finished in omega (arith, few)
  given_up false = let few = before.finished in omega (arith, few)

  row_counts : (new : Device) → IsRow program code old new → Row new
  row_counts new (applies change image first written is) = subst Row (sym is) (tells_none _ refl refl refl refl)
  row_counts new (undoes change image none first written is) = subst Row (sym is) (tells_none _ refl refl refl refl)
  row_counts new (sleeps chooses halts is) = subst Row (sym is) (tells_none _ refl refl refl refl)
  row_counts new (empties image chooses awake some written is) = subst Row (sym is) (tells_none _ refl refl refl refl)
  row_counts new (unflags change image chooses awake none buffi next written is) =
      subst Row (sym is) (tells_none _ refl refl refl refl)
  row_counts new (starts cpu chooses awake none unflagged at is) = subst Row (sym is) (tells_none _ refl refl refl refl)
  row_counts new (runs before after left image turn phase body clear step is) = subst Row (sym is) (tells_none _ refl refl refl refl)
  row_counts new (prepares place image ends other written is) = subst Row (sym is) (tells_none _ refl refl refl refl)
  row_counts new (joins place image ends same inside written is) =
      let few = before.finished in
      subst Row (sym is)
      (tells_one _ _ [] refl (append-nil old.history.readings) (omega arith) refl tt (omega (arith, few)) refl refl)
  row_counts new (commits place image ends same outside written is) =
      let few = before.finished in
      subst Row (sym is) (tells_one _ _ _ refl refl (omega (arith, few)) refl (omega arith) (omega arith) refl refl)
  row_counts new (empties_entry image chooses some written is) = subst Row (sym is) (tells_none _ refl refl refl refl)
  row_counts new (starts_bottom cpu chooses none at is) = subst Row (sym is) (tells_none _ refl refl refl refl)
  row_counts new (runs_bottom before after left image turn phase body clear events step is) =
      subst Row (sym is) (tells_none _ refl refl refl refl)
  row_counts new (prepares_event image ends other written is) = subst Row (sym is) (tells_none _ refl refl refl refl)
  row_counts new (commits_event image ends same written is) =
      let few = before.finished in
      subst Row (sym is) (tells_one _ _ _ refl refl (omega arith) refl (omega arith) (omega (arith, few)) refl refl)
  row_counts new (aborts word image draining conflict after is) =
      subst Row (sym is)
      (tells_one _ _ [] refl (append-nil old.history.readings) (given_up (has_attempt old.phase)) refl tt (omega arith) refl refl)
  row_counts new (prepares_drain image free other written is) = subst Row (sym is) (tells_none _ refl refl refl refl)
  row_counts new (drains image free same written is) =
      let few = before.finished in
      subst Row (sym is) (tells_one _ _ _ refl refl (omega arith) refl (omega arith) (omega (arith, few)) refl refl)

-- the time of a step tells at most a boot
record Passes (most : ℕ) (old new : Device) : Type 0 where
  counts : Counts most new
  steps : new.steps ≡ old.steps
  clock : new.clock ≡ old.clock + 1
  time : time_of new ≡ time_of old

time_passes : (periods : List ℕ) (most : ℕ) (d : Device) → Counts most d → Passes most d (ticked periods d)
time_passes periods most d counts = by (d.until == 1)
  where
    by : (b : Bool) → Passes most d (if b then cut periods d else passed d)
    by true = record {
      counts = record {
        finished = counts.finished;
        told = within_pushed most d.history.marks _ counts.told (omega arith);
        records = records_push d.history.marks _ (length d.history.readings) counts.records tt;
      };
      steps = refl;
      clock = refl;
      time =
          let boot : Mark = record { at = d.clock + 1; kind = Boot (d.boots + 1) } in
          let pushed : time_of (cut periods d) ≡ time_of d + 0 = time_pushed d.history.marks boot in
          omega (arith, pushed);
    }
    by false = record {
      counts = record { finished = counts.finished; told = counts.told; records = counts.records };
      steps = refl;
      clock = refl;
      time = refl;
    }

-- no more tasks than the executor has made steps, and the clock counts these and the handlers'
pub record CountsSteps (d : Device) : Type 0 where
  pub counts : Counts d.steps d
  pub clock : d.clock ≡ d.steps + time_of d

-- where the steps of a device are counted and its time has a step to come
time_counts : (periods : List ℕ) (d : Device) → Counts d.steps d → d.clock + 1 ≡ d.steps + time_of d → CountsSteps (ticked periods d)
time_counts periods d counts clock =
    let passes = time_passes periods d.steps d counts in
    let steps = passes.steps in
    let now = passes.clock in
    let time = passes.time in
    record {
      counts = subst (λ (n : ℕ). Counts n (ticked periods d)) (sym steps) passes.counts;
      clock = omega (arith, clock, steps, now, time);
    }

pub step_counts : (program : Program) (code : Bodies) (periods : List ℕ) (old new : Device) → IsStepOf program code periods old new
    → CountsSteps old → CountsSteps new
step_counts program code periods old new step counted =
    let row = row_counts program code old.steps old counted.counts step.acted step.row in
    let acted : Device = record step.acted { steps = step.acted.steps + 1 } in
    let steps : old.steps + 1 ≡ acted.steps = ap (λ (n : ℕ). n + 1) (sym row.steps) in
    let clock = row.clock in
    let time = row.time in
    let before = counted.clock in
    let there : Counts acted.steps acted =
    subst (λ (n : ℕ). Counts n acted) steps
    (record { finished = row.counts.finished; told = row.counts.told; records = row.counts.records }) in
    subst CountsSteps (sym step.time) (time_counts periods acted there (omega (arith, steps, clock, time, before)))

-- a handler leaves the unit and tells nothing before its posting is answered
record Leaves (old new : Device) : Type 0 where
  history : new.history ≡ old.history
  finished : new.finished ≡ old.finished
  steps : new.steps ≡ old.steps
  later : old.clock ≤ new.clock

leaves_still : (old mid new : Device) → Leaves old mid → Leaves mid new → Leaves old new
leaves_still old mid new first then_ = record {
  history = then_.history ∙ first.history;
  finished = then_.finished ∙ first.finished;
  steps = then_.steps ∙ first.steps;
  later = let l = first.later in let m = then_.later in omega (arith, l, m);
}

hand_leaves : (code : Bodies) (event : ℕ) (hand next : Hand) (old new : Device) → IsHandStep code event hand old next new
    → Leaves old new
hand_leaves code event hand next old new (tops before after words changed turn at step is goes) =
    subst (Leaves old) (sym is) (record { history = refl; finished = refl; steps = refl; later = omega arith })
hand_leaves code event hand next old new (fills message part image at more written is goes) =
    subst (Leaves old) (sym is) (record { history = refl; finished = refl; steps = refl; later = omega arith })
hand_leaves code event hand next old new (fills_last message part image at last split written is goes) =
    subst (Leaves old) (sym is) (record { history = refl; finished = refl; steps = refl; later = omega arith })
hand_leaves code event hand next old new (begins_bottom message part image cpu at last buffi written start is goes) =
    subst (Leaves old) (sym is) (record { history = refl; finished = refl; steps = refl; later = omega arith })
hand_leaves code event hand next old new (bottoms before after image turn at step is goes) =
    subst (Leaves old) (sym is) (record { history = refl; finished = refl; steps = refl; later = omega arith })
hand_leaves code event hand next old new (accepts image at written is goes) =
    subst (Leaves old) (sym is) (record { history = refl; finished = refl; steps = refl; later = omega arith })

module _ (code : Bodies) (event : ℕ) (first : Hand) (start : Device) where
  ran_leaves : (hand : Hand) (d : Device) → Ran code event first start hand d → Leaves start d
  ran_leaves hand d begins = record { history = refl; finished = refl; steps = refl; later = omega arith }
  ran_leaves hand d (goes_on {hand = before} {next = next} {d = old} {mid = mid} ran step more uncut) =
      leaves_still start old (passed mid) (ran_leaves before old ran)
      (leaves_still old mid (passed mid) (hand_leaves code event before next old mid step)
      (record { history = refl; finished = refl; steps = refl; later = omega arith }))

  handler_leaves : (new : Device) (answer : Answer) → Handles code event first start new answer → Leaves start new
  handler_leaves new answer (takes hand d ran step is) =
      leaves_still start d new (ran_leaves hand d ran) (hand_leaves code event hand _ d new step)
  handler_leaves new answer (loses hand next d ran step more due is) =
      leaves_still start d new (ran_leaves hand d ran) (hand_leaves code event hand next d new step)

module _ (postings : List Posting) (device : ℕ) (old : Device) where
  -- the device behind the answer to its posting
  abbrev told_at : ℕ → Answer → Device → Device
  told_at at answer d = answered postings device (next_posting postings old device) old.clock at answer d

  answer_counts : (at : ℕ) (answer : Answer) (d : Device) → Counts d.steps d → Counts d.steps (told_at at answer d)
  answer_counts at answer d counts = record {
    finished = counts.finished;
    told = within_pushed d.steps d.history.marks _ counts.told (omega arith);
    records = records_push d.history.marks _ (length d.history.readings) counts.records tt;
  }

  answer_time : (at : ℕ) (answer : Answer) (d : Device) → time_of (told_at at answer d) ≡ time_of d + (at - old.clock)
  answer_time at answer d = time_pushed d.history.marks _

  pub raise_counts : (program : Program) (code : Bodies) (periods : List ℕ) (new : Device) (answer : Answer)
      → Raises program code periods postings device old new answer → CountsSteps old → CountsSteps new
  raise_counts program code periods new answer (fulls full answers is) counted =
      let less : Device = record old { spare = old.spare - 1 } in
      let counts : Counts less.steps less =
      record { finished = counted.counts.finished; told = counted.counts.told; records = counted.counts.records } in
      let time = answer_time old.clock Full less in
      let clock = counted.clock in
      subst CountsSteps (sym is)
      (record { counts = answer_counts old.clock Full less counts; clock = omega (arith, time, clock) })
  raise_counts program code periods new answer (handles cpu decided room start came is) counted =
      let leaves = handler_leaves code _ _ old decided answer came in
      let finished = leaves.finished in
      let steps = leaves.steps in
      let later = leaves.later in
      let few = counted.counts.finished in
      let clock = counted.clock in
      let same : time_of decided ≡ time_of old = ap (λ (past : Past). handlers_time past.marks) leaves.history in
      let there : Counts decided.steps decided = record {
        finished = omega (arith, few, finished, steps);
        told = subst (λ (n : ℕ). HaveTasksWithin n decided.history.marks) (sym steps)
            (subst (λ (past : Past). HaveTasksWithin old.steps past.marks) (sym leaves.history) counted.counts.told);
        records = subst (λ (past : Past). AreRecordsIn (length past.readings) past.marks) (sym leaves.history) counted.counts.records;
      } in
      let told : Device = told_at (decided.clock + 1) answer decided in
      let time = answer_time (decided.clock + 1) answer decided in
      subst CountsSteps (sym is)
      (time_counts periods told (answer_counts (decided.clock + 1) answer decided there)
      (omega (arith, later, steps, clock, same, time)))
