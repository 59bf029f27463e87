-- What steps and raised postings tell of a script's postings.
use Rattle.std.proofs.Common.{◌≡◌, ℕ, ◌+◌, ◌-◌, ◌≤◌, ◌==◌, Bool, true, false, if◌then◌else◌, List, [], ◌∷◌, ◌++◌, refl, sym, ap, ◌∙◌, subst, arith}
use Rattle.std.specs.Prelude.{slice_set}
use Rattle.task_syntax.specs.declared.program.Program.{Program}
use Rattle.serial_log.specs.declared.mark.Mark.{Mark}
use Rattle.serial_log.specs.declared.posted.Answer.{Answer}
use Rattle.serial_log.specs.declared.posted.Answer.TheVariants.{Full}
use Rattle.serial_log.specs.declared.posted.Posted.{Posted as Raised}
use Rattle.serial_log.specs.declared.script.Posting.{Posting}
use Rattle.serial_log.specs.History.{Past}
use Rattle.word_code.specs.Code.{Bodies}
use Rattle.coati_device.specs.declared.cursor.Cursor.{Cursor}
use Rattle.coati_device.specs.declared.device.Device.{Device}
use Rattle.coati_device.specs.declared.hand.Hand.{Hand}
use Rattle.coati_device.specs.Cursors.{answered, cursor_of, moved, next_posting}
use Rattle.coati_device.specs.Raises.{Handles, IsHandStep, Raises, Ran}
use Rattle.coati_device.specs.Raises.Handles.{takes, loses}
use Rattle.coati_device.specs.Raises.IsHandStep.{tops, fills, fills_last, begins_bottom, bottoms, accepts}
use Rattle.coati_device.specs.Raises.Raises.{fulls, handles}
use Rattle.coati_device.specs.Raises.Ran.{begins, goes_on}
use Rattle.coati_device.specs.Rows.{IsRow, IsStepOf}
use Rattle.coati_device.specs.Rows.IsRow.{applies, undoes, sleeps, empties, unflags, starts, runs, prepares, joins, commits, empties_entry, starts_bottom, runs_bottom, prepares_event, commits_event, aborts, prepares_drain, drains}
use Rattle.coati_device.specs.Ticks.{cut, passed, ticked}
use Rattle.executor.proofs.Quiet.{IsQuiet, no_mark, one_mark, posted_at}

-- no posting is raised
pub record RaisesNone (old new : Device) : Type 0 where
  pub quiet : IsQuiet old.history.marks new.history.marks
  pub cursors : new.cursors ≡ old.cursors

-- no mark is told
no_marks : (old new : Device) → old.history.marks ≡ new.history.marks → new.cursors ≡ old.cursors
    → RaisesNone old new
no_marks old new same cursors = record {
  quiet = subst (IsQuiet old.history.marks) same (no_mark old.history.marks);
  cursors = cursors;
}

row_raises_none : (program : Program) (code : Bodies) (old new : Device)
    → IsRow program code old new → RaisesNone old new
row_raises_none program code old new (applies change image first written is) =
    subst (RaisesNone old) (sym is) (no_marks old _ refl refl)
row_raises_none program code old new (undoes change image none first written is) =
    subst (RaisesNone old) (sym is) (no_marks old _ refl refl)
row_raises_none program code old new (sleeps chooses halts is) =
    subst (RaisesNone old) (sym is) (no_marks old _ refl refl)
row_raises_none program code old new (empties image chooses awake some written is) =
    subst (RaisesNone old) (sym is) (no_marks old _ refl refl)
row_raises_none program code old new
    (unflags change image chooses awake none buffi next written is) =
    subst (RaisesNone old) (sym is) (no_marks old _ refl refl)
row_raises_none program code old new (starts cpu chooses awake none unflagged at is) =
    subst (RaisesNone old) (sym is) (no_marks old _ refl refl)
row_raises_none program code old new
    (runs before after left image turn phase body clear step is) =
    subst (RaisesNone old) (sym is) (no_marks old _ refl refl)
row_raises_none program code old new (prepares place image ends other written is) =
    subst (RaisesNone old) (sym is) (no_marks old _ refl refl)
row_raises_none program code old new (joins place image ends same inside written is) =
    subst (RaisesNone old) (sym is)
    (record { quiet = one_mark old.history.marks _ (λ t. refl) (λ t. tt); cursors = refl })
row_raises_none program code old new (commits place image ends same outside written is) =
    subst (RaisesNone old) (sym is)
    (record { quiet = one_mark old.history.marks _ (λ t. refl) (λ t. tt); cursors = refl })
row_raises_none program code old new (empties_entry image chooses some written is) =
    subst (RaisesNone old) (sym is) (no_marks old _ refl refl)
row_raises_none program code old new (starts_bottom cpu chooses none at is) =
    subst (RaisesNone old) (sym is) (no_marks old _ refl refl)
row_raises_none program code old new
    (runs_bottom before after left image turn phase body clear events step is) =
    subst (RaisesNone old) (sym is) (no_marks old _ refl refl)
row_raises_none program code old new (prepares_event image ends other written is) =
    subst (RaisesNone old) (sym is) (no_marks old _ refl refl)
row_raises_none program code old new (commits_event image ends same written is) =
    subst (RaisesNone old) (sym is)
    (record { quiet = one_mark old.history.marks _ (λ t. refl) (λ t. tt); cursors = refl })
row_raises_none program code old new (aborts word image draining conflict after is) =
    subst (RaisesNone old) (sym is)
    (record { quiet = one_mark old.history.marks _ (λ t. refl) (λ t. tt); cursors = refl })
row_raises_none program code old new (prepares_drain image free other written is) =
    subst (RaisesNone old) (sym is) (no_marks old _ refl refl)
row_raises_none program code old new (drains image free same written is) =
    subst (RaisesNone old) (sym is)
    (record { quiet = one_mark old.history.marks _ (λ t. refl) (λ t. tt); cursors = refl })

-- nor is one by time
record IsLater (old new : Device) : Type 0 where
  none : RaisesNone old new
  clock : new.clock ≡ old.clock + 1

time_raises_none : (periods : List ℕ) (d : Device) → IsLater d (ticked periods d)
time_raises_none periods d = by (d.until == 1)
  where
    by : (b : Bool) → IsLater d (if b then cut periods d else passed d)
    by true = record {
      none = record {
        quiet = one_mark d.history.marks _ (λ t. refl) (λ t. tt);
        cursors = refl;
      };
      clock = refl;
    }
    by false = record { none = no_marks d (passed d) refl refl; clock = refl }

raises_none_still : (old mid new : Device) → RaisesNone old mid → RaisesNone mid new
    → RaisesNone old new
raises_none_still old mid new first then_ = record {
  quiet = record {
    same = λ t. then_.quiet.same t ∙ first.quiet.same t;
    turns = λ t each. then_.quiet.turns t (first.quiet.turns t each);
  };
  cursors = then_.cursors ∙ first.cursors;
}

pub step_raises_none : (program : Program) (code : Bodies) (periods : List ℕ) (old new : Device)
    → IsStepOf program code periods old new → RaisesNone old new
step_raises_none program code periods old new step =
    let acted : Device = record step.acted { steps = step.acted.steps + 1 } in
    let row = row_raises_none program code old step.acted step.row in
    subst (RaisesNone old) (sym step.time)
    (raises_none_still old acted (ticked periods acted)
    (record { quiet = row.quiet; cursors = row.cursors }) (time_raises_none periods acted).none)

-- a handler tells nothing before its posting is answered
record TellsNothing (old new : Device) : Type 0 where
  history : new.history ≡ old.history
  cursors : new.cursors ≡ old.cursors
  later : old.clock ≤ new.clock

tells_nothing_still : (old mid new : Device) → TellsNothing old mid → TellsNothing mid new
    → TellsNothing old new
tells_nothing_still old mid new first then_ = record {
  history = then_.history ∙ first.history;
  cursors = then_.cursors ∙ first.cursors;
  later = let l = first.later in let m = then_.later in omega (arith, l, m);
}

hand_tells_nothing : (code : Bodies) (event : ℕ) (hand next : Hand) (old new : Device)
    → IsHandStep code event hand old next new → TellsNothing old new
hand_tells_nothing code event hand next old new
    (tops before after words changed turn at step is goes) =
    subst (TellsNothing old) (sym is)
    (record { history = refl; cursors = refl; later = omega arith })
hand_tells_nothing code event hand next old new
    (fills message part image at more written is goes) =
    subst (TellsNothing old) (sym is)
    (record { history = refl; cursors = refl; later = omega arith })
hand_tells_nothing code event hand next old new
    (fills_last message part image at last split written is goes) =
    subst (TellsNothing old) (sym is)
    (record { history = refl; cursors = refl; later = omega arith })
hand_tells_nothing code event hand next old new
    (begins_bottom message part image cpu at last buffi written start is goes) =
    subst (TellsNothing old) (sym is)
    (record { history = refl; cursors = refl; later = omega arith })
hand_tells_nothing code event hand next old new
    (bottoms before after image turn at step is goes) =
    subst (TellsNothing old) (sym is)
    (record { history = refl; cursors = refl; later = omega arith })
hand_tells_nothing code event hand next old new (accepts image at written is goes) =
    subst (TellsNothing old) (sym is)
    (record { history = refl; cursors = refl; later = omega arith })

module _ (code : Bodies) (event : ℕ) (first : Hand) (start : Device) where
  ran_tells_nothing : (hand : Hand) (d : Device) → Ran code event first start hand d
      → TellsNothing start d
  ran_tells_nothing hand d begins = record {
    history = refl;
    cursors = refl;
    later = omega arith;
  }
  ran_tells_nothing hand d
      (goes_on {hand = before} {next = next} {d = old} {mid = mid} ran step more uncut) =
      let acted = hand_tells_nothing code event before next old mid step in
      tells_nothing_still start old (passed mid) (ran_tells_nothing before old ran)
      (tells_nothing_still old mid (passed mid) acted
      (record { history = refl; cursors = refl; later = omega arith }))

  handler_tells_nothing : (new : Device) (answer : Answer)
      → Handles code event first start new answer → TellsNothing start new
  handler_tells_nothing new answer (takes hand d ran step is) =
      tells_nothing_still start d new (ran_tells_nothing hand d ran)
      (hand_tells_nothing code event hand _ d new step)
  handler_tells_nothing new answer (loses hand next d ran step more due is) =
      tells_nothing_still start d new (ran_tells_nothing hand d ran)
      (hand_tells_nothing code event hand next d new step)

-- a device's next posting, as its mark tells it
abbrev pub posted_by : List Posting → ℕ → Device → Answer → Raised
posted_by postings device old answer =
    let posting = next_posting postings old device in
    record {
      device = device;
      index = (cursor_of old.cursors device).done + 1;
      event = posting.event;
      argument = posting.argument;
      from = old.clock;
      answer = answer;
    }

-- it is raised, and answered at the new time; nothing else is raised
pub record RaisesOne (postings : List Posting) (device : ℕ) (old new : Device)
    (answer : Answer) : Type 0 where
  pub quiet : IsQuiet
      (old.history.marks ++ posted_at new.clock (posted_by postings device old answer) ∷ [])
      new.history.marks
  pub cursors : new.cursors
      ≡ slice_set old.cursors device (moved postings device (cursor_of old.cursors device))
  pub later : old.clock ≤ new.clock

module _ (postings : List Posting) (device : ℕ) (old : Device) where
  abbrev own : Posting
  own = next_posting postings old device

  raised_at_once : (spare : ℕ)
      → RaisesOne postings device old
      (answered postings device own old.clock old.clock Full (record old { spare = spare })) Full
  raised_at_once spare = record { quiet = no_mark _; cursors = refl; later = omega arith }

  -- the mark, where the device is so far with these marks
  abbrev told : Answer → ℕ → List Cursor → Past → List Mark
  told answer at cursors past =
      let posted : Raised = posted_by postings device old answer in
      let index : ℕ = (cursor_of cursors device).done + 1 in
      past.marks ++ posted_at at (record posted { index = index }) ∷ []

  -- behind a handler, and its last step's time
  raised_later : (decided new : Device) (answer : Answer) → TellsNothing old decided
      → IsLater (answered postings device own old.clock (decided.clock + 1) answer decided) new
      → RaisesOne postings device old new answer
  raised_later decided new answer nothing time =
      let later = nothing.later in
      let clock = time.clock in
      let at : ℕ = decided.clock + 1 in
      record {
        quiet =
            subst (λ (n : ℕ). IsQuiet (told answer n old.cursors old.history) new.history.marks)
            (sym time.clock)
            (subst (λ (cursors : List Cursor). IsQuiet (told answer at cursors old.history)
            new.history.marks) nothing.cursors
            (subst (λ (past : Past). IsQuiet (told answer at decided.cursors past)
            new.history.marks) nothing.history time.none.quiet));
        cursors =
            time.none.cursors
            ∙ ap (λ (cursors : List Cursor). slice_set cursors device
            (moved postings device (cursor_of cursors device))) nothing.cursors;
        later = omega (arith, later, clock);
      }

  pub raise_raises_one : (program : Program) (code : Bodies) (periods : List ℕ) (new : Device)
      (answer : Answer) → Raises program code periods postings device old new answer
      → RaisesOne postings device old new answer
  raise_raises_one program code periods new answer (fulls full answers is) =
      subst (RaisesOne postings device old new) (sym answers)
      (subst (λ (d : Device). RaisesOne postings device old d Full) (sym is)
      (raised_at_once (old.spare - 1)))
  raise_raises_one program code periods new answer (handles cpu decided room start came is) =
      subst (λ (d : Device). RaisesOne postings device old d answer) (sym is)
      (raised_later decided _ answer (handler_tells_nothing code _ _ old decided answer came)
      (time_raises_none periods _))
