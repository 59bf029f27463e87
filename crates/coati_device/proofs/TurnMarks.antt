-- How tasks and events take turns over a step, with a mark or without one.
use Rattle.std.proofs.Common.{◌≡◌, ◌⊎◌, ◌<◌, ◌≤◌, ℕ, List, [], ◌∷◌, ◌++◌, ap, sym, subst, ◌∙◌, true, false, Some}
use Rattle.std.specs.Prelude.{All}
use Rattle.coati_word.specs.declared.mode.Mode.TheVariants as mode
use Rattle.task_syntax.specs.declared.program.Program.{Program}
use Rattle.nv_memory.specs.State.{State}
use Rattle.nv_memory.specs.Words.{mark, mode as mode_of}
use Rattle.serial_log.specs.declared.held.Held.{Held}
use Rattle.serial_log.specs.declared.mark.Mark.{Mark}
use Rattle.serial_log.specs.Laws.{HistoriesGoOn, TurnsGoOn}
use Rattle.serial_log.specs.Postings.{IsDue, Terms}
use Rattle.serial_log.specs.Progresses.{EndsTask, IsServedFirst, ServesAll, Settled, awaited_by, awaited_of, settled_after, settled_of}
use Rattle.serial_log.specs.Standing.{Standing, after_mark, standing_of}
use Rattle.coati_device.specs.declared.device.Phase.{Phase}
use Rattle.coati_device.specs.declared.device.Phase.TheVariants.{Choose}
use Rattle.coati_device.specs.OpenUnit.{has_unit}
use Rattle.coati_device.specs.Points.{Awaits, IsOfTask, ServesInTurn, TakeTurns}

-- the postings have numbers above this
abbrev pub AreAbove : ℕ → List Held → Type 0
AreAbove number postings = All (λ held. number < held.number) postings

-- each posting that waits came after the last commit of a task or transaction
abbrev pub AreAllLater : Program → List Mark → Type 0
AreAllLater program marks =
    AreAbove (settled_of program marks).settled (standing_of program marks).rest

-- a task is under way, or a unit is open
abbrev pub IsUnderWayWith : Phase → State → Type 0
IsUnderWayWith phase s = IsOfTask phase ⊎ (has_unit s ≡ true)

-- nothing of tasks is under way, which an awaited event asks
pub record IsAtRest (phase : Phase) (s : State) : Type 0 where
  pub chooses : phase ≡ Choose
  pub no_unit : has_unit s ≡ false

-- what a step without a mark makes of the turns
pub record StaysInTurn (program : Program) (s t : State) (old new : Phase) (marks : List Mark)
    : Type 0 where
  pub mode : mode_of t ≡ mode_of s
  pub later : mode_of s ≡ 0 → ServesInTurn program s old marks → IsUnderWayWith new t →
      AreAllLater program marks
  pub awaits : (posting : ℕ) → Awaits program s old marks posting → IsAtRest new t

pub turns_on : (program : Program) (s t : State) (old new : Phase) (marks : List Mark) →
    TakeTurns program s old marks → StaysInTurn program s t old new marks →
    TakeTurns program t new marks
turns_on program s t old new marks h stays = record {
  split = λ is.
      let before = sym stays.mode ∙ is in
      let turn = h.split before in
      record {
        serves = turn.serves;
        same = turn.same;
        settled = turn.settled;
        later = stays.later before turn;
      };
  buffi = λ is. h.buffi (sym stays.mode ∙ is);
  aborts = h.aborts;
  awaits = λ posting is.
      let waits = h.awaits posting is in
      let rests = stays.awaits posting waits in
      record {
        mode = stays.mode ∙ waits.mode;
        chooses = rests.chooses;
        no_unit = rests.no_unit;
        due = waits.due;
      };
}

-- how many postings were accepted when the last task or transaction was committed, with a mark
-- more
abbrev pub settled_with : Program → Settled → Mark → ℕ
settled_with program before mark = (settled_after program before mark).settled

-- what split asks of a mark more
pub record TakesItsTurn (program : Program) (before : Settled) (standing : Standing) (mark : Mark)
    (behind : Type 0) : Type 0 where
  pub serves : EndsTask mark.kind → AreAbove before.settled standing.rest
  pub settled : settled_with program before mark ≤ (after_mark program standing mark).accepted
  pub later :
      behind → AreAbove (settled_with program before mark) (after_mark program standing mark).rest

-- what an awaited event asks behind it
pub record AwaitsBehind (t : State) (new : Phase) (rest : List Held) (posting : ℕ) : Type 0 where
  pub mode : mode_of t ≡ 1
  pub rests : IsAtRest new t
  pub due : IsDue rest posting

-- what is asked of a mark more
pub record GoesInTurn (program : Program) (s t : State) (old new : Phase) (marks : List Mark)
    (mark : Mark) : Type 0 where
  pub mode : mode_of t ≡ mode_of s
  pub split : mode_of s ≡ 0 → ServesInTurn program s old marks →
      TakesItsTurn program (settled_of program marks) (standing_of program marks) mark
      (IsUnderWayWith new t)
  pub buffi : mode_of s ≡ 1 → ServesAll (standing_of program marks) mark
  pub first : IsServedFirst (awaited_of marks) mark.kind
  pub awaits : (posting : ℕ) → awaited_by (awaited_of marks) mark.kind ≡ Some posting →
      AwaitsBehind t new (after_mark program (standing_of program marks) mark).rest posting

-- with a mark more
module _ (turns : TurnsGoOn) (go_on : HistoriesGoOn) (program : Program) where
  terms : Terms
  terms = record { program = program; mode = mode.Split; handler = 0 }

  split_by : (s t : State) (old new : Phase) (marks : List Mark) (mark : Mark) →
      ServesInTurn program s old marks →
      TakesItsTurn program (settled_of program marks) (standing_of program marks) mark
      (IsUnderWayWith new t) → ServesInTurn program t new (marks ++ mark ∷ [])
  unfolding terms
  split_by s t old new marks mark h takes =
      let goes = turns program marks mark in
      let standing = (go_on terms [] marks mark).standing in
      record {
        serves = goes.split h.serves (λ ends. rw h.same (takes.serves ends));
        same =
            ap (λ (x : Settled). x.standing) goes.settled
            ∙ ap (λ (x : Standing). after_mark program x mark) h.same ∙ sym standing;
        settled = rw (goes.settled, standing) takes.settled;
        later = λ under. rw (goes.settled, standing) (takes.later under);
      }

  pub turns_by : (s t : State) (old new : Phase) (marks : List Mark) (mark : Mark) →
      TakeTurns program s old marks → GoesInTurn program s t old new marks mark →
      TakeTurns program t new (marks ++ mark ∷ [])
  unfolding terms
  turns_by s t old new marks mark h goes =
      let turn = turns program marks mark in
      let standing = (go_on terms [] marks mark).standing in
      record {
        split = λ is.
            let before = sym goes.mode ∙ is in
            let served = h.split before in
            split_by s t old new marks mark served (goes.split before served);
        buffi = λ is.
            let before = sym goes.mode ∙ is in
            turn.buffi (h.buffi before) (goes.buffi before);
        aborts = turn.aborts h.aborts goes.first;
        awaits = λ posting is.
            let waits = goes.awaits posting (sym turn.awaited ∙ is) in
            record {
              mode = waits.mode;
              chooses = waits.rests.chooses;
              no_unit = waits.rests.no_unit;
              due = subst (λ (x : Standing). IsDue x.rest posting) (sym standing) waits.due;
            };
      }
