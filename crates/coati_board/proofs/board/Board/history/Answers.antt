use Rattle.std.proofs.Common.{◌≡◌, subst}
use Rattle.coati_word.specs.declared.mode.Mode.TheVariants.{Buffi, Split}
use Rattle.serial_log.specs.Progresses.{EndsTasksInTime, ServesAborts, ServesAtOnce, ServesBetweenUnits}
use Rattle.serial_log.specs.Scripted.{AreBootsAtPeriods}
use Rattle.task_cost.specs.Limits.{period_bound}
use Rattle.coati_board.specs.Board.{Whole, terms_of}
use Rattle.coati_board.specs.Postings.{ArePostingsInOrder}
use Rattle.coati_device.specs.Laws.{IsToldWell}
use Rattle.coati_board.proofs.board.Board.history.Goals as goal
use Rattle.coati_board.proofs.board.Board.history.Goals.{After-self}

told : (c : After-self) →
    IsToldWell (terms_of c.self.inside.checked c.self.inside.mode) c.self.inside.script.power
    c.self.inside.device
told c =
    let inside = c.self.inside in
    let board = c.self.invariant.2 in
    c.devices_are_sound.ensures.told (terms_of inside.checked inside.mode) inside.script.power
    inside.device board.scripted.periods board.sound

pub returns-clause-boots : goal.returns-clause-boots
returns-clause-boots c =
    subst (λ (w : Whole). AreBootsAtPeriods w.program w.script.power w.device.clock
    w.device.history.marks) c.self.view_is
    (told (goal.at.returns-clause-boots c).After-self).boots

pub returns-clause-split : goal.returns-clause-split
returns-clause-split c =
    subst (λ (w : Whole). w.mode ≡ Split → ServesBetweenUnits w.program w.device.history.marks)
    c.self.view_is (told (goal.at.returns-clause-split c).After-self).split

pub returns-clause-buffi : goal.returns-clause-buffi
returns-clause-buffi c =
    subst (λ (w : Whole). w.mode ≡ Buffi → ServesAtOnce w.program w.device.history.marks)
    c.self.view_is (told (goal.at.returns-clause-buffi c).After-self).buffi

pub returns-clause-aborts : goal.returns-clause-aborts
returns-clause-aborts c =
    subst (λ (w : Whole). ServesAborts w.device.history.marks)
    c.self.view_is (told (goal.at.returns-clause-aborts c).After-self).aborts

pub returns-clause-progress : goal.returns-clause-progress
returns-clause-progress c =
    let inside = c.self.inside in
    subst (λ (w : Whole). EndsTasksInTime w.program (period_bound w.program) w.device.clock
    w.device.history.marks) c.self.view_is
    (c.paced_devices_end_tasks.ensures.ends (terms_of inside.checked inside.mode) inside.device
    c.self.invariant.2.paced)

pub returns-clause-order : goal.returns-clause-order
returns-clause-order c =
    subst ArePostingsInOrder c.self.view_is c.self.invariant.2.cursors
