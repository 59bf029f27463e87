use Rattle.std.proofs.Common.{◌≡◌, ◌≤◌, ◌↔◌, ◌∙◌, ℕ, ap, subst, sym}
use Rattle.task_cost.specs.Limits.{period_bound}
use Rattle.coati_pace.specs.Effort.{shape_of}
use Rattle.coati_pace.specs.Need.{need}
use Rattle.device_pace.specs.Effort.{effort_of}
use Rattle.device_pace.specs.Laws.{NeedsFew}
use Rattle.coati_board.specs.Board.{IsIdleBoard, Whole, terms_of}
use Rattle.coati_board.proofs.board.Board.need.Goals as goal
use Rattle.coati_board.proofs.board.Board.need.Goals.{After-need}

value_is : (c : After-need) →
    c.need.result ≡ need (shape_of c.args.self.now.program) c.args.self.now.mode
    (effort_of c.args.self.now.device)
value_is c =
    c.need.ensures.need
    ∙ ap (λ (w : Whole). need (shape_of w.program) w.mode (effort_of w.device)) c.self.view_is

few : (c : After-need) → NeedsFew (terms_of c.self.inside.checked c.self.inside.mode)
    c.self.inside.device
few c =
    let inside = c.self.inside in
    let board = c.self.invariant.2 in
    c.paced_devices_end_tasks.ensures.few (terms_of inside.checked inside.mode) inside.device
    board.accepted board.sizes board.sound.fit

pub returns-clause-value : goal.returns-clause-value
returns-clause-value c = value_is (goal.at.returns-clause-value c).After-need

pub returns-clause-most : goal.returns-clause-most
returns-clause-most c =
    let c = (goal.at.returns-clause-most c).After-need in
    subst (λ (w : Whole). c.need.result ≤ period_bound w.program) c.self.view_is
    (subst (λ (n : ℕ). n ≤ period_bound c.self.inside.checked) (sym c.need.ensures.need)
    (few c).most)

pub returns-clause-idle : goal.returns-clause-idle
returns-clause-idle c =
    let c = (goal.at.returns-clause-idle c).After-need in
    subst (λ (w : Whole). (c.need.result ≡ 0) ↔ IsIdleBoard w) c.self.view_is
    (subst (λ (n : ℕ). (n ≡ 0) ↔ IsIdleBoard (record {
      program = c.self.inside.checked;
      mode = c.self.inside.mode;
      script = c.self.inside.script;
      device = c.self.inside.device;
    })) (sym c.need.ensures.need) (few c).idle)
