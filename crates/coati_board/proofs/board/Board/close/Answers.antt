use Rattle.std.proofs.Common.{◌≡◌, ap, sym, subst, ◌∙◌, None}
use Rattle.nv_memory.specs.StandsFor.{IsIdle}
use Rattle.nv_memory.specs.State.{state}
use Rattle.serial_log.specs.History.{Past}
use Rattle.serial_log.specs.Legal.{IsEndLegal}
use Rattle.serial_log.specs.Standing.{standing_of}
use Rattle.coati_device.specs.declared.device.Device.{Device}
use Rattle.coati_board.specs.Board.{IsBoard, Whole, end_of}
use Rattle.coati_board.proofs.Closing.{closed_board, done_where_idle, ended_by}
use Rattle.coati_board.proofs.board.Board.close.Goals as goal
use Rattle.coati_board.proofs.board.Board.close.Goals.{After-push, then-is_over, else-is_over}

device_is : (c : After-push) → c.self.inside.device ≡ c.args.self.now.device
device_is c = ap (λ (w : Whole). w.device) c.self.view_is

still_open : (c : After-push) → end_of c.self.inside.device.history.marks ≡ None
still_open c = ap (λ (d : Device). end_of d.history.marks) (device_is c) ∙ c.requires.open

legal_end : (c : After-push) →
    IsEndLegal (standing_of c.self.inside.checked c.self.inside.device.history.marks)
    c.if-is_over.end
legal_end c = elim c.if-is_over.branch [
  | then-is_over w ↦
      let idle : IsIdle (state c.self.inside.device.image) =
      subst (λ (d : Device). IsIdle (state d.image)) (sym (device_is c))
      (c.is_over.ensures.over.0 w.if-is_over.true).idle in
      subst (IsEndLegal (standing_of c.self.inside.checked c.self.inside.device.history.marks))
      (sym w.end-is)
      (done_where_idle c.self.inside.checked c.self.inside.device c.self.invariant.2.sizes
      c.self.invariant.2.sound.fit idle)
  | else-is_over w ↦ subst
      (IsEndLegal (standing_of c.self.inside.checked c.self.inside.device.history.marks))
      (sym w.end-is) tt
]

pub invariant_of-self : goal.invariant_of-self
invariant_of-self c = (
  c.self.invariant.0,
  c.self.invariant.1,
  subst (λ (past : Past). IsBoard c.self.inside.checked c.self.inside.mode c.self.inside.script
      (record c.self.inside.device { history = past }))
      (sym c.push.ensures)
      (closed_board c.raises_keep_pace.ensures.closing c.self.inside.checked c.self.inside.mode c.self.inside.script
      c.self.inside.device c.if-is_over.end c.self.invariant.2
      (still_open (goal.at.invariant_of-self c).After-push)
      (legal_end (goal.at.invariant_of-self c).After-push)),
  c.self.invariant.3,
)

pub returns-clause-closed : goal.returns-clause-closed
returns-clause-closed c =
    ap (λ (h : Past). end_of h.marks) c.push.ensures
    ∙ ended_by c.self.inside.device.history.marks c.self.inside.device.clock c.if-is_over.end
    (still_open (goal.at.returns-clause-closed c).After-push)
