use Rattle.std.proofs.Common.{ℕ, ◌-◌, ◌∙◌, List, ap, length, sym}
use Rattle.coati_device.specs.declared.cursor.Cursor.{Cursor}
use Rattle.coati_device.specs.declared.device.Device.{Device}
use Rattle.coati_board.specs.Cursors.{first_place}
use Rattle.coati_board.proofs.Rooming.{roomier_board}
use Rattle.coati_board.proofs.board.Board.reserve.Goals as goal

pub invariant_of-self : goal.invariant_of-self
invariant_of-self c =
    let inside = c.self.inside in
    let board = c.self.invariant.2 in
    let made = c.make_room.ensures in (
      c.self.invariant.0,
      c.self.invariant.1,
      roomier_board inside.checked inside.mode inside.script inside.device c.make_room.new.device
          board made.same (made.time board.time) made.few
          (made.enough inside.script.power
          (ap (λ (periods : List ℕ). length periods - inside.device.boots)
          (sym c.as_slice.ensures))),
      c.self.invariant.3
          ∙ ap (λ (cursors : List Cursor). first_place cursors (length inside.script.postings))
          (sym (ap (λ (d : Device). d.cursors) made.same.same)),
    )
