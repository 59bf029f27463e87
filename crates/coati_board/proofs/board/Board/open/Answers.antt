use Rattle.std.proofs.Common.{◌-◌, ◌∙◌, List, ap, length}
use Rattle.serial_log.specs.declared.script.Posting.{Posting}
use Rattle.task_cost.specs.declared.limits.Bounds.{Bounds}
use Rattle.coati_board.specs.Cursors.{first_place}
use Rattle.coati_board.proofs.Starting.{opened_board}
use Rattle.coati_board.proofs.board.Board.open.Goals as goal

pub invariant_of-result : goal.invariant_of-result
invariant_of-result c =
    let made = c.in_ok-device.ensures in (
      c.requires.code,
      c.saturating_sub-most.ensures ∙ ap (λ (of : Bounds). of.c - 2) c.bounds.ensures,
      opened_board c.args.checked c.args.mode c.args.script _ made.accepted made.sizes
          c.requires.script made.fresh.fresh
          made.fresh.cursors made.fresh.spare made.fresh.room c.devices_are_sound.ensures.fresh
          c.paced_devices_end_tasks.ensures.fresh,
      c.first_place-upcoming.ensures
          ∙ ap (λ (postings : List Posting). first_place c.in_ok-device.device.cursors (length postings))
          c.as_slice.ensures,
    )
