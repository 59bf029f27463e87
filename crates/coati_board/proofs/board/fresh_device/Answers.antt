use Rattle.std.proofs.Common.{◌≡◌, ap, arith, length, refl, ◌∙◌}
use Rattle.std.specs.Prelude.{List, ℕ, slice_index}
use Rattle.coati_board.specs.Cursors.{first_cursors}
use Rattle.coati_board.proofs.board.fresh_device.Goals as goal

pub returns-clause-fresh : goal.returns-clause-fresh
returns-clause-fresh c =
    let room = c.in_ok-reserve.ensures.mark_room in
    let periods : length c.as_slice-periods.result.now ≡ length c.args.script.now.power =
    ap (length {A = ℕ}) c.as_slice-periods.ensures in
    record {
      fresh = record {
        image = c.in_ok-image.ensures.blank.blank;
        memory = c.in_ok-image.ensures.blank.memory;
        phase = refl;
        clock = refl;
        steps = refl;
        boots = refl;
        until = c.period.ensures ∙ ap (λ (all : List ℕ). slice_index all 0)
            c.as_slice-periods.ensures;
        marks = c.reserve.ensures.marks ∙ c.new-history.ensures.marks;
        readings = c.reserve.ensures.readings ∙ c.new-history.ensures.readings;
        attempt = c.new.ensures;
        unit = c.new-2.ensures;
        events = c.new-3.ensures.events;
        made = c.new-3.ensures.made;
        finished = refl;
        accepted = refl;
      };
      cursors = c.first_cursors.ensures ∙ ap first_cursors c.as_slice.ensures;
      spare = refl;
      room = omega (arith, room, periods);
    }
