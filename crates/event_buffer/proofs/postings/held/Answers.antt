use Rattle.std.proofs.Common.{◌∙◌, rules, sym, ◌≡◌}
use Rattle.nv_memory.specs.Ring.{held_count}
use Rattle.nv_memory.specs.State.{state}
use Rattle.event_buffer.proofs.Slots.{held_length}
use Rattle.event_buffer.proofs.postings.held.Goals as goal

pub returns : goal.returns
returns c =
    let count : c.positions_between.result ≡ held_count (state c.args.img.now) = grind rules in
    count ∙ sym (held_length (state c.args.img.now))
