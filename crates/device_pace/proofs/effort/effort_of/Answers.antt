use Rattle.std.proofs.Common.{◌∙◌}
use Rattle.nv_memory.specs.Ring.{held_count}
use Rattle.nv_memory.specs.State.{state}
use Rattle.event_buffer.proofs.Slots.{held_length}
use Rattle.device_pace.specs.Effort.{place_behind, stage_of, writes_under_way}
use Rattle.device_pace.proofs.Places.{same_effort}
use Rattle.device_pace.proofs.effort.effort_of.Goals as goal

pub returns : goal.returns
returns c =
    let d = c.args.device.now in
    let s = state d.image in
    record {
      effort = same_effort c.writes_under_way.result (writes_under_way s) c.from.result
          (held_count s) c.place_behind.result (place_behind s) c.stage_of.result
          (stage_of s d.phase) c.writes_under_way.ensures
          (c.from.ensures ∙ c.held.ensures ∙ held_length s) c.place_behind.ensures
          c.stage_of.ensures;
    }
