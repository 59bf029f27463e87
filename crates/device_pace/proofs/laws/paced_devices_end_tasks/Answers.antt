use Rattle.device_pace.proofs.Paced.{fresh_paced, needs_few, paced_ends}
use Rattle.device_pace.proofs.laws.paced_devices_end_tasks.Goals as goal

pub returns : goal.returns
returns c = record {
  fresh = fresh_paced c.histories_keep_pace.ensures.begins c.devices_are_sound.ensures.fresh;
  ends = paced_ends c.shapes_are_of_programs.ensures.bound;
  few = needs_few c.shapes_are_of_programs.ensures.bound;
}
