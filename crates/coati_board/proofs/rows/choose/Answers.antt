use Rattle.std.proofs.Common.{◌<◌, length, sym, subst}
use Rattle.bottom_half.specs.declared.job.Job.{Job}
use Rattle.nv_memory.specs.State.{state}
use Rattle.task_syntax.specs.declared.body.BodyId.TheVariants.{Bottom}
use Rattle.word_code.specs.Code.{Bodies, HasBody}
use Rattle.coati_device.specs.Rows.{IsRow}
use Rattle.coati_board.proofs.HeldPostings.{IsAtHead, has_bottom_half, known_at_head, none_picked, picked_at_head, split_where_held}
use Rattle.coati_board.proofs.rows.choose.Goals as goal
use Rattle.coati_board.proofs.rows.choose.Goals.{In-Some, In-None}

at_head : (c : In-Some) → IsAtHead (state c.args.device.now.image) c.in-Some.job
at_head c = picked_at_head (state c.args.device.now.image) c.in-Some.job
    c.requires.ready.fit.memory.range c.requires.clear.mark (sym c.in-Some.ensures)

event_low : (c : In-Some) → c.in-Some.job.event < length c.args.checked.now.events
event_low c =
    let head = at_head c in
    subst (λ (job : Job). job.event < length c.args.checked.now.events) (sym head.job_is)
    (known_at_head c.args.checked.now c.args.device.now c.requires.ready.fit c.requires.clear.mark
    head.held)

pub choose_event-requires-clause-chooses : goal.choose_event-requires-clause-chooses
choose_event-requires-clause-chooses c =
    let head = at_head (goal.at.choose_event-requires-clause-chooses c).In-Some in record {
      phase = c.requires.chooses;
      clear = c.requires.clear;
      events = record {
        mode =
            split_where_held (state c.args.device.now.image) c.requires.ready.fit.memory.mode
            c.requires.undrained head.held;
        closed = head.closed;
        held = head.held;
      };
    }

pub choose_event-requires-clause-job : goal.choose_event-requires-clause-job
choose_event-requires-clause-job c =
    (at_head (goal.at.choose_event-requires-clause-job c).In-Some).job_is

pub choose_event-requires-clause-event : goal.choose_event-requires-clause-event
choose_event-requires-clause-event c =
    event_low (goal.at.choose_event-requires-clause-event c).In-Some

pub choose_event-requires-clause-body : goal.choose_event-requires-clause-body
choose_event-requires-clause-body c =
    subst (λ (code : Bodies). HasBody code (Bottom c.in-Some.job.event)) (sym c.requires.code)
    (has_bottom_half c.bodies_stand_by_number.ensures c.args.checked.now c.in-Some.job.event
    (event_low (goal.at.choose_event-requires-clause-body c).In-Some))

pub returns-in-Some : goal.returns-in-Some
returns-in-Some c =
    subst (λ (code : Bodies). IsRow c.args.checked.now code c.args.device.now
    c.choose_event.new.device) c.requires.code c.choose_event.ensures

pub choose_task-requires-clause-chooses : goal.choose_task-requires-clause-chooses
choose_task-requires-clause-chooses c = record {
  phase = c.requires.chooses;
  clear = c.requires.clear;
  tasks =
      none_picked (state c.args.device.now.image) (sym c.in-None.ensures)
      (split_where_held (state c.args.device.now.image) c.requires.ready.fit.memory.mode
      c.requires.undrained);
}

pub returns-in-None : goal.returns-in-None
returns-in-None c =
    subst (λ (code : Bodies). IsRow c.args.checked.now code c.args.device.now
    c.choose_task.new.device) c.requires.code
    (c.choose_task.ensures c.args.checked.now c.requires.most)
