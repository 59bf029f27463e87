use Rattle.std.proofs.Common.{◌≡◌, ◌↔◌, ◌+◌, ◌<◌, ◌≤◌, ◌∙◌, List, ap, length, refl, sym, subst, true}
use mathlib.Core.List.{IsPrefix}
use Rattle.codegen.specs.Bodies.{program_code}
use Rattle.event_buffer.specs.Fill.{is_full}
use Rattle.nv_memory.specs.State.{state}
use Rattle.serial_log.specs.declared.posted.Answer.TheVariants.{Full}
use Rattle.serial_log.specs.declared.script.Posting.{Posting}
use Rattle.serial_log.specs.History.{HasRecord, readings_in}
use Rattle.task_cost.specs.Limits.{handler_bound}
use Rattle.word_code.specs.Code.{Bodies}
use Rattle.coati_device.specs.declared.device.Device.{Device}
use Rattle.coati_device.specs.Cursors.{cursor_of}
use Rattle.coati_device.specs.Raises.{Raises}
use Rattle.coati_board.specs.Board.{IsRaise, IsRefused, Whole, end_of}
use Rattle.coati_device.specs.declared.cursor.Cursor.{Cursor}
use Rattle.coati_board.specs.Postings.{RaisesNext}
use Rattle.coati_board.specs.Cursors.{first_place}
use Rattle.coati_board.proofs.Raised.{RaisesOn, can_raise, raise_keeps}
use Rattle.coati_board.proofs.board.Board.post_next.Goals as goal
use Rattle.coati_board.proofs.board.Board.post_next.Goals.{After-raise-answer}

pub raise-answer-requires-clause-can : goal.raise-answer-requires-clause-can
raise-answer-requires-clause-can c =
    let inside = c.self.inside in
    let same : inside.device ≡ c.args.self.now.device =
    ap (λ (w : Whole). w.device) c.self.view_is in
    can_raise inside.checked inside.mode inside.script inside.device c.self.invariant.2
    c.args.device c.requires.device
    (subst (λ (d : Device). 0 < (cursor_of d.cursors c.args.device).left) (sym same)
    c.requires.left)
    (subst (λ (w : Whole). handler_bound w.program ≤ w.device.spare) (sym c.self.view_is)
    c.requires.spare)
    (ap (λ (d : Device). end_of d.history.marks) same ∙ c.requires.open)

device_is : (c : After-raise-answer) → c.self.inside.device ≡ c.args.self.now.device
device_is c = ap (λ (w : Whole). w.device) c.self.view_is

raises : (c : After-raise-answer) →
    Raises c.self.inside.checked (program_code c.self.inside.checked) c.self.inside.script.power
    c.self.inside.script.postings c.args.device c.self.inside.device c.raise-answer.new.device
    c.raise-answer.result
raises c =
    let inside = c.self.inside in
    subst (λ (code : Bodies). Raises inside.checked code inside.script.power inside.script.postings
    c.args.device inside.device
    c.raise-answer.new.device c.raise-answer.result) c.self.invariant.0 c.raise-answer.ensures

-- the fields are those of a board on which a device may raise its next posting, and then of one on
-- which it has
raised : (c : After-raise-answer) →
    RaisesOn c.self.inside.checked c.self.inside.mode c.self.inside.script c.args.device
    c.self.inside.device c.raise-answer.new.device c.raise-answer.result
raised c =
    let inside = c.self.inside in
    raise_keeps inside.checked inside.mode inside.script c.args.device inside.device
    c.raise-answer.new.device c.raise-answer.result c.self.invariant.2
    c.requires.device
    (subst (λ (d : Device). 0 < (cursor_of d.cursors c.args.device).left) (sym (device_is c))
    c.requires.left)
    (subst (λ (w : Whole). handler_bound w.program ≤ w.device.spare) (sym c.self.view_is)
    c.requires.spare)
    (ap (λ (d : Device). end_of d.history.marks) (device_is c) ∙ c.requires.open)
    c.raises_keep_devices.ensures c.raises_keep_pace.ensures.raises (raises c)

pub invariant_of-self : goal.invariant_of-self
invariant_of-self c = (
  c.self.invariant.0,
  c.self.invariant.1,
  (raised (goal.at.invariant_of-self c).After-raise-answer).board,
  c.first_place-self-inside.ensures
      ∙ ap (λ (postings : List Posting). first_place c.raise-answer.new.device.cursors
      (length postings)) c.as_slice.ensures,
)

pub returns-clause-raise : goal.returns-clause-raise
returns-clause-raise c =
    let inside = c.self.inside in
    let new : Whole = record {
      program = inside.checked;
      mode = inside.mode;
      script =
          inside.script;
      device = c.raise-answer.new.device;
    } in
    subst (λ (w : Whole). IsRaise w c.args.device new c.raise-answer.result) c.self.view_is
    (record {
      raised = raises (goal.at.returns-clause-raise c).After-raise-answer;
      same = record { program = refl; mode = refl; script = refl };
    })

pub returns-clause-open : goal.returns-clause-open
returns-clause-open c =
    let c = (goal.at.returns-clause-open c).After-raise-answer in
    (raised c).leaves.ends ∙ ap (λ (d : Device). end_of d.history.marks) (device_is c)
    ∙ c.requires.open

pub returns-clause-full : goal.returns-clause-full
returns-clause-full c =
    let c = (goal.at.returns-clause-full c).After-raise-answer in
    subst (λ (d : Device). (c.raise-answer.result ≡ Full) ↔ (is_full (state d.image) ≡ true))
    (device_is c) (raised c).leaves.full

pub returns-clause-refused : goal.returns-clause-refused
returns-clause-refused c =
    let c = (goal.at.returns-clause-refused c).After-raise-answer in
    subst (λ (d : Device). c.raise-answer.result ≡ Full → IsRefused d c.raise-answer.new.device) (device_is c)
    (raised c).leaves.refused

pub returns-clause-steps : goal.returns-clause-steps
returns-clause-steps c =
    let c = (goal.at.returns-clause-steps c).After-raise-answer in
    (raised c).steps ∙ ap (λ (d : Device). d.steps) (device_is c)

pub returns-clause-spare : goal.returns-clause-spare
returns-clause-spare c =
    let c = (goal.at.returns-clause-spare c).After-raise-answer in
    subst (λ (w : Whole). w.device.spare ≤ c.raise-answer.new.device.spare + handler_bound w.program)
    c.self.view_is (raised c).spare

pub returns-clause-grows : goal.returns-clause-grows
returns-clause-grows c =
    let c = (goal.at.returns-clause-grows c).After-raise-answer in
    subst (λ (d : Device). IsPrefix d.history.marks c.raise-answer.new.device.history.marks) (device_is c)
    (raised c).grows.marks

pub returns-clause-kept : goal.returns-clause-kept
returns-clause-kept c committed has =
    let c = (goal.at.returns-clause-kept c).After-raise-answer in
    let same = device_is c in
    subst (λ (d : Device). readings_in c.raise-answer.new.device.history.readings committed ≡ readings_in
    d.history.readings committed) same
    ((raised c).grows.kept committed
    (subst (λ (d : Device). HasRecord d.history committed) (sym same) has))

pub returns-clause-next : goal.returns-clause-next
returns-clause-next c =
    let c = (goal.at.returns-clause-next c).After-raise-answer in
    let inside = c.self.inside in
    let new : Whole = record {
      program = inside.checked;
      mode = inside.mode;
      script = inside.script;
      device = c.raise-answer.new.device;
    } in
    subst (λ (w : Whole). RaisesNext w c.args.device new c.raise-answer.result) c.self.view_is
    (record {
      answers = (raised c).leaves.answers;
      left = (raised c).left;
      others = λ other apart. ap (λ (cursor : Cursor). cursor.left) ((raised c).others other apart);
    })
