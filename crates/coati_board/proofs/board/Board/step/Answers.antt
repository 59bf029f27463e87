use Rattle.std.proofs.Common.{◌≡◌, ◌+◌, ◌<◌, ◌∙◌, ap, sym, subst, None}
use Rattle.std.specs.Prelude.{List, ℕ, length, map}
use mathlib.Core.List.{IsPrefix}
use Rattle.word_code.specs.Code.{Bodies}
use Rattle.serial_log.specs.History.{HasRecord, readings_in}
use Rattle.coati_device.specs.declared.cursor.Cursor.{Cursor}
use Rattle.coati_device.specs.declared.device.Device.{Device}
use Rattle.coati_device.specs.Rows.{IsStepOf}
use Rattle.coati_board.specs.Board.{Whole, end_of}
use Rattle.serial_log.specs.declared.posted.Posted.{Posted}
use Rattle.coati_device.specs.Cursors.{cursor_of}
use Rattle.coati_board.specs.Postings.{RaisesNone}
use Rattle.coati_board.specs.Cursors.{first_place}
use Rattle.coati_board.proofs.Stepping.{Steps, step_keeps}
use Rattle.coati_board.proofs.board.Board.step.Goals as goal
use Rattle.coati_board.proofs.board.Board.step.Goals.{After-advance}

device_is : (c : After-advance) → c.self.inside.device ≡ c.args.self.now.device
device_is c = ap (λ (w : Whole). w.device) c.self.view_is

-- the fields are those of a board that can make a step, and then of one that has made it
stepped : (c : After-advance) → Steps c.self.inside.checked c.self.inside.mode c.self.inside.script
    c.self.inside.device c.advance.new.device
stepped c =
    let inside = c.self.inside in
    let spare : 0 < inside.device.spare = subst (λ (d : Device). 0 < d.spare) (sym (device_is c))
    c.requires.spare in
    let limit : inside.device.steps < inside.script.limit =
    subst (λ (w : Whole). w.device.steps < w.script.limit) (sym c.self.view_is) c.requires.limit in
    let open_ : end_of inside.device.history.marks ≡ None =
    ap (λ (d : Device). end_of d.history.marks) (device_is c) ∙ c.requires.open in
    step_keeps inside.checked inside.mode inside.script inside.device c.advance.new.device
    c.self.invariant.2 spare limit open_ c.steps_keep_devices.ensures
    c.steps_keep_pace.ensures
    (subst (λ (code : Bodies). IsStepOf inside.checked code inside.script.power inside.device
    c.advance.new.device) c.self.invariant.0
    (subst (λ (periods : List ℕ). IsStepOf inside.checked inside.code periods inside.device
    c.advance.new.device) c.as_slice.ensures c.advance.ensures))

pub invariant_of-self : goal.invariant_of-self
invariant_of-self c = (
  c.self.invariant.0,
  c.self.invariant.1,
  (stepped (goal.at.invariant_of-self c).After-advance).board,
  c.self.invariant.3
      ∙ ap (λ (cursors : List Cursor). first_place cursors
      (length c.self.inside.script.postings))
      (sym (stepped (goal.at.invariant_of-self c).After-advance).cursors),
)

pub returns-clause-open : goal.returns-clause-open
returns-clause-open c = (stepped (goal.at.returns-clause-open c).After-advance).open_still

pub returns-clause-clock : goal.returns-clause-clock
returns-clause-clock c =
    let c = (goal.at.returns-clause-clock c).After-advance in
    (stepped c).clock ∙ ap (λ (d : Device). d.clock + 1) (device_is c)

pub returns-clause-steps : goal.returns-clause-steps
returns-clause-steps c =
    let c = (goal.at.returns-clause-steps c).After-advance in
    (stepped c).steps ∙ ap (λ (d : Device). d.steps + 1) (device_is c)

pub returns-clause-spare : goal.returns-clause-spare
returns-clause-spare c =
    let c = (goal.at.returns-clause-spare c).After-advance in
    (stepped c).spare ∙ ap (λ (d : Device). d.spare) (device_is c)

pub returns-clause-grows : goal.returns-clause-grows
returns-clause-grows c =
    let c = (goal.at.returns-clause-grows c).After-advance in
    subst (λ (d : Device). IsPrefix d.history.marks c.advance.new.device.history.marks)
    (device_is c) (stepped c).grows.marks

pub returns-clause-kept : goal.returns-clause-kept
returns-clause-kept c committed has =
    let c = (goal.at.returns-clause-kept c).After-advance in
    let same = device_is c in
    subst (λ (d : Device). readings_in c.advance.new.device.history.readings committed
    ≡ readings_in
    d.history.readings committed) same
    ((stepped c).grows.kept committed
    (subst (λ (d : Device). HasRecord d.history committed) (sym same) has))

pub returns-clause-raises : goal.returns-clause-raises
returns-clause-raises c =
    let c = (goal.at.returns-clause-raises c).After-advance in
    let new : Whole = record {
      program = c.self.inside.checked;
      mode = c.self.inside.mode;
      script = c.self.inside.script;
      device = c.advance.new.device;
    } in
    subst (λ (w : Whole). RaisesNone w new) c.self.view_is
    (record {
      answers = ap (λ (all : List Posted). map (λ (posted : Posted). posted.answer) all)
          (stepped c).raised;
      left = λ device. ap (λ (all : List Cursor). (cursor_of all device).left) (stepped c).cursors;
    })
