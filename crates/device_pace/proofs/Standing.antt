-- A device's memory stands for where its history leads: what is held, and where it is halted.
use Rattle.std.proofs.Common.{◌≡◌, refl, sym, ◌∙◌, arith, List, [], ◌∷◌, length}
use Rattle.task_syntax.specs.declared.program.Program.{Program}
use Rattle.nv_memory.specs.Ring.{held_count, held_entries}
use Rattle.nv_memory.specs.State.{state}
use Rattle.event_buffer.proofs.Slots.{held_length}
use Rattle.serial_log.specs.declared.held.Held.{Held}
use Rattle.serial_log.specs.Standing.{standing_of}
use Rattle.coati_device.specs.declared.device.Device.{Device}
use Rattle.coati_device.specs.Laws.{Fits}
use Rattle.coati_device.proofs.EventCommits.{held_as_many}
use Rattle.coati_pace.specs.Running.{StandsFor}
use Rattle.device_pace.specs.Effort.{effort_of}
use Rattle.device_pace.proofs.Places.{of_halted}

-- as many are held as postings wait
pub held_as_told : (program : Program) (d : Device) → Fits program d →
    held_count (state d.image) ≡ length (standing_of program d.history.marks).rest
held_as_told program d fit =
    sym (held_length (state d.image))
    ∙ held_as_many program (held_entries (state d.image))
    (standing_of program d.history.marks).rest fit.stands.held

none_waits : (rest : List Held) → length rest ≡ 0 → rest ≡ []
none_waits [] none = refl
none_waits (held ∷ more) none = absurd (omega (arith, none))

pub stands_for : (program : Program) (d : Device) → Fits program d →
    StandsFor (effort_of d) (standing_of program d.history.marks)
stands_for program d fit = record {
  place = λ halted. sym fit.stands.place ∙ (of_halted (state d.image) halted).1;
  held = λ none. none_waits (standing_of program d.history.marks).rest
      (sym (held_as_told program d fit) ∙ none);
}
