use Rattle.codegen.specs.Bodies.{program_code}
use Rattle.coati_device.proofs.Rooms.{room_ticked}
use Rattle.coati_device.proofs.Ticking.{sound_ticked}
use Rattle.coati_device.proofs.laws.ticks_keep_devices.Goals as goal

pub returns-clause-sound : goal.returns-clause-sound
returns-clause-sound c = λ terms periods d some rules h.
    sound_ticked c.histories_go_on.ensures c.marks_join_up.ensures terms
    (program_code terms.program) c.turns_go_on.ensures periods d some h

pub returns-clause-room : goal.returns-clause-room
returns-clause-room c = room_ticked
