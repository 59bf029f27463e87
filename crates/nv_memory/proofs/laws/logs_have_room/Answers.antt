use Rattle.nv_memory.specs.Logs.{seats_of}
use Rattle.nv_memory.proofs.LogWrites.{empty_length, empty_of, none_beyond, room_for_new}
use Rattle.nv_memory.proofs.laws.logs_have_room.Goals as goal

pub returns-clause-room : goal.returns-clause-room
returns-clause-room c = λ s log word r low none. room_for_new s (seats_of log) word r low none

pub returns-clause-variables : goal.returns-clause-variables
returns-clause-variables c = λ s log word r high. none_beyond s (seats_of log) word r high

pub returns-clause-empty : goal.returns-clause-empty
returns-clause-empty c = λ s log r. (λ none. empty_length s (seats_of log) r none, λ e. empty_of s (seats_of log) e)
