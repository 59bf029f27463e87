-- The job whose bottom half runs next: the oldest held posting, while no transaction is open.
use Rattle.std.specs.Prelude.{ℕ, ◌==◌, List, [], ◌∷◌, Option, Some, None, if◌then◌else◌}
use Rattle.nv_memory.specs.State.{State}
use Rattle.nv_memory.specs.Words.{opened}
use Rattle.nv_memory.specs.Ring.{entry_at, held_slots}
use Rattle.bottom_half.specs.declared.job.Job.{Job}

-- the posting in a slot
abbrev pub job_in : State → (slot : ℕ) → Job
job_in s slot = record {
  event = (entry_at s slot).event;
  slot = slot;
  message = (entry_at s slot).message;
}

-- the posting in the first of several slots
abbrev pub first_job : State → List ℕ → Option Job
first_job s [] = None
first_job s (slot ∷ slots) = Some (job_in s slot)

abbrev pub next_job : State → Option Job
next_job s = if opened s == 1 then None else first_job s (held_slots s)
