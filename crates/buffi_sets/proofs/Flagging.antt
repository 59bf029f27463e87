-- A write that sets a flag of the attempt.
use Rattle.std.proofs.Common.{◌≡◌, ℕ, ◌==◌, ◌||◌, refl, Bool, true, false, if◌then◌else◌, arith}
use Rattle.nv_memory.specs.declared.log.Log.{Log}
use Rattle.nv_memory.specs.declared.log.Log.TheVariants as log
use Rattle.nv_memory.specs.InRange.{InRange, IsClosed}
use Rattle.nv_memory.specs.State.{State, put}
use Rattle.nv_memory.specs.Logs.{log_value}
use Rattle.nv_memory.specs.Words.{attempt_flag_seat}
use Rattle.buffi_sets.specs.Flags.{FlagWritesSetOneFlag, flag_change}
use Rattle.buffi_sets.specs.Keeps.{Keeps}
use Rattle.nv_memory.proofs.Frames.{range_after_attempt_flag}

flag_step : (at : ℕ) (b : Bool) → ((if b then 1 else at) == 1) ≡ (b || at == 1)
flag_step at true = refl
flag_step at false = refl

same_logs : (s : State) (word : ℕ) (log : Log) (other : ℕ) → log_value (put s (flag_change word)) log other ≡ log_value s log other
same_logs s word log.Task other = refl
same_logs s word log.Tx other = refl
same_logs s word (log.Entry slot) other = refl

flag_keeps : (s : State) (word : ℕ) → InRange s → IsClosed s → Keeps s (put s (flag_change word))
flag_keeps s word r closed = record {
  meaning = record { words = λ other. refl; place = refl; held = refl };
  range = range_after_attempt_flag s word 1 (omega arith) r;
  places = λ tasks p. record { current = p.current; next = p.next; first = p.first };
  closed = record { empty = closed.empty; flags = closed.flags; doomed_mark = closed.doomed_mark; doomed_place = closed.doomed_place };
}

pub flag_set : FlagWritesSetOneFlag
flag_set s word r closed = record {
  attempt_flags = λ other. flag_step (s.at (attempt_flag_seat other)) (other == word);
  tx_flags = λ other. refl;
  logs = same_logs s word;
  keeps = flag_keeps s word r closed;
}
