-- A blank image is in range and holds nothing.
use Rattle.std.proofs.Common.{◌≡◌, ℕ, ◌+◌, ◌-◌, List, length, map, refl, ap, inl, arith}
use Rattle.coati_word.specs.declared.mode.Mode.{Mode}
use Rattle.nv_memory.specs.declared.log.Log.{Log}
use Rattle.nv_memory.specs.declared.log.Log.TheVariants as log
use Rattle.nv_memory.specs.Seats.{IsSized}
use Rattle.nv_memory.specs.Blank.{blank}
use Rattle.nv_memory.specs.BlankLaws.{IsBlankSound}
use Rattle.nv_memory.specs.Logs.{IsLog, seats_of}
use Rattle.nv_memory.specs.InRange.{IsRing}
use Rattle.nv_memory.specs.Ring.{entry_at, positions, positions_between, slots_from}
use Rattle.nv_memory.proofs.Turns.{wraps}

none_between : (k : ℕ) → positions_between k 0 0 ≡ 0
none_between k = let around = wraps (0 + positions k - 0) (positions k) (omega arith) in omega (arith, around)

module _ (opening : List ℕ) (k : ℕ) (mode : Mode) where
  log_blank : (log : Log) → IsLog (blank opening k mode) (seats_of log)
  log_blank log.Task = record { short = omega arith; below = λ i h. absurd (omega arith); once = λ i j h g. absurd (omega arith) }
  log_blank log.Tx = record { short = omega arith; below = λ i h. absurd (omega arith); once = λ i j h g. absurd (omega arith) }
  log_blank (log.Entry slot) = record { short = omega arith; below = λ i h. absurd (omega arith); once = λ i j h g. absurd (omega arith) }

  ring_blank : IsRing (blank opening k mode)
  ring_blank = record {
    head_low = omega arith;
    next_low = omega arith;
    tail_low = omega arith;
    few = λ taking. let none = none_between k in omega (arith, none);
    taken_some = λ taking. absurd cc;
    taken_few = λ taking. absurd cc;
    taken_follows = λ taking. absurd cc;
  }

  pub blank_sound : IsSized (length opening) k → IsBlankSound opening k mode
  blank_sound sizes = record {
    range = record {
      sizes = sizes;
      mark = omega arith;
      opened = omega arith;
      doomed = omega arith;
      attempt_flags = λ word low. omega arith;
      tx_flags = λ word low. omega arith;
      logs = λ log has. log_blank log;
      ring = ring_blank;
    };
    places = λ tasks some. record { current = inl some; next = inl some; first = inl some };
    closed = record {
      empty = λ o m word. refl;
      flags = λ o m word low. refl;
      doomed_mark = λ d. absurd cc;
      doomed_place = λ d. absurd cc;
    };
    words = λ word. refl;
    place = refl;
    held = ap (λ (count : ℕ). map (entry_at (blank opening k mode)) (slots_from k 0 count)) (none_between k);
  }
