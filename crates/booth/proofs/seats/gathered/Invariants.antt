use Rattle.std.proofs.Common.{◌≡◌, ◌+◌, sum_by, vec_len}
use Rattle.booth.specs.Views.{Place}
use Rattle.booth.proofs.seats.gathered.Given as goal

-- what is gathered and what is still in the seats is all
abbrev pub invariant-loop-seat : goal.invariant-loop-seat
invariant-loop-seat g l =
    record {
      accepted_parts : l.accepted.parts + vec_len l.devices ≡ vec_len l.fn.devices;
      accepted : l.accepted.amount + sum_by (λ (p : Place). p.accepted) l.devices.items
          ≡ sum_by (λ (p : Place). p.accepted) l.fn.devices.items;
      full_parts : l.full.parts + vec_len l.devices ≡ vec_len l.fn.devices;
      full : l.full.amount + sum_by (λ (p : Place). p.full) l.devices.items
          ≡ sum_by (λ (p : Place). p.full) l.fn.devices.items;
      lost_parts : l.lost.parts + vec_len l.devices ≡ vec_len l.fn.devices;
      lost : l.lost.amount + sum_by (λ (p : Place). p.lost) l.devices.items
          ≡ sum_by (λ (p : Place). p.lost) l.fn.devices.items;
    }

abbrev pub decreases-loop-seat : goal.decreases-loop-seat
decreases-loop-seat g l = goal.left-loop-seat g l
