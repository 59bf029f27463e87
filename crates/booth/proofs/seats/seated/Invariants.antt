use Rattle.std.proofs.Common.{◌≡◌, ◌+◌, ◌≤◌, vec_len, vec_capacity}
use Rattle.booth.specs.Views.{fresh_places}
use Rattle.booth.proofs.seats.seated.Given as goal

abbrev pub invariant-loop-device : goal.invariant-loop-device
invariant-loop-device g l =
    record {
      accepted : (l.accepted.parts + l.device ≡ 8) × (l.accepted.amount ≡ 0);
      full : (l.full.parts + l.device ≡ 8) × (l.full.amount ≡ 0);
      lost : (l.lost.parts + l.device ≡ 8) × (l.lost.amount ≡ 0);
      items : l.devices.items ≡ fresh_places l.device;
      count : vec_len l.devices ≡ l.device;
      room : 8 ≤ vec_capacity l.devices;
    }
