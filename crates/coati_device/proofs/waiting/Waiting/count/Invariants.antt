use Rattle.std.proofs.Common.{◌≡◌, ◌+◌, drop}
use Rattle.coati_device.specs.Waits.{waiting_count}
use Rattle.coati_device.proofs.Waitings.{lengths}
use Rattle.coati_device.proofs.waiting.Waiting.count.Given as goal

abbrev pub invariant-loop-span : goal.invariant-loop-span
invariant-loop-span l =
    l.count + lengths (drop l.span-index l.span-items) ≡ waiting_count l.fn.self
