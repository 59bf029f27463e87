use Rattle.std.proofs.Common.{◌≡◌, true, drop}
use Rattle.nv_memory.specs.State.{first_undone, state}
use Rattle.tx_buffer.specs.Next.{are_headers, header_changes}
use Rattle.tx_buffer.proofs.headers.header_write.Given as goal

abbrev pub invariant-loop-write : goal.invariant-loop-write
invariant-loop-write l =
    (are_headers (drop l.write-index l.writes) ≡ true)
    × (first_undone (state l.image) (header_changes l.writes) ≡ first_undone (state l.image) (header_changes (drop l.write-index l.writes)))
