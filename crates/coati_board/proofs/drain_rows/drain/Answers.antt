use Rattle.std.proofs.Common.{Bool, refl, subst}
use Rattle.buffi_sets.specs.Conflict.{HasNoConflict}
use Rattle.nv_memory.specs.State.{state}
use Rattle.coati_board.proofs.drain_rows.drain.Goals as goal

pub drain_freely-requires-clause-drains : goal.drain_freely-requires-clause-drains
drain_freely-requires-clause-drains c = record {
  drains = c.requires.drains;
  free =
      subst (λ (b : Bool). HasNoConflict (state c.args.device.now.image) b) c.requires.attempt
      (c.in-None.ensures.none.0 refl);
}

pub returns-in-None : goal.returns-in-None
returns-in-None c code = c.drain_freely.ensures c.args.checked.now code
