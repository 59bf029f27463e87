use Rattle.tx_buffer.proofs.MergeKeeps.{merges_keep}
use Rattle.tx_buffer.proofs.laws.merges_keep_merged.Goals as goal

pub returns : goal.returns
returns c = merges_keep
