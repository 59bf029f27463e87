use Rattle.std.proofs.Common.{◌≡◌, ◌≤◌}
use Rattle.nv_memory.specs.State.{state}
use Rattle.nv_memory.specs.Ring.{positions_between, slots_from}
use Rattle.nv_memory.specs.Words.{head, tail}
use Rattle.buffi_sets.specs.View.{changed_by, word_behind_entries, word_below_entries}
use Rattle.buffi_sets.proofs.view.word_behind_entries.Given as goal

abbrev pub invariant-loop-older : goal.invariant-loop-older
invariant-loop-older l =
    let s = state l.image in
    (l.older ≤ positions_between s.k (head s) (tail s))
    × (word_behind_entries s l.word ≡ changed_by s l.word (slots_from s.k (head s) l.older) (word_below_entries s l.word))

abbrev pub decreases-loop-older : goal.decreases-loop-older
decreases-loop-older l = l.older
