use Rattle.std.proofs.Common.{◌≡◌, ◌++◌, drop, map}
use Rattle.std.specs.Prelude.{flat_map}
use Rattle.trace_out.specs.Labels.{label_text}
use Rattle.trace_out.specs.Names.{texts_of_words}
use Rattle.trace_out.proofs.names.labels_of_words.Given as goal

abbrev pub invariant-loop-var : goal.invariant-loop-var
invariant-loop-var l =
    map label_text l.labels.items ++ flat_map texts_of_words (drop l.var-index l.vars)
    ≡ flat_map texts_of_words l.vars
