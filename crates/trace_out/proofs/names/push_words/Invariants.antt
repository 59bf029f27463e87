use Rattle.std.proofs.Common.{◌≡◌, ◌-◌, ◌++◌, map}
use Rattle.task_syntax.specs.Names.{count_of}
use Rattle.trace_out.specs.Labels.{label_text}
use Rattle.trace_out.specs.Names.{texts_from, texts_of_words}
use Rattle.trace_out.proofs.names.push_words.Given as goal

abbrev pub invariant-loop-index : goal.invariant-loop-index
invariant-loop-index l =
    map label_text l.labels.items ++ texts_from l.index (count_of l.var.length - l.index) l.var
    ≡ map label_text l.initial.labels.items ++ texts_of_words l.var
