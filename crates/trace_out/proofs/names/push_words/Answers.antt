use Rattle.std.proofs.Common.{◌<◌, List, ℕ, ◌++◌, ap, arith}
use Rattle.task_syntax.specs.Names.{count_of}
use Rattle.trace_out.specs.Names.{index_text}
use Rattle.trace_out.proofs.NamesAt.{one_word_more}
use Rattle.trace_out.proofs.names.push_words.Goals as goal

pub loop-index-preserved : goal.loop-index-preserved
loop-index-preserved c =
    let var = c.args.var.now in
    let index = c.loop-index.index in
    let within : index < count_of var.length =
    omega (arith, c.unwrap_or-index-end.ensures) in
    one_word_more var (count_of var.length) index _ c.loop-index.labels.items
    c.push.new.self.items _ within c.in_ok-push.ensures.items
    (ap (λ (name : List ℕ). name ++ index_text var.length index) c.as_slice.ensures)
    c.loop-index.invariant
