use Rattle.std.proofs.Common.{◌≡◌, map, rules}
use Rattle.std.specs.Prelude.{flat_map}
use Rattle.task_check.specs.Counts.{transactions}
use Rattle.task_syntax.specs.Names.{tasks}
use Rattle.trace_out.specs.Labels.{label_text}
use Rattle.trace_out.specs.Names.{name_of_task, name_of_transaction, texts_of_words}
use Rattle.trace_out.proofs.NamesAt.{same_text_at, same_word_at}
use Rattle.trace_out.proofs.names.Names.new.Goals as goal

pub invariant_of-result-clause-each_task : goal.invariant_of-result-clause-each_task
invariant_of-result-clause-each_task c =
    let labels = c.in_ok-tasks.tasks.items in
    let named = tasks c.args.checked.now in
    let same : map label_text labels ≡ map name_of_task named = search rules in
    same_text_at label_text name_of_task labels named same

pub invariant_of-result-clause-each_transaction : goal.invariant_of-result-clause-each_transaction
invariant_of-result-clause-each_transaction c =
    let labels = c.in_ok-transactions.transactions.items in
    let named = transactions c.args.checked.now in
    let same : map label_text labels ≡ map name_of_transaction named = search rules in
    same_text_at label_text name_of_transaction labels named same

pub invariant_of-result-clause-each_word : goal.invariant_of-result-clause-each_word
invariant_of-result-clause-each_word c =
    let labels = c.in_ok-words.words.items in
    let vars = c.args.checked.now.vars in
    let same : map label_text labels ≡ flat_map texts_of_words vars = search rules in
    same_word_at labels vars same
