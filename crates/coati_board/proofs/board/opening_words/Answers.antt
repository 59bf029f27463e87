use Rattle.std.proofs.Common.{◌≡◌, ◌∙◌, ap, subst, length, arith}
use Rattle.std.proofs.lemmas.List.{take_all}
use Rattle.task_syntax.specs.declared.program.Program.{Program}
use Rattle.task_syntax.specs.Names.{opening_values, word_count}
use Rattle.coati_board.proofs.Opening.{opening_count}
use Rattle.coati_board.proofs.board.opening_words.Goals as goal
use Rattle.coati_board.proofs.board.opening_words.Goals.{After-loop-word}

value_count : (c : After-loop-word) → length (opening_values c.args.checked.now) ≡ word_count
    c.args.checked.now.vars
value_count c =
    let program = c.program-program.ensures in
    subst (λ (p : Program). length (opening_values p) ≡ word_count p.vars) program.program
    (opening_count _ program.sizes.given)

-- all values are there
all_values : (c : After-loop-word) → c.loop-word.words.items ≡ opening_values c.args.checked.now
all_values c =
    let count = value_count c in
    c.loop-word.invariant ∙ take_all c.loop-word.word (opening_values c.args.checked.now)
    (omega (arith, count, c.words-word-end.ensures.words))

pub returns-clause-words : goal.returns-clause-words
returns-clause-words c = all_values c

pub returns-clause-count : goal.returns-clause-count
returns-clause-count c = ap length (all_values c) ∙ value_count c
