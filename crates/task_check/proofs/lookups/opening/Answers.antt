use Rattle.std.proofs.Common.{◌≡◌, ◌-◌, ◌<◌, ◌≤◌, ◌∙◌, sym, ap, subst, arith, length}
use Rattle.std.specs.Prelude.{Some}
use Rattle.task_syntax.specs.declared.program.Var.{Var}
use Rattle.task_syntax.specs.Names.{count_of, first_values, given_values}
use Rattle.task_check.proofs.Numbered.{get-here, get-further}
use Rattle.task_check.proofs.UnitNumbers.{get-first_values, length-first_values, word_count-from}
use Rattle.task_check.proofs.lookups.opening.Goals as goal

pub returns-then-left-count : goal.returns-then-left-count
returns-then-left-count c =
    let vars = c.args.vars.now in
    let i = c.loop-var.var-index in
    let var = c.var-item.result in
    let within : i < length vars = omega arith in
    let fits : length (given_values var.init) ≤ count_of var.length =
    subst (λ (v : Var). length (given_values v.init) ≤ count_of v.length) (sym c.var-item.is) (c.requires.fit i var within) in
    let count : c.unwrap_or-count.result ≡ count_of var.length = c.unwrap_or-count.ensures in
    let here = get-here first_values vars i var c.loop-var.left (omega arith) c.var-item.is (omega (arith, length-first_values var fits)) in
    sym c.loop-var.invariant.left ∙ here ∙ get-first_values var c.loop-var.left fits (omega arith) ∙ ap Some (sym c.given_value.ensures)

pub loop-var-preserved : goal.loop-var-preserved
loop-var-preserved c =
    let vars = c.args.vars.now in
    let i = c.loop-var.var-index in
    let var = c.var-item.result in
    let within : i < length vars = omega arith in
    let fits : length (given_values var.init) ≤ count_of var.length =
    subst (λ (v : Var). length (given_values v.init) ≤ count_of v.length) (sym c.var-item.is) (c.requires.fit i var within) in
    let count : c.unwrap_or-count.result ≡ count_of var.length = c.unwrap_or-count.ensures in
    let rest = c.loop-var.left - c.unwrap_or-count.result in
    let further = get-further first_values vars i var c.loop-var.left rest (omega arith) c.var-item.is (omega (arith, length-first_values var fits)) in
    let words = word_count-from vars i var (omega arith) c.var-item.is in
    record { left = sym further ∙ c.loop-var.invariant.left; within = omega (arith, words, c.loop-var.invariant.within) }
