use Rattle.std.proofs.Common.{◌<◌, length, ap, sym, ◌∙◌, arith}
use Rattle.std.specs.Prelude.{Some, None}
use Rattle.std.proofs.lemmas.Result.{on_ok_weaker}
use Rattle.task_syntax.specs.declared.statement.Stmt.TheVariants.{If, Repeat}
use Rattle.task_syntax.specs.CodeWords.{statement_words}
use Rattle.codegen.proofs.InTurn.{words_left, slots_left, scope_left, code_left}
use Rattle.codegen.proofs.JumpingCode.{when_put, either_put, loop_put, words-when, words-either}
use Rattle.codegen.proofs.statement.+statement.Goals as goal

pub put_statement-returns-in-None-clause-code : goal.put_statement-returns-in-None-clause-code
put_statement-returns-in-None-clause-code t c =
    let condition = c.in-If.condition in
    let s_is = c.in-If.is ∙ ap (λ block. If condition block c.in-If.other) (sym c.as_slice.ensures) in
    let test = c.in_ok-put_expression-in-If.ensures in
    let block = c.in_ok-block-in-If.ensures in
    on_ok_weaker c.put_when.result
    (when_put c.args.checked.now c.args.statement.now condition c.as_slice.result.now c.in-If.other c.args.scope.now c.args.out.now.instrs.items _ _ _ c.args.out.now.end _ _
    s_is c.in-None.is test.code test.end block.code block.end)
    c.put_when.ensures.code

pub put_statement-returns-in-None-clause-end : goal.put_statement-returns-in-None-clause-end
put_statement-returns-in-None-clause-end t c =
    let condition = c.in-If.condition in
    let s_is = c.in-If.is ∙ ap (λ other. If condition c.in-If.block other) c.in-None.is ∙ ap (λ block. If condition block None) (sym c.as_slice.ensures) in
    let words = ap statement_words s_is ∙ words-when condition c.as_slice.result.now in
    let test = c.in_ok-put_expression-in-If.ensures in
    let block = c.in_ok-block-in-If.ensures in
    on_ok_weaker c.put_when.result (λ end_is. omega (arith, end_is, words, test.end, block.end)) c.put_when.ensures.end

pub put_statement-returns-in_ok-other-in-Some-clause-code : goal.put_statement-returns-in_ok-other-in-Some-clause-code
put_statement-returns-in_ok-other-in-Some-clause-code t c =
    let condition = c.in-If.condition in
    let s_is = c.in-If.is ∙ ap (λ block. If condition block c.in-If.other) (sym c.as_slice.ensures) in
    let other_is = c.in-Some.is ∙ ap Some (sym c.as_slice-in-Some.ensures) in
    let test = c.in_ok-put_expression-in-If.ensures in
    let block = c.in_ok-block-in-If.ensures in
    let other = c.in_ok-other-in-Some.ensures in
    on_ok_weaker c.put_choice.result
    (either_put c.args.checked.now c.args.statement.now condition c.as_slice.result.now c.in-If.other c.as_slice-in-Some.result.now c.args.scope.now _ c.args.out.now.instrs.items _ _ _ _ c.args.out.now.end _ _ _
    s_is other_is test.code test.end block.code block.end block.scope other.code other.end)
    c.put_choice.ensures.code

pub put_statement-returns-in_ok-other-in-Some-clause-end : goal.put_statement-returns-in_ok-other-in-Some-clause-end
put_statement-returns-in_ok-other-in-Some-clause-end t c =
    let condition = c.in-If.condition in
    let other_is = c.in-Some.is ∙ ap Some (sym c.as_slice-in-Some.ensures) in
    let s_is = c.in-If.is ∙ ap (λ other. If condition c.in-If.block other) other_is ∙ ap (λ block. If condition block (Some c.as_slice-in-Some.result.now)) (sym c.as_slice.ensures) in
    let words = ap statement_words s_is ∙ words-either condition c.as_slice.result.now c.as_slice-in-Some.result.now in
    let test = c.in_ok-put_expression-in-If.ensures in
    let block = c.in_ok-block-in-If.ensures in
    let other = c.in_ok-other-in-Some.ensures in
    on_ok_weaker c.put_choice.result (λ end_is. omega (arith, end_is, words, test.end, block.end, other.end)) c.put_choice.ensures.end

pub put_statement-returns-in_ok-turn-in-Repeat-clause-code : goal.put_statement-returns-in_ok-turn-in-Repeat-clause-code
put_statement-returns-in_ok-turn-in-Repeat-clause-code t c =
    let name = c.in-Repeat.name in
    let count = c.in-Repeat.count in
    let s_is = c.in-Repeat.is ∙ ap (Repeat name count) (sym c.as_slice-in-Repeat.ensures) in
    let turn = c.in_ok-turn-in-Repeat.ensures in
    on_ok_weaker c.put_loop.result
    (loop_put c.args.checked.now c.args.statement.now name count c.as_slice-in-Repeat.result.now c.args.scope.now c.args.out.now.instrs.items _ _ c.args.out.now.end _ _
    s_is c.next-slot.ensures turn.code turn.end)
    c.put_loop.ensures.code

pub put_statements-loop-statement-preserved : goal.put_statements-loop-statement-preserved
put_statements-loop-statement-preserved t c =
    let block = c.args.block.now in
    let i = c.loop-statement.statement-index in
    let s = c.statement-item.result in
    let s_is = c.statement-item.is in
    let within : i < length block = omega arith in
    let put = c.in_ok-put_statement.ensures in
    let before = c.loop-statement.invariant in
    let program = c.args.checked.now in
    record {
      code = code_left block i s within s_is program _ _ _ _ _ _ put.code put.end put.scope ∙ before.code;
      end = omega (arith, before.end, put.end, words_left block i s within s_is);
      scope = scope_left block i s within s_is program _ _ put.scope ∙ before.scope;
      slots = omega (arith, before.slots, put.slots, slots_left block i s within s_is);
    }
