use Rattle.std.proofs.Common.{rules, ◌∷◌, [], ap, ◌∙◌, subst, arith, append_assoc, append-nil}
use Rattle.std.proofs.lemmas.Result.{err_from_is_err_and}
use Rattle.task_lex.specs.declared.keyword.Keyword.TheVariants as keyword
use Rattle.task_lex.specs.declared.symbol.Symbol.TheVariants as sign
use Rattle.task_parse.specs.Grammar as G
use Rattle.task_parse.specs.Grammar.{Form, Reads}
use Rattle.task_parse.specs.Lexeme.{Lexeme}
use Rattle.task_parse.specs.Machine.{seen}
use Rattle.task_parse.proofs.Parts as P
use Rattle.task_parse.proofs.Steps as S
use Rattle.task_parse.proofs.block.+block.Goals as goal

pub block-returns : goal.block-returns
block-returns t c =
    record { reads = S.from c.in_ok-open.ensures.reads (G.block c.in_ok-block.ensures.reads); gives = search rules; shrinks = search rules }

pub choice-returns : goal.choice-returns
choice-returns t c =
    record {
      reads = S.from c.in_ok-word.ensures.reads
          (G.choose c.in_ok-condition.ensures.reads c.in_ok-first.ensures.reads c.in_ok-other.ensures.reads);
      gives = search rules;
      shrinks = search rules;
    }

pub otherwise-returns-then-not-is_at_word : goal.otherwise-returns-then-not-is_at_word
otherwise-returns-then-not-is_at_word t c =
    record { reads = G.no_else; gives = search rules; shrinks = search rules }

pub otherwise-returns-in_err-word : goal.otherwise-returns-in_err-word
otherwise-returns-in_err-word t c =
    let p = err_from_is_err_and c.from_residual.result c.from_residual.ensures.1 in
    rw (p.1, p.2) (S.may_refused (λ k. ap (seen c.in_err-word.field-0.0) (P.otherwise_on c.args.cursor.now k (search rules))
    ∙ c.in_err-word.ensures.gives _))

pub otherwise-returns-in_err-block : goal.otherwise-returns-in_err-block
otherwise-returns-in_err-block t c =
    let p = err_from_is_err_and c.from_residual-in_err-block.result c.from_residual-in_err-block.ensures.1 in
    rw (p.1, p.2) (S.may_refused (λ k. ap (seen c.in_err-block.field-0.0) (P.otherwise_on c.args.cursor.now k (search rules)
    ∙ c.in_ok-word.ensures.gives _) ∙ c.in_err-block.ensures.gives k))

pub otherwise-returns : goal.otherwise-returns
otherwise-returns t c =
    record { reads = S.from c.in_ok-word.ensures.reads (G.otherwise c.in_ok-block.ensures.reads); gives = search rules; shrinks = search rules }

pub repetition-returns : goal.repetition-returns
repetition-returns t c =
    record {
      reads = S.from (c.in_ok-word.ensures.reads
          ∙ ap (λ w. Lexeme.word keyword.Repeat c.in_ok-word.field-0 ∷ w) (c.in_ok-name.ensures.reads
          ∙ ap (λ w. Lexeme.name c.in_ok-name.name ∷ w) (c.in_ok-sign.ensures.reads
          ∙ ap (λ w. Lexeme.sign sign.Below ∷ w) c.in_ok-count.ensures.reads))) (G.loop c.in_ok-block.ensures.reads);
      gives = search rules;
      shrinks = search rules;
    }

pub statement-returns-in-Some-Name : goal.statement-returns-in-Some-Name
statement-returns-in-Some-Name t c = S.begins_body c.assignment.ensures
    (λ k. P.assignment_on c.args.cursor.now k (search rules))

pub statement-returns-in-Some-Keyword-Let : goal.statement-returns-in-Some-Keyword-Let
statement-returns-in-Some-Keyword-Let t c = S.begins_body c.local.ensures
    (λ k. P.local_on c.args.cursor.now k (search rules))

pub statement-returns-in-Some-Keyword-If : goal.statement-returns-in-Some-Keyword-If
statement-returns-in-Some-Keyword-If t c = S.begins_body c.choice.ensures
    (λ k. P.choice_on c.args.cursor.now k (search rules))

pub statement-returns-in-Some-Keyword-Repeat : goal.statement-returns-in-Some-Keyword-Repeat
statement-returns-in-Some-Keyword-Repeat t c = S.begins_body c.repetition.ensures
    (λ k. P.repetition_on c.args.cursor.now k (search rules))

pub statement-returns-in-Some-Keyword-Next : goal.statement-returns-in-Some-Keyword-Next
statement-returns-in-Some-Keyword-Next t c = S.begins_body c.next.ensures
    (λ k. P.next_on c.args.cursor.now k (search rules))

pub statement-returns-in-Some-Keyword-Halt : goal.statement-returns-in-Some-Keyword-Halt
statement-returns-in-Some-Keyword-Halt t c = S.begins_body c.halt.ensures
    (λ k. P.halt_on c.args.cursor.now k (search rules))

pub statement-returns-in-Some-Keyword-Give : goal.statement-returns-in-Some-Keyword-Give
statement-returns-in-Some-Keyword-Give t c = S.begins_body c.give.ensures
    (λ k. P.give_on c.args.cursor.now k (search rules))

pub statements-loop-alloc-preserved : goal.statements-loop-alloc-preserved
statements-loop-alloc-preserved t c = record {
  reads = λ more rest d. rw (c.in_ok-push.ensures.ok, append_assoc) (c.loop-alloc.invariant.reads
      (c.in_ok-next.next ∷ more) rest (G.more c.in_ok-next.ensures.reads d));
  gives = λ k. c.loop-alloc.invariant.gives k ∙ c.in_ok-next.ensures.gives k;
  shrinks = (let a = c.in_ok-next.ensures.shrinks in omega arith);
}

pub statements-returns-in_err-close : goal.statements-returns-in_err-close
statements-returns-in_err-close t c =
    let p = err_from_is_err_and c.from_residual-in_err-close.result c.from_residual-in_err-close.ensures.1 in
    rw (p.1, p.2) (S.refused (λ k. ap (seen c.in_err-close.field-0.0) (c.loop-alloc.invariant.gives k
    ∙ P.body_over c.loop-alloc.cursor k (search rules)) ∙ c.in_err-close.ensures.gives k))

pub statements-returns : goal.statements-returns
statements-returns t c =
    record {
      reads = subst (λ w. Reads (Form.Rest w) c.args.cursor.now.rest c.close.new.self.rest)
          (append-nil c.loop-alloc.statements) (c.loop-alloc.invariant.reads [] c.close.new.self.rest
          (S.from c.in_ok-close.ensures.reads G.close));
      gives = search rules;
      shrinks = search rules;
    }
