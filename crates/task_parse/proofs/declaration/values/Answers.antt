use Rattle.std.proofs.Common.{rules, ◌∷◌, [], ap, ◌∙◌, subst, arith, append_assoc, append-nil}
use Rattle.std.proofs.lemmas.Result.{err_from_is_err_and}
use Rattle.task_lex.specs.declared.symbol.Symbol.TheVariants as sign
use Rattle.task_parse.specs.Grammar as G
use Rattle.task_parse.specs.Grammar.{Form, Reads}
use Rattle.task_parse.specs.Lexeme.{Lexeme}
use Rattle.task_parse.specs.Machine.{seen}
use Rattle.task_parse.proofs.Steps as S
use Rattle.task_parse.proofs.Parts as P
use Rattle.task_syntax.specs.declared.program.Init.TheVariants as init
use Rattle.task_parse.proofs.declaration.values.Goals as goal

pub loop-cursor-init : goal.loop-cursor-init
loop-cursor-init c = record {
  reads = λ more rest d. rw (c.in_ok-push.ensures.ok, c.new-values.ensures) (S.from (ap
      (λ w. Lexeme.sign sign.Assign ∷ w) (c.in_ok-open.ensures.reads
      ∙ ap (λ w. Lexeme.sign sign.OpenBrace ∷ w) c.in_ok-first.ensures.reads)) (G.many_given d));
  gives = λ k. c.in_ok-open.ensures.gives _
      ∙ c.in_ok-first.ensures.gives _;
  shrinks = (let a = c.in_ok-open.ensures.shrinks in let b = c.in_ok-first.ensures.shrinks in omega arith);
}

pub returns-in_err-sign : goal.returns-in_err-sign
returns-in_err-sign c =
    let p = err_from_is_err_and c.from_residual-in_err-sign.result c.from_residual-in_err-sign.ensures.1 in
    rw (p.1, p.2) (S.refused_within (λ k. ap (seen c.in_err-sign.field-0.0) (c.loop-cursor.invariant.gives k
    ∙ P.numbers_on c.loop-cursor.cursor _ (search rules))
    ∙ c.in_err-sign.ensures.gives _))

pub returns-in_err-value : goal.returns-in_err-value
returns-in_err-value c =
    let p = err_from_is_err_and c.from_residual-in_err-value.result c.from_residual-in_err-value.ensures.1 in
    rw (p.1, p.2) (S.refused_within (λ k. ap (seen c.in_err-value.field-0.0) (c.loop-cursor.invariant.gives k
    ∙ P.numbers_on c.loop-cursor.cursor _ (search rules)
    ∙ c.in_ok-sign.ensures.gives _)
    ∙ c.in_err-value.ensures.gives _))

pub loop-cursor-preserved : goal.loop-cursor-preserved
loop-cursor-preserved c = record {
  reads = λ more rest d. rw (c.in_ok-push-2.ensures.ok, append_assoc) (c.loop-cursor.invariant.reads
      (c.in_ok-value.value.value ∷ more) rest (S.from (c.in_ok-sign.ensures.reads
      ∙ ap (λ w. Lexeme.sign sign.Comma ∷ w) c.in_ok-value.ensures.reads) (G.numbers d)));
  gives = λ k. c.loop-cursor.invariant.gives k ∙ P.numbers_on c.loop-cursor.cursor _ (search rules)
      ∙ c.in_ok-sign.ensures.gives _
      ∙ c.in_ok-value.ensures.gives _;
  shrinks = (let a = c.in_ok-sign.ensures.shrinks in let b = c.in_ok-value.ensures.shrinks in omega arith);
}

pub returns-in_err-close : goal.returns-in_err-close
returns-in_err-close c =
    let p = err_from_is_err_and c.from_residual-in_err-close.result c.from_residual-in_err-close.ensures.1 in
    rw (p.1, p.2) (S.refused_within (λ k. ap (seen c.in_err-close.field-0.0) (c.loop-cursor.invariant.gives k
    ∙ P.numbers_over c.loop-cursor.cursor _ (search rules)) ∙ c.in_err-close.ensures.gives k))

pub returns : goal.returns
returns c =
    record {
      reads = subst (λ w. Reads (Form.Given (init.Many w))
          (Lexeme.sign sign.Assign ∷ c.args.cursor.now.rest) c.close.new.self.rest) (append-nil c.loop-cursor.values)
          (c.loop-cursor.invariant.reads [] _ (S.from c.in_ok-close.ensures.reads G.no_numbers));
      gives = search rules;
      shrinks = search rules;
    }
