use Rattle.std.proofs.Common.{rules, ◌+◌, ◌∷◌, [], ap, sym, ◌∙◌, subst, arith}
use Rattle.std.proofs.lemmas.Result.{err_from_is_err_and}
use Rattle.std.proofs.lemmas.Bool.Decides.{nat_tests}
use Rattle.task_lex.specs.declared.symbol.Symbol.TheVariants as sign
use Rattle.task_parse.specs.Grammar as G
use Rattle.task_parse.specs.Grammar.{Form, Reads}
use Rattle.task_parse.specs.Machine.{Part, Spot, judge, seen}
use Rattle.task_parse.specs.Spots.{Below}
use Rattle.task_parse.specs.Lexeme.{Lexeme}
use Rattle.task_parse.proofs.Expressions as E
use Rattle.task_parse.proofs.Steps as S
use Rattle.task_parse.proofs.expression.+expression.Goals as goal

pub level-loop-op-init : goal.level-loop-op-init
level-loop-op-init t c = record {
  few = c.requires.few;
  climbs = E.climbs_start _ _ _ _ c.in_ok-left.ensures.reads;
  gives = λ k. c.in_ok-left.ensures.gives _;
  shrinks = c.in_ok-left.ensures.shrinks;
}

pub level-returns-in_err-right-clause-read : goal.level-returns-in_err-right-clause-read
level-returns-in_err-right-clause-read t c =
    let p = err_from_is_err_and c.from_residual-in_err-right.result c.from_residual-in_err-right.ensures.1 in
    rw (p.1, p.2) (S.refused_up_to (λ k. ap (seen c.in_err-right.field-0.0) (c.loop-op.invariant.gives k
    ∙ E.operator_on c.loop-op.cursor c.in-Some.op c.loop-op.count k c.in-Some.ensures.0 (grind (arith, nat_tests))
    ∙ ap (λ w. judge w (Part.Operand ∷ Part.Ops (c.loop-op.count + 1) ∷ k)) (sym c.advance.ensures.moved))
    ∙ c.in_err-right.ensures.read.gives k))

pub level-loop-op-preserved : goal.level-loop-op-preserved
level-loop-op-preserved t c =
    let o = c.in-Some.op in
    let behind = ap (λ (w : Spot). w.rest) c.advance.ensures.moved in
    let right = S.from (sym behind) (subst (λ w. Reads (Form.Level
    (w + 1) c.in_ok-right.right) c.advance.new.self.rest c.level.new.cursor.rest) c.level_of.ensures.level c.in_ok-right.ensures.read.reads) in
    record {
      few = c.in_ok-right.ensures.few;
      climbs = rw c.in_ok-left-2.ensures
          (E.climbs_on _ o _ _ _ _ _ c.loop-op.invariant.climbs c.in-Some.ensures.0 c.in-Some.ensures.1 right (subst
          (λ w. Below (w + 1) c.level.new.cursor.rest) c.level_of.ensures.level c.in_ok-right.ensures.below));
      gives = λ k. c.loop-op.invariant.gives k
          ∙ E.operator_on c.loop-op.cursor o c.loop-op.count k c.in-Some.ensures.0 (grind (arith, nat_tests))
          ∙ ap (λ w. judge w (Part.Operand ∷ Part.Ops (c.loop-op.count + 1) ∷ k)) (sym c.advance.ensures.moved)
          ∙ c.in_ok-right.ensures.read.gives k;
      shrinks = (let a = c.advance.ensures.shrinks in let b = c.in_ok-right.ensures.read.shrinks in omega arith);
    }

pub level-returns-clause-read : goal.level-returns-clause-read
level-returns-clause-read t c = record {
  reads = E.climbs_end _ _ _ _ c.loop-op.invariant.climbs;
  gives = c.loop-op.invariant.gives;
  shrinks = c.loop-op.invariant.shrinks;
}

pub operand-returns-in_err-operand-in-Some : goal.operand-returns-in_err-operand-in-Some
operand-returns-in_err-operand-in-Some t c =
    let p = err_from_is_err_and c.from_residual.result c.from_residual.ensures.1 in
    rw (p.1, p.2) (S.refused (λ k. ap (seen c.in_err-operand-in-Some.field-0.0) (E.unary_on c.args.cursor.now c.in-Some.op k
    (search rules) ∙ ap (λ w. judge w (Part.Primary ∷ k)) (sym c.advance.ensures.moved))
    ∙ c.in_err-operand-in-Some.ensures.gives k))

pub operand-returns-in_ok-one-in-Some : goal.operand-returns-in_ok-one-in-Some
operand-returns-in_ok-one-in-Some t c =
    record {
      reads = rw c.in_ok-one-in-Some.ensures (E.unary_reads _ _ _ _
          (search rules) (S.from (sym (ap (λ
          (w : Spot). w.rest) c.advance.ensures.moved)) c.in_ok-operand-in-Some.ensures.reads));
      gives = search rules;
      shrinks = search rules;
    }

pub operand-returns-in-None : goal.operand-returns-in-None
operand-returns-in-None t c =
    record {
      reads = S.also _ _ c.primary-in-None.result
          (λ x d. G.plain d) c.primary-in-None.ensures.reads;
      gives = S.begun c.args.cursor.now c.args.cursor.now c.primary-in-None.new.cursor (Part.Operand ∷ [])
          (Part.Primary ∷ []) []
          c.primary-in-None.result (λ k. E.as_primary c.args.cursor.now k (search rules)) c.primary-in-None.ensures.gives;
      shrinks = search rules;
    }

pub parentheses-returns : goal.parentheses-returns
parentheses-returns t c =
    record {
      reads = S.from c.in_ok-open.ensures.reads (G.parens
          (S.upto c.in_ok-close.ensures.reads c.in_ok-value.ensures.reads));
      gives = search rules;
      shrinks = search rules;
    }

pub place-returns-then-not-is_at : goal.place-returns-then-not-is_at
place-returns-then-not-is_at t c =
    record { reads = S.from c.in_ok-name.ensures.reads G.scalar; gives = search rules; shrinks = search rules }

pub place-returns-in_err-open : goal.place-returns-in_err-open
place-returns-in_err-open t c =
    let p = err_from_is_err_and c.from_residual-in_err-open.result c.from_residual-in_err-open.ensures.1 in
    rw (p.1, p.2) (S.refused (λ k. ap (seen c.in_err-open.field-0.0) (c.in_ok-name.ensures.gives _
    ∙ E.index_on c.name.new.self k (search rules))
    ∙ c.in_err-open.ensures.gives _))

pub place-returns-in_err-index : goal.place-returns-in_err-index
place-returns-in_err-index t c =
    let p = err_from_is_err_and c.from_residual-in_err-index.result c.from_residual-in_err-index.ensures.1 in
    rw (p.1, p.2) (S.refused (λ k. ap (seen c.in_err-index.field-0.0) (c.in_ok-name.ensures.gives _
    ∙ E.index_on c.name.new.self k (search rules)
    ∙ c.in_ok-open.ensures.gives _)
    ∙ c.in_err-index.ensures.gives _))

pub place-returns-in_err-close : goal.place-returns-in_err-close
place-returns-in_err-close t c =
    let p = err_from_is_err_and c.from_residual-in_err-close.result c.from_residual-in_err-close.ensures.1 in
    rw (p.1, p.2) (S.refused (λ k. ap (seen c.in_err-close.field-0.0) (c.in_ok-name.ensures.gives _
    ∙ E.index_on c.name.new.self k (search rules)
    ∙ c.in_ok-open.ensures.gives _
    ∙ c.in_ok-index.ensures.gives _) ∙ c.in_err-close.ensures.gives k))

pub place-returns : goal.place-returns
place-returns t c =
    record {
      reads = rw c.in_ok-index-2.ensures (S.from (c.in_ok-name.ensures.reads
          ∙ ap (λ w. Lexeme.name c.in_ok-name.name ∷ w) c.in_ok-open.ensures.reads) (G.item
          (S.upto c.in_ok-close.ensures.reads c.in_ok-index.ensures.reads)));
      gives = search rules;
      shrinks = search rules;
    }

pub primary-returns-in_err-place : goal.primary-returns-in_err-place
primary-returns-in_err-place t c =
    let p = err_from_is_err_and c.from_residual.result c.from_residual.ensures.1 in
    rw (p.1, p.2) (S.refused (λ k. ap (seen c.in_err-place.field-0.0) (E.place_on c.args.cursor.now k (search rules))
    ∙ c.in_err-place.ensures.gives k))

pub primary-returns-in_err-number : goal.primary-returns-in_err-number
primary-returns-in_err-number t c =
    let p = err_from_is_err_and c.from_residual-in_err-number.result c.from_residual-in_err-number.ensures.1 in
    rw (p.1, p.2) (S.refused (λ k. ap (seen c.in_err-number.field-0.0) (E.number_on c.args.cursor.now k (search rules)
    (search rules)) ∙ c.in_err-number.ensures.gives k))

pub primary-returns-in_ok-place : goal.primary-returns-in_ok-place
primary-returns-in_ok-place t c =
    record { reads = G.get c.in_ok-place.ensures.reads; gives = search rules; shrinks = search rules }

pub primary-returns-then-is_at : goal.primary-returns-then-is_at
primary-returns-then-is_at t c =
    record {
      reads = search rules;
      gives = S.begun c.args.cursor.now c.args.cursor.now c.parentheses.new.cursor (Part.Primary ∷ [])
          (Part.Sign sign.OpenParen ∷ Part.Operand ∷ Part.Ops 0 ∷ Part.Sign sign.CloseParen ∷ []) []
          c.parentheses.result (λ k. E.parentheses_on c.args.cursor.now k (search rules)) c.parentheses.ensures.gives;
      shrinks = search rules;
    }

pub primary-returns-in_ok-number : goal.primary-returns-in_ok-number
primary-returns-in_ok-number t c =
    record { reads = S.from c.in_ok-number.ensures.reads G.number; gives = search rules; shrinks = search rules }
