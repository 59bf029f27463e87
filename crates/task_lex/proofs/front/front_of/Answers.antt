use Rattle.std.proofs.Common.{sym, ◌∙◌}
use Rattle.task_lex.proofs.Gaps.{IsGap-blank, IsGap-comment}
use Rattle.task_lex.proofs.front.front_of.Goals as goal

pub returns-then-is_blank-clause-stands : goal.returns-then-is_blank-clause-stands
returns-then-is_blank-clause-stands c = IsGap-blank c.args.text.now c.requires (sym c.is_blank.ensures ∙ c.if-is_blank.true)

pub returns-then-first-eq35-clause-stands : goal.returns-then-first-eq35-clause-stands
returns-then-first-eq35-clause-stands c = rw c.comment_len.ensures.len (IsGap-comment c.args.text.now c.requires c.if-first-eq35.true)
