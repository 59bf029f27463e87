-- The handlers of a script's postings run no longer than a handler may for each.
use Rattle.std.proofs.Common.{◌≡◌, ◌∙◌, ◌≤◌, ◌+◌, ◌-◌, ◌*◌, ℕ, suc, List, [], ◌∷◌, length, ap, arith}
use Rattle.coati_word.specs.declared.reading.Reading.{Reading}
use Rattle.serial_log.specs.declared.mark.Mark.{Mark}
use Rattle.serial_log.specs.declared.mark.MarkKind.{MarkKind}
use Rattle.serial_log.specs.declared.mark.MarkKind.TheVariants as kind
use Rattle.serial_log.specs.declared.posted.Answer.{Answer}
use Rattle.serial_log.specs.declared.posted.Answer.TheVariants as answer
use Rattle.serial_log.specs.declared.script.Posting.{Posting}
use Rattle.serial_log.specs.Legal.{IsLegalMark}
use Rattle.serial_log.specs.Postings.{IsLegalAnswer, Terms}
use Rattle.serial_log.specs.Printed.{mark_at}
use Rattle.serial_log.specs.Standing.{Standing, after_mark}
use Rattle.serial_log.specs.Walk.{Each}
use Rattle.executor.specs.InTurn as turn
use Rattle.executor.specs.InTurn.{IsInTurn, Turns, behind_first}
use Rattle.shown_runs.specs.Counts.{handlers_time, time_in}

module _ (terms : Terms) (all : List Reading) where
  -- a handler's time
  answer-time : (s : Standing) (at from : ℕ) (its : Answer) → IsLegalAnswer terms s at from its → at - from ≤ terms.handler
  answer-time s at from (answer.Accepted number) legal = let soon = legal.handled.soon in omega (arith, soon)
  answer-time s at from answer.Full legal = let once = legal.at_once in omega (arith, once)
  answer-time s at from (answer.Lost boot) legal = let soon = legal.handled.soon in omega (arith, soon)

  -- a mark more, and the postings that are left behind it
  one-more : (s : Standing) (t : Turns) (at : ℕ) (its : MarkKind) (rest : ℕ) → IsLegalMark terms all s (mark_at at its) → IsInTurn t its
      → rest ≤ terms.handler * length (turn.after_mark t (mark_at at its)).left
      → time_in at its + rest ≤ terms.handler * length t.left
  one-more s t at (kind.Posted posted) rest legal turned within =
      let here = answer-time s at posted.from posted.answer legal.postings.order.answer in
      let one : suc (length turned.more) ≡ length turned.more + 1 = omega arith in
      let left : length t.left ≡ length turned.more + 1 = ap length turned.left ∙ one in
      let behind : length (behind_first t.left) ≡ length turned.more = ap (λ (left : List Posting). length (behind_first left)) turned.left in
      let now = ap (λ (n : ℕ). terms.handler * n) left in
      let then_ = ap (λ (n : ℕ). terms.handler * n) behind in
      omega (arith, here, now, then_, within)
  one-more s t at (kind.Boot number) rest legal turned within = omega (arith, within)
  one-more s t at (kind.Done task) rest legal turned within = omega (arith, within)
  one-more s t at (kind.Commit committed) rest legal turned within = omega (arith, within)
  one-more s t at (kind.Abort aborted) rest legal turned within = omega (arith, within)
  one-more s t at (kind.End end) rest legal turned within = omega (arith, within)

  pub times-within : (s : Standing) (t : Turns) (marks : List Mark) → Each (after_mark terms.program) (IsLegalMark terms all) s marks
      → Each turn.after_mark (λ turns mark. IsInTurn turns mark.kind) t marks → handlers_time marks ≤ terms.handler * length t.left
  times-within s t [] legal turned = omega arith
  times-within s t (mark ∷ more) legal turned =
      let rest = times-within (after_mark terms.program s mark) (turn.after_mark t mark) more legal.1 turned.1 in
      one-more s t mark.at mark.kind (handlers_time more) legal.0 turned.0 rest
