use Rattle.std.proofs.Common.{◌≡◌, ◌++◌, Ok, ℕ, List, length, arith, sym, ap, ◌∙◌}
use Rattle.std.proofs.lemmas.List.{drop-drop, take_rest}
use Rattle.std.proofs.lemmas.List.Folds.{length-prefix_len}
use Rattle.std.specs.Char.{is_ascii_digit}
use Rattle.std.specs.Fmt.{decimal}
use Rattle.coati_text.specs.Decimal.{number_of, digit_count, digit_run}
use Rattle.coati_text.specs.Unread.{unread}
use Rattle.coati_text.proofs.DigitRuns.{decimal_at-decimal, decimal_at-split}
use Rattle.coati_text.proofs.cursor.Cursor.read_decimal.Goals as goal

pub returns-in_err-value-clause-read : goal.returns-in_err-value-clause-read
returns-in_err-value-clause-read c n rest within none spelled =
    let run : c.digit_run-run.result.now ≡ digit_run (unread c.args.self.now) =
    c.digit_run-run.ensures.run ∙ ap digit_run (take_rest c.args.self.now.bytes.now c.args.self.now.place) in
    let read : number_of c.args.max c.digit_run-run.result.now ≡ Ok n =
    ap (number_of c.args.max) (run ∙ ap digit_run spelled) ∙ decimal_at-decimal c.args.max n rest (omega arith) within none in
    cc (c.in_err-value.was)

pub returns-clause-read : goal.returns-clause-read
returns-clause-read c n rest within none spelled =
    let run : c.digit_run-run.result.now ≡ digit_run (unread c.args.self.now) =
    c.digit_run-run.ensures.run ∙ ap digit_run (take_rest c.args.self.now.bytes.now c.args.self.now.place) in
    let read : number_of c.args.max c.digit_run-run.result.now ≡ Ok n =
    ap (number_of c.args.max) (run ∙ ap digit_run spelled) ∙ decimal_at-decimal c.args.max n rest (omega arith) within none in
    cc (c.in_ok-value.was)

pub returns-clause-spelled : goal.returns-clause-spelled
returns-clause-spelled c =
    let run : c.digit_run-run.result.now ≡ digit_run (unread c.args.self.now) =
    c.digit_run-run.ensures.run ∙ ap digit_run (take_rest c.args.self.now.bytes.now c.args.self.now.place) in
    let read : number_of c.args.max (digit_run (unread c.args.self.now)) ≡ Ok c.in_ok-value.value =
    ap (number_of c.args.max) (sym run) ∙ sym c.number_of.ensures ∙ c.in_ok-value.was in
    let split = decimal_at-split c.args.max c.in_ok-value.value (unread c.args.self.now) (omega arith) read in
    let count : length c.digit_run-run.result.now ≡ digit_count (unread c.args.self.now) =
    ap length run ∙ length-prefix_len is_ascii_digit (unread c.args.self.now) in
    let behind = drop-drop (digit_count (unread c.args.self.now)) c.args.self.now.place c.args.self.now.bytes.now in
    rw count (split ∙ ap (λ (rest : List ℕ). decimal c.in_ok-value.value ++ rest) behind)
