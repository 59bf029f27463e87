use Rattle.std.proofs.Common.{take, drop, sym, ap, inl, inr, ◌∙◌, arith}
use Rattle.std.specs.Char.{is_ascii_digit}
use Rattle.std.proofs.lemmas.List.{take-append-drop, take_rest}
use Rattle.task_lex.specs.Byte.{begins, is_name_start}
use Rattle.task_lex.proofs.Runs.{IsAsciiDigit-run, IsNumeral-run, begins-behind_run, begins_no_name}
use Rattle.task_lex.proofs.front.number.Goals as goal
use Rattle.task_lex.proofs.front.number.Goals.{then-value-gt-GREATEST_NUMBER-via-then-value-gt-GREATEST_NUMBER, then-value-gt-GREATEST_NUMBER-via-else-value-gt-GREATEST_NUMBER+then-begins_name}

pub value_of-value-requires : goal.value_of-value-requires
value_of-value-requires c = rw c.digits_len-len.ensures.len (IsAsciiDigit-run c.args.text.now)

pub returns-then-value-gt-GREATEST_NUMBER-clause-stands :
    goal.returns-then-value-gt-GREATEST_NUMBER-clause-stands
returns-then-value-gt-GREATEST_NUMBER-clause-stands c =
    let len = c.digits_len-len.ensures.len in
    record {
      digits = take c.digits_len-len.result c.args.text.now;
      rest = drop c.digits_len-len.result c.args.text.now;
      here = sym (take-append-drop c.digits_len-len.result c.args.text.now);
      numeral = rw len (IsNumeral-run c.args.text.now c.requires);
      longest = rw len (begins-behind_run is_ascii_digit c.args.text.now);
      fault = elim c.then-value-gt-GREATEST_NUMBER.branch [
        | then-value-gt-GREATEST_NUMBER-via-then-value-gt-GREATEST_NUMBER w ↦ inl (omega arith)
        | then-value-gt-GREATEST_NUMBER-via-else-value-gt-GREATEST_NUMBER+then-begins_name w ↦ inr (ap (begins is_name_start) (sym (take_rest c.args.text.now c.digits_len-len.result)) ∙ sym w.begins_name.ensures ∙ w.if-begins_name.true)
      ];
    }

pub returns-clause-stands : goal.returns-clause-stands
returns-clause-stands c =
    let len = c.digits_len-len.ensures.len in
    record {
      spelled = (rw len (IsNumeral-run c.args.text.now c.requires), omega arith, omega arith);
      longest = begins_no_name (drop c.digits_len-len.result c.args.text.now) (ap (begins is_name_start) (sym (take_rest c.args.text.now c.digits_len-len.result)) ∙ sym c.begins_name.ensures ∙ c.if-begins_name.false) (rw len (begins-behind_run is_ascii_digit c.args.text.now));
    }
