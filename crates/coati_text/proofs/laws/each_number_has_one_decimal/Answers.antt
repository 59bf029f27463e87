use Rattle.std.proofs.Common.{drop}
use Rattle.coati_text.specs.Decimal.{digit_count}
use Rattle.coati_text.proofs.DigitRuns.{decimal_at-decimal, decimal_at-split, digit_count-behind}
use Rattle.coati_text.proofs.laws.each_number_has_one_decimal.Goals as goal

pub returns-clause-spelled : goal.returns-clause-spelled
returns-clause-spelled c max n text small read =
    (drop (digit_count text) text, decimal_at-split max n text small read, digit_count-behind text)

pub returns-clause-read : goal.returns-clause-read
returns-clause-read c = decimal_at-decimal
