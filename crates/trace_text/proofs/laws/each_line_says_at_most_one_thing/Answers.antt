use Rattle.std.proofs.Common.{◌≡◌, ◌∙◌, Some, sym}
use Rattle.std.proofs.lemmas.List.Splits.{join_with_byte-slice_split}
use Rattle.trace_text.specs.Fields.{space}
use Rattle.trace_text.proofs.Forms.{says_read}
use Rattle.trace_text.proofs.laws.each_line_says_at_most_one_thing.Goals as goal

pub returns-clause-fields : goal.returns-clause-fields
returns-clause-fields c line = join_with_byte-slice_split space line

pub returns-clause-statement : goal.returns-clause-statement
returns-clause-statement c program line statement other one two =
    let both : Some statement ≡ Some other = sym (says_read program line statement one) ∙ says_read program line other two in cc
