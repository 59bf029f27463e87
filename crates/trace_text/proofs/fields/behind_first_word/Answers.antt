use Rattle.std.proofs.Common.{◌<◌, length, arith}
use Rattle.std.specs.List.{position_or_len}
use Rattle.std.proofs.lemmas.List.{take_rest}
use Rattle.trace_text.specs.Fields.{is_space}
use Rattle.trace_text.proofs.Cuts.{fields_of-cut, fields_of-last}
use Rattle.trace_text.proofs.fields.behind_first_word.Goals as goal

pub returns-then-len-line : goal.returns-then-len-line
returns-then-len-line c =
    let line = c.args.line.now in
    let within : position_or_len is_space line < length line = omega (arith, c.first_word_len-len.ensures.exact, c.if-len-line.true) in
    rw (take_rest, c.first_word_len-len.ensures.exact) (fields_of-cut line within)

pub returns-else-len-line : goal.returns-else-len-line
returns-else-len-line c =
    fields_of-last c.args.line.now (omega (arith, c.first_word_len-len.ensures.exact, c.if-len-line.false))
