use Rattle.std.proofs.Common.{None, Some}
use Rattle.coati_text.specs.Line.{lines_of}
use Rattle.trace_text.proofs.Limits.{is_within-parts, leads_within}
use Rattle.trace_text.proofs.ScriptNumbers.{leads_numbers}
use Rattle.trace_text.proofs.laws.scripts_are_within_the_limits.Goals as goal

pub returns-clause-within : goal.returns-clause-within
returns-clause-within c program text script is =
    is_within-parts program script (leads_within program None (Some script) (lines_of text) tt is)

pub returns-clause-numbers : goal.returns-clause-numbers
returns-clause-numbers c program text script is = leads_numbers program None (Some script) (lines_of text) tt is
