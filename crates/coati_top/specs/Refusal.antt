-- What is said of a source that is refused, of other words and of a great input, one line each.
use Rattle.std.specs.Prelude.{ℕ, List, ◌++◌, codes, decimal}
use Rattle.task_check.specs.Accepted.{number_of}
use Rattle.task_check.specs.declared.rule.Rule.{Rule}
use Rattle.task_check.specs.declared.rule.Rule.TheVariants.{TwiceNamed, Unknown, WrongKind, BadCount, BadBuffer, TooManyWords, TooManyTasks, NoEnding, EarlyEnding, IntoTx, TopReadsNv, GiveShape, LoopAssigned, TooManyLocals, TooDeepStack, TooLong}
use Rattle.trace_out.specs.Lines.{word_and_number}
use Rattle.coati_top.specs.declared.source_fault.SourceFault.{SourceFault}
use Rattle.coati_top.specs.declared.source_fault.SourceFault.TheVariants as fault

-- the name of a rule, and the number that it tells
abbrev pub rule_text : Rule → List ℕ
rule_text TwiceNamed = codes "TwiceNamed"
rule_text Unknown = codes "Unknown"
rule_text WrongKind = codes "WrongKind"
rule_text BadCount = codes "BadCount"
rule_text BadBuffer = codes "BadBuffer"
rule_text TooManyWords = codes "TooManyWords"
rule_text TooManyTasks = codes "TooManyTasks"
rule_text NoEnding = codes "NoEnding"
rule_text EarlyEnding = codes "EarlyEnding"
rule_text IntoTx = codes "IntoTx"
rule_text TopReadsNv = codes "TopReadsNv"
rule_text GiveShape = codes "GiveShape"
rule_text LoopAssigned = codes "LoopAssigned"
rule_text TooManyLocals = codes "TooManyLocals"
rule_text TooDeepStack = codes "TooDeepStack"
rule_text (TooLong number) = codes "TooLong " ++ decimal number

abbrev pub fault_text : SourceFault → List ℕ
fault_text (fault.Lexical at) = word_and_number (codes "lexical") at
fault_text (fault.Number at) = word_and_number (codes "number") at
fault_text (fault.Syntax token) = word_and_number (codes "syntax") token
fault_text (fault.Deep token) = word_and_number (codes "deep") token
fault_text (fault.Rule rule at) = word_and_number (word_and_number (codes "rule") (number_of rule)
    ++ codes " " ++ rule_text rule ++ codes " at") at

abbrev pub source_refusal : SourceFault → List ℕ
source_refusal fault = codes "refused " ++ fault_text fault ++ codes "\n"

abbrev pub usage_text : List ℕ
usage_text = codes "usage: coati check | dump | run MODE | live MODE | replay MODE | gen N | load MODE N\n"

abbrev pub too_large_text : List ℕ
too_large_text = codes "input too large\n"
