use Rattle.std.proofs.Common.{◌≡◌, ◌≤◌, ℕ, List, arith, length, subst}
use Rattle.rule_places.specs.Laws.{BrokenRulesLieWithin}
use Rattle.task_check.specs.Accepted.{IsRefusal}
use Rattle.task_check.specs.declared.fault.CheckFault.TheVariants as check_fault
use Rattle.task_check.specs.declared.rule.Rule.{Rule}
use Rattle.task_lex.specs.Reading.{IsBadByte}
use Rattle.task_lex.specs.Token.{IsBadNumber}
use Rattle.task_syntax.specs.declared.program.Program.{Program}
use Rattle.coati_top.specs.Divided.{source_part}
use Rattle.coati_top.specs.Source.{HasRefused, IsSourceFault}
use Rattle.coati_top.specs.declared.source_fault.SourceFault.{SourceFault}
use Rattle.coati_top.specs.declared.source_fault.SourceFault.TheVariants as fault
use Rattle.coati_explain.proofs.Places.{FaultAt-within}
use Rattle.coati_explain.proofs.source_text.source_text.Goals as goal

lexical-within : (input : List ℕ) (found : SourceFault) (at : ℕ) → found ≡ fault.Lexical at → IsSourceFault input found → at ≤ length (source_part input)
lexical-within input found at is why = FaultAt-within (source_part input) at IsBadByte (subst (λ (f : SourceFault). IsSourceFault input f) is why)

number-within : (input : List ℕ) (found : SourceFault) (at : ℕ) → found ≡ fault.Number at → IsSourceFault input found → at ≤ length (source_part input)
number-within input found at is why = FaultAt-within (source_part input) at IsBadNumber (subst (λ (f : SourceFault). IsSourceFault input f) is why)

refused-within : BrokenRulesLieWithin → (input : List ℕ) (rule : Rule) (at : ℕ)
    → HasRefused input (λ (program : Program). IsRefusal program (check_fault.Rule rule at))
    → at ≤ length (source_part input)
refused-within law input rule at why =
    let below = law (source_part input) why.source.tokens rule at (record {
      program = why.program;
      read = why.source.read;
      spelled = why.source.spelled;
      refused = why.refused;
    }) in
    omega (arith, below)

rule-within : BrokenRulesLieWithin → (input : List ℕ) (found : SourceFault) (rule : Rule) (at : ℕ)
    → found ≡ fault.Rule rule at → IsSourceFault input found → at ≤ length (source_part input)
rule-within law input found rule at is why =
    refused-within law input rule at (subst (λ (f : SourceFault). IsSourceFault input f) is why)

pub lexical_text-requires-clause-within : goal.lexical_text-requires-clause-within
lexical_text-requires-clause-within c =
    rw c.source_part-source.ensures (lexical-within c.args.input.now c.args.fault c.in-Lexical.at c.in-Lexical.is c.requires.fault)

pub number_text-requires-clause-within : goal.number_text-requires-clause-within
number_text-requires-clause-within c =
    rw c.source_part-source.ensures (number-within c.args.input.now c.args.fault c.in-Number.at c.in-Number.is c.requires.fault)

pub rule_text-requires-clause-within : goal.rule_text-requires-clause-within
rule_text-requires-clause-within c =
    rw c.source_part-source.ensures
    (rule-within c.broken_rules_begin_tokens.ensures.within c.args.input.now c.args.fault
    c.in-Rule.rule c.in-Rule.at c.in-Rule.is c.requires.fault)
