-- The source of an input that was read step by step.
use Rattle.std.proofs.Common.{◌≡◌, ℕ, List, sym, subst}
use Rattle.task_syntax.specs.declared.program.Program.{Program}
use Rattle.task_lex.specs.Reading.{Tokens}
use Rattle.task_lex.specs.declared.token.Token.{Token}
use Rattle.task_parse.specs.Faults.{Spells}
use Rattle.task_check.specs.Accepted.{IsAccepted}
use Rattle.coati_top.specs.Divided.{source_part}
use Rattle.coati_top.specs.Source.{HasAccepted}

pub accepted_source : (input source : List ℕ) (tokens text : List Token) (program checked : Program) →
    source ≡ source_part input → text ≡ tokens → Tokens source tokens → Spells source text program → checked ≡ program → IsAccepted program
    → HasAccepted input checked
accepted_source input source tokens text program checked part same read spelled is accepted =
    subst (HasAccepted input) (sym is) (record {
      source = record {
        tokens = tokens;
        read = subst (λ (s : List ℕ). Tokens s tokens) part read;
        spelled = subst (λ (s : List ℕ). Spells s tokens program) part (subst (λ (ts : List Token). Spells source ts program) same spelled);
      };
      accepted = accepted;
    })
