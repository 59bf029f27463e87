-- The script of a trace is one that a board serves.
use Rattle.std.proofs.Common.{arith}
use Rattle.serial_log.specs.declared.script.Script.{Script}
use Rattle.coati_board.specs.Served.{IsScript}
use Rattle.task_syntax.specs.declared.program.Program.{Program}
use Rattle.trace_text.specs.Trace.{IsScriptFor, IsWithin}

pub is_script : (program : Program) (script : Script) → IsWithin program script → IsScriptFor program script
    → IsScript program script
is_script program script within told = record {
  limit = within.limit;
  few_periods = within.power;
  periods = λ at other inside. (told.periods at other inside).0;
  few_postings = within.postings;
  postings = λ at other inside. let posting = told.postings at other inside in record {
    device = omega (arith, posting.device);
    event = posting.event;
  };
}
