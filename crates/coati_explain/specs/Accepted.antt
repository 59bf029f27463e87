-- What is told of an accepted source, and of the trace behind it.
use Rattle.std.specs.Prelude.{ℕ, List, ◌++◌, codes, length}
use Rattle.serial_log.specs.declared.script.Script.{Script}
use Rattle.trace_out.specs.Lines.{word_and_number}
use Rattle.task_cost.specs.Limits.{bounds_of}
use Rattle.task_syntax.specs.declared.program.Program.{Program}

-- a number between two texts
unfoldable pub numbered : List ℕ → ℕ → List ℕ → List ℕ
numbered front number back = word_and_number front number ++ back

-- the bound of a power period, in words
abbrev pub accepted_text : Program → List ℕ
accepted_text program = numbered (codes "the source is accepted: a power period of")
    (bounds_of program).b (codes " machine steps suffices\n")

-- the steps, the power periods and the postings of a trace, in words
abbrev pub counts_text : ℕ → ℕ → ℕ → List ℕ
counts_text limit periods postings =
    numbered (codes "the trace is accepted:") limit (codes " steps at most,")
    ++ numbered (codes "") periods (codes " power periods,")
    ++ numbered (codes "") postings (codes " postings\n")

abbrev pub script_text : Script → List ℕ
script_text script = counts_text script.limit (length script.power) (length script.postings)
