-- What may be answered about a text. Memory may run out at any time.
use Rattle.std.specs.Prelude.{ℕ, ◌≡◌, ◌⊎◌, List, Result, Ok, Err}
use Rattle.serial_log.specs.declared.script.Script.{Script}
use Rattle.task_syntax.specs.declared.program.Program.{Program}
use Rattle.trace_text.specs.declared.fault.TraceFault.{TraceFault}
use Rattle.trace_text.specs.declared.fault.TraceFault.TheVariants.{OutOfMemory}
use Rattle.trace_text.specs.Trace.{FirstFault, TraceText}

-- the fault is the first of the text, or memory ran out
abbrev pub Explains : Program → List ℕ → TraceFault → Type 0
Explains program text OutOfMemory = Unit {0}
Explains program text fault = FirstFault program text fault

-- the answer is this one, unless memory ran out
abbrev pub IsAnswer : Result Script TraceFault → Result Script TraceFault → Type 0
IsAnswer (Ok script) answer = answer ≡ Ok script
IsAnswer (Err OutOfMemory) answer = Unit {0}
IsAnswer (Err fault) answer = answer ≡ Err fault

-- the text is a script or has a first fault
abbrev pub IsAnswered : Program → List ℕ → Type 0
IsAnswered program text =
    ((script : Script) × TraceText program text script)
    ⊎ ((fault : TraceFault) × FirstFault program text fault)
