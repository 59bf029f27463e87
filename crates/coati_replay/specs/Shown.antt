-- What the code's runs and its progress stand for.
use Rattle.std.specs.Prelude.{◌<◌, ◌≡◌, All, List, length, slice_index, Option, Some, None}
use Rattle.task_syntax.specs.declared.program.Program.{Program}
use Rattle.task_syntax.specs.Names.{word_count}
use Rattle.serial_log.specs.declared.held.Held.{Held}
use Rattle.serial_log.specs.SerialRun.{Stand}
use Rattle.serial_log.specs.Standing.{Standing}
use Rattle.coati_replay.specs.declared.progress.Progress.{Progress}
use Rattle.coati_replay.specs.declared.progress.Run.{Run}

abbrev pub stand_of : Run → Stand
stand_of run = record { store = slice_index run.store; place = run.place }

abbrev pub shown_by : Progress → Standing
shown_by progress = record {
  run = stand_of progress.run;
  rest = progress.rest.items;
  accepted = progress.accepted;
  raised = slice_index progress.raised;
  boots = progress.boots;
  last_boot = progress.last_boot;
  lost = progress.lost;
  latest = progress.latest;
}

-- the run is one of this program
abbrev pub IsRunOf : Program → Run → Type 0
IsRunOf program run = length run.store ≡ word_count program.vars

-- the program has the events of these postings
abbrev pub HasEventsOf : Program → List Held → Type 0
HasEventsOf program rest = All (λ held. held.event < length program.events) rest

-- the progress is one of this program
pub record IsProgressOf (program : Program) (progress : Progress) : Type 0 where
  pub run : IsRunOf program progress.run
  pub events : HasEventsOf program progress.rest.items
  pub devices : length progress.raised ≡ 256

-- where the fact holds a run goes on to this stand, and elsewhere none does
abbrev pub GoesTo : Type 0 → Stand → Option Run → Type 0
GoesTo P stand None = P → ⊥
GoesTo P stand (Some run) = P × (stand_of run ≡ stand)

-- where the fact holds the progress goes on to this standing, and elsewhere it doesn't
abbrev pub GoesOnTo : Type 0 → Standing → Option Progress → Type 0
GoesOnTo P s None = P → ⊥
GoesOnTo P s (Some progress) = P × (shown_by progress ≡ s)
