use Rattle.device_post.proofs.live.live_board.Given as goal

abbrev pub ghosts-live_as-A-Ledger : goal.ghosts-live_as-A-Ledger
ghosts-live_as-A-Ledger g a = record { name = a.accepted.name; parts = a.accepted.parts }

abbrev pub ghosts-live_as-F-Ledger : goal.ghosts-live_as-F-Ledger
ghosts-live_as-F-Ledger g a = record { name = a.full.name; parts = a.full.parts }

abbrev pub ghosts-live_as-L-Ledger : goal.ghosts-live_as-L-Ledger
ghosts-live_as-L-Ledger g a = record { name = a.lost.name; parts = a.lost.parts }

abbrev pub ghosts-live_as-S-Ledger : goal.ghosts-live_as-S-Ledger
ghosts-live_as-S-Ledger g a = record { name = a.steps.name; parts = a.steps.parts }

abbrev pub ghosts-live_as-E-Ledger : goal.ghosts-live_as-E-Ledger
ghosts-live_as-E-Ledger g a = record { name = a.ends.name; parts = a.ends.parts }

abbrev pub ghosts-live_as-N-Names : goal.ghosts-live_as-N-Names
ghosts-live_as-N-Names g a = record {
  program = a.board.program;
  mode = a.board.mode;
  script = a.board.script;
}
