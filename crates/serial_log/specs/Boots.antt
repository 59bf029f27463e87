-- The boots of a history: counted, and each later than the one before.
use Rattle.std.specs.Prelude.{ℕ, ◌+◌, ◌≡◌, ◌<◌, List}
use Rattle.task_syntax.specs.declared.program.Program.{Program}
use Rattle.serial_log.specs.declared.mark.Mark.{Mark}
use Rattle.serial_log.specs.declared.mark.MarkKind.{MarkKind}
use Rattle.serial_log.specs.declared.mark.MarkKind.TheVariants.{Boot}
use Rattle.serial_log.specs.Standing.{Standing, EachMark}

-- Boots are counted from 1. No power period is empty, so each boot is later than the one before,
-- and the first than 0.
pub record IsBootLegal (s : Standing) (at number : ℕ) : Type 0 where
  pub counted : number ≡ s.boots + 1
  pub later : s.last_boot < at

abbrev pub KeepsBoots : Standing → ℕ → MarkKind → Type 0
KeepsBoots s at (Boot number) = IsBootLegal s at number
KeepsBoots s at _ = Unit {0}

-- the boots of a history are counted
abbrev pub AreBootsCounted : Program → List Mark → Type 0
AreBootsCounted program marks = EachMark program (λ s mark. KeepsBoots s mark.at mark.kind) marks
