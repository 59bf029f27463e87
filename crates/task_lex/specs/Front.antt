-- What was found at the front of a text.
use Rattle.std.specs.Prelude.{ℕ, ◌<◌, ◌≤◌, List, take, drop}
use Rattle.task_lex.specs.Reading.{IsBadByte, IsGap}
use Rattle.task_lex.specs.Token.{IsBadNumber, IsToken}
use Rattle.task_lex.specs.declared.front.Front.{Front}
use Rattle.task_lex.specs.declared.front.Front.TheVariants as front

-- what was found stands there
abbrev pub Stands : List ℕ → Front → Type 0
Stands text (front.Gap len) = IsGap (take len text) (drop len text)
Stands text (front.Token kind len) = IsToken kind (take len text) (drop len text)
Stands text front.BadByte = IsBadByte text
Stands text front.BadNumber = IsBadNumber text

-- what was found has bytes, and no more than there are
abbrev pub Takes : ℕ → Front → Type 0
Takes most (front.Gap len) = (0 < len) × (len ≤ most)
Takes most (front.Token kind len) = (0 < len) × (len ≤ most)
Takes most _ = Unit {0}
