-- Bytes that a sink took, one write after another.
use Rattle.std.proofs.Common.{ℕ, ◌+◌, List, take, drop, sym, subst, take-add}
use Rattle.std.specs.Prelude.{Option}
use Rattle.std.specs.Io.KnownBytes.{Appends}
use Rattle.std.proofs.KnownBytes.{Appends-trans}

-- a front of a text, and then a front of the rest
pub appended_more : (old mid new : Option (List ℕ)) (text : List ℕ) (sent n : ℕ) → Appends old mid (take sent text) → Appends mid new (take n (drop sent text))
    → Appends old new (take (sent + n) text)
appended_more old mid new text sent n first second =
    subst (Appends old new) (sym (take-add sent n text)) (Appends-trans old mid new (take sent text) (take n (drop sent text)) first second)
