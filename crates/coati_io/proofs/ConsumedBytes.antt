-- Bytes that a source gave, one read after another, and how many they are.
use Rattle.std.proofs.Common.{◌≡◌, ℕ, ◌+◌, ◌≤◌, ◌↔◌, List, ◌++◌, length, take, drop, sym, ap, IfSome, arith, length-append, length-take, take-append-drop}
use Rattle.std.specs.Prelude.{Option, Some, None}
use Rattle.std.specs.Io.KnownBytes.{Consumes}
use Rattle.std.proofs.KnownBytes.{Consumes-trans}
use Rattle.std.proofs.lemmas.List.{take_at}
use Rattle.coati_io.specs.Ends.{ConsumesExactly, ConsumesAtMost}

-- two reads: the bytes of the first, and then those at the front of a buffer
pub given_more : (old mid new : Option (List ℕ)) (bytes buf : List ℕ) (n count : ℕ) → Consumes old mid bytes → Consumes mid new (take n buf) → n ≤ length buf
    → length bytes + n ≡ count → ConsumesExactly old new count
given_more old mid new bytes buf n count first second fits sum = record {
  bytes = bytes ++ take n buf;
  consumed = Consumes-trans old mid new bytes (take n buf) first second;
  count = omega (arith, length-append bytes (take n buf), length-take n buf);
}

-- an exact number of bytes is at most any greater number
pub at_most-exactly : (old new : Option (List ℕ)) (n max : ℕ) → ConsumesExactly old new n → n ≤ max → ConsumesAtMost old new max
at_most-exactly old new n max given few = record { bytes = given.bytes; consumed = given.consumed; count = omega (arith, given.count) }

-- an answer that tells of byte `max + 1`, where it was given
pub told-given : (old new : Option (List ℕ)) (max : ℕ) (P : Type 0) → P → ConsumesExactly old new (max + 1) → IfSome old (λ _. P ↔ ConsumesExactly old new (max + 1))
told-given None new max P p given = tt
told-given (Some left) new max P p given = (λ _. given, λ _. p)

-- an answer that does not, where it was not given
pub told-not_given : (old new : Option (List ℕ)) (max : ℕ) (P : Type 0) → (P → ⊥) → ConsumesAtMost old new max → IfSome old (λ _. P ↔ ConsumesExactly old new (max + 1))
told-not_given None new max P not given = tt
told-not_given (Some left) None max P not given = absurd given.consumed
told-not_given (Some left) (Some rest) max P not given = (
  λ p. absurd (not p),
  λ more. absurd (omega (arith, ap length given.consumed, ap length more.consumed, given.count, more.count, length-append given.bytes rest, length-append more.bytes rest)),
)

-- the front of what was left went to the front of a buffer
pub front-given : (left piece behind : List ℕ) (n : ℕ) → piece ≡ take n left → length piece ≡ n → left ≡ take n (piece ++ behind) ++ drop n left
front-given left piece behind n same count =
    rw (take_at piece behind n count, same) (sym (take-append-drop n left))
