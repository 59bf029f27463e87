-- The notes of a store in three parts: its word, its value, and then the store itself.
use Rattle.std.specs.Prelude.{ℕ, zero, suc, ◌≡◌}

-- what the parts before this one note
abbrev pub IsNoted : (noted_word noted_value word value part : ℕ) → Type 0
IsNoted noted_word noted_value word value zero = Unit {0}
IsNoted noted_word noted_value word value (suc zero) = noted_word ≡ word
IsNoted noted_word noted_value word value (suc (suc part)) = (noted_word ≡ word)
    × (noted_value ≡ value)
