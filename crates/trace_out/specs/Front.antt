-- What stands at the front of a text, and what stands behind it.
use Rattle.std.specs.Prelude.{ℕ, List, [], ◌∷◌, Option, Some, None, Result, Ok, Err, drop, length, take, if◌then◌else◌}
use Rattle.std.specs.Option.{option_map}
use Rattle.std.specs.List.{prefix_len}
use Rattle.std.specs.Str.{bytes_eq}
use Rattle.coati_text.specs.Decimal.{decimal_at, digit_count}
use Rattle.coati_text.specs.declared.cursor.NumFault.{NumFault}
use Rattle.task_lex.specs.Byte.{is_name_byte}

infixl 10 ◌>>=◌
-- goes on with what was found, where something was
abbrev pub ◌>>=◌ : {A B : Type 0} → Option A → (A → Option B) → Option B
None >>= f = None
(Some x) >>= f = f x

-- what stands behind the word, where the text begins with it
unfoldable pub behind : List ℕ → List ℕ → Option (List ℕ)
behind word text =
    if bytes_eq (take (length word) text) word then Some (drop (length word) text) else None

-- the value, where nothing stands behind it
abbrev pub alone : {A : Type 0} → A → List ℕ → Option A
alone x [] = Some x
alone x (byte ∷ text) = None

-- the number that was read, if any was
abbrev pub number_read : Result ℕ NumFault → Option ℕ
number_read (Ok number) = Some number
number_read (Err fault) = None

-- the number whose decimal stands there, if it is at most `most`
unfoldable pub number_at : ℕ → List ℕ → Option (ℕ × List ℕ)
number_at most text =
    option_map (λ number. (number, drop (digit_count text) text))
    (number_read (decimal_at most text))

-- the same, with nothing behind it
unfoldable pub last_number : ℕ → List ℕ → Option ℕ
last_number most text = do
  number ← number_at most text
  alone number.0 number.1

-- how many bytes of a name stand there
abbrev pub name_len : List ℕ → ℕ
name_len text = prefix_len is_name_byte text

-- the longest run of letters, digits and `_`
abbrev pub name_at : List ℕ → List ℕ
name_at text = take (name_len text) text

-- what stands behind it
abbrev pub behind_name : List ℕ → List ℕ
behind_name text = drop (name_len text) text
