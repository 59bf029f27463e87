-- What a person trips over, told from the line of a fault.
use Rattle.std.specs.Prelude.{ℕ, ◌-◌, ◌==◌, ◌&&◌, ◌||◌, Bool, List, [], ◌∷◌, bytes_eq, codes, length, not, slice_index, if◌then◌else◌}
use Rattle.std.specs.List.{list_all}
use Rattle.coati_top.specs.Divided.{percent}
use Rattle.coati_explain.specs.declared.hint.Hint.{Hint}
use Rattle.task_lex.specs.Byte.{carriage_return, space, tab}
use Rattle.coati_explain.specs.declared.hint.Hint.TheVariants as hint

-- a space, a tab or a CR: the blanks of a line
abbrev pub is_line_blank : ℕ → Bool
is_line_blank byte = byte == space || byte == tab || byte == carriage_return

-- the bytes are blanks, one at least
abbrev pub are_blanks : List ℕ → Bool
are_blanks bytes = not (length bytes == 0) && list_all is_line_blank bytes

-- of what stands behind `%%` in a line
abbrev pub behind_hint : List ℕ → Hint
behind_hint more =
    if bytes_eq more (carriage_return ∷ []) then hint.ReturnBehind
    else (if are_blanks more then hint.BlanksBehind else hint.Nothing)

-- the line that ends a source has blanks behind its `%%`
abbrev pub divider_hint : List ℕ → Hint
divider_hint [] = hint.Nothing
divider_hint (a ∷ []) = hint.Nothing
divider_hint (a ∷ b ∷ more) = if a == percent && b == percent then behind_hint more
    else hint.Nothing

-- the line's last byte is a CR
abbrev pub ends_with_return : List ℕ → Bool
ends_with_return line = slice_index line (length line - 1) == carriage_return

-- a CR at the end of a line of a trace is a byte of its last field
abbrev pub return_hint : List ℕ → Hint
return_hint line = if ends_with_return line then hint.ReturnBehind else hint.Nothing

abbrev pub hint_text : Hint → List ℕ
hint_text hint.Nothing = []
hint_text hint.ReturnBehind =
    codes "a CR stands at the end of this line: save the input with LF alone behind its lines\n"
hint_text hint.BlanksBehind =
    codes "the line that ends a source is `%%` alone: take away the blanks behind it\n"
