-- The gaps at the front of a text.
use Rattle.std.proofs.Common.{◌≡◌, ℕ, ◌<◌, true, List, [], ◌∷◌, get_or, length, take, drop, refl, subst, sym, arith}
use Rattle.std.specs.List.{prefix_len}
use Rattle.task_lex.specs.Byte.{hash, is_blank, is_in_comment}
use Rattle.task_lex.specs.Reading.{IsGap, blank, comment}
use Rattle.task_lex.proofs.Runs.{list_all-run, begins-behind_run, next_byte}

pub IsGap-blank : (text : List ℕ) → 0 < length text → is_blank (get_or text 0 0) ≡ true → IsGap (take 1 text) (drop 1 text)
IsGap-blank [] some is = absurd (omega arith)
IsGap-blank (byte ∷ text) some is = blank byte text is

comment_of : (first : ℕ) (text : List ℕ) → first ≡ hash → IsGap (first ∷ take (prefix_len is_in_comment text) text) (drop (prefix_len is_in_comment text) text)
comment_of first text is =
    let P : ℕ → Type 0 = λ byte. IsGap (byte ∷ take (prefix_len is_in_comment text) text) (drop (prefix_len is_in_comment text) text) in
    subst P (sym is) (comment (take (prefix_len is_in_comment text) text) (drop (prefix_len is_in_comment text) text) (list_all-run is_in_comment text) (begins-behind_run is_in_comment text))

pub IsGap-comment : (text : List ℕ) → 0 < length text → get_or text 0 0 ≡ hash → IsGap (take (prefix_len is_in_comment text) text) (drop (prefix_len is_in_comment text) text)
IsGap-comment [] some is = absurd (omega arith)
IsGap-comment (first ∷ text) some is =
    let next = next_byte first (prefix_len is_in_comment text) text in
    let inside : is_in_comment first ≡ true = rw is refl in
    rw (inside, next.0, next.1) (comment_of first text is)
