-- Operands, which are kept with the last one at the end, and seen with the last one first.
use Rattle.std.proofs.Common.{◌≡◌, ℕ, ◌-◌, ◌<◌, List, [], ◌∷◌, length, take, drop, reverse, refl, sym, ap, ◌∙◌, arith}
use Rattle.std.specs.Prelude.{slice_index_or}
use Rattle.std.proofs.lemmas.List.{get_or-reverse, take_rest, take-append-drop, drop_at, length-drop, reverse-append, reverse-reverse, length-reverse}
use Rattle.word_code.specs.Machine.{top, below}

second_of : (words : List ℕ) → top (below words) ≡ slice_index_or words 1 0
second_of [] = refl
second_of (word ∷ []) = refl
second_of (word ∷ other ∷ words) = refl

pub second_last : (words : List ℕ) → 1 < length words → slice_index_or words (length words - 2) 0 ≡ top (below (reverse words))
second_last words there =
    let same : length words - 1 - 1 ≡ length words - 2 = omega arith in
    sym (second_of (reverse words) ∙ get_or-reverse words 1 0 there ∙ ap (λ (i : ℕ). slice_index_or words i 0) same)

back_of_reverse : (count : ℕ) (words : List ℕ) → drop (length words - count) (reverse words) ≡ reverse (take count words)
back_of_reverse count words =
    ap (λ (w : List ℕ). drop (length words - count) (reverse w)) (sym (take-append-drop count words))
    ∙ ap (drop (length words - count)) (reverse-append (take count words) (drop count words))
    ∙ drop_at (reverse (drop count words)) (reverse (take count words)) (length words - count) (length-reverse (drop count words) ∙ length-drop count words)

pub last_operands : (count : ℕ) (words : List ℕ) → take (length words - (length words - count)) (drop (length words - count) words) ≡ reverse (take count (reverse words))
last_operands count words =
    take_rest words (length words - count)
    ∙ ap (λ (w : List ℕ). drop (length words - count) w) (sym (reverse-reverse words))
    ∙ ap (λ (n : ℕ). drop (n - count) (reverse (reverse words))) (sym (length-reverse words))
    ∙ back_of_reverse count (reverse words)
