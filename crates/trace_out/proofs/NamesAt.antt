-- The texts of tasks and words, by number.
use Rattle.std.proofs.Common.{◌≡◌, ℕ, zero, suc, ◌+◌, ◌-◌, ◌<◌, List, [], ◌∷◌, ◌++◌}
use Rattle.std.proofs.Common.{length, map, get_or, refl, ap, sym, ◌∙◌, inl, inr, append_assoc}
use Rattle.std.proofs.Common.{arith}
use Rattle.std.specs.Prelude.{flat_map, nat_le, slice_get, if◌then◌else◌}
use Rattle.std.specs.Option.{option_map_or}
use Rattle.std.proofs.lemmas.List.{get_or_append_left, get_or-append-add, map-append}
use Rattle.std.proofs.lemmas.Bool.{cases_Bool}
use Rattle.std.proofs.lemmas.Bool.Decides.{nat_tests}
use Rattle.task_syntax.specs.declared.program.Var.{Var}
use Rattle.task_syntax.specs.Names.{count_of}
use Rattle.trace_out.specs.declared.labels.Label.{Label}
use Rattle.trace_out.specs.Labels.{label_at, label_text}
use Rattle.trace_out.specs.Names.{index_text, texts_from, texts_of_words, word_text}

-- of what has texts, where all of them are known
text_at_is : {A : Type 0} (text : A → List ℕ) (things : List A) (number : ℕ)
    → option_map_or text (slice_get things number) [] ≡ get_or (map text things) number []
text_at_is text [] number = refl
text_at_is text (thing ∷ more) zero = refl
text_at_is text (thing ∷ more) (suc number) = text_at_is text more number

-- where the texts are the same, so is the one of each number
pub same_text_at : {A B : Type 0} (text : A → List ℕ) (other : B → List ℕ) (things : List A)
    (others : List B) → map text things ≡ map other others → (number : ℕ)
    → option_map_or text (slice_get things number) [] ≡ option_map_or other
    (slice_get others number) []
same_text_at text other things others same number =
    text_at_is text things number
    ∙ ap (λ (texts : List (List ℕ)). get_or texts number []) same
    ∙ sym (text_at_is other others number)

-- within a variable
text_within : (index count : ℕ) (var : Var) (number at : ℕ) → number < count → at ≡ index + number
    → get_or (texts_from index count var) number [] ≡ var.name.text ++ index_text var.length at
text_within index zero var number at within is = absurd (omega arith)
text_within index (suc count) var zero at within is =
    let same : index ≡ at = omega arith in
    ap (λ (i : ℕ). var.name.text ++ index_text var.length i) same
text_within index (suc count) var (suc number) at within is =
    text_within (suc index) count var number at (omega arith) (omega arith)

length-texts : (index count : ℕ) (var : Var) → length (texts_from index count var) ≡ count
length-texts index zero var = refl
length-texts index (suc count) var = ap suc (length-texts (suc index) count var)

-- of variables, one of which comes first
text_first : (count : ℕ) (first more : List (List ℕ)) (here there : List ℕ) (word : ℕ)
    → length first ≡ count → (word < count → get_or first word [] ≡ here)
    → get_or more (word - count) [] ≡ there
    → get_or (first ++ more) word [] ≡ (if nat_le count word then there else here)
text_first count first more here there word is early late = elim (cases_Bool (nat_le count word)) [
  | inl past ↦
      let at : length first + (word - count) ≡ word = grind (arith, nat_tests) in
      rw past (ap (λ (w : ℕ). get_or (first ++ more) w []) (sym at)
      ∙ get_or-append-add first more (word - count) [] ∙ late)
  | inr before ↦
      let within : word < count = grind (arith, nat_tests) in
      let inside : word < length first = omega arith in
      rw before (get_or_append_left first more [] word inside ∙ early within)
]

-- of all words
word_at_is : (vars : List Var) (word : ℕ)
    → get_or (flat_map texts_of_words vars) word [] ≡ word_text vars word
word_at_is [] word = refl
word_at_is (var ∷ more) word =
    let count : ℕ = count_of var.length in
    text_first count (texts_of_words var) (flat_map texts_of_words more)
    (var.name.text ++ index_text var.length word) (word_text more (word - count)) word
    (length-texts 0 count var) (λ within. text_within 0 count var word word within (omega arith))
    (word_at_is more (word - count))

-- where labels have the texts of all words
pub same_word_at : (labels : List Label) (vars : List Var)
    → map label_text labels ≡ flat_map texts_of_words vars → (word : ℕ)
    → label_at labels word ≡ word_text vars word
same_word_at labels vars same word =
    text_at_is label_text labels word
    ∙ ap (λ (texts : List (List ℕ)). get_or texts word []) same ∙ word_at_is vars word

-- a word more of a variable: behind it those that are left go on
pub one_word_more : (var : Var) (count index : ℕ) (label : Label) (old new : List Label)
    (whole : List (List ℕ)) → index < count → new ≡ old ++ label ∷ []
    → label_text label ≡ var.name.text ++ index_text var.length index
    → map label_text old ++ texts_from index (count - index) var ≡ whole
    → map label_text new ++ texts_from (index + 1) (count - (index + 1)) var ≡ whole
one_word_more var count index label old new whole within put is before =
    let more : ℕ = count - (index + 1) in
    let after : ℕ = index + 1 in
    let left_is : count - index ≡ suc more = omega arith in
    let after_is : after ≡ suc index = omega arith in
    let texts : map label_text new ≡ map label_text old ++ label_text label ∷ [] =
    ap (map label_text) put ∙ map-append label_text old (label ∷ []) in
    let here : texts_from index (count - index) var
    ≡ label_text label ∷ texts_from after more var =
    rw (left_is, after_is, is) refl in
    ap (λ (t : List (List ℕ)). t ++ texts_from after more var) texts
    ∙ append_assoc (map label_text old) (label_text label ∷ []) (texts_from after more var)
    ∙ ap (λ (t : List (List ℕ)). map label_text old ++ t) (sym here) ∙ before
