-- The first line of a text that is exactly `%%`, and what stands around it.
use Rattle.std.proofs.Common.{◌≡◌, ◌≢◌, ℕ, ◌+◌, suc, Bool, true, false, List, [], ◌∷◌, ◌++◌, length, take, drop, refl, sym, ap, subst, ◌∙◌, inl, inr, drop-drop, drop_of_length-le, arith}
use Rattle.std.specs.Prelude.{◌==◌, ◌&&◌, ◌⊎◌}
use Rattle.std.specs.List.{All}
use Rattle.std.proofs.lemmas.Bool.{cases_Bool, and_parts, eqb-true}
use Rattle.std.proofs.lemmas.Bool.Decides.{eqb_tells}
use Rattle.std.proofs.lemmas.List.{take-append-drop, take_all}
use Rattle.std.proofs.lemmas.List.Elements.{All-nil, All-cons}
use Rattle.std.proofs.Math.Seq.{take-append_seam, drop-append-add}
use Rattle.coati_text.specs.Line.{line_feed, with_front, lines_of}
use Rattle.coati_top.specs.Divided.{begins_divider, source_length_from, source_length, source_part, second_part, divider, HasNoDivider, HasEnds, empty, ended, IsDivided, at_line, at_last, nowhere}

abbrev IsOther : List ℕ → Type 0
IsOther line = line ≢ divider

-- the lines behind the first
abbrev others : List (List ℕ) → List (List ℕ)
others [] = []
others (line ∷ lines) = lines

-- the lines that begin in a text, where one begins at its front or doesn't
abbrev lines_in : Bool → List (List ℕ) → List (List ℕ)
lines_in true lines = lines
lines_in false lines = others lines

-- no line that begins in the text is `%%`
abbrev HasNone : Bool → List ℕ → Type 0
HasNone begins text = All IsOther (lines_in begins (lines_of text))

-- the text ends with an end of a line
abbrev IsEnded : List ℕ → Type 0
IsEnded text = (front : List ℕ) × (text ≡ front ++ line_feed ∷ [])

-- the text ends with an end of a line, or is empty where a line begins at its front
abbrev EndsAt : Bool → List ℕ → Type 0
EndsAt true text = HasEnds text
EndsAt false text = IsEnded text

IsOther-tail : (line : List ℕ) (lines : List (List ℕ)) → All IsOther (line ∷ lines) → All IsOther lines
IsOther-tail line lines all = λ k d below. all (suc k) d (omega arith)

others-with_front : (byte : ℕ) (lines : List (List ℕ)) → others (with_front byte lines) ≡ others lines
others-with_front byte [] = refl
others-with_front byte (line ∷ lines) = refl

others-tail : (lines : List (List ℕ)) → All IsOther lines → All IsOther (others lines)
others-tail [] all = all
others-tail (line ∷ lines) all = IsOther-tail line lines all

lines_of-feed : (byte : ℕ) (text : List ℕ) → (byte == 10) ≡ true → lines_of (byte ∷ text) ≡ [] ∷ lines_of text
lines_of-feed byte text test = rw test refl

lines_of-letter : (byte : ℕ) (text : List ℕ) → (byte == 10) ≡ false → lines_of (byte ∷ text) ≡ with_front byte (lines_of text)
lines_of-letter byte text test = rw test refl

-- the text is the line `%%` without an end, or begins with one
abbrev StartsDivider : List ℕ → Type 0
StartsDivider text = (text ≡ 37 ∷ 37 ∷ []) ⊎ ((rest : List ℕ) × (text ≡ 37 ∷ 37 ∷ 10 ∷ rest))

StartsDivider-from : (text : List ℕ) → begins_divider text ≡ true → StartsDivider text
StartsDivider-from [] is = absurd cc
StartsDivider-from (a ∷ []) is = absurd cc
StartsDivider-from (a ∷ b ∷ []) is =
    let parts = and_parts (a == 37) (b == 37) is in
    let first = eqb-true a 37 parts.0 in
    let second = eqb-true b 37 parts.1 in
    inl cc
StartsDivider-from (a ∷ b ∷ c ∷ more) is =
    let parts = and_parts ((a == 37) && (b == 37)) (c == 10) is in
    let front = and_parts (a == 37) (b == 37) parts.0 in
    let first = eqb-true a 37 front.0 in
    let second = eqb-true b 37 front.1 in
    let third = eqb-true c 10 parts.1 in
    inr (more, cc)

-- no text without such a line begins with one
no_divider : (text : List ℕ) → HasNone true text → begins_divider text ≡ true → ⊥
no_divider text none begins = elim (StartsDivider-from text begins) [
  | inl is ↦ let none' = subst (HasNone true) is none in none' 0 [] (omega arith) refl
  | inr (rest, is) ↦ let none' = subst (HasNone true) is none in none' 0 [] (omega arith) refl
]

-- one byte: the line begins here, or the search goes on
source_length-step : (begins : Bool) (byte : ℕ) (more : List ℕ)
    → ((begins ≡ true) × (begins_divider (byte ∷ more) ≡ true) × (source_length_from begins (byte ∷ more) ≡ 0))
    ⊎ (((begins && begins_divider (byte ∷ more)) ≡ false) × (source_length_from begins (byte ∷ more) ≡ suc (source_length_from (byte == 10) more)))
source_length-step begins byte more = elim (cases_Bool (begins && begins_divider (byte ∷ more))) [
  | inl here ↦ let parts = and_parts begins (begins_divider (byte ∷ more)) here in inl (parts.0, parts.1, rw here refl)
  | inr on ↦ inr (on, rw on (omega arith))
]

HasEnds-of : (begins : Bool) (text : List ℕ) → IsEnded text → EndsAt begins text
HasEnds-of true text is = ended is.0 is.1
HasEnds-of false text is = is

IsEnded-cons : (byte : ℕ) (text : List ℕ) → EndsAt (byte == 10) text → IsEnded (byte ∷ text)
IsEnded-cons byte text ends = elim (eqb_tells byte 10) [
  | inl (test, same) ↦ elim (subst (λ (b : Bool). EndsAt b text) test ends) [
    | empty none ↦ let last : byte ∷ text ≡ 10 ∷ [] = cc in ([], last)
    | ended front is ↦ (byte ∷ front, ap (λ (xs : List ℕ). byte ∷ xs) is)
  ]
  | inr (test, other) ↦ let is = subst (λ (b : Bool). EndsAt b text) test ends in (byte ∷ is.0, ap (λ (xs : List ℕ). byte ∷ xs) is.1)
]

IsEnded-tail : (byte : ℕ) (text front : List ℕ) → byte ∷ text ≡ front ++ 10 ∷ [] → EndsAt (byte == 10) text
IsEnded-tail byte text [] is =
    let same : byte ≡ 10 = cc in
    let none : text ≡ [] = cc in
    subst (λ (b : ℕ). EndsAt (b == 10) text) (sym same) (empty none)
IsEnded-tail byte text (x ∷ front) is =
    let rest : text ≡ front ++ 10 ∷ [] = cc in
    HasEnds-of (byte == 10) text (front, rest)

-- where the search stops, such a line stands behind whole lines
stops : (begins : Bool) (text : List ℕ)
    → (source_length_from begins text ≡ length text)
    ⊎ ((begins_divider (drop (source_length_from begins text) text) ≡ true) × EndsAt begins (take (source_length_from begins text) text))
stops begins [] = inl refl
stops begins (byte ∷ more) = elim (source_length-step begins byte more) [
  | inl (at_front, is, none) ↦ inr (rw none is, rw (none, at_front) (empty refl))
  | inr (on, is) ↦ elim (stops (byte == 10) more) [
    | inl whole ↦ inl (is ∙ ap suc whole)
    | inr (begun, ends) ↦ inr (rw is begun, rw is (HasEnds-of begins (byte ∷ take (source_length_from (byte == 10) more) more) (IsEnded-cons byte (take (source_length_from (byte == 10) more) more) ends)))
  ]
]

two_letters : (x y : ℕ) (left lines : List (List ℕ)) → with_front x (with_front y left) ≡ (37 ∷ []) ∷ lines → ⊥
two_letters x y [] lines is = cc
two_letters x y (line ∷ left) lines is = cc

-- what a text whose first line is `%` begins with
one_percent : (text : List ℕ) (lines : List (List ℕ)) → lines_of text ≡ (37 ∷ []) ∷ lines → (text ≡ 37 ∷ []) ⊎ ((rest : List ℕ) × (text ≡ 37 ∷ 10 ∷ rest))
one_percent [] lines is = absurd cc
one_percent (x ∷ []) lines is = elim (eqb_tells x 10) [
  | inl (test, same) ↦ let e : [] ∷ [] ≡ (37 ∷ []) ∷ lines = rw test at is in absurd cc
  | inr (test, other) ↦ let e : (x ∷ []) ∷ [] ≡ (37 ∷ []) ∷ lines = rw test at is in inl cc
]
one_percent (x ∷ y ∷ text) lines is = elim (eqb_tells x 10) [
  | inl (test, same) ↦ let e : [] ∷ lines_of (y ∷ text) ≡ (37 ∷ []) ∷ lines = rw test at is in absurd cc
  | inr (test, other) ↦ let e : with_front x (lines_of (y ∷ text)) ≡ (37 ∷ []) ∷ lines = rw test at is in elim (eqb_tells y 10) [
    | inl (ends, feed) ↦ let f : (x ∷ []) ∷ lines_of text ≡ (37 ∷ []) ∷ lines = rw ends at e in inr (text, cc)
    | inr (goes, letter) ↦ let f : with_front x (with_front y (lines_of text)) ≡ (37 ∷ []) ∷ lines = rw goes at e in absurd (two_letters x y (lines_of text) lines f)
  ]
]

not_ended : (front : List ℕ) → 37 ∷ [] ≡ front ++ 10 ∷ [] → ⊥
not_ended [] is = cc
not_ended (x ∷ []) is = cc
not_ended (x ∷ y ∷ front) is = cc

-- a first line `%` that the search passed shows that no line `%%` begins one byte before it
no_percent : (more : List ℕ) (lines : List (List ℕ)) → lines_of (take (source_length_from false more) more) ≡ (37 ∷ []) ∷ lines → begins_divider (37 ∷ more) ≡ true
no_percent more lines is =
    let front = take (source_length_from false more) more in
    let whole : front ++ drop (source_length_from false more) more ≡ more = take-append-drop (source_length_from false more) more in
    elim (one_percent front lines is) [
      | inl last ↦ elim (stops false more) [
        | inl all ↦ let e : more ≡ 37 ∷ [] = sym (take_all (source_length_from false more) more (omega arith)) ∙ last in rw e refl
        | inr (begun, ends) ↦ absurd (not_ended ends.0 (sym last ∙ ends.1))
      ]
      | inr (rest, begins) ↦ let e : more ≡ 37 ∷ 10 ∷ (rest ++ drop (source_length_from false more) more) = sym whole ∙ ap (λ (xs : List ℕ). xs ++ drop (source_length_from false more) more) begins in rw e refl
    ]

joined : (byte : ℕ) (more : List ℕ) → begins_divider (byte ∷ more) ≡ false → (lines : List (List ℕ)) → lines_of (take (source_length_from false more) more) ≡ lines → All IsOther (others lines) → All IsOther (with_front byte lines)
joined byte more on [] are rest = All-cons IsOther (byte ∷ []) [] (λ e. cc) rest
joined byte more on (line ∷ lines) are rest = All-cons IsOther (byte ∷ line) lines
    (λ e. let percent : byte ≡ 37 = cc in
    let one : line ≡ 37 ∷ [] = cc in
    let begins = no_percent more lines (are ∙ ap (λ (l : List ℕ). l ∷ lines) one) in
    let here : begins_divider (byte ∷ more) ≡ true = ap (λ (b : ℕ). begins_divider (b ∷ more)) percent ∙ begins in
    cc)
    rest

-- an end of a line in front
HasNone-feed : (begins : Bool) (byte : ℕ) (text : List ℕ) → (byte == 10) ≡ true → All IsOther (lines_of text) → HasNone begins (byte ∷ text)
HasNone-feed true byte text test all = subst (All IsOther) (sym (lines_of-feed byte text test)) (All-cons IsOther [] (lines_of text) (λ e. cc) all)
HasNone-feed false byte text test all = subst (λ (lines : List (List ℕ)). All IsOther (others lines)) (sym (lines_of-feed byte text test)) all

-- another byte in front, with which no such line begins
HasNone-letter : (begins : Bool) (byte : ℕ) (more : List ℕ) → (byte == 10) ≡ false → (begins && begins_divider (byte ∷ more)) ≡ false
    → All IsOther (others (lines_of (take (source_length_from false more) more))) → HasNone begins (byte ∷ take (source_length_from false more) more)
HasNone-letter true byte more test on all = subst (All IsOther) (sym (lines_of-letter byte (take (source_length_from false more) more) test)) (joined byte more on (lines_of (take (source_length_from false more) more)) refl all)
HasNone-letter false byte more test on all =
    subst (λ (lines : List (List ℕ)). All IsOther (others lines)) (sym (lines_of-letter byte (take (source_length_from false more) more) test))
    (subst (All IsOther) (sym (others-with_front byte (lines_of (take (source_length_from false more) more)))) all)

-- one more byte in front, with which no such line begins
HasNone-cons : (begins : Bool) (byte : ℕ) (more : List ℕ) → (begins && begins_divider (byte ∷ more)) ≡ false
    → HasNone (byte == 10) (take (source_length_from (byte == 10) more) more) → HasNone begins (byte ∷ take (source_length_from (byte == 10) more) more)
HasNone-cons begins byte more on none = elim (cases_Bool (byte == 10)) [
  | inl test ↦ HasNone-feed begins byte (take (source_length_from (byte == 10) more) more) test (subst (λ (b : Bool). All IsOther (lines_in b (lines_of (take (source_length_from (byte == 10) more) more)))) test none)
  | inr test ↦ subst (λ (b : Bool). HasNone begins (byte ∷ take (source_length_from b more) more)) (sym test)
      (HasNone-letter begins byte more test on (subst (λ (b : Bool). HasNone b (take (source_length_from b more) more)) test none))
]

-- the search passes no such line
none_before : (begins : Bool) (text : List ℕ) → HasNone begins (take (source_length_from begins text) text)
none_before true [] = All-nil IsOther
none_before false [] = All-nil IsOther
none_before begins (byte ∷ more) = elim (source_length-step begins byte more) [
  | inl (at_front, is, none) ↦ rw (none, at_front) (All-nil IsOther)
  | inr (on, is) ↦ rw is (HasNone-cons begins byte more on (none_before (byte == 10) more))
]

HasNone-behind_feed : (begins : Bool) (byte : ℕ) (text : List ℕ) → (byte == 10) ≡ true → HasNone begins (byte ∷ text) → All IsOther (lines_of text)
HasNone-behind_feed true byte text test none = IsOther-tail [] (lines_of text) (subst (All IsOther) (lines_of-feed byte text test) none)
HasNone-behind_feed false byte text test none = subst (λ (lines : List (List ℕ)). All IsOther (others lines)) (lines_of-feed byte text test) none

HasNone-behind_letter : (begins : Bool) (byte : ℕ) (text : List ℕ) → (byte == 10) ≡ false → HasNone begins (byte ∷ text) → All IsOther (others (lines_of text))
HasNone-behind_letter true byte text test none =
    subst (All IsOther) (others-with_front byte (lines_of text)) (others-tail (with_front byte (lines_of text)) (subst (All IsOther) (lines_of-letter byte text test) none))
HasNone-behind_letter false byte text test none =
    subst (All IsOther) (others-with_front byte (lines_of text)) (subst (λ (lines : List (List ℕ)). All IsOther (others lines)) (lines_of-letter byte text test) none)

-- what has no such line has none behind its first byte
HasNone-tail : (begins : Bool) (byte : ℕ) (text : List ℕ) → HasNone begins (byte ∷ text) → HasNone (byte == 10) text
HasNone-tail begins byte text none = elim (cases_Bool (byte == 10)) [
  | inl test ↦ subst (λ (b : Bool). HasNone b text) (sym test) (HasNone-behind_feed begins byte text test none)
  | inr test ↦ subst (λ (b : Bool). HasNone b text) (sym test) (HasNone-behind_letter begins byte text test none)
]

-- whole lines with an end begin with `%%` only where one of them is that line
ended_divider : (source tail front : List ℕ) → source ≡ front ++ 10 ∷ [] → HasNone true source → StartsDivider (source ++ tail) → ⊥
ended_divider source tail [] is none (inl both) = let e : 10 ∷ tail ≡ 37 ∷ 37 ∷ [] = sym (ap (λ (s : List ℕ). s ++ tail) is) ∙ both in cc
ended_divider source tail [] is none (inr (rest, both)) = let e : 10 ∷ tail ≡ 37 ∷ 37 ∷ 10 ∷ rest = sym (ap (λ (s : List ℕ). s ++ tail) is) ∙ both in cc
ended_divider source tail (a ∷ []) is none (inl both) = let e : a ∷ 10 ∷ tail ≡ 37 ∷ 37 ∷ [] = sym (ap (λ (s : List ℕ). s ++ tail) is) ∙ both in cc
ended_divider source tail (a ∷ []) is none (inr (rest, both)) = let e : a ∷ 10 ∷ tail ≡ 37 ∷ 37 ∷ 10 ∷ rest = sym (ap (λ (s : List ℕ). s ++ tail) is) ∙ both in cc
ended_divider source tail (a ∷ b ∷ []) is none (inl both) = let e : a ∷ b ∷ 10 ∷ tail ≡ 37 ∷ 37 ∷ [] = sym (ap (λ (s : List ℕ). s ++ tail) is) ∙ both in cc
ended_divider source tail (a ∷ b ∷ []) is none (inr (rest, both)) =
    let e : a ∷ b ∷ 10 ∷ tail ≡ 37 ∷ 37 ∷ 10 ∷ rest = sym (ap (λ (s : List ℕ). s ++ tail) is) ∙ both in
    let whole : source ≡ 37 ∷ 37 ∷ 10 ∷ [] = cc in
    let none' = subst (HasNone true) whole none in none' 0 [] (omega arith) refl
ended_divider source tail (a ∷ b ∷ c ∷ front) is none (inl both) = let e : a ∷ b ∷ c ∷ ((front ++ 10 ∷ []) ++ tail) ≡ 37 ∷ 37 ∷ [] = sym (ap (λ (s : List ℕ). s ++ tail) is) ∙ both in cc
ended_divider source tail (a ∷ b ∷ c ∷ front) is none (inr (rest, both)) =
    let e : a ∷ b ∷ c ∷ ((front ++ 10 ∷ []) ++ tail) ≡ 37 ∷ 37 ∷ 10 ∷ rest = sym (ap (λ (s : List ℕ). s ++ tail) is) ∙ both in
    let whole : source ≡ 37 ∷ 37 ∷ 10 ∷ (front ++ 10 ∷ []) = cc in
    let none' = subst (HasNone true) whole none in none' 0 [] (omega arith) refl

EndsAt-tail : (begins : Bool) (byte : ℕ) (text : List ℕ) → EndsAt begins (byte ∷ text) → (front : List ℕ) × (byte ∷ text ≡ front ++ 10 ∷ [])
EndsAt-tail true byte text (empty is) = absurd cc
EndsAt-tail true byte text (ended front is) = (front, is)
EndsAt-tail false byte text is = is

no_front : (front : List ℕ) → [] ≡ front ++ 10 ∷ [] → ⊥
no_front [] is = cc
no_front (x ∷ front) is = cc

-- the search stops behind such a source
length_at : (begins : Bool) (source tail : List ℕ) → HasNone begins source → EndsAt begins source → begins_divider tail ≡ true → source_length_from begins (source ++ tail) ≡ length source
length_at true [] [] none ends begun = refl
length_at true [] (byte ∷ tail) none ends begun = rw begun refl
length_at false [] tail none ends begun = absurd (no_front ends.0 ends.1)
length_at begins (byte ∷ more) tail none ends begun =
    let is = EndsAt-tail begins byte more ends in
    elim (source_length-step begins byte (more ++ tail)) [
      | inl (at_front, starts, zero_is) ↦ absurd (ended_divider (byte ∷ more) tail is.0 is.1 (subst (λ (b : Bool). HasNone b (byte ∷ more)) at_front none) (StartsDivider-from (byte ∷ more ++ tail) starts))
      | inr (on, length_is) ↦ length_is ∙ ap suc (length_at (byte == 10) more tail (HasNone-tail begins byte more none) (IsEnded-tail byte more is.0 is.1) begun)
    ]

-- the search finds no end of a text without such a line
length_all : (begins : Bool) (text : List ℕ) → HasNone begins text → source_length_from begins text ≡ length text
length_all begins [] none = refl
length_all begins (byte ∷ more) none = elim (source_length-step begins byte more) [
  | inl (at_front, is, zero_is) ↦ absurd (no_divider (byte ∷ more) (subst (λ (b : Bool). HasNone b (byte ∷ more)) at_front none) is)
  | inr (on, is) ↦ is ∙ ap suc (length_all (byte == 10) more (HasNone-tail begins byte more none))
]

-- the parts that the search gives divide the input
pub IsDivided-parts : (input : List ℕ) → IsDivided input (source_part input) (second_part input)
IsDivided-parts input = elim (stops true input) [
  | inl whole ↦
      let all : source_part input ≡ input = take_all (source_length input) input (omega arith) in
      nowhere (subst HasNoDivider all (none_before true input)) all (drop_of_length-le input (omega arith))
  | inr (begun, ends) ↦
      let none = none_before true input in
      let split : source_part input ++ drop (source_length input) input ≡ input = take-append-drop (source_length input) input in
      let behind : second_part input ≡ drop 3 (drop (source_length input) input) = sym (drop-drop 3 (source_length input) input) in
      elim (StartsDivider-from (drop (source_length input) input) begun) [
        | inl last ↦ at_last none ends (sym split ∙ ap (λ (xs : List ℕ). source_part input ++ xs) last) (behind ∙ ap (drop 3) last)
        | inr (rest, line) ↦
            let second : second_part input ≡ rest = behind ∙ ap (drop 3) line in
            at_line none ends (sym split ∙ ap (λ (xs : List ℕ). source_part input ++ xs) (line ∙ ap (λ (xs : List ℕ). 37 ∷ 37 ∷ 10 ∷ xs) (sym second)))
      ]
]

same_parts : (input source tail : List ℕ) → input ≡ source ++ tail → HasNoDivider source → HasEnds source → begins_divider tail ≡ true
    → (source ≡ source_part input) × (drop 3 tail ≡ second_part input)
same_parts input source tail is none ends begun =
    let stop : source_length input ≡ length source = ap source_length is ∙ length_at true source tail none ends begun in (
      sym (ap (take (source_length input)) is ∙ ap (λ (k : ℕ). take k (source ++ tail)) stop ∙ take-append_seam source tail),
      sym (ap (drop (source_length input + 3)) is ∙ ap (λ (k : ℕ). drop (k + 3) (source ++ tail)) stop ∙ drop-append-add source tail 3),
    )

-- no others do
pub IsDivided-only : (input source second : List ℕ) → IsDivided input source second → (source ≡ source_part input) × (second ≡ second_part input)
IsDivided-only input source second (at_line none ends is) = same_parts input source (37 ∷ 37 ∷ 10 ∷ second) is none ends refl
IsDivided-only input source second (at_last none ends is last) =
    let parts = same_parts input source (37 ∷ 37 ∷ []) is none ends refl in
    (parts.0, last ∙ parts.1)
IsDivided-only input source second (nowhere none all last) =
    let whole : source_length input ≡ length input = length_all true input none in
    (all ∙ sym (take_all (source_length input) input (omega arith)), last ∙ sym (drop_of_length-le input (omega arith)))
