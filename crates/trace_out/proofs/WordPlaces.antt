-- Variable words: their texts, and the words that are found of a text.
use Rattle.std.proofs.Common.{◌≡◌, ℕ, ◌+◌, ◌-◌, ◌<◌, ◌≤◌, true, false, List, [], ◌∷◌, ◌++◌, map, Option, Some, None, refl, sym, ap, subst, ◌∙◌, inl, inr, arith, append_assoc}
use Rattle.std.specs.Prelude.{codes, nat_le}
use Rattle.std.specs.Fmt.{decimal}
use Rattle.std.specs.List.{AllByRecursion}
use Rattle.std.specs.Str.{bytes_eq}
use Rattle.std.proofs.lemmas.Bool.{cases_Bool, le-leb, leb-false, leb-true, false_from_ne_true}
use Rattle.std.proofs.lemmas.Slice.Eq.{bytes_eq-Decides}
use Rattle.task_lex.specs.Byte.{begins, is_name_byte}
use Rattle.task_syntax.specs.declared.program.Program.{Program}
use Rattle.task_syntax.specs.declared.program.Var.{Var}
use Rattle.task_syntax.specs.Names.{Words, count_of, word_count, words_from, words_of}
use Rattle.trace_out.specs.Front.{◌>>=◌, behind, behind_name, name_at, number_at}
use Rattle.trace_out.specs.Lookups.{index_at, word_among, word_at}
use Rattle.trace_out.specs.Names.{index_text, word_text}
use Rattle.trace_out.proofs.Binds.{bound, made}
use Rattle.trace_out.proofs.Fronts.{IsNameText, behind-again, behind-parts, behind_name-again, name_at-again, name_at-split, number_at-again, number_at-parts}
use Rattle.trace_out.proofs.Places.{AreNames}

abbrev pub name_of_var : Var → List ℕ
name_of_var var = var.name.text

-- each of these variables has a word, and few words they are
pub record HasWords (vars : List Var) : Type 0 where
  pub full : AllByRecursion (λ (var : Var). 0 < count_of var.length) vars
  pub few : word_count vars ≤ 256

-- the words that were found under a name
pub record AreWordsOf (first : ℕ) (vars : List Var) (name : List ℕ) (words : Words) : Type 0 where
  pub before : ℕ
  pub is : words.first ≡ first + before
  pub some : 0 < count_of words.length
  pub within : before + count_of words.length ≤ word_count vars
  pub named : (index : ℕ) → index < count_of words.length → word_text vars (before + index) ≡ name
      ++ index_text words.length index

words_from-parts : (first : ℕ) (vars : List Var) (name : List ℕ) (words : Words) → AllByRecursion
    (λ (var : Var). 0 < count_of var.length) vars
    → words_from first vars name ≡ Some words → AreWordsOf first vars name words
words_from-parts first [] name words full found = cc
words_from-parts first (var ∷ more) name words full found =
    elim (cases_Bool (bytes_eq var.name.text name)) [
      | inl same ↦
          let own : Words = record { first = first; length = var.length } in
          let here : Some own ≡ Some words = rw same at found in
          let is : own ≡ words = cc in
          subst (λ (w : Words). AreWordsOf first (var ∷ more) name w) is (record {
            before = 0;
            is = omega arith;
            some = full.0;
            within = omega arith;
            named = λ index below.
                let past : nat_le (count_of var.length) (0 + index) ≡ false = false_from_ne_true
                (nat_le (count_of var.length) (0 + index))
                (λ le. omega (arith, leb-true (count_of var.length) (0 + index) le)) in
                let zero : 0 + index ≡ index = omega arith in
                let texts : word_text (var ∷ more) (0 + index) ≡ var.name.text
                ++ index_text var.length (0 + index) = rw past refl in
                texts ∙ ap (λ (i : ℕ). var.name.text ++ index_text var.length i) zero
                ∙ ap (λ (n : List ℕ). n ++ index_text var.length index)
                ((bytes_eq-Decides var.name.text name).0 same);
          })
      | inr other ↦
          let later : words_from (first + count_of var.length) more name ≡ Some words =
          rw other at found in
          let r = words_from-parts (first + count_of var.length) more name words full.1 later in
          record {
            before = count_of var.length + r.before;
            is = omega (arith, r.is);
            some = r.some;
            within = omega (arith, r.within);
            named = λ index below.
                let past : nat_le (count_of var.length) (count_of var.length + r.before + index)
                ≡ true = le-leb (count_of var.length) (count_of var.length + r.before + index)
                (omega arith) in
                let place : count_of var.length + r.before + index - count_of var.length
                ≡ r.before + index = omega arith in
                let texts : word_text (var ∷ more) (count_of var.length + r.before + index)
                ≡ word_text more (count_of var.length + r.before + index - count_of var.length) =
                rw past refl in
                texts ∙ ap (word_text more) place ∙ r.named index below;
          }
    ]

-- where a word lies
pub record IsWordAt (first : ℕ) (vars : List Var) (word : ℕ) : Type 0 where
  pub name : List ℕ
  pub spelled : IsNameText name
  pub words : Words
  pub found : words_from first vars name ≡ Some words
  pub index : ℕ
  pub below : index < count_of words.length
  pub is : first + word ≡ words.first + index
  pub text : word_text vars word ≡ name ++ index_text words.length index
  -- and no variable before these has the name
  pub among : (other : List ℕ) → AllByRecursion (λ (n : List ℕ). bytes_eq other n ≡ false)
      (map name_of_var vars) → bytes_eq other name ≡ false

words_from-again : (first : ℕ) (vars : List Var) (word : ℕ) → AreNames (map name_of_var vars)
    → word < word_count vars → IsWordAt first vars word
words_from-again first [] word names within = absurd (omega arith)
words_from-again first (var ∷ more) word names within =
    elim (cases_Bool (nat_le (count_of var.length) word)) [
      | inl past ↦
          let beyond = leb-true (count_of var.length) word past in
          let left : word - count_of var.length < word_count more = omega arith in
          let r = words_from-again (first + count_of var.length) more (word - count_of var.length)
          (record { distinct = names.distinct.1; spelled = names.spelled.1 }) left in
          let other = r.among var.name.text names.distinct.0 in
          record {
            name = r.name;
            spelled = r.spelled;
            words = r.words;
            found = rw other r.found;
            index = r.index;
            below = r.below;
            is = omega (arith, r.is);
            text = rw past r.text;
            among = λ name none. r.among name none.1;
          }
      | inr here ↦
          let same : bytes_eq var.name.text var.name.text ≡ true =
          (bytes_eq-Decides var.name.text var.name.text).1 refl in
          record {
            name = var.name.text;
            spelled = names.spelled.0;
            words = record { first = first; length = var.length };
            found = rw same refl;
            index = word;
            below = leb-false (count_of var.length) word here;
            is = refl;
            text = rw here refl;
            among = λ name none. none.0;
          }
    ]

-- an index in brackets
pub record IsIndexAt (items : ℕ) (text : List ℕ) (found : ℕ × List ℕ) : Type 0 where
  pub spelled : text ≡ index_text (Some items) found.0 ++ found.1
  pub within : found.0 ≤ items - 1

index_at-parts : (items : ℕ) (text : List ℕ) (found : ℕ × List ℕ) → items ≤ 256
    → index_at items text ≡ Some found → IsIndexAt items text found
unfolding index_at
index_at-parts items text found few read =
    let one = bound (behind (codes "[") text) read in
    let two = bound (number_at (items - 1) one.value) one.goes_on in
    let three = bound (behind (codes "]") two.value.1) two.goes_on in
    let last : Some (two.value.0, three.value) ≡ Some found = three.goes_on in
    let same : two.value.0 ≡ found.0 = cc in
    let rest : three.value ≡ found.1 = cc in
    let number = number_at-parts (items - 1) one.value two.value (omega arith) two.was in
    record {
      spelled =
          behind-parts (codes "[") text one.value one.was
          ∙ ap (λ (t : List ℕ). codes "[" ++ t)
          (number.spelled ∙ ap (λ (t : List ℕ). decimal two.value.0 ++ t)
          (behind-parts (codes "]") two.value.1 three.value three.was))
          ∙ (let regroup : codes "[" ++ (decimal two.value.0 ++ (codes "]" ++ three.value))
          ≡ codes "[" ++ decimal two.value.0 ++ codes "]" ++ three.value =
          simp append_assoc in regroup)
          ∙ ap (λ (n : ℕ). codes "[" ++ decimal n ++ codes "]" ++ three.value) same
          ∙ ap (λ (t : List ℕ). codes "[" ++ decimal found.0 ++ codes "]" ++ t) rest;
      within = omega (arith, number.within, same);
    }

index_at-again : (items index : ℕ) (rest : List ℕ) → items ≤ 256 → index < items → index_at items
    (index_text (Some items) index ++ rest) ≡ Some (index, rest)
unfolding index_at
index_at-again items index rest few below =
    let regroup : index_text (Some items) index ++ rest ≡ codes "["
    ++ (decimal index ++ (codes "]" ++ rest)) = simp append_assoc in
    let one = behind-again (codes "[") (decimal index ++ (codes "]" ++ rest)) in
    let two = number_at-again (items - 1) index (codes "]" ++ rest) (omega arith)
    (omega arith) refl in
    let three = behind-again (codes "]") rest in
    ap (index_at items) regroup ∙ rw (one, two, three) refl

-- the word that an index, or its lack, tells
record IsAmong (first : ℕ) (items : Option ℕ) (text : List ℕ) (found : ℕ × List ℕ) : Type 0 where
  index : ℕ
  below : index < count_of items
  is : found.0 ≡ first + index
  spelled : text ≡ index_text items index ++ found.1

word_among-parts : (first : ℕ) (items : Option ℕ) (text : List ℕ) (found : ℕ × List ℕ)
    → 0 < count_of items → count_of items ≤ 256
    → word_among first items text ≡ Some found → IsAmong first items text found
word_among-parts first None text found some few read =
    let word : first ≡ found.0 = cc in
    let rest : text ≡ found.1 = cc in
    record { index = 0; below = omega arith; is = omega (arith, word); spelled = rest }
word_among-parts first (Some items) text found some few read =
    let one = made (index_at items text) read in
    let same : (first + one.value.0, one.value.1) ≡ found = one.is in
    let word : first + one.value.0 ≡ found.0 = cc in
    let rest : one.value.1 ≡ found.1 = cc in
    let at = index_at-parts items text one.value few one.was in
    record {
      index = one.value.0;
      below = omega (arith, at.within, some);
      is = sym word;
      spelled = at.spelled ∙ ap (λ (t : List ℕ). index_text (Some items) one.value.0 ++ t) rest;
    }

word_among-again : (first index : ℕ) (items : Option ℕ) (rest : List ℕ) → count_of items ≤ 256
    → index < count_of items
    → word_among first items (index_text items index ++ rest) ≡ Some (first + index, rest)
word_among-again first index None rest few below = let e : first ≡ first + index =
    omega arith in ap (λ (w : ℕ). Some (w, rest)) e
word_among-again first index (Some items) rest few below =
    rw (index_at-again items index rest few below) refl

-- a word that was found of a text
pub record IsWordRead (vars : List Var) (text : List ℕ) (found : ℕ × List ℕ) : Type 0 where
  pub spelled : text ≡ word_text vars found.0 ++ found.1
  pub within : found.0 < word_count vars

pub word_at-parts : (program : Program) (text : List ℕ) (found : ℕ × List ℕ)
    → HasWords program.vars → word_at program text ≡ Some found
    → IsWordRead program.vars text found
unfolding word_at
word_at-parts program text found has read =
    let one = bound (words_of program (name_at text)) read in
    let words = one.value in
    let of = words_from-parts 0 program.vars (name_at text) words has.full one.was in
    let among = word_among-parts words.first words.length (behind_name text) found of.some
    (omega (arith, of.within, has.few)) one.goes_on in
    let word : of.before + among.index ≡ found.0 = omega (arith, of.is, among.is) in
    let named : word_text program.vars found.0 ≡ name_at text
    ++ index_text words.length among.index =
    ap (word_text program.vars) (sym word) ∙ of.named among.index among.below in
    record {
      spelled =
          name_at-split text ∙ ap (λ (t : List ℕ). name_at text ++ t) among.spelled
          ∙ sym (append_assoc (name_at text) (index_text words.length among.index) found.1)
          ∙ ap (λ (t : List ℕ). t ++ found.1) (sym named);
      within = omega (arith, of.within, among.below, word);
    }

begins-index : (items : Option ℕ) (index : ℕ) (rest : List ℕ) → begins is_name_byte rest ≡ false
    → begins is_name_byte (index_text items index ++ rest) ≡ false
begins-index None index rest ends = ends
begins-index (Some items) index rest ends = refl

pub word_at-again : (program : Program) (word : ℕ) (rest : List ℕ) → HasWords program.vars
    → AreNames (map name_of_var program.vars) → word < word_count program.vars
    → begins is_name_byte rest ≡ false → word_at program (word_text program.vars word ++ rest)
    ≡ Some (word, rest)
unfolding word_at
word_at-again program word rest has names within ends =
    let r = words_from-again 0 program.vars word names within in
    let of = words_from-parts 0 program.vars r.name r.words has.full r.found in
    let tail = index_text r.words.length r.index ++ rest in
    let text : word_text program.vars word ++ rest ≡ r.name ++ tail =
    ap (λ (t : List ℕ). t ++ rest) r.text ∙ append_assoc r.name
    (index_text r.words.length r.index) rest in
    let stops = begins-index r.words.length r.index rest ends in
    let front = name_at-again r.name tail r.spelled stops in
    let left = behind_name-again r.name tail r.spelled stops in
    let found : words_of program (name_at (r.name ++ tail)) ≡ Some r.words =
    ap (words_of program) front ∙ r.found in
    let same : r.words.first + r.index ≡ word = omega (arith, r.is) in
    ap (word_at program) text
    ∙ ap (λ (o : Option Words). o >>= λ (words : Words). word_among words.first words.length
    (behind_name (r.name ++ tail))) found
    ∙ ap (word_among r.words.first r.words.length) left
    ∙ word_among-again r.words.first r.index r.words.length rest
    (omega (arith, of.within, has.few)) r.below
    ∙ ap (λ (w : ℕ). Some (w, rest)) same
