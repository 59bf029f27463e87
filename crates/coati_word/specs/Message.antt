-- A message is the list of its words: the first `len` of the four that are kept, behind which
-- there are zeros.
use Rattle.std.specs.Prelude.{ℕ, ◌≡◌, ◌-◌, ◌≤◌, ◌++◌, List, length, take, drop, replicate}
use Rattle.std.proofs.Common.{◌∙◌, ap, arith, length-take}
use Rattle.std.proofs.lemmas.List.{take-append-drop}
use Rattle.coati_word.specs.declared.message.Message.TheInside.{Inside}

abbrev pub words_of : Inside → List ℕ
words_of m = take m.len m.words

pub record IsPadded (m : Inside) : Type 0 where
  pub whole : length m.words ≡ 4
  pub few : m.len ≤ 4
  pub zeros : drop m.len m.words ≡ replicate (4 - m.len) 0

-- the message that keeps these words
abbrev pub padded_message : List ℕ → Inside
padded_message words = record {
  len = length words;
  words = words
      ++ replicate (4 - length words) 0;
}

abbrev kept : ℕ → List ℕ → Inside
kept len words = record { len = len; words = words }

-- a message keeps nothing else
pub padded_message_of : (m : Inside) → IsPadded m → padded_message (words_of m) ≡ m
padded_message_of m p =
    let front : length (take m.len m.words) ≡ m.len =
    omega (arith, length-take m.len m.words, p.few, p.whole) in
    let whole : take m.len m.words ++ replicate (4 - length (take m.len m.words)) 0 ≡ m.words =
    rw (front, ← p.zeros) (take-append-drop m.len m.words) in
    ap (λ (len : ℕ). kept len (take m.len m.words
    ++ replicate (4 - length (take m.len m.words)) 0)) front
    ∙ ap (λ (words : List ℕ). kept m.len words) whole
