-- Bodies among words, by the place behind each of them.
use Rattle.std.proofs.Common.{◌≡◌, ℕ, zero, suc, ◌+◌, ◌-◌, ◌<◌, ◌≤◌, ◌++◌, List, [], ◌∷◌, length, take, drop, refl, sym, ap, subst, ◌∙◌, arith, length-append, take-append-drop, length-drop}
use Rattle.std.specs.Prelude.{slice_index_or, slice_range}
use Rattle.std.specs.List.{concat}
use Rattle.std.proofs.lemmas.List.{take_all, take-append-le, drop-append-le, drop-drop, drop_at, take_at, length-take-le}
use Rattle.task_syntax.specs.declared.body.BodyId.{BodyId}
use Rattle.word_code.specs.Code.{Bodies, HasBody, body_words, entry_of, number_of, pieces, RisesTo}

pub length-pieces : (from : ℕ) (ends words : List ℕ) → length (pieces from ends words) ≡ length ends
length-pieces from [] words = refl
length-pieces from (end ∷ ends) words = ap suc (length-pieces end ends (drop (end - from) words))

-- what rises doesn't fall
rises : (from : ℕ) (ends : List ℕ) (last : ℕ) → RisesTo from ends last → from ≤ last
rises from [] last h = omega (arith, h)
rises from (end ∷ ends) last h = let rest = rises end ends last h.1 in let first = h.0 in omega (arith, rest, first)

pub rises_more : (from : ℕ) (ends : List ℕ) (last more : ℕ) → RisesTo from ends last → last ≤ more → RisesTo from (ends ++ more ∷ []) more
rises_more from [] last more h fits = (omega (arith, h, fits), refl)
rises_more from (end ∷ ends) last more h fits = (h.0, rises_more end ends last more h.1 fits)

-- the words behind the first piece
rest_length : (from end : ℕ) (ends : List ℕ) (last : ℕ) (words : List ℕ) → from ≤ end → RisesTo end ends last → from + length words ≡ last →
    end + length (drop (end - from) words) ≡ last
rest_length from end ends last words above h counted =
    let within = rises end ends last h in omega (arith, above, within, counted, length-drop (end - from) words)

pub pieces-push : (from : ℕ) (ends : List ℕ) (last more : ℕ) (words new : List ℕ) → RisesTo from ends last → from + length words ≡ last → more ≡ last + length new →
    pieces from (ends ++ more ∷ []) (words ++ new) ≡ pieces from ends words ++ new ∷ []
pieces-push from [] last more [] new h counted is =
    let fits : length new ≤ more - from = omega (arith, h, is) in
    ap (λ (piece : List ℕ). piece ∷ []) (take_all (more - from) new fits)
pieces-push from [] last more (w ∷ words) new h counted is = absurd (omega (arith, h, counted))
pieces-push from (end ∷ ends) last more words new h counted is =
    let within = rises end ends last h.1 in
    let above = h.0 in
    let inside : end - from ≤ length words = omega (arith, within, above, counted) in
    let first : take (end - from) (words ++ new) ≡ take (end - from) words = take-append-le (end - from) words new inside in
    let behind : drop (end - from) (words ++ new) ≡ drop (end - from) words ++ new = drop-append-le (end - from) words new inside in
    ap (λ (piece : List ℕ). piece ∷ pieces end (ends ++ more ∷ []) (drop (end - from) (words ++ new))) first
    ∙ ap (λ (rest : List (List ℕ)). take (end - from) words ∷ rest)
    (ap (pieces end (ends ++ more ∷ [])) behind
    ∙ pieces-push end ends last more (drop (end - from) words) new h.1 (rest_length from end ends last words above h.1 counted) is)

pub concat-pieces : (from : ℕ) (ends : List ℕ) (last : ℕ) (words : List ℕ) → RisesTo from ends last → from + length words ≡ last → concat (pieces from ends words) ≡ words
concat-pieces from [] last [] h counted = refl
concat-pieces from [] last (w ∷ words) h counted = absurd (omega (arith, h, counted))
concat-pieces from (end ∷ ends) last words h counted =
    ap (λ (rest : List ℕ). take (end - from) words ++ rest) (concat-pieces end ends last (drop (end - from) words) h.1 (rest_length from end ends last words h.0 h.1 counted))
    ∙ take-append-drop (end - from) words

-- where a piece begins
pub piece_start : (from : ℕ) (ends : List ℕ) (last : ℕ) (words : List ℕ) (k : ℕ) → RisesTo from ends last → from + length words ≡ last → k < length ends →
    from + length (concat (take k (pieces from ends words))) ≡ slice_index_or (from ∷ ends) k 0
piece_start from ends last words zero h counted inside = omega arith
piece_start from [] last words (suc k) h counted inside = absurd (omega (arith, inside))
piece_start from (end ∷ ends) last words (suc k) h counted inside =
    let within = rises end ends last h.1 in
    let above = h.0 in
    let front = length-take-le (end - from) words (omega (arith, within, above, counted)) in
    let rest = piece_start end ends last (drop (end - from) words) k h.1 (rest_length from end ends last words above h.1 counted) (omega (arith, inside)) in
    let sum = length-append (take (end - from) words) (concat (take k (pieces end ends (drop (end - from) words)))) in
    omega (arith, above, front, rest, sum)

-- a piece lies within the words
pub piece_within : (from : ℕ) (ends : List ℕ) (last k : ℕ) → RisesTo from ends last → k < length ends →
    (from ≤ slice_index_or (from ∷ ends) k 0) × (slice_index_or (from ∷ ends) k 0 ≤ slice_index_or ends k 0) × (slice_index_or ends k 0 ≤ last)
piece_within from [] last k h inside = absurd (omega (arith, inside))
piece_within from (end ∷ ends) last zero h inside = (omega arith, h.0, rises end ends last h.1)
piece_within from (end ∷ ends) last (suc k) h inside =
    let rest = piece_within end ends last k h.1 (omega (arith, inside)) in
    let above = h.0 in let more = rest.0 in
    (omega (arith, above, more), rest.1, rest.2)

-- where a piece stands among the words
pub piece_at : (from : ℕ) (ends : List ℕ) (last : ℕ) (words : List ℕ) (k : ℕ) → RisesTo from ends last → k < length ends →
    slice_index_or (pieces from ends words) k []
    ≡ take (slice_index_or ends k 0 - slice_index_or (from ∷ ends) k 0) (drop (slice_index_or (from ∷ ends) k 0 - from) words)
piece_at from [] last words k h inside = absurd (omega (arith, inside))
piece_at from (end ∷ ends) last words zero h inside =
    let none : from - from ≡ 0 = omega arith in
    ap (λ (n : ℕ). take (end - from) (drop n words)) (sym none)
piece_at from (end ∷ ends) last words (suc k) h inside =
    let within = piece_within end ends last k h.1 (omega (arith, inside)) in
    let above = h.0 in let more = within.0 in
    let sum : (end - from) + (slice_index_or (end ∷ ends) k 0 - end) ≡ slice_index_or (end ∷ ends) k 0 - from = omega (arith, above, more) in
    piece_at end ends last (drop (end - from) words) k h.1 (omega (arith, inside))
    ∙ ap (take (slice_index_or ends k 0 - slice_index_or (end ∷ ends) k 0))
    (drop-drop (slice_index_or (end ∷ ends) k 0 - end) (end - from) words ∙ ap (λ (n : ℕ). drop n words) sum)

-- the same for all words, which begin at 0
module _ (ends words : List ℕ) (h : RisesTo 0 ends (length words)) where
  pub all_words : concat (pieces 0 ends words) ≡ words
  all_words = concat-pieces 0 ends (length words) words h (omega arith)

  pub with_piece : (more : ℕ) (new : List ℕ) → more ≡ length words + length new → pieces 0 (ends ++ more ∷ []) (words ++ new) ≡ pieces 0 ends words ++ new ∷ []
  with_piece more new is = pieces-push 0 ends (length words) more words new h (omega arith) is

  pub start_is : (k : ℕ) → k < length ends → length (concat (take k (pieces 0 ends words))) ≡ slice_index_or (0 ∷ ends) k 0
  start_is k inside = let from_0 = piece_start 0 ends (length words) words k h (omega arith) inside in omega (arith, from_0)

  pub piece_is : (k : ℕ) → k < length ends →
      slice_index_or (pieces 0 ends words) k [] ≡ take (slice_index_or ends k 0 - slice_index_or (0 ∷ ends) k 0) (drop (slice_index_or (0 ∷ ends) k 0) words)
  piece_is k inside =
      let same : slice_index_or (0 ∷ ends) k 0 - 0 ≡ slice_index_or (0 ∷ ends) k 0 = omega arith in
      piece_at 0 ends (length words) words k h inside
      ∙ ap (λ (n : ℕ). take (slice_index_or ends k 0 - slice_index_or (0 ∷ ends) k 0) (drop n words)) same

  pub start_within : (k : ℕ) → k < length ends → slice_index_or (0 ∷ ends) k 0 ≤ slice_index_or ends k 0
  start_within k inside = (piece_within 0 ends (length words) k h inside).1

  pub end_within : (k : ℕ) → k < length ends → slice_index_or ends k 0 ≤ length words
  end_within k inside = (piece_within 0 ends (length words) k h inside).2

-- the number of a body is below the number of places
pub number_below : (code : Bodies) (ends words : List ℕ) (tasks : ℕ) {number other : ℕ} → record { tasks = tasks; bodies = pieces 0 ends words } ≡ code →
    number ≡ other → other < length code.bodies → number < length ends
number_below code ends words tasks view is exists =
    let bodies : length (pieces 0 ends words) ≡ length code.bodies = ap (λ (c : Bodies). length c.bodies) view in
    omega (arith, exists, is, bodies, length-pieces 0 ends words)

-- one body more
module _ (ends words new later_ends later_words : List ℕ) (more : ℕ) (h : RisesTo 0 ends (length words))
    (one_end : later_ends ≡ ends ++ more ∷ []) (its_words : later_words ≡ words ++ new) (behind : more ≡ length later_words) where
  whole_length : more ≡ length words + length new
  whole_length = behind ∙ ap length its_words ∙ length-append words new

  pub push_rises : RisesTo 0 later_ends (length later_words)
  push_rises =
      let longer : length words ≤ more = omega (arith, whole_length) in
      subst (λ (e : List ℕ). RisesTo 0 e (length later_words)) (sym one_end)
      (subst (λ (n : ℕ). RisesTo 0 (ends ++ more ∷ []) n) behind (rises_more 0 ends (length words) more h longer))

  pub push_pieces : pieces 0 later_ends later_words ≡ pieces 0 ends words ++ new ∷ []
  push_pieces =
      ap (λ (e : List ℕ). pieces 0 e later_words) one_end
      ∙ ap (pieces 0 (ends ++ more ∷ [])) its_words
      ∙ with_piece ends words h more new whole_length

-- a list of lists stands in their join behind those before it
stands_behind : (k : ℕ) (all : List (List ℕ)) → k < length all →
    take (length (slice_index_or all k [])) (drop (length (concat (take k all))) (concat all)) ≡ slice_index_or all k []
stands_behind k [] inside = absurd (omega (arith, inside))
stands_behind zero (first ∷ more) inside = take_at first (concat more) (length first) refl
stands_behind (suc k) (first ∷ more) inside =
    let front = length (concat (take k more)) in
    let sum : length (first ++ concat (take k more)) ≡ length first + front = length-append first (concat (take k more)) in
    let past : drop (length (first ++ concat (take k more))) (first ++ concat more) ≡ drop front (concat more) =
    ap (λ (n : ℕ). drop n (first ++ concat more)) sum
    ∙ sym (drop-drop front (length first) (first ++ concat more))
    ∙ ap (drop front) (drop_at first (concat more) (length first) refl) in
    ap (take (length (slice_index_or more k []))) past ∙ stands_behind k more (omega (arith, inside))

pub stands_at_entry : (code : Bodies) (body : BodyId) → HasBody code body →
    slice_range (concat code.bodies) (entry_of code body) (entry_of code body + length (body_words code body)) ≡ body_words code body
stands_at_entry code body has =
    let entry = entry_of code body in
    let counted : entry + length (body_words code body) - entry ≡ length (body_words code body) = omega arith in
    ap (λ (n : ℕ). take n (drop entry (concat code.bodies))) counted
    ∙ stands_behind (number_of code.tasks body) code.bodies has.exists
