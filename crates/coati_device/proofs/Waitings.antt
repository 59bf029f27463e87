-- The readings of the held events in one list: what is added behind them leaves them.
use Rattle.std.proofs.Common.{◌≡◌, ℕ, zero, suc, ◌+◌, ◌<◌, List, [], ◌∷◌, ◌++◌, All, length, drop, take, map, refl, sym, ap, ◌∙◌, arith}
use Rattle.std.specs.Prelude.{slice_index_or}
use Rattle.std.proofs.lemmas.List.Elements.{All-head, All-tail}
use Rattle.std.proofs.lemmas.List.{drop-append-le, drop-drop, drop_more, length-drop, length-take-le, take-append-le}
use Rattle.coati_word.specs.declared.reading.Reading.{Reading}
use Rattle.coati_device.specs.declared.waiting.Span.{Span}
use Rattle.coati_device.specs.Waits.{IsWithin, Waits, behind_first, count_all, read_at}

read_before : (all more : List Reading) (span : Span) → IsWithin (length all) span
    → read_at (all ++ more) span ≡ read_at all span
read_before all more span within =
    ap (take span.len) (drop-append-le span.from all more (omega (arith, within)))
    ∙ take-append-le span.len (drop span.from all) more
    (omega (arith, within, length-drop span.from all))

-- readings more leave those of the spans
pub reads_before : (all more : List Reading) (spans : List Span)
    → All (IsWithin (length all)) spans
    → map (read_at (all ++ more)) spans ≡ map (read_at all) spans
reads_before all more [] within = refl
reads_before all more (span ∷ spans) within =
    rw (
      read_before all more span (All-head (IsWithin (length all)) span spans within),
      reads_before all more spans (All-tail (IsWithin (length all)) span spans within),
    ) refl

-- so do the spans behind some
pub within_behind : (count n : ℕ) (spans : List Span) → All (IsWithin count) spans
    → All (IsWithin count) (drop n spans)
within_behind count zero spans within = within
within_behind count (suc n) [] within = within
within_behind count (suc n) (span ∷ spans) within =
    within_behind count n spans (All-tail (IsWithin count) span spans within)

behind_one : (f : Span → List Reading) (spans : List Span)
    → map f (drop 1 spans) ≡ behind_first (map f spans)
behind_one f [] = refl
behind_one f (span ∷ spans) = refl

-- one event less is left
pub reads_behind : (f : Span → List Reading) (n : ℕ) (spans : List Span)
    → map f (drop (n + 1) spans) ≡ behind_first (map f (drop n spans))
reads_behind f n spans = ap (map f) (sym (drop-drop 1 n spans)) ∙ behind_one f (drop n spans)

-- how many readings the spans have
abbrev pub lengths : List Span → ℕ
lengths [] = 0
lengths (span ∷ spans) = span.len + lengths spans

read_length : (all : List Reading) (span : Span) → IsWithin (length all) span
    → length (read_at all span) ≡ span.len
read_length all span within =
    length-take-le span.len (drop span.from all)
    (omega (arith, within, length-drop span.from all))

pub lengths_are : (all : List Reading) (spans : List Span) → All (IsWithin (length all)) spans
    → count_all (map (read_at all) spans) ≡ lengths spans
lengths_are all [] within = refl
lengths_are all (span ∷ spans) within =
    let first = read_length all span (All-head (IsWithin (length all)) span spans within) in
    let rest = lengths_are all spans (All-tail (IsWithin (length all)) span spans within) in
    omega (arith, first, rest)

-- the next span and those behind it
pub lengths_next : (spans : List Span) (i : ℕ) (none : Span) → i < length spans
    → lengths (drop i spans) ≡ (slice_index_or spans i none).len + lengths (drop (i + 1) spans)
lengths_next spans i none low = ap lengths (drop_more spans i none low)

abbrev pub waits_of : List (List Reading) → List Reading → (room places : ℕ) → Waits
waits_of events made room places =
    record { events = events; made = made; room = room; places = places }

pub waits_are : (some other : List (List Reading)) (made same : List Reading)
    (room left places : ℕ) → some ≡ other → made ≡ same → room ≡ left
    → waits_of some made room places ≡ waits_of other same left places
waits_are some other made same room left places e f g = rw (e, f, g) refl
