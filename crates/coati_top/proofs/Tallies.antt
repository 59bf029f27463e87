-- A tally of the front of a list of marks, and what the rest adds to it.
use Rattle.std.proofs.Common.{◌≡◌, ◌∙◌, ℕ, ◌+◌, ◌<◌, ◌≤◌, ◌^◌, Bool, List, [], ◌∷◌, length, drop, get_or, ap, refl, subst, sym, arith, if◌then◌else◌}
use Rattle.std.specs.List.{count_by}
use Rattle.std.proofs.lemmas.List.{at_drop_more}
use Rattle.std.proofs.lemmas.List.Sums.{count_by-le-length, sum_by-cons}
use Rattle.serial_log.specs.declared.mark.Mark.{Mark}
use Rattle.serial_log.specs.declared.mark.MarkKind.{MarkKind}
use Rattle.coati_top.specs.declared.tally.Tally.{Tally}
use Rattle.coati_top.specs.Loaded.{how_many, is_abort, is_acceptance, is_answered, is_boot, is_commit, is_fullness, is_loss}
use Rattle.coati_top.specs.Tallies.{CanCount, counted}

-- with the marks that are left, each count is that of all
pub record IsTally (tally : Tally) (rest all : List Mark) : Type 0 where
  pub commits : tally.commits + how_many is_commit rest ≡ how_many is_commit all
  pub aborts : tally.aborts + how_many is_abort rest ≡ how_many is_abort all
  pub boots : tally.boots + how_many is_boot rest ≡ how_many is_boot all
  pub accepted : tally.accepted + how_many (is_answered is_acceptance) rest ≡ how_many (is_answered is_acceptance) all
  pub full : tally.full + how_many (is_answered is_fullness) rest ≡ how_many (is_answered is_fullness) all
  pub lost : tally.lost + how_many (is_answered is_loss) rest ≡ how_many (is_answered is_loss) all

-- a count of the first mark, and of those behind it
how_many-cons : (is : MarkKind → Bool) (mark : Mark) (rest : List Mark)
    → how_many is (mark ∷ rest) ≡ (if is mark.kind then 1 else 0) + how_many is rest
how_many-cons is mark rest = sum_by-cons (λ (m : Mark). if is m.kind then 1 else 0) mark rest

one_count : (is : MarkKind → Bool) (count whole : ℕ) (mark : Mark) (rest : List Mark)
    → count + how_many is (mark ∷ rest) ≡ whole
    → count + (if is mark.kind then 1 else 0) + how_many is rest ≡ whole
one_count is count whole mark rest before = omega (arith, how_many-cons is mark rest, before)

-- the first of them is counted
counts_one : (tally : Tally) (mark : Mark) (rest all : List Mark) → IsTally tally (mark ∷ rest) all
    → IsTally (counted mark.kind tally) rest all
counts_one tally mark rest all before = record {
  commits = one_count is_commit tally.commits _ mark rest before.commits;
  aborts = one_count is_abort tally.aborts _ mark rest before.aborts;
  boots = one_count is_boot tally.boots _ mark rest before.boots;
  accepted = one_count (is_answered is_acceptance) tally.accepted _ mark rest before.accepted;
  full = one_count (is_answered is_fullness) tally.full _ mark rest before.full;
  lost = one_count (is_answered is_loss) tally.lost _ mark rest before.lost;
}

-- so is the one at a place of all
pub counts_next : (tally : Tally) (marks : List Mark) (index : ℕ) (none : Mark) → index < length marks
    → IsTally tally (drop index marks) marks
    → IsTally (counted (get_or marks index none).kind tally) (drop (index + 1) marks) marks
counts_next tally marks index none within before =
    let parts : drop index marks ≡ get_or marks index none ∷ drop (index + 1) marks =
    at_drop_more (λ (rest : List Mark). rest) marks index none within in
    counts_one tally (get_or marks index none) (drop (index + 1) marks) marks (subst (λ (rest : List Mark). IsTally tally rest marks) parts before)

one_fits : (is : MarkKind → Bool) (count : ℕ) (rest all : List Mark) → length all < 2 ^ 63
    → count + how_many is rest ≡ how_many is all → count < 2 ^ 63
one_fits is count rest all few before =
    omega (arith, few, before, count_by-le-length (λ (m : Mark). is m.kind) all)

-- no count is above the number of marks
pub can_count : (tally : Tally) (rest all : List Mark) → length all < 2 ^ 63 → IsTally tally rest all → CanCount tally
can_count tally rest all few before = record {
  commits = one_fits is_commit tally.commits rest all few before.commits;
  aborts = one_fits is_abort tally.aborts rest all few before.aborts;
  boots = one_fits is_boot tally.boots rest all few before.boots;
  accepted = one_fits (is_answered is_acceptance) tally.accepted rest all few before.accepted;
  full = one_fits (is_answered is_fullness) tally.full rest all few before.full;
  lost = one_fits (is_answered is_loss) tally.lost rest all few before.lost;
}
