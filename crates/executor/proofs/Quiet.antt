-- Marks that raise no posting, and a mark that raises one.
use Rattle.std.proofs.Common.{◌≡◌, ℕ, List, [], ◌∷◌, ◌++◌, refl, ap, ◌∙◌}
use Rattle.serial_log.specs.declared.mark.Mark.{Mark}
use Rattle.serial_log.specs.declared.mark.MarkKind.TheVariants as kind
use Rattle.serial_log.specs.declared.posted.Posted.{Posted as Raised}
use Rattle.serial_log.specs.declared.script.Posting.{Posting}
use Rattle.serial_log.specs.Walk.{Each, walk}
use Rattle.serial_log.proofs.Walks.{each_push, walk_push}
use Rattle.executor.specs.InTurn.{ArePostingsInTurn, IsFirstLeft, IsInTurn, Turns, after_mark, all_left, behind_first, turns_of}

abbrev pub InTurn : Turns → Mark → Type 0
InTurn t mark = IsInTurn t mark.kind

-- the new marks raise what the old ones do
pub record IsQuiet (old new : List Mark) : Type 0 where
  pub same : (t : Turns) → walk after_mark t new ≡ walk after_mark t old
  pub turns : (t : Turns) → Each after_mark InTurn t old → Each after_mark InTurn t new

pub no_mark : (marks : List Mark) → IsQuiet marks marks
no_mark marks = record { same = λ t. refl; turns = λ t each. each }

-- one mark more that is no posting's
pub one_mark : (marks : List Mark) (mark : Mark) → ((t : Turns) → after_mark t mark ≡ t)
    → ((t : Turns) → InTurn t mark) → IsQuiet marks (marks ++ mark ∷ [])
one_mark marks mark stays free = record {
  same = λ t. walk_push after_mark t marks mark ∙ stays (walk after_mark t marks);
  turns = λ t each. each_push after_mark InTurn t marks mark each (free (walk after_mark t marks));
}

abbrev pub posted_at : ℕ → Raised → Mark
posted_at at posted = record { at = at; kind = kind.Posted posted }

-- where the postings are behind one more
pub record IsBehind (postings : List Posting) (old new : List Mark) (at : ℕ) : Type 0 where
  pub turns : ArePostingsInTurn postings new
  pub left : (turns_of postings new).left ≡ behind_first (turns_of postings old).left
  pub answered : (turns_of postings new).answered ≡ at

pub one_posting : (postings : List Posting) (old new : List Mark) (at : ℕ) (posted : Raised)
    → IsQuiet (old ++ posted_at at posted ∷ []) new → ArePostingsInTurn postings old
    → IsFirstLeft (turns_of postings old) posted → IsBehind postings old new at
one_posting postings old new at posted quiet turns first =
    let behind : turns_of postings new
    ≡ record { left = behind_first (turns_of postings old).left; answered = at } =
    quiet.same (all_left postings)
    ∙ walk_push after_mark (all_left postings) old (posted_at at posted) in
    record {
      turns =
          quiet.turns (all_left postings)
          (each_push after_mark InTurn (all_left postings) old (posted_at at posted) turns first);
      left = ap (λ (t : Turns). t.left) behind;
      answered = ap (λ (t : Turns). t.answered) behind;
    }
