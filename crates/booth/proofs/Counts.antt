-- How many answers of a kind a history has, behind one more.
use Rattle.std.proofs.Common.{◌≡◌, ◌+◌, List, [], ◌∷◌, ◌++◌, Bool, true, false, if◌then◌else◌, refl, ap, arith, length, length-append}
use Rattle.std.specs.Prelude.{filter}
use Rattle.std.proofs.lemmas.List.Elements.{filter-append}
use Rattle.serial_log.specs.declared.mark.Mark.{Mark}
use Rattle.serial_log.specs.declared.posted.Answer.{Answer}
use Rattle.coati_board.specs.Postings.{answers_of}
use Rattle.booth.specs.Acts.{one_if}
use Rattle.booth.specs.Views.{answers_in}

one_counts : (kind : Bool) (answer : Answer) →
    length (if kind then answer ∷ [] else []) ≡ one_if kind
one_counts true answer = refl
one_counts false answer = refl

pub one_answer_more : (kind : Answer → Bool) (old new : List Mark) (answer : Answer) →
    answers_of new ≡ answers_of old ++ answer ∷ [] →
    answers_in kind new ≡ answers_in kind old + one_if (kind answer)
one_answer_more kind old new answer more =
    let both = ap (λ (all : List Answer). length (filter kind all)) more in
    let parts = ap (length {A = Answer}) (filter-append kind (answers_of old) (answer ∷ [])) in
    let count = length-append (filter kind (answers_of old)) (filter kind (answer ∷ [])) in
    let one = one_counts (kind answer) answer in
    omega (arith, both, parts, count, one)

pub no_answer_more : (kind : Answer → Bool) (old new : List Mark) →
    answers_of new ≡ answers_of old → answers_in kind new ≡ answers_in kind old
no_answer_more kind old new same = ap (λ (all : List Answer). length (filter kind all)) same
