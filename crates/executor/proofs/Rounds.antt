-- A round of a scripted run: a raised posting, or a step where none has come to its time.
use Rattle.std.proofs.Common.{◌≡◌, ◌⊎◌, ℕ, zero, suc, ◌+◌, ◌-◌, ◌<◌, ◌≤◌, List, [], ◌∷◌, Option, Some, None, refl, sym, ap, ◌∙◌, subst, arith, inl, inr, length, length-drop, drop, max}
use Rattle.std.specs.Prelude.{All, slice_get}
use Rattle.std.proofs.lemmas.Bool.{cases_lt}
use Rattle.std.proofs.lemmas.List.Elements.{All-get_or}
use Rattle.std.proofs.lemmas.Option.{get_or_from_slice_get, slice_get-get_or, slice_get_within}
use Rattle.serial_log.specs.declared.mark.Mark.{Mark}
use Rattle.serial_log.specs.declared.posted.Answer.{Answer}
use Rattle.serial_log.specs.declared.script.Posting.{Posting}
use Rattle.serial_log.specs.Scripted.{Sent}
use Rattle.task_syntax.specs.declared.program.Program.{Program}
use Rattle.coati_device.specs.declared.device.Device.{Device}
use Rattle.coati_device.specs.Cursors.{no_posting, posting_at}
use Rattle.coati_board.specs.Cursors.{first_cursors, first_place}
use Rattle.coati_board.specs.Served.{IsPosting}
use Rattle.executor.specs.InTurn.{ArePostingsInTurn, IsFirstLeft, IsFirstToCome, Turns, all_left, behind_first, turns_of}
use Rattle.executor.proofs.Moves.{RaisesNone, RaisesOne, posted_by}
use Rattle.executor.proofs.Places.{AreBehind, AreOfDevices, behind_none, behind_one_more, first_of_rest, least_is, own_place}
use Rattle.executor.proofs.Quiet.{IsBehind, one_posting}

pub of_devices : (program : Program) (postings : List Posting)
    → All (IsPosting program) postings → AreOfDevices postings
of_devices program postings all place within =
    (All-get_or (IsPosting program) postings place no_posting within all).device

-- what is left behind the marks of a device
abbrev pub turns_behind : List Posting → Device → Turns
turns_behind postings d = turns_of postings d.history.marks

-- so many postings were raised, the script's first, each in its turn
pub record HasRaised (postings : List Posting) (raised : ℕ) (d : Device) : Type 0 where
  pub few : raised ≤ length postings
  pub cursors : AreBehind postings raised d.cursors
  pub turns : ArePostingsInTurn postings d.history.marks
  pub left : (turns_behind postings d).left ≡ drop raised postings
  pub answered : (turns_behind postings d).answered ≤ d.clock
  pub soon : (d.clock ≡ (turns_behind postings d).answered)
      ⊎ (raised < length postings → d.clock ≤ (posting_at postings raised).time)

-- the next posting comes at the greater of its time and the last answer
raised_from : (clock time answered : ℕ) → time ≤ clock → answered ≤ clock
    → (clock ≡ answered) ⊎ (clock ≤ time) → clock ≡ max time answered
raised_from clock time answered come past (inl same) = omega (arith, come, past, same)
raised_from clock time answered come past (inr soon) = omega (arith, come, past, soon)

module _ (postings : List Posting) (low : AreOfDevices postings) (raised : ℕ) (old new : Device)
    (has : HasRaised postings raised old) where
  abbrev next : Posting
  next = posting_at postings raised

  rest_is : raised < length postings
      → (turns_behind postings old).left ≡ next ∷ drop (raised + 1) postings
  rest_is within = has.left ∙ first_of_rest postings raised within

  soon_enough : raised < length postings
      → (old.clock ≡ (turns_behind postings old).answered) ⊎ (old.clock ≤ next.time)
  soon_enough within = elim has.soon [
    | inl same ↦ inl same
    | inr soon ↦ inr (soon within)
  ]

  -- what is posted by its device
  abbrev sent : Posting → Sent
  sent posting =
      record { device = next.device; event = posting.event; argument = posting.argument }

  -- the mark of the posting is that of the first one left
  next_in_turn : (answer : Answer) → raised < length postings → next.time ≤ old.clock
      → IsFirstLeft (turns_behind postings old) (posted_by postings next.device old answer)
  next_in_turn answer within come =
      let at = own_place postings raised old.cursors low has.cursors within in
      record {
        first = next;
        more = drop (raised + 1) postings;
        left = rest_is within;
        sent = ap (λ (place : ℕ). sent (posting_at postings place)) at;
        from =
            raised_from old.clock next.time (turns_behind postings old).answered come
            has.answered (soon_enough within);
      }

  pub raise_goes_on : (answer : Answer) → raised < length postings → next.time ≤ old.clock
      → RaisesOne postings next.device old new answer → HasRaised postings (raised + 1) new
  raise_goes_on answer within come one =
      let posted = posted_by postings next.device old answer in
      let behind : IsBehind postings old.history.marks new.history.marks new.clock =
      one_posting postings old.history.marks new.history.marks new.clock posted one.quiet has.turns
      (next_in_turn answer within come) in
      let answered = behind.answered in
      record {
        few = omega (arith, within);
        cursors =
            subst (AreBehind postings (raised + 1)) (sym one.cursors)
            (behind_one_more postings raised old.cursors low has.cursors within);
        turns = behind.turns;
        left = behind.left ∙ ap behind_first (rest_is within);
        answered = omega (arith, answered);
        soon = inl (sym behind.answered);
      }

  pub step_goes_on : (raised < length postings → old.clock < next.time) → RaisesNone old new
      → new.clock ≡ old.clock + 1 → HasRaised postings raised new
  step_goes_on late none clock =
      let same : turns_behind postings new ≡ turns_behind postings old =
      none.quiet.same (all_left postings) in
      let answered = ap (λ (t : Turns). t.answered) same in
      let past = has.answered in
      record {
        few = has.few;
        cursors = subst (AreBehind postings raised) (sym none.cursors) has.cursors;
        turns = none.quiet.turns (all_left postings) has.turns;
        left = ap (λ (t : Turns). t.left) same ∙ has.left;
        answered = omega (arith, past, clock, answered);
        soon = inr (λ within. (let l = late within in omega (arith, l, clock)));
      }

-- at first none was
pub none_raised : (postings : List Posting) (d : Device) → d.clock ≡ 0 → d.history.marks ≡ []
    → d.cursors ≡ first_cursors postings → HasRaised postings 0 d
none_raised postings d clock marks cursors =
    let answered : (turns_behind postings d).answered ≡ 0 =
    ap (λ (xs : List Mark). (turns_of postings xs).answered) marks in
    record {
      few = omega arith;
      cursors = subst (AreBehind postings 0) (sym cursors) (behind_none postings);
      turns = subst (ArePostingsInTurn postings) (sym marks) tt;
      left = ap (λ (xs : List Mark). (turns_of postings xs).left) marks;
      answered = omega (arith, answered);
      soon = inl (clock ∙ sym answered);
    }

-- a posting is the next one
pub record IsNext (postings : List Posting) (raised : ℕ) (posting : Posting) : Type 0 where
  pub within : raised < length postings
  pub is : posting ≡ posting_at postings raised

drop_all : (postings : List Posting) (n : ℕ) → length postings ≤ n → drop n postings ≡ []
drop_all [] zero few = refl
drop_all [] (suc n) few = refl
drop_all (posting ∷ more) zero few = absurd (omega (arith, few))
drop_all (posting ∷ more) (suc n) few = drop_all more n (omega (arith, few))

module _ (postings : List Posting) (low : AreOfDevices postings) (raised : ℕ) (d : Device)
    (has : HasRaised postings raised d) where
  -- the first of the board's postings that are left
  abbrev first : Option Posting
  first = slice_get postings (first_place d.cursors (length postings))

  place_is : first_place d.cursors (length postings) ≡ raised
  place_is = least_is postings raised d.cursors low has.cursors has.few

  pub first_is_next : (posting : Posting) → first ≡ Some posting → IsNext postings raised posting
  first_is_next posting is =
      let there : slice_get postings raised ≡ Some posting =
      ap (slice_get postings) (sym place_is) ∙ is in
      record {
        within = slice_get_within postings raised posting there;
        is = sym (get_or_from_slice_get postings raised posting no_posting there);
      }

  pub next_is_first : raised < length postings → first ≡ Some (posting_at postings raised)
  next_is_first within =
      ap (slice_get postings) place_is ∙ slice_get-get_or postings raised no_posting within

  -- where none is left all were raised
  pub none_left : first ≡ None → (turns_behind postings d).left ≡ []
  none_left none = elim (cases_lt raised (length postings)) [
    | inl within ↦
        absurd (let there : Some (posting_at postings raised) ≡ None =
        sym (next_is_first within) ∙ none in cc)
    | inr all ↦ has.left ∙ drop_all postings raised all
  ]

  -- where none has come to its time the first that is left is still to come
  pub first_to_come : ((posting : Posting) → first ≡ Some posting → d.clock < posting.time)
      → IsFirstToCome d.clock (turns_behind postings d).left
  first_to_come late = elim (cases_lt raised (length postings)) [
    | inl within ↦
        subst (IsFirstToCome d.clock) (sym (has.left ∙ first_of_rest postings raised within))
        (late (posting_at postings raised) (next_is_first within))
    | inr all ↦
        subst (IsFirstToCome d.clock) (sym (has.left ∙ drop_all postings raised all)) tt
  ]

  -- so many are left
  pub left_count : length (turns_behind postings d).left ≡ length postings - raised
  left_count = ap length has.left ∙ length-drop raised postings
