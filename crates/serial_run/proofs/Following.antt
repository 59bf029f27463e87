-- Tasks that make the readings that were told of them.
use Rattle.std.proofs.Common.{◌≡◌, ℕ, zero, suc, ◌+◌, ◌-◌, ◌<◌, ◌≤◌, List, [], ◌∷◌, ◌++◌, refl, ap, subst, sym, ◌∙◌, arith, Bool, true, false, length, drop, take, append_assoc, inl, inr, add-one, length-drop, length-append}
use Rattle.std.specs.Prelude.{IsTrue, Option, Some, None, ◌↔◌, option_and_then, slice_index}
use Rattle.std.proofs.lemmas.List.{append-nil, append_cancel_left, drop-drop, take_all}
use Rattle.std.proofs.Math.Seq.{drop-append_seam}
use Rattle.std.proofs.Math.Nat.{eq-or-lt_of_le}
use Rattle.coati_word.specs.declared.reading.Reading.{Reading}
use Rattle.task_syntax.specs.declared.program.Program.{Program}
use Rattle.task_syntax.specs.Course.{Store, Access, after, put, readings}
use Rattle.task_syntax.specs.Units.{Reached, followed_by, is_inside, one_more, task_and_more, task_effect, tasks_effect, unless_inside, whole_effect}
use Rattle.serial_run.specs.declared.follow.Followed.{Followed}
use Rattle.serial_run.specs.declared.follow.Round.{Round}
use Rattle.serial_run.specs.Followed.{HasFollowed}
use Rattle.serial_run.proofs.Reaching.{ended, one-further}
use Rattle.serial_run.specs.Rounds.{HasComeRound, IsRoundOn}
use Rattle.serial_run.proofs.Rounding.{Leads, Way, leads-on, never-whole, nothing-before, way-on}

readings-append : (first more : List Access) → readings (first ++ more) ≡ readings first ++ readings more
readings-append [] more = refl
readings-append (Access.read word value ∷ first) more = ap (λ (rest : List Reading). record { word = word; value = value } ∷ rest) (readings-append first more)
readings-append (Access.wrote word value ∷ first) more = readings-append first more

after-append : (first more : List Access) (store : Store) → after (first ++ more) store ≡ after more (after first store)
after-append [] more store = refl
after-append (Access.read word value ∷ first) more store = after-append first more store
after-append (Access.wrote word value ∷ first) more store = after-append first more (put word value store)

module _ (program : Program) (task : ℕ) (store : Store) where
  -- what is reached with one task more, by what is reached before it
  record IsOneMore (before : Option Reached) (reached : Reached) : Type 0 where
    first : Reached
    is : before ≡ Some first
    joined : reached ≡ followed_by first (task_effect program first.place (after first.done store))

  by-inside : (first reached : Reached) (inside : Bool) → is_inside program task first.place ≡ inside → one_more program task store first ≡ Some reached → IsOneMore (Some first) reached
  by-inside first reached true is found =
      let there : Some (followed_by first (task_effect program first.place (after first.done store))) ≡ Some reached = rw is at found in
      record { first = first; is = refl; joined = cc }
  by-inside first reached false is found = let never : None ≡ Some reached = rw is at found in absurd (cc)

  one-more-of : (before : Option Reached) (reached : Reached) → option_and_then (one_more program task store) before ≡ Some reached → IsOneMore before reached
  one-more-of None reached found = let never : None ≡ Some reached = found in absurd (cc)
  one-more-of (Some first) reached found = by-inside first reached (is_inside program task first.place) refl found

  -- fewer tasks come first
  record HasFront (fewer : ℕ) (reached : Reached) : Type 0 where
    front : Reached
    tasks : task_and_more program task store fewer ≡ Some front
    rest : List Access
    joined : reached.done ≡ front.done ++ rest

  front-of : (fewer count : ℕ) (reached : Reached) → fewer ≤ count → task_and_more program task store count ≡ Some reached → HasFront fewer reached
  front-of fewer zero reached le found =
      let same : 0 ≡ fewer = omega arith in
      record { front = reached; tasks = subst (λ (n : ℕ). task_and_more program task store n ≡ Some reached) same found; rest = []; joined = sym (append-nil reached.done) }
  front-of fewer (suc count) reached le found =
      elim (eq-or-lt_of_le le) [
        | inl same ↦ record { front = reached; tasks = subst (λ (n : ℕ). task_and_more program task store n ≡ Some reached) (sym same) found; rest = []; joined = sym (append-nil reached.done) }
        | inr less ↦
            let last = one-more-of (task_and_more program task store count) reached found in
            let before = front-of fewer count last.first (omega arith) last.is in
            let next = task_effect program last.first.place (after last.first.done store) in
            record {
              front = before.front;
              tasks = before.tasks;
              rest = before.rest ++ next.done;
              joined = ap (λ (r : Reached). r.done) last.joined ∙ ap (λ (done : List Access). done ++ next.done) before.joined ∙ append_assoc before.front.done before.rest next.done;
            }
      ]

  -- what the first tasks of more tasks read comes first
  reads-first : (fewer count : ℕ) (front reached : Reached) → fewer ≤ count → task_and_more program task store fewer ≡ Some front → task_and_more program task store count ≡ Some reached →
      (rest : List Reading) × (readings reached.done ≡ readings front.done ++ rest)
  reads-first fewer count front reached le is found =
      let there = front-of fewer count reached le found in
      let same : Some there.front ≡ Some front = sym there.tasks ∙ is in
      let first : there.front ≡ front = cc in
      (readings there.rest, ap readings there.joined ∙ readings-append there.front.done there.rest ∙ ap (λ (r : Reached). readings r.done ++ readings there.rest) first)

  -- what is whole is reached, and has ended
  pub record HasEnded (count : ℕ) (whole : Reached) : Type 0 where
    pub tasks : tasks_effect program task store count ≡ Some whole
    pub outside : is_inside program task whole.place ≡ false

  by-end : (first whole : Reached) (inside : Bool) → is_inside program task first.place ≡ inside → unless_inside program task first ≡ Some whole → (first ≡ whole) × (is_inside program task first.place ≡ false)
  by-end first whole true is found = let never : None ≡ Some whole = rw is at found in absurd (cc)
  by-end first whole false is found = let there : Some first ≡ Some whole = rw is at found in (cc, is)

  by-tasks : (count : ℕ) (whole : Reached) (reached : Option Reached) → tasks_effect program task store count ≡ reached → option_and_then (unless_inside program task) reached ≡ Some whole → HasEnded count whole
  by-tasks count whole None is found = let never : None ≡ Some whole = found in absurd (cc)
  by-tasks count whole (Some first) is found =
      let end = by-end first whole (is_inside program task first.place) refl found in
      record { tasks = is ∙ ap Some end.0; outside = subst (λ (r : Reached). is_inside program task r.place ≡ false) end.0 end.1 }

  pub ended-of : (count : ℕ) (whole : Reached) → whole_effect program task store count ≡ Some whole → HasEnded count whole
  ended-of count whole found = by-tasks count whole (tasks_effect program task store count) refl found

  -- where a task reads anything else than is told, no unit with that task reads what is told
  strays-by : (count fewer : ℕ) (front whole : Reached) (reads made : List Reading) → suc fewer ≤ count → task_and_more program task store fewer ≡ Some front → readings front.done ≡ made →
      ((rest : List Reading) → reads ≡ made ++ rest → ⊥) → whole_effect program task store count ≡ Some whole → readings whole.done ≡ reads → ⊥
  strays-by zero fewer front whole reads made le is made_is other found all = absurd (omega arith)
  strays-by (suc count) fewer front whole reads made le is made_is other found all =
      let end = ended-of (suc count) whole found in
      let first = reads-first fewer count front whole (omega arith) is end.tasks in
      other first.0 (sym all ∙ first.1 ∙ ap (λ (before : List Reading). before ++ first.0) made_is)

  pub strays-at-first : (count : ℕ) (whole : Reached) (reads : List Reading) → 0 < count →
      ((rest : List Reading) → reads ≡ readings (task_effect program task store).done ++ rest → ⊥) → whole_effect program task store count ≡ Some whole → readings whole.done ≡ reads → ⊥
  strays-at-first count whole reads some other found all =
      strays-by count 0 (task_effect program task store) whole reads (readings (task_effect program task store).done) (omega arith) refl refl other found all

-- so many tasks have led there, and made the first of the readings
pub record HasCome (program : Program) (task : ℕ) (before : List ℕ) (count : ℕ) (reads : List Reading) (f : Followed) : Type 0 where
  pub reached : Reached
  pub tasks : tasks_effect program task (slice_index before) count ≡ Some reached
  pub followed : HasFollowed before reached reads 0 f

module _ (program : Program) (task : ℕ) (before : List ℕ) (reads : List Reading) (f : Followed) where
  pub comes-first : HasFollowed before (task_effect program task (slice_index before)) reads 0 f → HasCome program task before 1 reads f
  comes-first followed = record { reached = task_effect program task (slice_index before); tasks = refl; followed = followed }

  -- the task behind these runs where they have led
  effect-there : (reached : Reached) → HasFollowed before reached reads 0 f → task_effect program f.place (slice_index f.store) ≡ task_effect program reached.place (after reached.done (slice_index before))
  effect-there reached followed = ap (λ (store : Store). task_effect program f.place store) followed.led.store_after ∙ ap (λ (p : ℕ). task_effect program p (after reached.done (slice_index before))) followed.led.place_is

  pub comes-further : (count : ℕ) (next : Followed) → HasCome program task before count reads f → is_inside program task f.place ≡ true →
      HasFollowed f.store (task_effect program f.place (slice_index f.store)) reads f.read next → HasCome program task before (count + 1) reads next
  comes-further count next come inside followed =
      let effect = task_effect program come.reached.place (after come.reached.done (slice_index before)) in
      let same : task_effect program f.place (slice_index f.store) ≡ effect = effect-there come.reached come.followed in
      let last : HasFollowed f.store effect reads f.read next = subst (λ (r : Reached). HasFollowed f.store r reads f.read next) same followed in
      let first = come.followed in
      record {
        reached = followed_by come.reached effect;
        tasks = one-further program task (slice_index before) count come.reached come.tasks (subst (λ (p : ℕ). is_inside program task p ≡ true) first.led.place_is inside);
        followed = record {
          led = record {
            store_after = last.led.store_after ∙ ap (after effect.done) first.led.store_after ∙ sym (after-append come.reached.done effect.done (slice_index before));
            words = last.led.words ∙ first.led.words;
            place_is = last.led.place_is;
          };
          within = last.within;
          made = first.made ∙ ap (λ (rest : List Reading). readings come.reached.done ++ rest) last.made ∙ sym (append_assoc (readings come.reached.done) (readings effect.done) (drop next.read reads))
              ∙ ap (λ (all : List Reading). all ++ drop next.read reads) (sym (readings-append come.reached.done effect.done));
        };
      }

  -- where the next task reads anything else
  pub strays-further : (done count : ℕ) (whole : Reached) → HasCome program task before done reads f → done < count → is_inside program task f.place ≡ true →
      ((rest : List Reading) → drop f.read reads ≡ readings (task_effect program f.place (slice_index f.store)).done ++ rest → ⊥) →
      whole_effect program task (slice_index before) count ≡ Some whole → readings whole.done ≡ reads → ⊥
  strays-further done count whole come below inside other found all =
      let effect = task_effect program come.reached.place (after come.reached.done (slice_index before)) in
      let same : task_effect program f.place (slice_index f.store) ≡ effect = effect-there come.reached come.followed in
      let first = come.followed in
      let further : tasks_effect program task (slice_index before) (done + 1) ≡ Some (followed_by come.reached effect) =
      one-further program task (slice_index before) done come.reached come.tasks (subst (λ (p : ℕ). is_inside program task p ≡ true) first.led.place_is inside) in
      let made : readings (followed_by come.reached effect).done ≡ readings come.reached.done ++ readings effect.done = readings-append come.reached.done effect.done in
      strays-by program task (slice_index before) count done (followed_by come.reached effect) whole reads (readings come.reached.done ++ readings effect.done) (omega arith)
      (rw add-one at further) made
      (λ rest is. other rest (
      append_cancel_left (readings come.reached.done) (drop f.read reads) (readings (task_effect program f.place (slice_index f.store)).done ++ rest)
      (sym first.made ∙ is ∙ append_assoc (readings come.reached.done) (readings effect.done) rest ∙ ap (λ (r : Reached). readings come.reached.done ++ (readings r.done ++ rest)) (sym same)))) found all

-- the readings that are left
pub left-is : (reads : List Reading) (read : ℕ) → take (length reads - read) (drop read reads) ≡ drop read reads
left-is reads read = take_all (length reads - read) (drop read reads) (omega (arith, length-drop read reads))

-- readings that begin with these go on behind them
pub begins-so : (reads first rest : List Reading) → reads ≡ first ++ rest → reads ≡ first ++ drop (length first) reads
begins-so reads first rest is = is ∙ ap (λ (more : List Reading). first ++ more) (sym (ap (drop (length first)) is ∙ drop-append_seam first rest))

pub made-next : (reads told : List Reading) (read : ℕ) → read ≤ length reads → drop read reads ≡ told ++ drop (length told) (drop read reads) →
    (read + length told ≤ length reads) × (drop read reads ≡ told ++ drop (read + length told) reads)
made-next reads told read within is =
    let lengths = ap length is in
    let further : drop (length told) (drop read reads) ≡ drop (read + length told) reads = drop-drop (length told) read reads in
    (omega (arith, lengths, length-append told (drop (length told) (drop read reads)), length-drop read reads), is ∙ ap (λ (rest : List Reading). told ++ rest) further)

-- a task that makes these readings makes not the next of those told
pub strays-task : (reads told made rest : List Reading) (read : ℕ) (begins : Bool) → told ≡ made → begins ≡ false →
    IsTrue begins ↔ (take (length reads - read) (drop read reads) ≡ told ++ drop (length told) (take (length reads - read) (drop read reads))) → drop read reads ≡ made ++ rest → ⊥
strays-task reads told made rest read begins is other tested goes_on =
    let left : List Reading = take (length reads - read) (drop read reads) in
    let there : left ≡ told ++ rest = left-is reads read ∙ goes_on ∙ ap (λ (first : List Reading). first ++ rest) (sym is) in
    let begun : begins ≡ true = tested.1 (begins-so left told rest there) in
    absurd (cc)

-- one that makes these makes the next
pub follows-task : (reads told : List Reading) (read : ℕ) (begins : Bool) → read ≤ length reads → begins ≡ true →
    IsTrue begins ↔ (take (length reads - read) (drop read reads) ≡ told ++ drop (length told) (take (length reads - read) (drop read reads))) →
    (read + length told ≤ length reads) × (drop read reads ≡ told ++ drop (read + length told) reads)
follows-task reads told read begins within begun tested = made-next reads told read within (rw left-is at (tested.0 begun))

-- as far as a round goes, its tasks made no reading
abbrev pub GoesRound : Program → ℕ → Round → Followed → Type 0
GoesRound program task round f = 0 < round.tasks → round.read ≡ f.read → Way program task round.place f.place

-- a task that made none of the readings leads to its place alone
leads-there : (program : Program) (task : ℕ) (reads : List Reading) (f next : Followed) → is_inside program task f.place ≡ true →
    HasFollowed f.store (task_effect program f.place (slice_index f.store)) reads f.read next → f.read ≡ next.read → Leads program task f.place next.place
leads-there program task reads f next inside followed same =
    let effect = task_effect program f.place (slice_index f.store) in
    let left : drop f.read reads ≡ readings effect.done ++ drop f.read reads = followed.made ∙ ap (λ (n : ℕ). readings effect.done ++ drop n reads) (sym same) in
    leads-on program task f.place next.place (slice_index f.store) inside (nothing-before (drop f.read reads) (readings effect.done) left) followed.led.place_is

pub round-on : (program : Program) (task : ℕ) (reads : List Reading) (round on : Round) (f next : Followed) → GoesRound program task round f → is_inside program task f.place ≡ true →
    HasFollowed f.store (task_effect program f.place (slice_index f.store)) reads f.read next → IsRoundOn round f.place f.read on → GoesRound program task on next
round-on program task reads round on f next before inside followed (inl begins) some same =
    let leads = leads-there program task reads f next inside followed (sym begins.read_is ∙ same) in
    subst (λ (p : ℕ). Way program task p next.place) (sym begins.place_is) (Way.one f.place next.place leads)
round-on program task reads round on f next before inside followed (inr goes_on) some same =
    let leads = leads-there program task reads f next inside followed (sym goes_on.no_reading ∙ sym goes_on.read_is ∙ same) in
    let way = before goes_on.some goes_on.no_reading in
    subst (λ (p : ℕ). Way program task p next.place) (sym goes_on.place_is) (way-on program task round.place f.place next.place way leads)

module _ (program : Program) (task : ℕ) (before : List ℕ) (reads : List Reading) (done count : ℕ) (f : Followed) (come : HasCome program task before done reads f) (whole : Reached) where
  -- a unit that has ended runs no further
  pub ends-before : done < count → is_inside program task f.place ≡ false → whole_effect program task (slice_index before) count ≡ Some whole → ⊥
  ends-before below outside found =
      let end = ended-of program task (slice_index before) count whole found in
      let outside_there : is_inside program task come.reached.place ≡ false = subst (λ (p : ℕ). is_inside program task p ≡ false) come.followed.led.place_is outside in
      let never : None ≡ Some whole = sym (ended program task (slice_index before) done count come.reached come.tasks outside_there below) ∙ end.tasks in
      absurd (cc)

  pub comes-round : (round : Round) → done < count → GoesRound program task round f → HasComeRound round f.place f.read → whole_effect program task (slice_index before) count ≡ Some whole → ⊥
  comes-round round below goes again found =
      let way = subst (λ (p : ℕ). Way program task p f.place) again.again (goes again.some again.no_reading) in
      never-whole program task (slice_index before) f.place way done count come.reached whole (omega arith) come.tasks (sym come.followed.led.place_is) found
