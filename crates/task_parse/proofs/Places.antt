-- The first fault that reading by a stack tells is the grammar's.
use Rattle.std.proofs.Common.{◌≡◌, ◌+◌, ℕ, List, [], ◌∷◌, ◌++◌, length, append_assoc, Bool, true, false, ◌&&◌, ◌||◌, nat_eq, cond, refl, ap, sym, ◌∙◌, subst, arith}
use Rattle.std.specs.Prelude.{Option, Some, None}
use Rattle.task_syntax.specs.declared.program.Program.{Program}
use Rattle.task_parse.specs.Answer.{Explains, HasAnswer}
use Rattle.task_parse.specs.Bars.{Scan, most_open, opens, shift, AreFree, is_barred, scan_from, scanned, start}
use Rattle.task_parse.specs.Faults.{Breaks, FaultAt, DeepAt}
use Rattle.task_parse.specs.Grammar.{Derives}
use Rattle.task_parse.specs.Lexeme.{Lexeme}
use Rattle.task_parse.specs.Machine.{Part, feed, are_optional, whole_parts, Verdict, judged, verdict, seen, told}
use Rattle.task_parse.specs.declared.fault.ParseFault.{ParseFault}
use Rattle.task_parse.specs.declared.fault.ParseFault.TheVariants as fault
use Rattle.task_parse.proofs.Accepts as A
use Rattle.task_parse.proofs.Accepts.{accepts, accepts_next}
use Rattle.task_parse.proofs.Completes.{Spelled, FedSound, feed_sound, ends, program_of, optional_spelled}
use Rattle.task_parse.proofs.Tuned.{Tuned, Next, next}

-- the first fault of a program's tokens
abbrev pub verdict_of : List Lexeme → Verdict
verdict_of list = verdict 0 0 list whole_parts

-- the stack does not take what has been read so, or anything that goes on with the first of the rest
abbrev pub Stuck : List Part → List Lexeme → List Lexeme → Type 0
Stuck k before [] = accepts before k ≡ false
Stuck k before (token ∷ rest) = (more : List Lexeme) → accepts (before ++ token ∷ more) k ≡ false

-- the list breaks at token n, where its first is number `at`
pub record BadAt (s : Scan) (k : List Part) (list : List Lexeme) (at n : ℕ) : Type 0 where
  pub before : List Lexeme
  pub rest : List Lexeme
  pub split : list ≡ before ++ rest
  pub place : at + length before ≡ n
  pub begins : (more : List Lexeme) × Spelled k (before ++ more)
  pub stuck : Stuck k before rest
  pub free : AreFree s before

-- token n is barred, where the list's first is number `at`
pub record DeepIn (s : Scan) (k : List Part) (list : List Lexeme) (at n : ℕ) : Type 0 where
  pub before : List Lexeme
  pub token : Lexeme
  pub rest : List Lexeme
  pub split : list ≡ before ++ token ∷ rest
  pub place : at + length before ≡ n
  pub begins : (more : List Lexeme) × Spelled k (before ++ token ∷ more)
  pub barred : is_barred (scan_from s before) token ≡ true
  pub free : AreFree s before

-- what has to be shown of a list and a stack, where the verdict is given
abbrev pub Shown : Scan → List Part → List Lexeme → ℕ → Verdict → Type 0
Shown s k list at Verdict.Fine = AreFree s list × Spelled k list
Shown s k list at (Verdict.Bad n) = BadAt s k list at n
Shown s k list at (Verdict.Deep n) = DeepIn s k list at n

-- behind a token that is taken and not barred
later : (s : Scan) (k j : List Part) (limit : Bool) (token : Lexeme) (list : List Lexeme) (at : ℕ) (v : Verdict) → feed k token ≡ Some (limit, j) → is_barred s token ≡ false
    → Shown (scanned s token) j list (at + 1) v → Shown s k (token ∷ list) at v
later s k j limit token list at Verdict.Fine h q r = ((q, r.0), subst (FedSound k token list) h (feed_sound token list k) r.1)
later s k j limit token list at (Verdict.Bad n) h q b = record {
  before = token ∷ b.before;
  rest = b.rest;
  split = ap (λ w. token ∷ w) b.split;
  place = (let r : at + 1 + length b.before ≡ n = b.place in omega arith);
  begins = (b.begins.0, subst (FedSound k token (b.before ++ b.begins.0)) h (feed_sound token (b.before ++ b.begins.0) k) b.begins.1);
  stuck = stuck_on b.before b.rest b.stuck;
  free = (q, b.free);
} where
  step_in : (us : List Lexeme) → accepts (token ∷ us) k ≡ accepts us j
  step_in us = ap (accepts_next (accepts us)) h

  stuck_on : (before rest : List Lexeme) → Stuck j before rest → Stuck k (token ∷ before) rest
  stuck_on before [] s = step_in before ∙ s
  stuck_on before (u ∷ rest) s = λ us. step_in (before ++ u ∷ us) ∙ s us
later s k j limit token list at (Verdict.Deep n) h q b = record {
  before = token ∷ b.before;
  token = b.token;
  rest = b.rest;
  split = ap (λ w. token ∷ w) b.split;
  place = (let r : at + 1 + length b.before ≡ n = b.place in omega arith);
  begins = (b.begins.0, subst (FedSound k token (b.before ++ b.token ∷ b.begins.0)) h (feed_sound token (b.before ++ b.token ∷ b.begins.0) k) b.begins.1);
  barred = b.barred;
  free = (q, b.free);
}

-- a token that is taken and barred
barred_here : (s : Scan) (k j : List Part) (limit : Bool) (token : Lexeme) (list : List Lexeme) (at : ℕ) → feed k token ≡ Some (limit, j) → is_barred s token ≡ true → DeepIn s k (token ∷ list) at at
barred_here s k j limit token list at h q =
    let r = ends j in
    record { before = []; token = token; rest = list; split = refl; place = omega arith; begins = (r.0, subst (FedSound k token r.0) h (feed_sound token r.0 k) r.1); barred = q; free = tt }

-- the stack bars as the scan does
bars_is : (s : Scan) (k j : List Part) (limit : Bool) (token : Lexeme) → feed k token ≡ Some (limit, j) → Tuned k s.ended s.counts
    → (is_barred s token ≡ ((opens token && nat_eq s.depth most_open) || limit)) × Tuned j (scanned s token).ended (scanned s token).counts
bars_is s k j limit token h u =
    let m = subst (Next s.ended s.counts token) h (next u token) in
    (ap (λ b. (opens token && nat_eq s.depth most_open) || b) (sym m.0), m.1)

shown_step : (s : Scan) (k : List Part) (token : Lexeme) (list : List Lexeme) (at : ℕ) (go : List Part → Verdict) → Tuned k s.ended s.counts
    → ((j : List Part) → Tuned j (scanned s token).ended (scanned s token).counts → Shown (scanned s token) j list (at + 1) (go j))
    → (o : Option (Bool × List Part)) → feed k token ≡ o → Shown s k (token ∷ list) at (judged at (opens token && nat_eq s.depth most_open) go o)
shown_step s k token list at go u ih None h =
    let r = ends k in
    record { before = []; rest = token ∷ list; split = refl; place = omega arith; begins = r; stuck = (λ us. ap (accepts_next (accepts us)) h); free = tt }
shown_step s k token list at go u ih (Some (limit, j)) h = chosen ((opens token && nat_eq s.depth most_open) || limit) (bars_is s k j limit token h u) where
  chosen : (b : Bool) → (is_barred s token ≡ b) × Tuned j (scanned s token).ended (scanned s token).counts → Shown s k (token ∷ list) at (cond b (Verdict.Deep at) (go j))
  chosen true m = barred_here s k j limit token list at h m.0
  chosen false m = later s k j limit token list at (go j) h m.0 (ih j m.1)

shown_end : (s : Scan) (k : List Part) (at : ℕ) (b : Bool) → are_optional k ≡ b → Shown s k [] at (cond b Verdict.Fine (Verdict.Bad at))
shown_end s k at true h = (tt, optional_spelled k h)
shown_end s k at false h = record { before = []; rest = []; split = refl; place = omega arith; begins = ends k; stuck = h; free = tt }

shown : (list : List Lexeme) (k : List Part) (at : ℕ) (s : Scan) → Tuned k s.ended s.counts → Shown s k list at (verdict at s.depth list k)
shown [] k at s u = shown_end s k at (are_optional k) refl
shown (token ∷ list) k at s u = shown_step s k token list at (verdict (at + 1) (shift s.depth token) list) u (λ j u. shown list j (at + 1) (scanned s token) u) (feed k token) refl

begun : Tuned whole_parts false []
begun = Tuned.calm (refl, (refl, (refl, (refl, (refl, (refl, (refl, (refl, (refl, (refl, tt))))))))))

shown_whole : (list : List Lexeme) (v : Verdict) → verdict_of list ≡ v → Shown start whole_parts list 0 v
shown_whole list v h = subst (Shown start whole_parts list 0) h (shown list whole_parts 0 start begun)

breaks : (before rest : List Lexeme) → Stuck whole_parts before rest → Breaks before rest
breaks before [] s = λ p d. (let h = A.program d in absurd (cc))
breaks before (token ∷ rest) s = λ (more, p, d). (let h = A.program d in let g = s more in let e = append_assoc before (token ∷ []) more in absurd (cc))

pub bad : (list : List Lexeme) (n : ℕ) → verdict_of list ≡ Verdict.Bad n → FaultAt list n
bad list n e =
    let b = shown_whole list (Verdict.Bad n) e in
    let d = program_of (b.before ++ b.begins.0) b.begins.1 in
    record { before = b.before; rest = b.rest; split = b.split; place = (let h : 0 + length b.before ≡ n = b.place in omega arith); begins = (b.begins.0, d.0, d.1); breaks = breaks b.before b.rest b.stuck; free = b.free }

pub deep : (list : List Lexeme) (n : ℕ) → verdict_of list ≡ Verdict.Deep n → DeepAt list n
deep list n e =
    let b = shown_whole list (Verdict.Deep n) e in
    let d = program_of (b.before ++ b.token ∷ b.begins.0) b.begins.1 in
    record {
      before = b.before;
      token = b.token;
      rest = b.rest;
      split = b.split;
      place = (let h : 0 + length b.before ≡ n = b.place in omega arith);
      begins = (b.begins.0, d.0, subst (λ w. Derives w d.0) (sym (append_assoc b.before (b.token ∷ []) b.begins.0)) d.1);
      barred = b.barred;
      free = b.free;
    }

pub fine : (list : List Lexeme) → verdict_of list ≡ Verdict.Fine → AreFree start list × ((p : Program) × Derives list p)
fine list e = let b = shown_whole list Verdict.Fine e in (b.0, program_of list b.1)

pub explained : (list : List Lexeme) (refused : ParseFault) → seen refused (verdict_of list) ≡ told refused → Explains list refused
explained list (fault.Syntax n) h = bad list n h
explained list (fault.TooDeep n) h = deep list n h
explained list fault.OutOfMemory h = tt

-- each list has an answer: what the stack tells of it
pub answer : (list : List Lexeme) → HasAnswer list
answer list = by_verdict (verdict_of list) refl where
  by_verdict : (v : Verdict) → verdict_of list ≡ v → HasAnswer list
  by_verdict Verdict.Fine h = let f = fine list h in HasAnswer.spelled f.1.0 f.1.1 f.0
  by_verdict (Verdict.Bad n) h = HasAnswer.broken n (bad list n h)
  by_verdict (Verdict.Deep n) h = HasAnswer.barred n (deep list n h)
