-- The first of several changes that doesn't stand yet, in lists that are joined.
use Rattle.std.proofs.Common.{◌≡◌, ◌≢◌, ◌⊎◌, ℕ, zero, suc, ◌<◌, refl, sym, ◌∙◌, arith, inl, inr, List, [], ◌∷◌, ◌++◌, Option, Some, None, Bool, true, false, if◌then◌else◌}
use Rattle.std.proofs.lemmas.Bool.{cases_eq}
use Rattle.nv_memory.specs.State.{Change, State, first_undone, is_done}
use Rattle.nv_memory.proofs.Looks.{test_other, test_same}
use Rattle.tx_buffer.specs.Next.{changes_below}

after_step : (s : State) (x : Change) (xs ys : List Change) (b : Bool)
    → (first_undone s xs ≡ None → first_undone s (xs ++ ys) ≡ first_undone s ys)
    → (if b then first_undone s xs else Some x) ≡ None → (if b then first_undone s (xs ++ ys) else Some x) ≡ first_undone s ys
after_step s x xs ys true more e = more e
after_step s x xs ys false more e = absurd cc

-- behind changes that all stand
pub undone_after : (s : State) (xs ys : List Change) → first_undone s xs ≡ None → first_undone s (xs ++ ys) ≡ first_undone s ys
undone_after s [] ys e = refl
undone_after s (x ∷ xs) ys e = after_step s x xs ys (is_done s x) (undone_after s xs ys) e

before_step : (s : State) (x c : Change) (xs ys : List Change) (b : Bool)
    → (first_undone s xs ≡ Some c → first_undone s (xs ++ ys) ≡ Some c)
    → (if b then first_undone s xs else Some x) ≡ Some c → (if b then first_undone s (xs ++ ys) else Some x) ≡ Some c
before_step s x c xs ys true more e = more e
before_step s x c xs ys false more e = e

-- what follows it doesn't matter
pub undone_before : (s : State) (xs ys : List Change) (c : Change) → first_undone s xs ≡ Some c → first_undone s (xs ++ ys) ≡ Some c
undone_before s [] ys c e = absurd cc
undone_before s (x ∷ xs) ys c e = before_step s x c xs ys (is_done s x) (undone_before s xs ys c) e

split_step : (s : State) (xs ys : List Change) (c : Change) (o : Option Change) → first_undone s xs ≡ o
    → first_undone s (xs ++ ys) ≡ Some c → (first_undone s xs ≡ Some c) ⊎ ((first_undone s xs ≡ None) × (first_undone s ys ≡ Some c))
split_step s xs ys c None is e = let rest = undone_after s xs ys is in inr (is, cc)
split_step s xs ys c (Some d) is e = let here = undone_before s xs ys d is in inl (cc)

-- it is in the first list, or in the second behind the first
pub undone_split : (s : State) (xs ys : List Change) (c : Change) → first_undone s (xs ++ ys) ≡ Some c
    → (first_undone s xs ≡ Some c) ⊎ ((first_undone s xs ≡ None) × (first_undone s ys ≡ Some c))
undone_split s xs ys c e = split_step s xs ys c (first_undone s xs) refl e

none_step : (s : State) (xs ys : List Change) (o : Option Change) → first_undone s xs ≡ o
    → first_undone s (xs ++ ys) ≡ None → (first_undone s xs ≡ None) × (first_undone s ys ≡ None)
none_step s xs ys None is e = let rest = undone_after s xs ys is in (is, cc)
none_step s xs ys (Some d) is e = let here = undone_before s xs ys d is in absurd cc

-- all stand in both lists
pub done_both : (s : State) (xs ys : List Change) → first_undone s (xs ++ ys) ≡ None → (first_undone s xs ≡ None) × (first_undone s ys ≡ None)
done_both s xs ys e = none_step s xs ys (first_undone s xs) refl e

-- it is at one place, and all before that stand
pub undone_below : (s : State) (f : ℕ → List Change) (n i : ℕ) (c : Change) → i < n → first_undone s (changes_below f i) ≡ None
    → first_undone s (f i) ≡ Some c → first_undone s (changes_below f n) ≡ Some c
undone_below s f zero i c l before here = absurd (omega arith)
undone_below s f (suc n) i c l before here = elim (cases_eq i n) [
  | inl q ↦ (undone_after s (changes_below f n) (f n) (rw (← q) before)) ∙ rw (← q) here
  | inr d ↦ undone_before s (changes_below f n) (f n) c (undone_below s f n i c (omega arith) before here)
]

-- the place of it
pub record UndoneAt (s : State) (f : ℕ → List Change) (n : ℕ) (c : Change) : Type 0 where
  pub i : ℕ
  pub low : i < n
  pub before : first_undone s (changes_below f i) ≡ None
  pub here : first_undone s (f i) ≡ Some c

pub undone_at : (s : State) (f : ℕ → List Change) (n : ℕ) (c : Change) → first_undone s (changes_below f n) ≡ Some c → UndoneAt s f n c
undone_at s f zero c e = absurd cc
undone_at s f (suc n) c e = elim (undone_split s (changes_below f n) (f n) c e) [
  | inl h ↦ let at = undone_at s f n c h in record { i = at.i; low = omega (arith, at.low); before = at.before; here = at.here }
  | inr h ↦ record { i = n; low = omega arith; before = h.0; here = h.1 }
]

-- all stand at each place
pub done_at : (s : State) (f : ℕ → List Change) (n : ℕ) → first_undone s (changes_below f n) ≡ None → (i : ℕ) → i < n → first_undone s (f i) ≡ None
done_at s f zero e i l = absurd (omega arith)
done_at s f (suc n) e i l =
    let both = done_both s (changes_below f n) (f n) e in
    elim (cases_eq i n) [
      | inl q ↦ rw q both.1
      | inr d ↦ done_at s f n both.0 i (omega arith)
    ]

pub done_below : (s : State) (f : ℕ → List Change) (n : ℕ) → ((i : ℕ) → i < n → first_undone s (f i) ≡ None) → first_undone s (changes_below f n) ≡ None
done_below s f zero h = refl
done_below s f (suc n) h =
    undone_after s (changes_below f n) (f n) (done_below s f n (λ i l. h i (omega arith))) ∙ h n (omega arith)

-- the first of a list
pub undone_head : (s : State) (c : Change) (rest : List Change) → s.at c.seat ≢ c.value → first_undone s (c ∷ rest) ≡ Some c
undone_head s c rest n = rw (test_other (s.at c.seat) c.value n) refl

pub done_head : (s : State) (c : Change) (rest : List Change) → s.at c.seat ≡ c.value → first_undone s (c ∷ rest) ≡ first_undone s rest
done_head s c rest e = rw (test_same (s.at c.seat) c.value e) refl

-- where none is left, the first stands
pub head_done : (s : State) (c : Change) (rest : List Change) → first_undone s (c ∷ rest) ≡ None → (s.at c.seat ≡ c.value) × (first_undone s rest ≡ None)
head_done s c rest e = elim (cases_eq (s.at c.seat) c.value) [
  | inl q ↦ (q, sym (done_head s c rest q) ∙ e)
  | inr n ↦ let here = undone_head s c rest n in absurd cc
]

-- it is the head, or it is behind a head that stands
pub head_split : (s : State) (d c : Change) (rest : List Change) → first_undone s (d ∷ rest) ≡ Some c
    → ((s.at d.seat ≢ d.value) × (d ≡ c)) ⊎ ((s.at d.seat ≡ d.value) × (first_undone s rest ≡ Some c))
head_split s d c rest e = elim (cases_eq (s.at d.seat) d.value) [
  | inl q ↦ inr (q, sym (done_head s d rest q) ∙ e)
  | inr n ↦ let here = undone_head s d rest n in inl (n, cc)
]
