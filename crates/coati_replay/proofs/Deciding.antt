-- What is equal, or holds up to a number, or is the least clash, can be decided.
use Rattle.std.proofs.Common.{◌≡◌, ℕ, zero, suc, ◌<◌, ◌≤◌, Bool, true, false, List, [], ◌∷◌, refl, sym, subst, ap, arith, inl, inr}
use Rattle.std.specs.Prelude.{Option, Some, None}
use Rattle.std.proofs.Math.Nat.{eq-or-lt_of_le}
use Rattle.std.proofs.Math.Decide.{dec_le, ℕ_discrete, map_dec}
use Rattle.coati_word.specs.declared.mode.Mode.{Mode}
use Rattle.coati_word.specs.declared.mode.Mode.TheVariants.{Split, Buffi}
use Rattle.coati_word.specs.declared.reading.Reading.{Reading}
use Rattle.task_syntax.specs.Course.{Access}
use Rattle.task_syntax.specs.CourseLaws.{WrittenWordsAreTold}
use Rattle.task_syntax.specs.Written.{is_shared, is_written}
use Rattle.serial_log.specs.declared.mark.MarkKind.{MarkKind}
use Rattle.serial_log.specs.declared.mark.MarkKind.TheVariants.{Boot, Posted, Done, Commit, Abort, End}
use Rattle.serial_log.specs.Aborts.{IsClash, IsLeastClash}

pub both : {A B : Type 0} → Dec A → Dec B → Dec (A × B)
both (yes a) (yes b) = yes (a, b)
both (yes a) (no never) = no (λ pair. never pair.1)
both (no never) other = no (λ pair. never pair.0)

never : {A : Type 0} → Dec A → Dec (A → ⊥)
never (yes a) = no (λ f. f a)
never (no f) = yes f

pub is-true : (b : Bool) → Dec (b ≡ true)
is-true true = yes refl
is-true false = no (λ same. absurd (cc))

pub is-none : {A : Type 0} (o : Option A) → Dec (o ≡ None)
is-none None = yes refl
is-none (Some x) = no (λ same. absurd (cc))

pub is-number : (o : Option ℕ) (n : ℕ) → Dec (o ≡ Some n)
is-number None n = no (λ same. absurd (cc))
is-number (Some m) n = map_dec (λ same. ap (λ (k : ℕ). Some k) same) (λ same. cc) (ℕ_discrete m n)

pub is-empty : {A : Type 0} (xs : List A) → Dec (xs ≡ [])
is-empty [] = yes refl
is-empty (x ∷ xs) = no (λ same. absurd (cc))

pub is-mode : (one other : Mode) → Dec (one ≡ other)
is-mode Split Split = yes refl
is-mode Split Buffi = no (λ same. absurd (cc))
is-mode Buffi Split = no (λ same. absurd (cc))
is-mode Buffi Buffi = yes refl

pub is-boot : (kind : MarkKind) (boot : ℕ) → Dec (kind ≡ Boot boot)
is-boot (Boot number) boot = map_dec (λ same. ap (λ (n : ℕ). Boot n) same) (λ same. cc) (ℕ_discrete number boot)
is-boot (Posted posted) boot = no (λ same. absurd (cc))
is-boot (Done task) boot = no (λ same. absurd (cc))
is-boot (Commit committed) boot = no (λ same. absurd (cc))
is-boot (Abort aborted) boot = no (λ same. absurd (cc))
is-boot (End end) boot = no (λ same. absurd (cc))

is-reading : (a b : Reading) → Dec (a ≡ b)
is-reading a b = map_dec (λ same. λ i. record { word = same.0 i; value = same.1 i }) (λ same. (ap (λ (r : Reading). r.word) same, ap (λ (r : Reading). r.value) same))
    (both (ℕ_discrete a.word b.word) (ℕ_discrete a.value b.value))

pub are-readings : (xs ys : List Reading) → Dec (xs ≡ ys)
are-readings [] [] = yes refl
are-readings [] (y ∷ ys) = no (λ same. absurd (cc))
are-readings (x ∷ xs) [] = no (λ same. absurd (cc))
are-readings (x ∷ xs) (y ∷ ys) = map_dec (λ same. λ i. same.0 i ∷ same.1 i) (λ same. (let first : x ≡ y = cc in first, let rest : xs ≡ ys = cc in rest)) (both (is-reading x y) (are-readings xs ys))

-- what holds of each number below one
module _ (P : ℕ → Type 0) where
  up-to : (n : ℕ) → ((k : ℕ) → k < n → P k) → P n → (k : ℕ) → k < suc n → P k
  up-to n all here k below =
      let most : k ≤ n = omega arith in
      elim (eq-or-lt_of_le most) [ inl same ↦ subst P (sym same) here | inr less ↦ all k less ]

  pub each-below : ((k : ℕ) → Dec (P k)) → (n : ℕ) → Dec ((k : ℕ) → k < n → P k)
  each-below decided zero = yes (λ k below. absurd (omega arith))
  each-below decided (suc n) = map_dec (λ pair. up-to n pair.0 pair.1) (λ all. (λ k below. all k (omega arith), all n (omega arith))) (both (each-below decided n) (decided n))

module _ (told : WrittenWordsAreTold) (event tasks : List Access) where
  clashes : (word : ℕ) → Dec (IsClash event tasks word)
  clashes word = map_dec (λ pair. record { written = (told event word).contained.1 pair.0; shared = pair.1 }) (λ clash. ((told event word).contained.0 clash.written, clash.shared))
      (both (is-true (is_written event word)) (is-true (is_shared tasks word)))

  pub is-least-clash : (word : ℕ) → Dec (IsLeastClash event tasks word)
  is-least-clash word =
      map_dec (λ pair. record { clash = pair.0; least = λ other clash. none-less word other pair.1 clash })
      (λ least. (least.clash, λ k below clash. let most = least.least k clash in omega arith))
      (both (clashes word) (each-below (λ (k : ℕ). IsClash event tasks k → ⊥) (λ k. never (clashes k)) word))
    where
      none-less : (word other : ℕ) → ((k : ℕ) → k < word → IsClash event tasks k → ⊥) → IsClash event tasks other → word ≤ other
      none-less word other none clash =
          elim (dec_le word other) [ yes most ↦ most | no over ↦ absurd (none other (let less : other < word = omega arith in less) clash) ]
