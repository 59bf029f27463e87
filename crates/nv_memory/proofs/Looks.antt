-- Look-ups among the first pairs of a log.
use Rattle.std.proofs.Common.{◌≡◌, ◌≢◌, ℕ, zero, suc, ◌-◌, ◌<◌, ◌==◌, refl, ap, subst, ◌∙◌, arith, Bool, true, false, if◌then◌else◌, Some, None, Option}
use Rattle.std.proofs.lemmas.Bool.Decides.{nat_tests}
use Rattle.nv_memory.specs.Logs.{index_of, look_up}

pub test_same : (i j : ℕ) → i ≡ j → (i == j) ≡ true
test_same i j e = grind (arith, nat_tests)

pub test_other : (i j : ℕ) → i ≢ j → (i == j) ≡ false
test_other i j n = grind (arith, nat_tests)

-- the function with the value at one number changed
abbrev pub put_at : (ℕ → ℕ) → ℕ → ℕ → ℕ → ℕ
put_at f at value = λ i. if i == at then value else f i

pub put_other : (f : ℕ → ℕ) (at value i : ℕ) → i ≢ at → put_at f at value i ≡ f i
put_other f at value i n = rw (test_other i at n) refl

pub put_same : (f : ℕ → ℕ) (at value : ℕ) → put_at f at value at ≡ value
put_same f at value = rw (test_same at at refl) refl

index_step : (num : ℕ → ℕ) (k word at : ℕ) (b : Bool) → (num k == word) ≡ b
    → (index_of num k word ≡ Some at → (at < k) × (num at ≡ word))
    → (if b then Some k else index_of num k word) ≡ Some at → (at < suc k) × (num at ≡ word)
index_step num k word at true is more e = let same : k ≡ at = cc in (omega arith, grind (arith, nat_tests))
index_step num k word at false is more e = let low = more e in (omega (arith, low.0), low.1)

-- the pair that is found is one of them and has the word
pub index_below : (num : ℕ → ℕ) (k word at : ℕ) → index_of num k word ≡ Some at → (at < k) × (num at ≡ word)
index_below num zero word at e = absurd cc
index_below num (suc k) word at e = index_step num k word at (num k == word) refl (index_below num k word at) e

-- the look-up is the value of that pair
abbrev value_of : (ℕ → ℕ) → Option ℕ → Option ℕ
value_of val None = None
value_of val (Some at) = Some (val at)

look_step : (num val : ℕ → ℕ) (k word : ℕ) (b : Bool) → look_up num val k word ≡ value_of val (index_of num k word)
    → (if b then Some (val k) else look_up num val k word) ≡ value_of val (if b then Some k else index_of num k word)
look_step num val k word true more = refl
look_step num val k word false more = more

look_is : (num val : ℕ → ℕ) (k word : ℕ) → look_up num val k word ≡ value_of val (index_of num k word)
look_is num val zero word = refl
look_is num val (suc k) word = look_step num val k word (num k == word) (look_is num val k word)

pub look_some : (num val : ℕ → ℕ) (k word at : ℕ) → index_of num k word ≡ Some at → look_up num val k word ≡ Some (val at)
look_some num val k word at e = look_is num val k word ∙ ap (value_of val) e

pub look_none : (num val : ℕ → ℕ) (k word : ℕ) → index_of num k word ≡ None → look_up num val k word ≡ None
look_none num val k word e = look_is num val k word ∙ ap (value_of val) e

none_of : (o : Option ℕ) (val : ℕ → ℕ) → value_of val o ≡ None → o ≡ None
none_of None val e = refl
none_of (Some at) val e = absurd cc

pub index_none : (num val : ℕ → ℕ) (k word : ℕ) → look_up num val k word ≡ None → index_of num k word ≡ None
index_none num val k word e = none_of (index_of num k word) val (let is = look_is num val k word in cc)

-- pairs from the count on don't matter
pub look_above : (num val new_num new_val : ℕ → ℕ) (k word : ℕ) → ((i : ℕ) → i < k → new_num i ≡ num i)
    → ((i : ℕ) → i < k → new_val i ≡ val i) → look_up new_num new_val k word ≡ look_up num val k word
look_above num val new_num new_val zero word same there = refl
look_above num val new_num new_val (suc k) word same there =
    rw (
      same k (omega arith),
      there k (omega arith),
      look_above num val new_num new_val k word (λ i l. same i (omega arith)) (λ i l. there i (omega arith)),
    ) refl

pub index_above : (num new_num : ℕ → ℕ) (k word : ℕ) → ((i : ℕ) → i < k → new_num i ≡ num i) → index_of new_num k word ≡ index_of num k word
index_above num new_num zero word same = refl
index_above num new_num (suc k) word same = rw (same k (omega arith), index_above num new_num k word (λ i l. same i (omega arith))) refl

none_step : (num val : ℕ → ℕ) (k a : ℕ) (b : Bool) → (num k == a) ≡ b → (if b then Some (val k) else look_up num val k a) ≡ None
    → (look_up num val k a ≡ None) × (num k ≢ a)
none_step num val k a true is e = absurd cc
none_step num val k a false is e = (e, grind (arith, nat_tests))

-- a word that isn't in the log is that of no pair
pub none_at : (num val : ℕ → ℕ) (k a : ℕ) → look_up num val k a ≡ None → (i : ℕ) → i < k → num i ≢ a
none_at num val zero a e i l = absurd (omega arith)
none_at num val (suc k) a e i l = λ q.
    let s = none_step num val k a (num k == a) refl e in
    let earlier : i < k → ⊥ = λ h. none_at num val k a s.0 i h q in
    let here : i ≡ k = grind arith in s.1 (subst (λ j. num j ≡ a) here q)

-- a word that no pair has isn't found
pub none_among : (num val : ℕ → ℕ) (k a : ℕ) → ((i : ℕ) → i < k → num i ≢ a) → look_up num val k a ≡ None
none_among num val zero a h = refl
none_among num val (suc k) a h = rw (test_other (num k) a (h k (omega arith))) (none_among num val k a (λ i l. h i (omega arith)))

-- a pair's value is replaced
replaced_step : (num val : ℕ → ℕ) (k word at value other : ℕ) (here there wanted : Bool)
    → (num k == word) ≡ here → (num k == other) ≡ there → (word == other) ≡ wanted
    → (if here then Some k else index_of num k word) ≡ Some at
    → (index_of num k word ≡ Some at → look_up num (put_at val at value) k other ≡ (if wanted then Some value else look_up num val k other))
    → (if there then Some (put_at val at value k) else look_up num (put_at val at value) k other)
    ≡ (if wanted then Some value else (if there then Some (val k) else look_up num val k other))
replaced_step num val k word at value other true true true h t w e more = let same : k ≡ at = cc in rw (same, put_same val at value) refl
replaced_step num val k word at value other true true false h t w e more =
    absurd (let wrong : word ≡ other = grind (arith, nat_tests) in let no : (word == other) ≡ true = test_same word other wrong in cc)
replaced_step num val k word at value other true false true h t w e more =
    absurd (let wrong : num k ≡ other = grind (arith, nat_tests) in let no : (num k == other) ≡ true = test_same (num k) other wrong in cc)
replaced_step num val k word at value other true false false h t w e more =
    let same : k ≡ at = cc in
    look_above num val num (put_at val at value) k other (λ i l. refl) (λ i l. put_other val at value i (omega (arith, same)))
replaced_step num val k word at value other false true true h t w e more =
    absurd (let wrong : num k ≡ word = grind (arith, nat_tests) in let no : (num k == word) ≡ true = test_same (num k) word wrong in cc)
replaced_step num val k word at value other false true false h t w e more =
    let low = index_below num k word at e in ap Some (put_other val at value k (omega (arith, low.0)))
replaced_step num val k word at value other false false wanted h t w e more = more e

pub look_replaced : (num val : ℕ → ℕ) (k word at value other : ℕ) → index_of num k word ≡ Some at
    → look_up num (put_at val at value) k other ≡ (if word == other then Some value else look_up num val k other)
look_replaced num val zero word at value other e = absurd cc
look_replaced num val (suc k) word at value other e =
    replaced_step num val k word at value other (num k == word) (num k == other) (word == other) refl refl refl e
    (look_replaced num val k word at value other)

-- where no word stands twice, each pair is found by its word
pub found_at : (num val : ℕ → ℕ) (k i : ℕ) → ((i j : ℕ) → i < j → j < k → num i ≢ num j) → i < k → look_up num val k (num i) ≡ Some (val i)
found_at num val zero i once l = absurd (omega arith)
found_at num val (suc k) i once l = found_step num val k i (num k == num i) refl once l (λ h. found_at num val k i (λ a b p q. once a b p (omega arith)) h)
  where
    found_step : (num val : ℕ → ℕ) (k i : ℕ) (b : Bool) → (num k == num i) ≡ b → ((i j : ℕ) → i < j → j < suc k → num i ≢ num j) → i < suc k
        → (i < k → look_up num val k (num i) ≡ Some (val i)) → (if b then Some (val k) else look_up num val k (num i)) ≡ Some (val i)
    found_step num val k i true is once l more =
        let same : num i ≡ num k = grind (arith, nat_tests) in
        let here : i ≡ k = grind (arith, once i k) in ap (λ (j : ℕ). Some (val j)) (let back : k ≡ i = omega (arith, here) in back)
    found_step num val k i false is once l more =
        let differ : i ≢ k = λ e. let yes : (num k == num i) ≡ true = test_same (num k) (num i) (ap num (let back : k ≡ i = omega (arith, e) in back)) in absurd cc in
        more (omega (arith, differ))

-- so the pair that is found by a word is the one
pub index_at : (num : ℕ → ℕ) (k i : ℕ) → ((i j : ℕ) → i < j → j < k → num i ≢ num j) → i < k → index_of num k (num i) ≡ Some i
index_at num zero i once l = absurd (omega arith)
index_at num (suc k) i once l = at_step num k i (num k == num i) refl once l (λ h. index_at num k i (λ a b p q. once a b p (omega arith)) h)
  where
    at_step : (num : ℕ → ℕ) (k i : ℕ) (b : Bool) → (num k == num i) ≡ b → ((i j : ℕ) → i < j → j < suc k → num i ≢ num j) → i < suc k
        → (i < k → index_of num k (num i) ≡ Some i) → (if b then Some k else index_of num k (num i)) ≡ Some i
    at_step num k i true is once l more =
        let same : num i ≡ num k = grind (arith, nat_tests) in
        let here : i ≡ k = grind (arith, once i k) in ap Some (let back : k ≡ i = omega (arith, here) in back)
    at_step num k i false is once l more =
        let differ : i ≢ k = λ e. let yes : (num k == num i) ≡ true = test_same (num k) (num i) (ap num (let back : k ≡ i = omega (arith, e) in back)) in absurd cc in
        more (omega (arith, differ))

-- the last of the pairs doesn't have the word
pub index_before : (num : ℕ → ℕ) (k word : ℕ) → 0 < k → num (k - 1) ≢ word → index_of num k word ≡ index_of num (k - 1) word
index_before num zero word some n = absurd (omega arith)
index_before num (suc k) word some n = let e : suc k - 1 ≡ k = omega arith in
    let other : num k ≢ word = subst (λ (i : ℕ). num i ≢ word) e n in
    rw e (rw (test_other (num k) word other) refl)
