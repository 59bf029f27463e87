-- The least word of the log at the head that is a shared read.
use Rattle.std.proofs.Common.{◌≡◌, ◌≢◌, ℕ, ◌<◌, ◌≤◌, Option, Some, None, IsNone, IfSome, Bool, true, false, refl, sym, subst, arith}
use Rattle.nv_memory.specs.State.{State}
use Rattle.nv_memory.specs.Logs.{IsLog, entry_log, index_of, length_in, look_up, number_in, pair_value_in}
use Rattle.nv_memory.specs.StandsFor.{head_slot}
use Rattle.nv_memory.proofs.Looks.{found_at, index_below, look_none}
use Rattle.buffi_sets.specs.Conflict.{Clashes, HasNoConflict, IsConflict, is_shared_read}
use Rattle.buffi_sets.proofs.Least.{IsLeastOf}

-- the pair of a word that a log has
record PairOf (number : ℕ → ℕ) (count word : ℕ) : Type 0 where
  at : ℕ
  low : at < count
  is : number at ≡ word

pair_step : (number value : ℕ → ℕ) (count word : ℕ) (o : Option ℕ) → index_of number count word ≡ o → look_up number value count word ≢ None
    → PairOf number count word
pair_step number value count word None e has = absurd (has (look_none number value count word e))
pair_step number value count word (Some at) e has =
    let found = index_below number count word at e in record { at = at; low = found.0; is = found.1 }

pair_of : (number value : ℕ → ℕ) (count word : ℕ) → look_up number value count word ≢ None → PairOf number count word
pair_of number value count word has = pair_step number value count word (index_of number count word) refl has

module _ (s : State) (attempt : Bool) (log : IsLog s (entry_log (head_slot s))) where
  abbrev number : ℕ → ℕ
  number = number_in s (entry_log (head_slot s))

  abbrev value : ℕ → ℕ
  value = pair_value_in s (entry_log (head_slot s))

  abbrev count : ℕ
  count = length_in s (entry_log (head_slot s))

  abbrev reads : ℕ → Bool
  reads = is_shared_read s attempt

  in_log : (at word : ℕ) → at < count → number at ≡ word → look_up number value count word ≢ None
  in_log at word low is = λ none.
      let found : look_up number value count word ≡ Some (value at) =
      subst (λ (w : ℕ). look_up number value count w ≡ Some (value at)) is (found_at number value count at log.once low) in
      absurd cc

  pub none_means : (least : Option ℕ) → IsLeastOf number reads count least → IsNone least → HasNoConflict s attempt
  none_means None h is word has =
      let pair = pair_of number value count word has in subst (λ (w : ℕ). reads w ≡ false) pair.is (h pair.at pair.low)
  none_means (Some least) h is word has = absurd cc

  pub none_where : (least : Option ℕ) → IsLeastOf number reads count least → HasNoConflict s attempt → IsNone least
  none_where None h free = refl
  none_where (Some least) h free =
      absurd (let off = free least (in_log h.at least h.low h.is) in let on = h.taken in cc)

  clash_above : (least other : ℕ) → IsLeastOf number reads count (Some least) → Clashes s attempt other → least ≤ other
  clash_above least other h clash =
      let pair = pair_of number value count other clash.written in
      let low : least ≤ number pair.at = h.least_of pair.at pair.low (subst (λ (w : ℕ). reads w ≡ true) (sym pair.is) clash.read) in
      let is = pair.is in omega (arith, low, is)

  pub some_means : (least : Option ℕ) → IsLeastOf number reads count least → IfSome least (λ word. IsConflict s attempt word)
  some_means None h = tt
  some_means (Some least) h = record {
    clashes = record { written = in_log h.at least h.low h.is; read = h.taken };
    least = λ other below clash. let above = clash_above least other h clash in omega (arith, above, below);
  }
