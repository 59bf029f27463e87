-- A store under way stays so until it is made.
use Rattle.std.proofs.Common.{◌≡◌, ◌<◌, ℕ, zero, suc, List, Bool, refl, sym, ap, subst, ◌∙◌, arith}
use Rattle.std.specs.Prelude.{Some, None}
use Rattle.task_syntax.specs.declared.body.BodyId.{BodyId}
use Rattle.word_code.specs.Code.{Bodies, body_words}
use Rattle.word_code.specs.declared.instruction.Instr.{Instr}
use Rattle.word_code.specs.Machine.{State, Move, move_of, StartsAt}
use Rattle.word_code.proofs.Running.{one_starts}
use Rattle.word_cpu.specs.Meaning.{Meaning}
use Rattle.word_cpu.specs.declared.cpu.Cpu.{Cpu}
use Rattle.word_cpu.specs.declared.turn.Turn.{Turn}
use Rattle.word_cpu.specs.declared.turn.Turn.TheVariants.{Went, Storing, Ended}
use Rattle.word_cpu.specs.Turning.{Makes, IsBegun, OfTheMove, state_of}

-- no part is made, so none is to be written
pub none_made : (begun : ℕ → ℕ → ℕ → Type 0) (part : ℕ) (move : Move) → part ≡ 0 → IsBegun begun part move
none_made begun part move is_0 some = absurd (omega (arith, is_0, some))

-- what isn't above 0 is 0
pub not_above_0 : {n : ℕ} → (0 < n → ⊥) → n ≡ 0
not_above_0 {n = zero} none = refl
not_above_0 {n = suc n} none = absurd (none (omega arith))

-- what holds of the move of the instruction that starts in the machine's state
pub for_the_move : (code : Bodies) (cpu : Cpu) (instr : Instr) (Fact : Move → Type 0) → StartsAt (body_words code cpu.body) instr (state_of cpu) →
    Fact (move_of instr (state_of cpu)) → OfTheMove code cpu Fact
for_the_move code cpu instr Fact starts fact other there =
    subst (λ (i : Instr). Fact (move_of i (state_of cpu))) (one_starts (body_words code cpu.body) instr other (state_of cpu) starts there) fact

module _ {V : Type 0} (meaning : Meaning V)
    (code : List ℕ) (before after : Cpu) (old new : V) where
  -- after the move of an instruction, the parts that are made are those of the store that starts then
  begun_by : (turn : Turn) (instr other : Instr) (move : Move) → StartsAt code instr (state_of before) → StartsAt code other (state_of after) →
      move_of instr (state_of before) ≡ move → Makes meaning before after old new turn move →
      IsBegun (meaning.begun new) after.part (move_of other (state_of after))
  begun_by turn instr other (Move.goes next) starts then is made = none_made (meaning.begun new) after.part _ made.part
  begun_by turn instr other (Move.loads word next) starts then is made = none_made (meaning.begun new) after.part _ made.part
  begun_by (Went None) instr other (Move.stores word value next) starts then is made = none_made (meaning.begun new) after.part _ made.part
  begun_by (Went (Some reading)) instr other (Move.stores word value next) starts then is made = absurd made
  begun_by Storing instr other (Move.stores word value next) starts then is made =
      let same : instr ≡ other =
      one_starts code instr other (state_of before) starts (subst (λ (s : State). StartsAt code other s) made.state then) in
      let move_is : move_of other (state_of after) ≡ Move.stores word value next =
      ap (move_of other) made.state ∙ ap (λ (i : Instr). move_of i (state_of before)) (sym same) ∙ is in
      let written : meaning.begun new word value after.part = subst (λ (n : ℕ). meaning.begun new word value n) (sym made.part) made.is_begun in
      subst (λ (m : Move). IsBegun (meaning.begun new) after.part m) (sym move_is) (λ some. written)
  begun_by (Ended ending) instr other (Move.stores word value next) starts then is made = absurd made
  begun_by turn instr other (Move.ends ending) starts then is made = none_made (meaning.begun new) after.part _ made.part

-- the same for the code of the machine's body
module _ {V : Type 0} (meaning : Meaning V)
    (code : Bodies) (before after : Cpu) (old new : V) where
  pub begun_next : (turn : Turn) (shown : List ℕ) (instr : Instr) → shown ≡ body_words code before.body → after.body ≡ before.body →
      StartsAt shown instr (state_of before) → Makes meaning before after old new turn (move_of instr (state_of before)) →
      OfTheMove code after (IsBegun (meaning.begun new) after.part)
  begun_next turn shown instr same same_body starts made other then =
      begun_by meaning (body_words code before.body) before after old new turn instr other (move_of instr (state_of before))
      (subst (λ (w : List ℕ). StartsAt w instr (state_of before)) same starts)
      (subst (λ (b : BodyId). StartsAt (body_words code b) other (state_of after)) same_body then)
      refl made
