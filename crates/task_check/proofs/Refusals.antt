-- A refusal is one rule at one place.
use Rattle.std.proofs.Common.{◌≡◌, ℕ, ◌<◌, ◌≤◌, List, [], refl, ap, sym, subst, ◌∙◌, arith, inl, inr, length}
use Rattle.std.specs.Prelude.{Option, Result, Err, find, slice_index_or, ◌==◌, ◌∷◌, if◌then◌else◌}
use Rattle.std.specs.Option.{option_map_or}
use Rattle.std.proofs.lemmas.Bool.{cases_lt}
use Rattle.std.proofs.lemmas.List.Elements.{All-contains}
use Rattle.task_syntax.specs.declared.program.Program.{Program}
use Rattle.task_check.specs.declared.rule.Rule.{Rule}
use Rattle.task_check.specs.declared.rule.Rule.TheVariants.{TwiceNamed, Unknown, WrongKind, BadCount, BadBuffer, TooManyWords, TooManyTasks, NoEnding, EarlyEnding, IntoTx, TopReadsNv, GiveShape, LoopAssigned, TooManyLocals, TooDeepStack, TooLong}
use Rattle.task_check.specs.declared.fault.CheckFault.{CheckFault}
use Rattle.task_check.specs.declared.fault.CheckFault.TheVariants.{Rule as BreaksRule}
use Rattle.task_check.specs.Accepted.{IsFirstBroken, TellsNumber, number_of, places}
use Rattle.task_check.specs.Least.{IsLeast}
use Rattle.task_check.specs.Measures.{too_long_places}
use Rattle.task_check.specs.RefusalLaws.{AreSame, RefusalIsOne, RefusedIsNotAccepted}

-- where there is a least place there is a place
not-empty : (list : List ℕ) (at : ℕ) → IsLeast list at → list ≡ [] → ⊥
not-empty list at is none = let within : is.among.0 < 0 = subst (λ xs. is.among.0 < length xs) none is.among.1 in absurd (omega arith)

pub refused-not_accepted : RefusedIsNotAccepted
refused-not_accepted program rule at is accepted = not-empty (places (number_of rule) program) at is.here (accepted (number_of rule) is.from is.before)

-- the number that rule 16 tells
size_of : Rule → ℕ
size_of (TooLong number) = number
size_of rule = 0

-- a rule, from its number and what it tells
rule_at : ℕ → ℕ → Rule
rule_at number size =
    slice_index_or
    (TwiceNamed ∷ TwiceNamed ∷ Unknown ∷ WrongKind ∷ BadCount ∷ BadBuffer ∷ TooManyWords ∷ TooManyTasks ∷ NoEnding ∷ EarlyEnding ∷ IntoTx ∷ TopReadsNv ∷ GiveShape ∷ LoopAssigned
    ∷ TooManyLocals ∷ TooDeepStack ∷ TooLong size ∷ []) number TwiceNamed

rule-is : (rule : Rule) → rule_at (number_of rule) (size_of rule) ≡ rule
unfolding rule_at size_of
rule-is TwiceNamed = refl
rule-is Unknown = refl
rule-is WrongKind = refl
rule-is BadCount = refl
rule-is BadBuffer = refl
rule-is TooManyWords = refl
rule-is TooManyTasks = refl
rule-is NoEnding = refl
rule-is EarlyEnding = refl
rule-is IntoTx = refl
rule-is TopReadsNv = refl
rule-is GiveShape = refl
rule-is LoopAssigned = refl
rule-is TooManyLocals = refl
rule-is TooDeepStack = refl
rule-is (TooLong number) = refl

-- the number that is told at a place
told : Program → ℕ → ℕ → ℕ
told program number at = if number == 16 then option_map_or (λ (body : ℕ × ℕ). body.1) (find (λ (body : ℕ × ℕ). body.0 == at) (too_long_places program)) 0 else 0

size-is : (program : Program) (rule : Rule) (at : ℕ) → TellsNumber program rule at → size_of rule ≡ told program (number_of rule) at
unfolding size_of told
size-is program TwiceNamed at tells = refl
size-is program Unknown at tells = refl
size-is program WrongKind at tells = refl
size-is program BadCount at tells = refl
size-is program BadBuffer at tells = refl
size-is program TooManyWords at tells = refl
size-is program TooManyTasks at tells = refl
size-is program NoEnding at tells = refl
size-is program EarlyEnding at tells = refl
size-is program IntoTx at tells = refl
size-is program TopReadsNv at tells = refl
size-is program GiveShape at tells = refl
size-is program LoopAssigned at tells = refl
size-is program TooManyLocals at tells = refl
size-is program TooDeepStack at tells = refl
size-is program (TooLong number) at tells = ap (λ (body : Option (ℕ × ℕ)). option_map_or (λ (b : ℕ × ℕ). b.1) body 0) (sym tells)

-- neither of two least places is less
one-least : (list : List ℕ) (at place : ℕ) → IsLeast list at → IsLeast list place → at ≡ place
one-least list at place one other =
    let below = All-contains (λ x. at ≤ x) list place one.least other.among in
    let above = All-contains (λ x. place ≤ x) list at other.least one.among in
    omega (arith, below, above)

module _ (program : Program) (rule other : Rule) (at place : ℕ) (one : IsFirstBroken program 1 17 rule at) (two : IsFirstBroken program 1 17 other place) where
  one-number : number_of rule ≡ number_of other
  one-number =
      elim (cases_lt (number_of rule) (number_of other)) [
        | inl early ↦ absurd (not-empty (places (number_of rule) program) at one.here (two.earlier (number_of rule) one.from early))
        | inr later ↦
            elim (cases_lt (number_of other) (number_of rule)) [
              | inl early ↦ absurd (not-empty (places (number_of other) program) place two.here (one.earlier (number_of other) two.from early))
              | inr late ↦ omega arith
            ]
      ]

  one-place : at ≡ place
  one-place = one-least (places (number_of other) program) at place (subst (λ number. IsLeast (places number program) at) one-number one.here) two.here

  pub are-same : AreSame rule other at place
  are-same =
      let sizes : size_of rule ≡ size_of other =
      size-is program rule at one.number ∙ ap (λ number. told program number at) one-number ∙ ap (told program (number_of other)) one-place ∙ sym (size-is program other place two.number) in
      record {
        rules = sym (rule-is rule) ∙ ap (λ number. rule_at number (size_of rule)) one-number ∙ ap (rule_at (number_of other)) sizes ∙ rule-is other;
        places = one-place;
      }

pub refusal-is_one : RefusalIsOne
refusal-is_one program rule other at place one two = are-same program rule other at place one two

-- two refusals are one answer
pub one-refusal : (program : Program) (rule other : Rule) (at place : ℕ) → IsFirstBroken program 1 17 rule at → IsFirstBroken program 1 17 other place →
    ◌≡◌ {A = Result Program CheckFault} (Err (BreaksRule rule at)) (Err (BreaksRule other place))
one-refusal program rule other at place one two =
    let same = are-same program rule other at place one two in
    ap (λ found. Err (BreaksRule found at)) same.rules ∙ ap (λ found. Err (BreaksRule other found)) same.places
