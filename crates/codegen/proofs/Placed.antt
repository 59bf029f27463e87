-- Where instructions stand among the words of a body.
use Rattle.std.proofs.Common.{◌≡◌, ℕ, ◌+◌, ◌++◌, List, [], ◌∷◌, length, refl, sym, ap, ◌∙◌, subst, arith, append_assoc, length-append, drop}
use Rattle.std.specs.Prelude.{Some}
use Rattle.std.proofs.Math.Seq.{drop-append_seam}
use Rattle.word_code.specs.declared.instruction.Instr.{Instr}
use Rattle.word_code.specs.Instruction.{encoded, decoded, width}
use Rattle.word_code.specs.InstructionLaws.{EncodedIsDecoded}
use Rattle.codegen.specs.Code.{size, words_of, AreEncodable}

-- the instruction starts at this word
abbrev pub At : List ℕ → ℕ → Instr → Type 0
At words place instr = decoded (drop place words) ≡ Some (instr, width instr)

-- the instructions stand among the words from this one on
abbrev pub Stands : List ℕ → ℕ → List Instr → Type 0
Stands words place [] = Unit {0}
Stands words place (instr ∷ more) = At words place instr × Stands words (place + width instr) more

pub size-append : (first second : List Instr) → size (first ++ second) ≡ size first + size second
size-append [] second = omega arith
size-append (instr ∷ first) second = omega (arith, size-append first second)

pub length-words_of : (instrs : List Instr) → length (words_of instrs) ≡ size instrs
length-words_of [] = refl
length-words_of (instr ∷ more) = omega (arith, length-append (encoded instr) (words_of more), length-words_of more)

pub encodable_both : (first second : List Instr) → AreEncodable first → AreEncodable second → AreEncodable (first ++ second)
encodable_both [] second h k = k
encodable_both (instr ∷ first) second h k = (h.0, encodable_both first second h.1 k)

pub encodable_front : (first second : List Instr) → AreEncodable (first ++ second) → AreEncodable first
encodable_front [] second h = tt
encodable_front (instr ∷ first) second h = (h.0, encodable_front first second h.1)

pub encodable_back : (first second : List Instr) → AreEncodable (first ++ second) → AreEncodable second
encodable_back [] second h = h
encodable_back (instr ∷ first) second h = encodable_back first second h.1

pub stands_front : (words : List ℕ) (place : ℕ) (first second : List Instr) → Stands words place (first ++ second) → Stands words place first
stands_front words place [] second h = tt
stands_front words place (instr ∷ first) second h = (h.0, stands_front words (place + width instr) first second h.1)

pub stands_back : (words : List ℕ) (place : ℕ) (first second : List Instr) → Stands words place (first ++ second) → Stands words (place + size first) second
stands_back words place [] second h = let e : place ≡ place + 0 = omega arith in subst (λ n. Stands words n second) e h
stands_back words place (instr ∷ first) second h =
    let e : place + width instr + size first ≡ place + size (instr ∷ first) = omega arith in
    subst (λ n. Stands words n second) e (stands_back words (place + width instr) first second h.1)

pub stands_all : EncodedIsDecoded → (instrs : List Instr) (before after : List ℕ) → AreEncodable instrs →
    Stands (before ++ (words_of instrs ++ after)) (length before) instrs
stands_all round [] before after h = tt
stands_all round (instr ∷ more) before after h =
    let ws = encoded instr in
    let rest = words_of more ++ after in
    let e : before ++ ((ws ++ words_of more) ++ after) ≡ before ++ (ws ++ rest) = ap (λ l. before ++ l) (append_assoc ws (words_of more) after) in
    let here : At (before ++ (ws ++ rest)) (length before) instr = ap decoded (drop-append_seam before (ws ++ rest)) ∙ round instr rest h.0 in
    let f : (before ++ ws) ++ rest ≡ before ++ (ws ++ rest) = append_assoc before ws rest in
    let n : length (before ++ ws) ≡ length before + width instr = length-append before ws in
    let r1 = subst (λ l. Stands l (length (before ++ ws)) more) f (stands_all round more (before ++ ws) after h.1) in
    let r2 = subst (λ m. Stands (before ++ (ws ++ rest)) m more) n r1 in
    subst (λ l. Stands l (length before) (instr ∷ more)) (sym e) (here, r2)
