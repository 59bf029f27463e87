-- What is answered, where all tokens were read or the first fault was told.
use Rattle.std.proofs.Common.{◌≡◌, ◌≢◌, ℕ, List, [], ◌∷◌, Option, Result, Ok, Err, IfOk, IfErr, refl, ap, subst}
use Rattle.task_lex.specs.declared.token.Token.{Token}
use Rattle.task_syntax.specs.declared.name.Number.{Number}
use Rattle.task_syntax.specs.declared.program.Event.{Event}
use Rattle.task_syntax.specs.declared.program.Program.{Program}
use Rattle.task_syntax.specs.declared.program.UnitDecl.{UnitDecl}
use Rattle.task_syntax.specs.declared.program.Var.{Var}
use Rattle.task_parse.specs.Answer.{Explains, IsAnswer}
use Rattle.task_parse.specs.Faults.{DeepAt, FaultAt, Spells}
use Rattle.task_parse.specs.Grammar as G
use Rattle.task_parse.specs.Grammar.{Derives, Form, Reads}
use Rattle.task_parse.specs.Lexeme.{Lexeme, lexemes}
use Rattle.task_parse.specs.Machine.{Spot, whole_parts}
use Rattle.task_parse.specs.Spots.{Ends}
use Rattle.task_parse.specs.declared.fault.ParseFault.{ParseFault}
use Rattle.task_parse.specs.declared.fault.ParseFault.TheVariants as fault
use Rattle.task_parse.proofs.OneAnswer as A
use Rattle.task_parse.proofs.OneTree as O
use Rattle.task_parse.proofs.Places as P

-- the parts of a program
pub whole_of : (vars : List Var) (size : Option Number) (es : List Event) (us : List UnitDecl) (a b c d : List Lexeme)
    → vars ≢ [] → us ≢ []
    → Reads (Form.Variables vars) a b → Reads (Form.Buffer size) b c → Reads (Form.Events es) c d
    → Reads (Form.Units us) d []
    → Derives a (record { vars = vars; buffer = size; events = es; units = us })
whole_of [] size es us a b c d some_vars some_units vs h hs ds = absurd (some_vars refl)
whole_of (v ∷ vars) size es [] a b c d some_vars some_units vs h hs ds = absurd (some_units refl)
whole_of (v ∷ vars) size es (u ∷ us) a b c d some_vars some_units (G.variables first others) h hs
    (G.units first_unit other_units) =
    G.whole first others h hs first_unit other_units

-- the spot before all tokens of a source
abbrev before_all : List Lexeme → Spot
before_all list = record { rest = list; at = 0; depth = 0 }

-- what a reading of all tokens answered
abbrev pub Answered : List Lexeme → Result Program ParseFault → Type 0
Answered list result = IfOk result (Derives list) × Ends (before_all list) whole_parts result

pub answered : (list : List Lexeme) (s : Spot) (result : Result Program ParseFault) → s ≡ before_all list
    → IfOk result (Derives s.rest)
    → Ends s whole_parts result → Answered list result
answered list s result here reads ends = subst (λ (w : Spot). IfOk result
    (Derives w.rest) × Ends w whole_parts result) here (reads, ends)

pub spelled : (source : List ℕ) (tokens : List Token) (result : Result Program ParseFault)
    → Answered (lexemes source tokens) result
    → IfOk result (Spells source tokens)
spelled source tokens (Ok p) a = record { derives = a.0; free = (P.fine (lexemes source tokens) a.1).0 }
spelled source tokens (Err e) a = tt

pub alone : (list : List Lexeme) (result : Result Program ParseFault) → Answered list result
    → IfOk result (λ p. (other : Program) → Derives list other → other ≡ p)
alone list (Ok p) a = λ other d. O.program d a.0
alone list (Err e) a = tt

pub explained : (list : List Lexeme) (result : Result Program ParseFault) → Answered list result
    → IfErr result (Explains list)
explained list (Ok p) a = tt
explained list (Err e) a = P.explained list e a.1

pub accepts : (source : List ℕ) (tokens : List Token) (result : Result Program ParseFault) (p : Program)
    → Answered (lexemes source tokens) result → Spells source tokens p → IsAnswer result (Ok p)
accepts source tokens (Ok q) p a s = ap (λ w. Ok w) (O.program s.derives a.0)
accepts source tokens (Err (fault.Syntax n)) p a s = absurd (A.no_program (lexemes source tokens) n p (P.explained
    (lexemes source tokens) (fault.Syntax n) a.1) s.derives)
accepts source tokens (Err (fault.TooDeep n)) p a s = absurd (A.no_deep (lexemes source tokens) n s.free (P.explained
    (lexemes source tokens) (fault.TooDeep n) a.1))
accepts source tokens (Err fault.OutOfMemory) p a s = tt

pub refuses : (list : List Lexeme) (result : Result Program ParseFault) (n : ℕ) → Answered list result → FaultAt list n
    → IsAnswer result (Err (fault.Syntax n))
refuses list (Ok q) n a f = absurd (A.no_program list n q f a.0)
refuses list (Err (fault.Syntax m)) n a f = ap (λ w. Err (fault.Syntax w)) (A.faults_agree list n m f (P.explained list
    (fault.Syntax m) a.1))
refuses list (Err (fault.TooDeep m)) n a f = absurd (A.fault_or_deep list n m f (P.explained list
    (fault.TooDeep m) a.1))
refuses list (Err fault.OutOfMemory) n a f = tt

pub bars : (list : List Lexeme) (result : Result Program ParseFault) (n : ℕ) → Answered list result → DeepAt list n
    → IsAnswer result (Err (fault.TooDeep n))
bars list (Ok q) n a f = absurd (A.no_deep list n (P.fine list a.1).0 f)
bars list (Err (fault.Syntax m)) n a f = absurd (A.fault_or_deep list m n (P.explained list (fault.Syntax m) a.1) f)
bars list (Err (fault.TooDeep m)) n a f = ap (λ w. Err (fault.TooDeep w)) (A.deeps_agree list n m f (P.explained list
    (fault.TooDeep m) a.1))
bars list (Err fault.OutOfMemory) n a f = tt
