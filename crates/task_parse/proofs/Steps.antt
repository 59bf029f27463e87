-- What was read behind a step was read before it, and the ends of what is read, by equations.
use Rattle.std.proofs.Common.{◌≡◌, List, [], ◌∷◌, ◌++◌, Result, Ok, Err, IfOk, ap, sym, ◌∙◌, subst}
use Rattle.task_parse.specs.Grammar.{Form, Reads}
use Rattle.task_parse.specs.Lexeme.{Lexeme}
use Rattle.task_parse.specs.Machine.{Gives, Part, Spot, judge, seen, told}
use Rattle.task_parse.specs.Readings.{HasRead, HasReadUpTo, HasReadWithin, MayRead}
use Rattle.task_parse.specs.declared.fault.ParseFault.{ParseFault}

-- with more to come behind it
pub begun : {X : Type 0} (old mid new : Spot) (xs zs more : List Part) (r : Result X ParseFault)
    → ((k : List Part) → judge old (xs ++ k) ≡ judge mid (zs ++ (more ++ k))) → Gives mid zs new (λ _. []) r
    → Gives old xs new (λ _. more) r
begun old mid new xs zs more (Ok x) e g = λ k. e k ∙ g (more ++ k)
begun old mid new xs zs more (Err f) e g = λ k. ap (seen f) (e k) ∙ g (more ++ k)

-- a statement is what statements begin with
pub begins_body : {X : Type 0} {form : X → Form} {parts : List Part} {old new : Spot} {r : Result X ParseFault}
    → HasRead form parts old new r
    → ((k : List Part) → judge old (Part.Body ∷ k) ≡ judge old (parts ++ (Part.Body ∷ k)))
    → HasReadUpTo form (Part.Body ∷ []) (λ _. Part.Body ∷ []) old new r
begins_body {parts = parts} {old = old} {new = new} {r = r} read begins = record {
  reads = read.reads;
  gives = begun old old new (Part.Body ∷ []) parts (Part.Body ∷ []) r begins read.gives;
  shrinks = read.shrinks;
}

-- a reading that was refused
pub refused : {X : Type 0} {form : X → Form} {parts : List Part} {old new : Spot} {f : ParseFault}
    → ((k : List Part) → seen f (judge old (parts ++ k)) ≡ told f) → HasRead form parts old new (Err f)
refused gives = record { reads = tt; gives = gives; shrinks = tt }

-- the same, where other parts were to come behind it
pub refused_up_to : {X : Type 0} {form : X → Form} {parts : List Part} {behind : X → List Part} {old new : Spot}
    {f : ParseFault} → ((k : List Part) → seen f (judge old (parts ++ k)) ≡ told f)
    → HasReadUpTo form parts behind old new (Err f)
refused_up_to gives = record { reads = tt; gives = gives; shrinks = tt }

-- the same, within a part
pub refused_within : {X : Type 0} {before behind : List Lexeme} {form : X → Form} {parts : List Part} {old new : Spot}
    {f : ParseFault} → ((k : List Part) → seen f (judge old (parts ++ k)) ≡ told f)
    → HasReadWithin before behind form parts old new (Err f)
refused_within gives = record { reads = tt; gives = gives; shrinks = tt }

-- the same, of a part that may be left out
pub may_refused : {X : Type 0} {form : X → Form} {parts : List Part} {old new : Spot} {f : ParseFault}
    → ((k : List Part) → seen f (judge old (parts ++ k)) ≡ told f) → MayRead form parts old new (Err f)
may_refused gives = record { reads = tt; gives = gives; shrinks = tt }

pub also : {X : Type 0} (P Q : X → Type 0) (r : Result X ParseFault) → ((x : X) → P x → Q x) → IfOk r P → IfOk r Q
also P Q (Ok x) f h = f x h
also P Q (Err e) f h = tt

-- a list to which an item was added
pub not_empty : {X : Type 0} (items : List X) (item : X) → items ++ item ∷ [] ≡ [] → ⊥
not_empty [] item h = cc
not_empty (x ∷ items) item h = cc

pub from : {X : Form} {a b c : List Lexeme} → a ≡ b → Reads X b c → Reads X a c
from {X} {c = c} h d = subst (λ w. Reads X w c) (sym h) d

pub upto : {X : Form} {a b c : List Lexeme} → b ≡ c → Reads X a b → Reads X a c
upto {X} {a} h d = subst (λ w. Reads X a w) h d
