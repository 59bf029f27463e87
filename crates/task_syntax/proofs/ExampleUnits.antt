-- Small transactions, and what they do as units.
use Rattle.std.proofs.Common.{◌≡◌, ℕ, ◌+◌, List, [], ◌∷◌, refl, true, false}
use Rattle.std.specs.Prelude.{Some, None, codes}
use Rattle.coati_word.specs.declared.ending.Ending.TheVariants.{Next, Halt}
use Rattle.coati_word.specs.declared.operator.Op.TheVariants as op
use Rattle.task_syntax.specs.declared.program.Program.{Program}
use Rattle.task_syntax.specs.Course.{Course, Access, Store}
use Rattle.task_syntax.specs.Units.{Reached, IsWhole, tasks_effect, whole_effect, transaction_of, first_task, halt}
use Rattle.task_syntax.specs.UnderWay.{HasReached}
use Rattle.task_syntax.specs.Written.{last_written, is_written, is_shared}
use Rattle.task_syntax.proofs.Built as build
use Rattle.task_syntax.proofs.Built.{plain, number, get, two, assign, holding}
use Rattle.task_syntax.proofs.Examples.{counter}
use Rattle.task_syntax.proofs.Layers.{layers}

abbrev a : List ℕ
a = codes "a"

abbrev b : List ℕ
b = codes "b"

-- `nv a = 1; transaction t { task p { a = a + 1; next q; } task q { a = a * 10; halt; } }`
abbrev grows : Program
grows = build.program (build.scalar a 1 ∷ []) (build.transaction (codes "t") (
    build.task (codes "p") (assign (plain a) (two op.Add (get (plain a)) (number 1)) ∷ build.next (codes "q") ∷ [])
    ∷ build.task (codes "q") (assign (plain a) (two op.Mul (get (plain a)) (number 10)) ∷ build.halt ∷ []) ∷ []) ∷ [])

abbrev one : Store
one = holding (1 ∷ [])

first_of_two : tasks_effect grows 0 one 1 ≡ Some (record { done = Access.read 0 1 ∷ Access.wrote 0 2 ∷ []; endings = Next 1 ∷ []; place = 1 })
first_of_two = simp layers

not_whole_after_one : whole_effect grows 0 one 1 ≡ None
not_whole_after_one = simp layers

abbrev grown : Reached
grown = record { done = Access.read 0 1 ∷ Access.wrote 0 2 ∷ Access.read 0 2 ∷ Access.wrote 0 20 ∷ []; endings = Next 1 ∷ Halt ∷ []; place = halt }

whole_after_two : whole_effect grows 0 one 2 ≡ Some grown
whole_after_two = simp layers

is_whole_after_two : IsWhole grows 0 one 2
is_whole_after_two = record { reached = grown; tasks = simp layers; ended = refl }

none_after_three : tasks_effect grows 0 one 3 ≡ None
none_after_three = simp layers

-- `nv a = 1; nv b = 0; transaction t { task p { b = a; next q; } task q { b = b + 1; halt; } }`
abbrev copies : Program
copies = build.program (build.scalar a 1 ∷ build.scalar b 0 ∷ []) (build.transaction (codes "t") (
    build.task (codes "p") (assign (plain b) (get (plain a)) ∷ build.next (codes "q") ∷ [])
    ∷ build.task (codes "q") (assign (plain b) (two op.Add (get (plain b)) (number 1)) ∷ build.halt ∷ []) ∷ []) ∷ [])

abbrev copied : List Access
copied = Access.read 0 1 ∷ Access.wrote 1 1 ∷ Access.read 1 1 ∷ Access.wrote 1 2 ∷ []

copies_whole : whole_effect copies 0 (holding (1 ∷ 0 ∷ [])) 2 ≡ Some (record { done = copied; endings = Next 1 ∷ Halt ∷ []; place = halt })
copies_whole = simp layers

-- a is read before it is written; b was written before it was read
shares_the_source : is_shared copied 0 ≡ true
shares_the_source = refl

shares_no_copy : is_shared copied 1 ≡ false
shares_no_copy = refl

-- a word that is read and then written is shared
shares_what_it_counts : is_shared grown.done 0 ≡ true
shares_what_it_counts = refl

-- of two writes the later one tells what is left
leaves_the_last : last_written grown.done 0 ≡ Some 20
leaves_the_last = refl

leaves_the_copy : last_written copied 1 ≡ Some 2
leaves_the_copy = refl

-- a word that is read alone is not written, and has no last value
leaves_no_source : last_written copied 0 ≡ None
leaves_no_source = refl

writes_the_copy : is_written copied 1 ≡ true
writes_the_copy = refl

writes_no_source : is_written copied 0 ≡ false
writes_no_source = refl

-- after its first write a course that reads word 0 and writes word 1 twice has the second write left
half_way : HasReached (Course.reads 0 (λ value. Course.writes 1 value (Course.writes 1 (value + 1) (Course.ends Halt)))) (holding (7 ∷ []))
    (Access.read 0 7 ∷ Access.wrote 1 7 ∷ []) (Course.writes 1 8 (Course.ends Halt))
half_way =
    HasReached.reads 0 _ _ _ _ (HasReached.writes 1 7 _ _ _ _ (HasReached.starts _ _))

-- a lone task is whole after one task
lone_whole : whole_effect counter 0 (holding (2 ∷ [])) 1 ≡ Some (record { done = Access.read 0 2 ∷ Access.wrote 0 3 ∷ Access.read 0 3 ∷ []; endings = Halt ∷ []; place = halt })
lone_whole = simp layers

-- `next main;` in the lone task main leads on to another unit, and not further in this one
lone_none_after_two : tasks_effect counter 0 (holding (0 ∷ [])) 2 ≡ None
lone_none_after_two = refl

-- a lone task before and behind a transaction of two: `task m .. transaction t { task p .. task q .. } task r ..`
abbrev mixed : Program
mixed = build.program [] (build.lone (codes "m") [] ∷ build.transaction (codes "t") (build.task (codes "p") [] ∷ build.task (codes "q") [] ∷ []) ∷ build.lone (codes "r") []
    ∷ build.transaction (codes "u") (build.task (codes "s") [] ∷ []) ∷ [])

lone_task : transaction_of mixed 0 ≡ None
lone_task = refl

member : transaction_of mixed 2 ≡ Some 0
member = refl

member_of_the_second : transaction_of mixed 4 ≡ Some 1
member_of_the_second = refl

first_of_the_first : first_task mixed 0 ≡ Some 1
first_of_the_first = refl

first_of_the_second : first_task mixed 1 ≡ Some 4
first_of_the_second = refl
