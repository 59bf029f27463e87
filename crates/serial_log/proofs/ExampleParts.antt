-- Small programs, what their units do, and marks to build histories of them.
use Rattle.std.proofs.Common.{◌≡◌, ℕ, ◌+◌, List, [], ◌∷◌}
use Rattle.std.specs.Prelude.{Some, codes, slice_index}
use Rattle.coati_word.specs.declared.reading.Reading.{Reading}
use Rattle.coati_word.specs.declared.ending.Ending.TheVariants.{Next, Halt}
use Rattle.coati_word.specs.declared.mode.Mode.TheVariants.{Split, Buffi}
use Rattle.coati_word.specs.declared.operator.Op.TheVariants as op
use Rattle.task_syntax.specs.declared.program.Program.{Program}
use Rattle.task_syntax.specs.Course.{Access, Store, after}
use Rattle.task_syntax.specs.Units.{Reached, task_effect, tasks_effect, whole_effect, halt}
use Rattle.task_syntax.specs.Events.{event_effect}
use Rattle.task_syntax.proofs.Built as build
use Rattle.task_syntax.proofs.Built.{plain, number, get, two, assign, named}
use Rattle.task_syntax.proofs.Layers.{layers}
use Rattle.serial_log.specs.declared.mark.Mark.{Mark}
use Rattle.serial_log.specs.declared.mark.MarkKind.{MarkKind}
use Rattle.serial_log.specs.declared.mark.MarkKind.TheVariants.{Posted, Commit, Abort}
use Rattle.serial_log.specs.declared.posted.Answer.{Answer}
use Rattle.serial_log.specs.declared.unit.Unit.TheVariants.{Task, Transaction, Event}
use Rattle.serial_log.specs.declared.held.Held.{Held}
use Rattle.serial_log.specs.Postings.{Terms}

-- `nv a = 1; nv b = 0; buffer 1; event e(v) { top { give v + 1; } bottom(x) { b = a + x; } }
-- transaction t { task p { a = a + 1; next q; } task q { a = a * 10; halt; } }`
abbrev pub adds : Program
adds = record {
  vars = build.scalar (codes "a") 1 ∷ build.scalar (codes "b") 0 ∷ [];
  buffer = Some (record { value = 1; at = 0 });
  events = record {
    name = named (codes "e");
    argument = named (codes "v");
    top = build.give (two op.Add (get (plain (codes "v"))) (number 1) ∷ []) ∷ [];
    params = named (codes "x") ∷ [];
    bottom = assign (plain (codes "b")) (two op.Add (get (plain (codes "a"))) (get (plain (codes "x")))) ∷ [];
  } ∷ [];
  units = build.transaction (codes "t") (
      build.task (codes "p") (assign (plain (codes "a")) (two op.Add (get (plain (codes "a"))) (number 1)) ∷ build.next (codes "q") ∷ [])
      ∷ build.task (codes "q") (assign (plain (codes "a")) (two op.Mul (get (plain (codes "a"))) (number 10)) ∷ build.halt ∷ []) ∷ []) ∷ [];
}

abbrev pub adds_terms : Terms
adds_terms = record { program = adds; mode = Split; handler = 48 }

-- a = 1, b = 0
abbrev pub start : Store
start = slice_index (1 ∷ 0 ∷ [])

abbrev pub grown : Reached
grown = record { done = Access.read 0 1 ∷ Access.wrote 0 2 ∷ Access.read 0 2 ∷ Access.wrote 0 20 ∷ []; endings = Next 1 ∷ Halt ∷ []; place = halt }

pub grows : whole_effect adds 0 start 2 ≡ Some grown
grows = simp layers

abbrev pub summed : List Access
summed = Access.read 0 20 ∷ Access.wrote 1 26 ∷ []

pub sums : event_effect adds 0 5 (after grown.done start) ≡ summed
sums = simp layers

-- `nv a = 1; nv b = 0; buffer 2; event e(v) { top { give v; } bottom(x) { a = x; } }
-- transaction t { task p { b = a; next q; } task q { b = b + 1; halt; } }`
abbrev pub copies : Program
copies = record {
  vars = build.scalar (codes "a") 1 ∷ build.scalar (codes "b") 0 ∷ [];
  buffer = Some (record { value = 2; at = 0 });
  events = record {
    name = named (codes "e");
    argument = named (codes "v");
    top = build.give (get (plain (codes "v")) ∷ []) ∷ [];
    params = named (codes "x") ∷ [];
    bottom = assign (plain (codes "a")) (get (plain (codes "x"))) ∷ [];
  } ∷ [];
  units = build.transaction (codes "t") (
      build.task (codes "p") (assign (plain (codes "b")) (get (plain (codes "a"))) ∷ build.next (codes "q") ∷ [])
      ∷ build.task (codes "q") (assign (plain (codes "b")) (two op.Add (get (plain (codes "b"))) (number 1)) ∷ build.halt ∷ []) ∷ []) ∷ [];
}

abbrev pub copies_terms : Terms
copies_terms = record { program = copies; mode = Buffi; handler = 44 }

abbrev pub copied : ℕ → Reached
copied value = record { done = Access.read 0 value ∷ Access.wrote 1 value ∷ Access.read 1 value ∷ Access.wrote 1 (value + 1) ∷ []; endings = Next 1 ∷ Halt ∷ []; place = halt }

pub copies_whole : tasks_effect copies 0 start 2 ≡ Some (copied 1)
copies_whole = simp layers

abbrev pub copied_first : Reached
copied_first = record { done = Access.read 0 1 ∷ Access.wrote 1 1 ∷ []; endings = Next 1 ∷ []; place = 1 }

pub copies_first : tasks_effect copies 0 start 1 ≡ Some copied_first
copies_first = simp layers

pub sets : (store : Store) → event_effect copies 0 9 store ≡ Access.wrote 0 9 ∷ []
sets store = simp layers

pub copies_after : whole_effect copies 0 (after (Access.wrote 0 9 ∷ []) start) 2 ≡ Some (copied 9)
copies_after = simp layers

-- `nv a = 1; nv b = 0; buffer 2; event e(v) { top { give v; } bottom(x) { a = a + x; } } task p { b = b + 1; halt; }`
abbrev pub counts : Program
counts = record {
  vars = build.scalar (codes "a") 1 ∷ build.scalar (codes "b") 0 ∷ [];
  buffer = Some (record { value = 2; at = 0 });
  events = record {
    name = named (codes "e");
    argument = named (codes "v");
    top = build.give (get (plain (codes "v")) ∷ []) ∷ [];
    params = named (codes "x") ∷ [];
    bottom = assign (plain (codes "a")) (two op.Add (get (plain (codes "a"))) (get (plain (codes "x")))) ∷ [];
  } ∷ [];
  units = build.lone (codes "p") (assign (plain (codes "b")) (two op.Add (get (plain (codes "b"))) (number 1)) ∷ build.halt ∷ []) ∷ [];
}

abbrev pub counts_terms : Terms
counts_terms = record { program = counts; mode = Buffi; handler = 46 }

abbrev pub ten_added : List Access
ten_added = Access.read 0 1 ∷ Access.wrote 0 11 ∷ []

pub adds_ten : event_effect counts 0 10 start ≡ ten_added
adds_ten = simp layers

abbrev pub twenty_added : List Access
twenty_added = Access.read 0 11 ∷ Access.wrote 0 31 ∷ []

pub adds_twenty : event_effect counts 0 20 (after ten_added start) ≡ twenty_added
adds_twenty = simp layers

abbrev pub counted : Reached
counted = record { done = Access.read 1 0 ∷ Access.wrote 1 1 ∷ []; endings = Halt ∷ []; place = halt }

pub counts_one : task_effect counts 0 (after twenty_added (after ten_added start)) ≡ counted
counts_one = simp layers

abbrev pub reading : ℕ → ℕ → Reading
reading word value = record { word = word; value = value }

abbrev pub held : ℕ → ℕ → Held
held number argument = record { number = number; event = 0; argument = argument }

abbrev pub mark : ℕ → MarkKind → Mark
mark at kind = record { at = at; kind = kind }

abbrev pub post : ℕ → ℕ → ℕ → ℕ → Answer → MarkKind
post device index argument from answer = Posted (record { device = device; index = index; event = 0; argument = argument; from = from; answer = answer })

abbrev pub task : ℕ → ℕ → MarkKind
task from count = Commit (record { unit = Task 0; tasks = 1; posting = 0; reads_from = from; reads_len = count })

abbrev pub transaction : ℕ → ℕ → MarkKind
transaction from count = Commit (record { unit = Transaction 0; tasks = 2; posting = 0; reads_from = from; reads_len = count })

abbrev pub event : ℕ → ℕ → ℕ → MarkKind
event posting from count = Commit (record { unit = Event 0; tasks = 0; posting = posting; reads_from = from; reads_len = count })

abbrev pub abort : ℕ → ℕ → ℕ → MarkKind
abort tasks posting word = Abort (record { unit = Transaction 0; tasks = tasks; posting = posting; word = word })
