-- A small event, and what its halves do.
use Rattle.std.proofs.Common.{◌≡◌, ℕ, List, [], ◌∷◌, refl}
use Rattle.std.specs.Prelude.{None, codes}
use Rattle.coati_word.specs.declared.operator.Op.TheVariants as op
use Rattle.task_syntax.specs.declared.program.Program.{Program}
use Rattle.task_syntax.specs.declared.program.Event.{Event}
use Rattle.task_syntax.specs.Course.{Access, after, readings, written_words}
use Rattle.task_syntax.specs.Events.{message, event_effect}
use Rattle.task_syntax.proofs.Built as build
use Rattle.task_syntax.proofs.Built.{plain, number, get, two, assign, holding, named}
use Rattle.task_syntax.proofs.Layers.{layers}

abbrev a : List ℕ
a = codes "a"

abbrev b : List ℕ
b = codes "b"

-- `event e(v) { top { give v + 1; } bottom(x) { b = a + x; } }`
abbrev adds : Event
adds = record {
  name = named (codes "e");
  argument = named (codes "v");
  top = build.give (two op.Add (get (plain (codes "v"))) (number 1) ∷ []) ∷ [];
  params = named (codes "x") ∷ [];
  bottom = assign (plain b) (two op.Add (get (plain a)) (get (plain (codes "x")))) ∷ [];
}

-- `nv a = 20; nv b = 0;` and the event
abbrev device : Program
device = record { vars = build.scalar a 20 ∷ build.scalar b 0 ∷ []; buffer = None; events = adds ∷ []; units = [] }

message_on_five : message device adds 5 ≡ 6 ∷ []
message_on_five = simp layers

effect_on_five : event_effect device 0 5 (holding (20 ∷ 0 ∷ [])) ≡ Access.read 0 20 ∷ Access.wrote 1 26 ∷ []
effect_on_five = simp layers

abbrev done : List Access
done = Access.read 0 20 ∷ Access.wrote 1 26 ∷ []

readings_on_five : readings done ≡ record { word = 0; value = 20 } ∷ []
readings_on_five = refl

written_on_five : written_words done ≡ 1 ∷ []
written_on_five = refl

b_after_five : after done (holding (20 ∷ 0 ∷ [])) 1 ≡ 26
b_after_five = refl

-- an event that isn't there does nothing
no_event : event_effect device 1 5 (holding (20 ∷ 0 ∷ [])) ≡ []
no_event = refl
