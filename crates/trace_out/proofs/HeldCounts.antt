-- As many entries are held as postings wait.
use Rattle.std.proofs.Common.{◌≡◌, ℕ, zero, suc, List, [], ◌∷◌, length, ap, refl, ◌∙◌, sym}
use Rattle.std.proofs.lemmas.List.{length-map}
use Rattle.nv_memory.specs.Ring.{Entry, entry_at, held_count, held_entries, held_slots, oldest, position_after, slots_from}
use Rattle.nv_memory.specs.State.{State}
use Rattle.serial_log.specs.declared.held.Held.{Held}
use Rattle.serial_log.specs.Standing.{Standing}
use Rattle.task_syntax.specs.declared.program.Program.{Program}
use Rattle.coati_device.specs.Points.{AreHeld, StandsFor}

slots_from-length : (k position count : ℕ) → length (slots_from k position count) ≡ count
slots_from-length k position zero = refl
slots_from-length k position (suc count) =
    ap suc (slots_from-length k (position_after k position) count)

as_many_held : (program : Program) (entries : List Entry) (rest : List Held)
    → AreHeld program entries rest → length entries ≡ length rest
as_many_held program [] [] held = refl
as_many_held program [] (first ∷ more) held = absurd held
as_many_held program (entry ∷ entries) [] held = absurd held
as_many_held program (entry ∷ entries) (first ∷ more) held =
    ap suc (as_many_held program entries more held.1)

pub held_count-rest : (program : Program) (s : State) (standing : Standing)
    → StandsFor program s standing → held_count s ≡ length standing.rest
held_count-rest program s standing stands =
    sym (length-map (held_slots s) (entry_at s) ∙ slots_from-length s.k (oldest s) (held_count s))
    ∙ as_many_held program (held_entries s) standing.rest stands.held
