-- Memory once a commit is under way: the word of the mark alone is another.
use Rattle.std.proofs.Common.{◌≡◌, ◌==◌, ℕ, ◌<◌, false, length, refl, sym, ap, subst, ◌∙◌, arith}
use Rattle.task_syntax.specs.declared.program.Program.{Program}
use Rattle.task_syntax.specs.Names.{tasks}
use Rattle.nv_memory.specs.InRange.{ArePlacesInRange, InRange, IsClosed}
use Rattle.nv_memory.specs.Ring.{held_entries, is_taking}
use Rattle.nv_memory.specs.Seats.{Memory}
use Rattle.nv_memory.specs.StandsFor.{place_of}
use Rattle.nv_memory.specs.State.{State, put, set_to, state}
use Rattle.nv_memory.specs.Words.{mark, mark_seat, mode}
use Rattle.nv_memory.proofs.Frames.{range_after_header}
use Rattle.coati_device.specs.Points.{IsMemoryOf}
use Rattle.coati_device.specs.Rows.{IsClear}
use Rattle.coati_device.proofs.TaskWrites.{IsPut}

-- the state with a commit under way
abbrev pub marked : State → ℕ → State
marked s value = put s (set_to mark_seat value)

not_taking : (s : State) → mark s ≡ 0 → is_taking s ≡ false
not_taking s clear = rw clear refl

range_marked : (s : State) (value : ℕ) → value < 3 → (value == 3) ≡ false → mark s ≡ 0 → InRange s
    → InRange (marked s value)
range_marked s value low other clear range =
    let taken_none : is_taking (marked s value) ≡ false = rw other refl in
    range_after_header s 0 value (omega arith) (omega arith) (omega arith) range.opened range.doomed
    (record {
      head_low = range.ring.head_low;
      next_low = range.ring.next_low;
      tail_low = range.ring.tail_low;
      few = λ none. range.ring.few (not_taking s clear);
      taken_some = λ taken. absurd cc;
      taken_few = λ taken. absurd cc;
      taken_follows = λ taken. absurd cc;
    }) range

closed_marked : (s : State) (value : ℕ) → IsClear s → IsClosed s → IsClosed (marked s value)
closed_marked s value clear closed = record {
  empty = λ none other. closed.empty none (λ one. omega (arith, one, clear.mark));
  flags = λ none other. closed.flags none (λ one. omega (arith, one, clear.mark));
  doomed_mark = λ one. absurd (omega (arith, one, clear.doomed));
  doomed_place = λ one. absurd (omega (arith, one, clear.doomed));
}

pub memory_marked : (program : Program) (m image : Memory) (value : ℕ) → value < 3
    → (value == 3) ≡ false → IsMemoryOf program m → IsClear (state m)
    → IsPut m (set_to mark_seat value) image → IsMemoryOf program image
memory_marked program m image value low other memory clear wrote =
    let back = sym wrote.state in
    record {
      memory = wrote.memory;
      words = wrote.words ∙ memory.words;
      slots = wrote.slots ∙ memory.slots;
      range = subst InRange back (range_marked (state m) value low other clear.mark memory.range);
      places =
          subst (ArePlacesInRange (length (tasks program))) back
          (record {
            current = memory.places.current;
            next = memory.places.next;
            first = memory.places.first;
          });
      closed = subst IsClosed back (closed_marked (state m) value clear memory.closed);
      mode = rw (ap mode wrote.state) memory.mode;
    }

-- the held entries stay
pub held_marked : (s : State) (value : ℕ) → (value == 3) ≡ false → mark s ≡ 0
    → held_entries (marked s value) ≡ held_entries s
held_marked s value other clear = rw (other, clear) refl

-- a merge leaves the place
pub place_merged : (s : State) → mark s ≡ 0 → place_of (marked s 1) ≡ place_of s
place_merged s clear = rw clear refl
