-- A write to the address of a seat makes the change of what stands there.
use Rattle.std.proofs.Common.{◌≡◌, ◌≢◌, ◌↔◌, ℕ, refl, ap, ◌∙◌, List, ◌∷◌, Option, Some, None, IsNone, true}
use Rattle.nv_memory.specs.declared.write.Write.{Write}
use Rattle.nv_memory.specs.declared.layout.Layout.{Layout}
use Rattle.nv_memory.specs.Seats.{Memory, Seat, address, is_seat}
use Rattle.nv_memory.specs.State.{Change, first_undone, set_to, state}
use Rattle.nv_memory.proofs.Puts.{writes_at}
use Rattle.tx_buffer.specs.Next.{IsNext, MakesNext}
use Rattle.tx_buffer.proofs.Undone.{undone_head}

-- an address by the image's layout
pub at_seat : (m : Memory) (layout : Layout) (at : ℕ) (seat : Seat) → layout ≡ record { n = m.n; k = m.k } → at ≡ address layout.n seat → at ≡ address m.n seat
at_seat m layout at seat l e = e ∙ ap (λ (l : Layout). address l.n seat) l

-- the first change of a list is made
pub makes_head : (m : Memory) (seat : Seat) (at word : ℕ) (rest : List Change) → is_seat m.n m.k seat ≡ true → at ≡ address m.n seat
    → (state m).at seat ≢ word → MakesNext m (set_to seat word ∷ rest) (record { at = at; word = word })
makes_head m seat at word rest is e n = record {
  change = set_to seat word;
  next = undone_head (state m) (set_to seat word) rest n;
  writes = writes_at m seat word at word is e refl;
}

-- none is answered exactly where a fact holds that says that all stand
pub none_where : (P : Type 0) (m : Memory) (changes : List Change) (o : Option Write) → (first_undone (state m) changes ≡ None → P)
    → (P → first_undone (state m) changes ≡ None) → IsNext m changes o → IsNone o ↔ P
none_where P m changes None says shown is = (λ _. says is, λ _. refl)
none_where P m changes (Some write) says shown is = (λ h. absurd (cc), λ p. let none = shown p in let some = is.next in absurd cc)
