-- The oldest waiting posting is served by a commit of its event: the run goes on behind it, and
-- those behind it wait.
use Rattle.std.proofs.Common.{◌≡◌, ◌==◌, ℕ, ◌+◌, ◌-◌, ◌≤◌, List, ◌∷◌, true, Option, length, refl, sym, ap, subst, ◌∙◌, arith}
use Rattle.std.proofs.lemmas.Bool.Decides.{nat_tests}
use Rattle.std.specs.Option.{option_map_or}
use Rattle.task_syntax.specs.declared.program.Program.{Program}
use Rattle.nv_memory.specs.Ring.{held_count, held_entries}
use Rattle.nv_memory.specs.State.{State}
use Rattle.event_buffer.proofs.Slots.{held_length}
use Rattle.serial_log.specs.declared.held.Held.{Held}
use Rattle.serial_log.specs.declared.mark.Mark.{Mark}
use Rattle.serial_log.specs.declared.mark.MarkKind.TheVariants.{Commit}
use Rattle.serial_log.specs.SerialRun.{behind_event, posting_numbered}
use Rattle.serial_log.specs.Standing.{Standing, after_mark, without}
use Rattle.coati_device.specs.Kept.{record_of_event}
use Rattle.coati_device.specs.Points.{AreHeld, AreLastAccepted, AreNumberedFrom}
use Rattle.coati_device.proofs.EventCommits.{held_as_many, numbered_first}

-- the number of the first leaves those behind it
leaves_others : (held : Held) (more : List Held) (number : ℕ) → held.number ≡ number →
    without number (held ∷ more) ≡ more
leaves_others held more number is =
    let same : (held.number == number) ≡ true = grind (arith, nat_tests) in rw same refl

-- those behind the first are the last accepted ones too
last_without : (held : Held) (more : List Held) (accepted : ℕ) →
    length (held ∷ more) ≤ accepted →
    AreNumberedFrom (accepted + 1 - length (held ∷ more)) (held ∷ more) →
    AreNumberedFrom (accepted + 1 - length more) more
last_without held more accepted few are =
    let same : accepted + 1 - length (held ∷ more) + 1 ≡ accepted + 1 - length more =
    omega (arith, few) in
    subst (λ (number : ℕ). AreNumberedFrom number more) same are.1

-- the mark of the commit of an event
abbrev pub event_mark : (event number from count at : ℕ) → Mark
event_mark event number from count at =
    record { at = at; kind = Commit (record_of_event event number from count) }

-- what the history leads to with the commit of the oldest posting's event
pub record ServesOldest (program : Program) (standing served : Standing) (held : Held)
    (more : List Held) : Type 0 where
  pub run : served.run ≡ behind_event program standing.run held
  pub rest : served.rest ≡ more
  pub waiting : AreLastAccepted served

module _ (program : Program) (standing : Standing) (held : Held) (more : List Held)
    (first : standing.rest ≡ held ∷ more) (are : AreLastAccepted standing) where
  pub first_number : held.number ≡ standing.accepted + 1 - length standing.rest
  first_number =
      (subst (AreNumberedFrom (standing.accepted + 1 - length standing.rest)) first
      are.numbered).0

  -- the oldest is as far behind the last accepted one as entries are held
  pub oldest_number : (s : State) → AreHeld program (held_entries s) standing.rest →
      held.number ≡ standing.accepted + 1 - held_count s
  oldest_number s holds =
      first_number
      ∙ ap (λ (count : ℕ). standing.accepted + 1 - count)
      (sym (sym (held_length s) ∙ held_as_many program (held_entries s) standing.rest holds))

  pub serves_oldest : (event number from count at : ℕ) → held.number ≡ number →
      ServesOldest program standing
      (after_mark program standing (event_mark event number from count at)) held more
  serves_oldest event number from count at is =
      let served = after_mark program standing (event_mark event number from count at) in
      let rest_is : served.rest ≡ more =
      ap (without number) first ∙ leaves_others held more number is in
      let few : length (held ∷ more) ≤ standing.accepted =
      subst (λ (rest : List Held). length rest ≤ standing.accepted) first are.few in
      let numbered :
      AreNumberedFrom (standing.accepted + 1 - length (held ∷ more)) (held ∷ more) =
      subst (λ (rest : List Held). AreNumberedFrom (standing.accepted + 1 - length rest) rest)
      first are.numbered in
      record {
        run =
            ap (λ (o : Option Held).
            option_map_or (behind_event program standing.run) o standing.run)
            (ap (posting_numbered number) first ∙ numbered_first held more number is);
        rest = rest_is;
        waiting =
            subst (λ (rest : List Held). AreLastAccepted (record served { rest = rest }))
            (sym rest_is)
            (record {
              few = omega (arith, few);
              numbered = last_without held more standing.accepted few numbered;
            });
      }
