-- The numbers of scripts: periods in their range, postings of the program's events, times that never fall.
use Rattle.std.proofs.Common.{◌≡◌, ℕ, ◌+◌, ◌-◌, ◌<◌, ◌≤◌, true, false, List, [], ◌∷◌, ◌++◌, length, replicate, Option, Some, None, IfSome, arith, inl, inr, suc, subst, sym}
use Rattle.std.specs.Prelude.{unwrap_or, bytes_eq}
use Rattle.std.specs.List.{All}
use Rattle.std.specs.Option.{is_some}
use Rattle.std.proofs.lemmas.Bool.{cases_Bool, leb-true}
use Rattle.std.proofs.lemmas.List.Elements.{All-append, All-nil, All-push, All-replicate}
use Rattle.std.proofs.lemmas.List.Sorted.{IsNonDecreasingBy-push, IsNonDecreasingBy-short}
use Rattle.coati_word.specs.declared.limits.TheConstants.{PERIOD_STEPS}
use Rattle.serial_log.specs.declared.script.Posting.{Posting}
use Rattle.serial_log.specs.declared.script.Script.{Script}
use Rattle.task_check.specs.Numbers.{event_from, event_of}
use Rattle.task_syntax.specs.declared.program.Event.{Event}
use Rattle.task_syntax.specs.declared.program.Program.{Program}
use Rattle.trace_text.specs.declared.statement.Statement.{Statement}
use Rattle.trace_text.specs.declared.statement.Statement.TheVariants.{Limit, Power, At}
use Rattle.trace_text.specs.Statements.{Says, limit, power, powers, at}
use Rattle.trace_text.specs.Trace.{IsPosting, IsScriptFor, Leads, Tells, is_in_order, is_known, last_time, nothing, quiet, said, script_behind}
use Rattle.trace_text.proofs.Limits.{last_time-get}

-- an event that is there has a number below their count
event_from-below : (events : List Event) (first : ℕ) (name : List ℕ) → is_some (event_from first events name) ≡ true
    → unwrap_or (event_from first events name) 0 < first + length events
event_from-below [] first name some = cc
event_from-below (event ∷ more) first name some = elim (cases_Bool (bytes_eq event.name.text name)) [
  | inl same ↦ rw same (omega arith)
  | inr other ↦
      let later : is_some (event_from (first + 1) more name) ≡ true = rw other at some in
      rw other (omega (arith, event_from-below more (first + 1) name later))
]

abbrev IsPeriod : ℕ → Type 0
IsPeriod period = (1 ≤ period) × (period ≤ PERIOD_STEPS)

period_is : (program : Program) (line : List ℕ) (period times : ℕ) → Says program line (Power period times) → IsPeriod period
period_is program line _ _ (power period cut least most) = (least, most)
period_is program line _ _ (powers period times cut least most some few) = (least, most)

posting_is : (program : Program) (line : List ℕ) (time device : ℕ) (event : Option ℕ) (argument : ℕ) → Says program line (At time device event argument)
    → is_some event ≡ true → IsPosting program (record { time = time; device = device; event = unwrap_or event 0; argument = argument })
posting_is program line _ _ _ _ (at time device event argument cut some t d a) known = record {
  device = d;
  event = omega (arith, event_from-below program.events 0 event known);
  argument = a;
}

-- behind a line that tells a script
behind : (program : Program) (told : Option Script) (line : List ℕ) (statement : Statement) → IfSome told (IsScriptFor program)
    → Says program line statement → is_known statement ≡ true → is_in_order told statement ≡ true → IsScriptFor program (script_behind told statement)
behind program None line (Limit number) numbers says known order = record {
  periods = All-nil IsPeriod;
  postings = All-nil (IsPosting program);
  in_time = IsNonDecreasingBy-short (λ (posting : Posting). posting.time) [] (omega arith);
}
behind program None line (Power period times) numbers says known order = cc
behind program None line (At time device event argument) numbers says known order = cc
behind program (Some script) line (Limit number) numbers says known order = cc
behind program (Some script) line (Power period times) numbers says known order = record {
  periods = All-append IsPeriod script.power (replicate times period) numbers.periods
      (All-replicate IsPeriod times period (period_is program line period times says));
  postings = numbers.postings;
  in_time = numbers.in_time;
}
behind program (Some script) line (At time device event argument) numbers says known order =
    let posting : Posting = record { time = time; device = device; event = unwrap_or event 0; argument = argument } in
    record {
      periods = numbers.periods;
      postings = All-push (IsPosting program) script.postings posting numbers.postings (posting_is program line time device event argument says known);
      in_time = IsNonDecreasingBy-push (λ (p : Posting). p.time) script.postings posting numbers.in_time (λ other some.
          let last = last_time-get script.postings (length script.postings - 1) other (omega arith) in
          omega (arith, last, leb-true (last_time script.postings) time order));
    }

pub leads_numbers : (program : Program) (told last : Option Script) (lines : List (List ℕ)) → IfSome told (IsScriptFor program)
    → Leads program told lines last → IfSome last (IsScriptFor program)
leads_numbers program told _ _ numbers (nothing _) = numbers
leads_numbers program told last _ numbers (quiet _ line more _ is heard) = leads_numbers program told last more numbers heard
leads_numbers program told last _ numbers (said _ line script more _ heard tells rest) =
    let here : IsScriptFor program script =
    subst (IsScriptFor program) (sym tells.behind) (behind program told line tells.statement numbers tells.says tells.known tells.order) in
    leads_numbers program (Some script) last more here rest
