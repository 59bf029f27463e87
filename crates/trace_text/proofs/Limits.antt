-- Scripts within the limits, and beyond them.
use Rattle.std.proofs.Common.{◌≡◌, ℕ, ◌≤◌, true, false, ◌&&◌, List, [], ◌∷◌, length, refl, arith, get_or, suc, zero, Option, Some, IfSome}
use Rattle.std.specs.Prelude.{nat_le}
use Rattle.std.proofs.lemmas.Bool.{and_parts, and_from, le-leb, leb-true, false_from_ne_true}
use Rattle.coati_word.specs.declared.limits.TheConstants.{EXECUTOR_STEPS, MACHINE_STEPS, POSTINGS, POWER_PERIODS}
use Rattle.serial_log.specs.declared.script.Posting.{Posting}
use Rattle.serial_log.specs.declared.script.Script.{Script}
use Rattle.task_syntax.specs.declared.program.Program.{Program}
use Rattle.trace_text.specs.Trace.{IsWithin, Leads, is_within, last_time, nothing, quiet, run_bound, said}

pub is_within-parts : (program : Program) (script : Script) → is_within program script ≡ true → IsWithin program script
is_within-parts program script is =
    let limited = nat_le script.limit EXECUTOR_STEPS in
    let powered = nat_le (length script.power) POWER_PERIODS in
    let posted = nat_le (length script.postings) POSTINGS in
    let bounded = nat_le (run_bound program script) MACHINE_STEPS in
    let last = and_parts (limited && powered && posted) bounded is in
    let third = and_parts (limited && powered) posted last.0 in
    let first = and_parts limited powered third.0 in
    record {
      limit = leb-true script.limit EXECUTOR_STEPS first.0;
      power = leb-true (length script.power) POWER_PERIODS first.1;
      postings = leb-true (length script.postings) POSTINGS third.1;
      run = leb-true (run_bound program script) MACHINE_STEPS last.1;
    }

pub is_within-from : (program : Program) (script : Script) → IsWithin program script → is_within program script ≡ true
is_within-from program script is =
    let limited = nat_le script.limit EXECUTOR_STEPS in
    let powered = nat_le (length script.power) POWER_PERIODS in
    let posted = nat_le (length script.postings) POSTINGS in
    let bounded = nat_le (run_bound program script) MACHINE_STEPS in
    and_from (limited && powered && posted) bounded
    (and_from (limited && powered) posted
    (and_from limited powered (le-leb script.limit EXECUTOR_STEPS is.limit) (le-leb (length script.power) POWER_PERIODS is.power))
    (le-leb (length script.postings) POSTINGS is.postings))
    (le-leb (run_bound program script) MACHINE_STEPS is.run)

pub is_within-beyond : (program : Program) (script : Script) → (IsWithin program script → ⊥) → is_within program script ≡ false
is_within-beyond program script beyond = false_from_ne_true (is_within program script) (λ is. beyond (is_within-parts program script is))

-- the last posting is the one at the last place
pub last_time-get : (postings : List Posting) (place : ℕ) (other : Posting) → suc place ≡ length postings
    → (get_or postings place other).time ≡ last_time postings
last_time-get [] place other counted = absurd (omega arith)
last_time-get (posting ∷ []) place other counted = let e : place ≡ 0 = omega arith in rw e refl
last_time-get (posting ∷ next ∷ more) zero other counted = absurd (omega arith)
last_time-get (posting ∷ next ∷ more) (suc place) other counted = last_time-get (next ∷ more) place other (omega arith)

-- lines lead from scripts within the limits to scripts within them
pub leads_within : (program : Program) (told last : Option Script) (lines : List (List ℕ)) → IfSome told (λ script. is_within program script ≡ true)
    → Leads program told lines last → IfSome last (λ script. is_within program script ≡ true)
leads_within program told _ _ within (nothing _) = within
leads_within program told last _ within (quiet _ line more _ is behind) = leads_within program told last more within behind
leads_within program told last _ within (said _ line script more _ heard tells behind) =
    let here : is_within program script ≡ true = rw tells.behind tells.within in
    leads_within program (Some script) last more here behind
