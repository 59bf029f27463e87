-- Many lines: the script to which they lead, or the first that is refused.
use Rattle.std.proofs.Common.{◌≡◌, ◌≢◌, ℕ, ◌+◌, true, false, List, [], ◌∷◌, ◌++◌, Option, Some, None, Result, Ok, Err, length, refl, ap, sym, ◌∙◌, inl, inr, arith, subst}
use Rattle.std.specs.Prelude.{codes, bytes_eq, ◌⊎◌}
use Rattle.std.proofs.lemmas.Bool.{cases_Bool}
use Rattle.std.proofs.lemmas.List.{append-nil}
use Rattle.std.proofs.lemmas.Slice.Eq.{bytes_eq-Decides}
use Rattle.coati_text.specs.Line.{lines_of}
use Rattle.serial_log.specs.declared.script.Script.{Script}
use Rattle.task_syntax.specs.declared.program.Program.{Program}
use Rattle.trace_text.specs.declared.fault.TraceFault.{TraceFault}
use Rattle.trace_text.specs.declared.fault.TraceFault.TheVariants as fault
use Rattle.trace_text.specs.Fields.{first_word, is_quiet}
use Rattle.trace_text.specs.Reading.{line_reading, lines_reading, read_on, reading, said_reading}
use Rattle.trace_text.specs.Trace.{FaultAt, FirstFault, IsBad, IsOutOfOrder, IsTooMuch, IsUnknown, LacksLimit, Leads, Tells, TraceText, nothing, quiet, said, said_lines}
use Rattle.trace_text.proofs.Refusals.{Means, Refuses, first_begins, limited_reading, refused_reading, said_means, told_reading, unlimited_reading}

-- the lines behind one that says nothing
quiet_on : (program : Program) (number : ℕ) (told : Option Script) (line : List ℕ) (more : List (List ℕ))
    → is_quiet line ≡ true → lines_reading program number told (line ∷ more) ≡ lines_reading program (number + 1) told more
quiet_on program number told line more is = rw is refl

-- and behind one that says something
heard_on : (program : Program) (number : ℕ) (told : Option Script) (line : List ℕ) (more : List (List ℕ)) (read : Result Script TraceFault)
    → is_quiet line ≡ false → line_reading program (number + 1) told line ≡ read
    → lines_reading program number told (line ∷ more) ≡ read_on (λ script. lines_reading program (number + 1) (Some script) more) read
heard_on program number told line more read heard was = rw (heard, was) refl

-- a line that tells a script has the limit before it, or is its line
tells_limited : (program : Program) (told : Option Script) (line : List ℕ) (script : Script)
    → Tells program told line script → told ≡ None → first_word line ≡ codes "limit"
tells_limited program None line script is none = first_begins program line script is
tells_limited program (Some before) line script is none = cc

-- lines that lead on are read up to there
pub leads_reading : (program : Program) (number : ℕ) (told : Option Script) (front : List (List ℕ)) (last : Option Script) (rest : List (List ℕ))
    → Leads program told front last
    → lines_reading program number told (front ++ rest) ≡ lines_reading program (number + length front) last rest
leads_reading program number told _ _ rest (nothing _) = ap (λ (n : ℕ). lines_reading program n told rest) (omega arith)
leads_reading program number told _ last rest (quiet _ line more _ is behind) =
    quiet_on program number told line (more ++ rest) is
    ∙ leads_reading program (number + 1) told more last rest behind
    ∙ ap (λ (n : ℕ). lines_reading program n last rest) (omega arith)
leads_reading program number told _ last rest (said _ line script more _ heard tells behind) =
    let read : line_reading program (number + 1) told line ≡ Ok script =
    limited_reading program (number + 1) told line (tells_limited program told line script tells) ∙ told_reading program (number + 1) told line script tells in
    heard_on program number told line (more ++ rest) (Ok script) heard read
    ∙ leads_reading program (number + 1) (Some script) more last rest behind
    ∙ ap (λ (n : ℕ). lines_reading program n last rest) (omega arith)

-- the line of this number, counted from one more than `number`, is the first that is refused
pub record RefusedIn (program : Program) (number : ℕ) (told : Option Script) (lines : List (List ℕ)) (found : TraceFault) : Type 0 where
  pub front : List (List ℕ)
  pub line : List ℕ
  pub more : List (List ℕ)
  pub lines_are : lines ≡ front ++ line ∷ more
  pub here : Option Script
  pub before : Leads program told front here
  pub heard : is_quiet line ≡ false
  pub limited : here ≡ None → first_word line ≡ codes "limit"
  pub refused : Refuses program (number + length front + 1) here line found

-- no limit was told, and the lines lack it
pub record LacksIn (told : Option Script) (lines : List (List ℕ)) (found : TraceFault) : Type 0 where
  pub found_is : found ≡ fault.NoLimit
  pub untold : told ≡ None
  pub lacks : LacksLimit lines

-- what a reading of lines comes from
abbrev pub LinesMean : Program → ℕ → Option Script → List (List ℕ) → Result Script TraceFault → Type 0
LinesMean program number told lines (Ok script) = Leads program told lines (Some script)
LinesMean program number told lines (Err found) = RefusedIn program number told lines found ⊎ LacksIn told lines found

-- a line that says nothing changes nothing
behind_quiet : (program : Program) (number : ℕ) (told : Option Script) (line : List ℕ) (more : List (List ℕ)) (read : Result Script TraceFault)
    → is_quiet line ≡ true → LinesMean program (number + 1) told more read → LinesMean program number told (line ∷ more) read
behind_quiet program number told line more (Ok script) is means = quiet told line more (Some script) is means
behind_quiet program number told line more (Err found) is (inl r) = inl (record {
  front = line ∷ r.front;
  line = r.line;
  more = r.more;
  lines_are = ap (λ (lines : List (List ℕ)). line ∷ lines) r.lines_are;
  here = r.here;
  before = quiet told line r.front r.here is r.before;
  heard = r.heard;
  limited = r.limited;
  refused = subst (λ (n : ℕ). Refuses program n r.here r.line found) (omega arith) r.refused;
})
behind_quiet program number told line more (Err found) is (inr r) = inr (record {
  found_is = r.found_is;
  untold = r.untold;
  lacks = λ first others e. r.lacks first others (sym (silent_line line more is) ∙ e);
}) where
  silent_line : (line : List ℕ) (more : List (List ℕ)) → is_quiet line ≡ true → said_lines (line ∷ more) ≡ said_lines more
  silent_line line more is = rw is refl

-- the lines behind a line that tells a script
behind_told : (program : Program) (number : ℕ) (told : Option Script) (line : List ℕ) (script : Script) (more : List (List ℕ)) (read : Result Script TraceFault)
    → is_quiet line ≡ false → Tells program told line script
    → LinesMean program (number + 1) (Some script) more read → LinesMean program number told (line ∷ more) read
behind_told program number told line script more (Ok last) heard tells means = said told line script more (Some last) heard tells means
behind_told program number told line script more (Err found) heard tells (inl r) = inl (record {
  front = line ∷ r.front;
  line = r.line;
  more = r.more;
  lines_are = ap (λ (lines : List (List ℕ)). line ∷ lines) r.lines_are;
  here = r.here;
  before = said told line script r.front r.here heard tells r.before;
  heard = r.heard;
  limited = r.limited;
  refused = subst (λ (n : ℕ). Refuses program n r.here r.line found) (omega arith) r.refused;
})
behind_told program number told line script more (Err found) heard tells (inr r) = let none : Some script ≡ None = r.untold in cc

-- a line that is refused
at_refused : (program : Program) (number : ℕ) (told : Option Script) (line : List ℕ) (more : List (List ℕ)) (found : TraceFault)
    → is_quiet line ≡ false → (told ≡ None → first_word line ≡ codes "limit") → Refuses program (number + 1) told line found
    → LinesMean program number told (line ∷ more) (Err found)
at_refused program number told line more found heard limited refused = inl (record {
  front = [];
  line = line;
  more = more;
  lines_are = refl;
  here = told;
  before = nothing told;
  heard = heard;
  limited = limited;
  refused = subst (λ (n : ℕ). Refuses program n told line found) (omega arith) refused;
})

-- a first line that says something else than a limit
at_unlimited : (program : Program) (number : ℕ) (line : List ℕ) (more : List (List ℕ))
    → is_quiet line ≡ false → first_word line ≢ codes "limit" → LinesMean program number None (line ∷ more) (Err fault.NoLimit)
at_unlimited program number line more heard other = inr (record {
  found_is = refl;
  untold = refl;
  lacks = λ first others e.
      let here : said_lines (line ∷ more) ≡ line ∷ said_lines more = rw heard refl in
      let same : line ∷ said_lines more ≡ first ∷ others = sym here ∙ e in
      let first_is : line ≡ first = cc in
      subst (λ (text : List ℕ). first_word text ≢ codes "limit") first_is other;
})

-- whether a limit is told, or this line begins with its word
cases_limited : (told : Option Script) (line : List ℕ)
    → (told ≡ None → first_word line ≡ codes "limit") ⊎ ((told ≡ None) × (first_word line ≢ codes "limit"))
cases_limited (Some script) line = inl (λ none. cc)
cases_limited None line = elim (cases_Bool (bytes_eq (first_word line) (codes "limit"))) [
  | inl same ↦ inl (λ none. (bytes_eq-Decides (first_word line) (codes "limit")).0 same)
  | inr other ↦ inr (refl, λ same. let is : true ≡ false = sym ((bytes_eq-Decides (first_word line) (codes "limit")).1 same) ∙ other in cc)
]

-- what is read of lines is what they are
pub lines_mean : (program : Program) (number : ℕ) (told : Option Script) (lines : List (List ℕ))
    → LinesMean program number told lines (lines_reading program number told lines)
lines_mean program number None [] = inr (record { found_is = refl; untold = refl; lacks = λ first others e. cc })
lines_mean program number (Some script) [] = nothing (Some script)
lines_mean program number told (line ∷ more) = elim (cases_Bool (is_quiet line)) [
  | inl silent ↦ rw (quiet_on program number told line more silent)
      (behind_quiet program number told line more (lines_reading program (number + 1) told more) silent (lines_mean program (number + 1) told more))
  | inr heard ↦ elim (cases_limited told line) [
    | inl limited ↦ rw (heard_on program number told line more (said_reading program (number + 1) told line) heard (limited_reading program (number + 1) told line limited))
        (go heard limited (said_reading program (number + 1) told line) (said_means program (number + 1) told line) (λ script. lines_mean program (number + 1) (Some script) more))
    | inr unlimited ↦ unlimited_means told unlimited.0 heard unlimited.1
  ]
] where
  go : is_quiet line ≡ false → (told ≡ None → first_word line ≡ codes "limit") → (read : Result Script TraceFault) → Means program (number + 1) told line read
      → ((script : Script) → LinesMean program (number + 1) (Some script) more (lines_reading program (number + 1) (Some script) more))
      → LinesMean program number told (line ∷ more) (read_on (λ script. lines_reading program (number + 1) (Some script) more) read)
  go heard limited (Ok script) means again = behind_told program number told line script more (lines_reading program (number + 1) (Some script) more) heard means (again script)
  go heard limited (Err found) means again = at_refused program number told line more found heard limited means

  unlimited_means : (told : Option Script) → told ≡ None → is_quiet line ≡ false → first_word line ≢ codes "limit"
      → LinesMean program number told (line ∷ more) (lines_reading program number told (line ∷ more))
  unlimited_means None none heard other =
      rw (heard_on program number None line more (Err fault.NoLimit) heard (unlimited_reading program (number + 1) line other)) (at_unlimited program number line more heard other)
  unlimited_means (Some script) none heard other = cc

-- lines that lack a limit are read so
lacks_reading : (program : Program) (number : ℕ) (lines : List (List ℕ)) → LacksLimit lines → lines_reading program number None lines ≡ Err fault.NoLimit
lacks_reading program number [] lacks = refl
lacks_reading program number (line ∷ more) lacks = elim (cases_Bool (is_quiet line)) [
  | inl silent ↦ quiet_on program number None line more silent ∙ lacks_reading program (number + 1) more (λ first others e.
      let here : said_lines (line ∷ more) ≡ said_lines more = rw silent refl in lacks first others (here ∙ e))
  | inr heard ↦
      let here : said_lines (line ∷ more) ≡ line ∷ said_lines more = rw heard refl in
      heard_on program number None line more (Err fault.NoLimit) heard (unlimited_reading program (number + 1) line (lacks line (said_lines more) here))
]

-- the text is what is read
pub script_read : (program : Program) (text : List ℕ) (script : Script) → TraceText program text script → reading program text ≡ Ok script
script_read program text script is =
    ap (λ (lines : List (List ℕ)). lines_reading program 0 None lines) (sym (append-nil (lines_of text)))
    ∙ leads_reading program 0 None (lines_of text) (Some script) [] is

-- a line that is refused behind those that lead to it
refused_read : (program : Program) (text : List ℕ) (number : ℕ) (IsFault : Program → Option Script → List ℕ → Type 0) (found : TraceFault)
    → ((told : Option Script) (line : List ℕ) → IsFault program told line → Refuses program number told line found)
    → FaultAt program (lines_of text) number IsFault → reading program text ≡ Err found
refused_read program text number IsFault found refuses at =
    let place : 0 + length at.front + 1 ≡ number = omega (arith, at.counted) in
    let read : line_reading program (0 + length at.front + 1) at.told at.line ≡ Err found =
    limited_reading program (0 + length at.front + 1) at.told at.line at.limited
    ∙ ap (λ (n : ℕ). said_reading program n at.told at.line) place
    ∙ refused_reading program number at.told at.line found (refuses at.told at.line at.fault) in
    ap (λ (lines : List (List ℕ)). lines_reading program 0 None lines) at.lines_are
    ∙ leads_reading program 0 None at.front at.told (at.line ∷ at.more) at.before
    ∙ heard_on program (0 + length at.front) at.told at.line at.more (Err found) at.heard read

-- so is its first fault
pub fault_read : (program : Program) (text : List ℕ) (found : TraceFault) → FirstFault program text found → reading program text ≡ Err found
fault_read program text (fault.BadLine number) is = refused_read program text number IsBad (fault.BadLine number) (λ told line bad. (refl, bad)) is
fault_read program text (fault.Unknown number) is = refused_read program text number IsUnknown (fault.Unknown number) (λ told line unknown. (refl, unknown)) is
fault_read program text (fault.Order number) is = refused_read program text number IsOutOfOrder (fault.Order number) (λ told line order. (refl, order)) is
fault_read program text (fault.TooMany number) is = refused_read program text number IsTooMuch (fault.TooMany number) (λ told line much. (refl, much)) is
fault_read program text fault.NoLimit is = lacks_reading program 0 (lines_of text) is
fault_read program text fault.OutOfMemory is = absurd is

-- a refused line is the first one at fault
at_place : (program : Program) (text : List ℕ) (place : ℕ) (IsFault : Program → Option Script → List ℕ → Type 0) (found : TraceFault)
    → (r : RefusedIn program 0 None (lines_of text) found) → place ≡ 0 + length r.front + 1 → IsFault program r.here r.line
    → FaultAt program (lines_of text) place IsFault
at_place program text place IsFault found r counted fault = record {
  front = r.front;
  line = r.line;
  more = r.more;
  lines_are = r.lines_are;
  counted = omega (arith, counted);
  told = r.here;
  before = r.before;
  heard = r.heard;
  limited = r.limited;
  fault = fault;
}

-- a fault that was read is the first
found_fault : (program : Program) (text : List ℕ) (found : TraceFault)
    → RefusedIn program 0 None (lines_of text) found ⊎ LacksIn None (lines_of text) found → FirstFault program text found
found_fault program text found (inr r) = subst (λ (f : TraceFault). FirstFault program text f) (sym r.found_is) r.lacks
found_fault program text (fault.BadLine place) (inl r) = at_place program text place IsBad (fault.BadLine place) r r.refused.0 r.refused.1
found_fault program text (fault.Unknown place) (inl r) = at_place program text place IsUnknown (fault.Unknown place) r r.refused.0 r.refused.1
found_fault program text (fault.Order place) (inl r) = at_place program text place IsOutOfOrder (fault.Order place) r r.refused.0 r.refused.1
found_fault program text (fault.TooMany place) (inl r) = at_place program text place IsTooMuch (fault.TooMany place) r r.refused.0 r.refused.1
found_fault program text fault.NoLimit (inl r) = absurd r.refused
found_fault program text fault.OutOfMemory (inl r) = absurd r.refused

pub read_fault : (program : Program) (text : List ℕ) (found : TraceFault) → reading program text ≡ Err found → FirstFault program text found
read_fault program text found was =
    found_fault program text found (subst (λ (read : Result Script TraceFault). LinesMean program 0 None (lines_of text) read) was (lines_mean program 0 None (lines_of text)))

-- and so is a script
pub read_script : (program : Program) (text : List ℕ) (script : Script) → reading program text ≡ Ok script → TraceText program text script
read_script program text script was =
    subst (λ (read : Result Script TraceFault). LinesMean program 0 None (lines_of text) read) was (lines_mean program 0 None (lines_of text))
