-- Why an undisturbed call succeeds on an input that is served, and tells what is wrong with one that is refused: each
-- other status has a cause that the input rules out.
use Rattle.std.proofs.Common.{◌≡◌, ℕ, ◌+◌, ◌≤◌, Bool, true, false, List, ◌++◌, length, Some, None, refl, sym, ap, ◌∙◌, subst, inl, inr, append-nil, length-append, arith}
use Rattle.std.specs.Prelude.{Option}
use Rattle.task_lex.specs.Reading.{Tokens, FaultsAt}
use Rattle.task_lex.specs.declared.fault.LexFault.{LexFault}
use Rattle.task_lex.specs.declared.fault.LexFault.TheVariants.{BadByte, BadNumber}
use Rattle.task_lex.specs.declared.token.Token.{Token}
use Rattle.coati_io.specs.Ends.{ReadsWhole, ConsumesExactly}
use Rattle.task_parse.specs.Bars.{AreFree, start}
use Rattle.task_parse.specs.Faults.{DeepAt, FaultAt, Spells}
use Rattle.task_parse.specs.Grammar.{Derives}
use Rattle.task_parse.specs.Lexeme.{Lexeme}
use Rattle.coati_board.specs.Board.{Whole}
use Rattle.coati_gen.specs.Generated.{generated}
use Rattle.coati_top.specs.declared.command.Command.{Command}
use Rattle.coati_top.specs.declared.command.Command.TheVariants.{Check, Dump, Run, Replay, Generate, Load}
use Rattle.coati_top.specs.declared.refusal.Refusal.{Refusal}
use Rattle.coati_top.specs.declared.refusal.Refusal.TheVariants as refusal
use Rattle.coati_top.specs.declared.source_fault.SourceFault.{SourceFault}
use Rattle.coati_top.specs.declared.source_fault.SourceFault.TheVariants as source_fault
use Rattle.task_check.specs.Accepted.{IsAccepted, IsRefusal}
use Rattle.task_check.specs.WellFormed.{IsWellFormed}
use Rattle.task_check.specs.declared.fault.CheckFault.TheVariants as check_fault
use Rattle.task_check.specs.declared.rule.Rule.{Rule}
use Rattle.coati_top.specs.declared.status.Status.{Status}
use Rattle.coati_top.specs.declared.status.Status.TheVariants.{Ok, Usage, ReadFault, WriteFault, TooLarge, OutOfMemory}
use Rattle.coati_top.specs.Answer.{Answers, AsksFor, Serves}
use Rattle.coati_top.specs.Answer.Answers.{refused, served}
use Rattle.coati_io.specs.Writing.{OutputEdge}
use Rattle.coati_top.specs.Call.{Answered, CommandEnded, HasRead, InputEdge, input_limit}
use Rattle.coati_top.specs.Complete.{CanServe, EndsByInput, EndsUnlessStarved, Gives, IsGiven, IsUndisturbed}
use Rattle.coati_top.specs.Divided.{second_part, source_part}
use Rattle.coati_top.specs.Refused.{HasFaultyTrace, Refuses, RefusesReplay, RefusesRun, status_of}
use Rattle.coati_top.specs.Replayed.{HasBadPrint, HasDifference, HasSerialPrint}
use Rattle.coati_top.specs.Source.{HasAccepted, HasProgram, IsSourceFault}
use Rattle.coati_top.specs.Words.{reads}
use Rattle.coati_replay.specs.Laws.{SerialTextsAreLegal, VerdictsAreUnique}
use Rattle.coati_replay.specs.Verdicts.{DiffersAt, IsSerial}
use Rattle.coati_replay.specs.declared.verdict.Verdict.{Verdict}
use Rattle.coati_replay.specs.declared.verdict.Verdict.TheVariants as verdict
use Rattle.coati_word.specs.declared.mode.Mode.{Mode}
use Rattle.serial_log.specs.declared.printed.Printed.{Printed}
use Rattle.serial_log.specs.declared.script.Script.{Script}
use Rattle.trace_out.specs.Printed.{IsBadLine, PrintedText}
use Rattle.trace_text.specs.Trace.{FirstFault, TraceText}
use Rattle.trace_text.specs.declared.fault.TraceFault.{TraceFault}
use Rattle.task_syntax.specs.declared.program.Program.{Program}

-- what is known of a source: it has at most one list of tokens, which is at most one program, and none beside a fault;
-- of a trace: it is at most one script, and none beside a fault; and of a printed text: it says one thing at most, and
-- none beside a bad line, and is serial or differs
pub record HasOneAnswer : Type 0 where
  pub tokens : (source : List ℕ) (tokens others : List Token) → Tokens source tokens → Tokens source others → tokens ≡ others
  pub lexical : (source : List ℕ) (tokens : List Token) (fault : LexFault) → Tokens source tokens → FaultsAt source fault → ⊥
  pub program : (list : List Lexeme) (program other : Program) → Derives list program → Derives list other → program ≡ other
  pub syntax : (list : List Lexeme) (program : Program) (token : ℕ) → Derives list program → FaultAt list token → ⊥
  pub deep : (list : List Lexeme) (token : ℕ) → AreFree start list → DeepAt list token → ⊥
  pub rule : (program : Program) (rule : Rule) (at : ℕ) → IsRefusal program (check_fault.Rule rule at) → IsAccepted program → ⊥
  pub script : (program : Program) (text : List ℕ) (script other : Script)
      → TraceText program text script → TraceText program text other → script ≡ other
  pub traced : (program : Program) (text : List ℕ) (script : Script) (fault : TraceFault)
      → TraceText program text script → FirstFault program text fault → ⊥
  pub formed : (source : List ℕ) (tokens : List Token) (program : Program) → Tokens source tokens → Spells source tokens program → IsWellFormed program
  pub printed : (program : Program) (text : List ℕ) (printed other : Printed) → IsAccepted program → IsWellFormed program
      → PrintedText program text printed → PrintedText program text other → printed ≡ other
  pub misprinted : (program : Program) (text : List ℕ) (printed : Printed) (number : ℕ) → IsAccepted program → IsWellFormed program
      → PrintedText program text printed → IsBadLine program text number → ⊥
  pub verdict : VerdictsAreUnique
  pub legal : SerialTextsAreLegal

-- an input that told of its bytes and was read to its end gave these
whole_is_told : (old new : Option (List ℕ)) (max : ℕ) (bytes told : List ℕ) → old ≡ Some told → ReadsWhole old new max bytes → bytes ≡ told
whole_is_told None new max bytes told is whole = absurd cc
whole_is_told (Some left) None max bytes told is whole = absurd whole.consumed
whole_is_told (Some left) (Some rest) max bytes told is whole =
    let left_is : left ≡ told = cc in
    let all : left ≡ bytes = whole.consumed ∙ ap (λ (l : List ℕ). bytes ++ l) whole.ended ∙ append-nil bytes in
    sym all ∙ left_is

-- an input that told of no more bytes than are accepted gave no more
gives_no_more : (old new : Option (List ℕ)) (told : List ℕ) → old ≡ Some told → length told ≤ input_limit
    → ConsumesExactly old new (input_limit + 1) → ⊥
gives_no_more None new told is fits given = absurd cc
gives_no_more (Some left) None told is fits given = given.consumed
gives_no_more (Some left) (Some rest) told is fits given =
    let left_is : told ≡ left = cc in
    let parts : length told ≡ length given.bytes + length rest =
    ap length (left_is ∙ given.consumed) ∙ length-append given.bytes rest in
    absurd (omega (arith, fits, parts, given.count))

module _ (one : HasOneAnswer) (bytes : List ℕ) (program : Program) (has : HasProgram bytes program) where
  -- the source's tokens are these alone
  spelled_by : (tokens : List Token) → Tokens (source_part bytes) tokens → Spells (source_part bytes) tokens program
  spelled_by tokens read =
      subst (λ (ts : List Token). Spells (source_part bytes) ts program) (one.tokens (source_part bytes) has.tokens tokens has.read read) has.spelled

  -- and its program this one
  same_program : (other : Program) → HasProgram bytes other → program ≡ other
  same_program other source = one.program _ program other (spelled_by source.tokens source.read).derives source.spelled.derives

  -- an accepted program has no fault
  no_fault : IsAccepted program → (fault : SourceFault) → IsSourceFault bytes fault → ⊥
  no_fault accepted (source_fault.Lexical at) cause = one.lexical (source_part bytes) has.tokens (BadByte at) has.read cause
  no_fault accepted (source_fault.Number at) cause = one.lexical (source_part bytes) has.tokens (BadNumber at) has.read cause
  no_fault accepted (source_fault.Syntax token) cause = one.syntax _ program token (spelled_by cause.tokens cause.read).derives cause.fault
  no_fault accepted (source_fault.Deep token) cause = one.deep _ token (spelled_by cause.tokens cause.read).free cause.fault
  no_fault accepted (source_fault.Rule rule at) cause =
      one.rule cause.program rule at cause.refused (subst IsAccepted (same_program cause.program cause.source) accepted)

  -- a trace has no fault
  no_faulty : (script : Script) → TraceText program (second_part bytes) script → (fault : TraceFault) → HasFaultyTrace bytes fault → ⊥
  no_faulty script trace fault faulty =
      one.traced program (second_part bytes) script fault trace
      (subst (λ (p : Program). FirstFault p (second_part bytes) fault) (sym (same_program faulty.program faulty.source.source)) faulty.first)

  -- a printed text has no bad line
  no_bad_print : IsAccepted program → (printed : Printed) → PrintedText program (second_part bytes) printed → (number : ℕ) → HasBadPrint bytes number → ⊥
  no_bad_print accepted printed text number bad =
      let formed : IsWellFormed program = one.formed (source_part bytes) has.tokens program has.read has.spelled in
      one.misprinted program (second_part bytes) printed number accepted formed text
      (subst (λ (p : Program). IsBadLine p (second_part bytes) number) (sym (same_program bad.program bad.source.source)) bad.bad)

  -- the line where the input's printed text differs is a line of what this text says
  difference_of : IsAccepted program → (mode : Mode) (printed : Printed) → PrintedText program (second_part bytes) printed → (number : ℕ)
      → HasDifference mode bytes number → DiffersAt program mode printed number
  difference_of accepted mode printed text number other =
      let formed : IsWellFormed program = one.formed (source_part bytes) has.tokens program has.read has.spelled in
      let same : other.program ≡ program = sym (same_program other.program other.says.source.source) in
      let found : PrintedText program (second_part bytes) other.printed =
      subst (λ (p : Program). PrintedText p (second_part bytes) other.printed) same other.says.text in
      let said : other.printed ≡ printed = one.printed program (second_part bytes) other.printed printed accepted formed found text in
      let here : DiffersAt program mode other.printed number = subst (λ (p : Program). DiffersAt p mode other.printed number) same other.differs in
      subst (λ (q : Printed). DiffersAt program mode q number) said here

-- an input that asks for a run is refused for nothing
never_run : HasOneAnswer → (input : List ℕ) (program : Program) (script : Script) → AsksFor input program script
    → (why : Refusal) → RefusesRun input why → ⊥
never_run one input program script asked (refusal.Source fault) cause = no_fault one input program asked.source.source asked.source.accepted fault cause
never_run one input program script asked (refusal.Trace fault) cause = no_faulty one input program asked.source.source script asked.trace fault cause
never_run one input program script asked other cause = absurd cause

-- what differs is not serial
verdicts_apart : HasOneAnswer → (program : Program) (mode : Mode) (printed : Printed) (number : ℕ) → IsSerial program mode printed
    → DiffersAt program mode printed number → ⊥
verdicts_apart one program mode printed number serial differs =
    let same : verdict.Serial ≡ verdict.Differs number = one.verdict program mode printed verdict.Serial (verdict.Differs number) serial differs in
    absurd cc

-- an input whose printed text is serial is refused for nothing
never_replayed : HasOneAnswer → (mode : Mode) (input : List ℕ) → HasSerialPrint mode input → (why : Refusal) → RefusesReplay mode input why → ⊥
never_replayed one mode input has (refusal.Source fault) cause =
    no_fault one input has.program has.says.source.source has.says.source.accepted fault cause
never_replayed one mode input has (refusal.Trace fault) cause = cause
never_replayed one mode input has (refusal.BadPrint number) cause =
    no_bad_print one input has.program has.says.source.source has.says.source.accepted has.printed has.says.text number cause
never_replayed one mode input has (refusal.Differs number) cause =
    let differs = difference_of one input has.program has.says.source.source has.says.source.accepted mode has.printed has.says.text number cause in
    let serial : IsSerial has.program mode has.printed = (one.legal has.program mode has.printed has.says.text.printable.count).1 has.serial in
    verdicts_apart one has.program mode has.printed number serial differs

-- an input that a command serves is refused for nothing
never_both : HasOneAnswer → (command : Command) (input text : List ℕ) (board : Option Whole) → Serves command input text board
    → (why : Refusal) → Refuses command input why → ⊥
never_both one Check input text board shows (refusal.Source fault) cause = no_fault one input shows.program shows.source.source shows.source.accepted fault cause
never_both one Check input text board shows other cause = absurd cause
never_both one Dump input text board shows (refusal.Source fault) cause = no_fault one input shows.program shows.source.source shows.source.accepted fault cause
never_both one Dump input text board shows other cause = absurd cause
never_both one (Run mode) input text board shows why cause = never_run one input shows.run.program shows.run.script shows.asked why cause
never_both one (Replay mode) input text board shows why cause = never_replayed one mode input shows.print why cause
never_both one (Generate rounds) input text board shows why cause = cause
never_both one (Load mode rounds) input text board shows why cause =
    never_run one (generated rounds) shows.run.program shows.run.script shows.asked why cause

-- nor is one that it can serve
no_refusal : HasOneAnswer → (command : Command) (bytes : List ℕ) → CanServe command bytes → (why : Refusal) → Refuses command bytes why → ⊥
no_refusal one Check bytes can (refusal.Source fault) cause = no_fault one bytes can.program can.source.source can.source.accepted fault cause
no_refusal one Check bytes can other cause = absurd cause
no_refusal one Dump bytes can (refusal.Source fault) cause = no_fault one bytes can.program can.source.source can.source.accepted fault cause
no_refusal one Dump bytes can other cause = absurd cause
no_refusal one (Run mode) bytes can why cause = never_run one bytes can.program can.script can.asked why cause
no_refusal one (Replay mode) bytes can why cause = never_replayed one mode bytes can why cause
no_refusal one (Generate rounds) bytes can why cause = cause
no_refusal one (Load mode rounds) bytes can why cause = never_run one (generated rounds) can.program can.script can.asked why cause

-- so its only status is Ok
served_answer : HasOneAnswer → (command : Command) (bytes : List ℕ) → CanServe command bytes
    → (status : Status) (text : List ℕ) (board : Option Whole) → Answers command bytes status text board → status ≡ Ok
served_answer one command bytes can status text board (served shows is) = is
served_answer one command bytes can status text board (refused why cause is text_is none) = absurd (no_refusal one command bytes can why cause)

-- a source at fault is no trace at fault, whose program is accepted
not_faulty : HasOneAnswer → (bytes : List ℕ) (fault : SourceFault) (other : TraceFault) → IsSourceFault bytes fault → HasFaultyTrace bytes other → ⊥
not_faulty one bytes fault other cause faulty = no_fault one bytes faulty.program faulty.source.source faulty.source.accepted fault cause

-- nor does its printed text have a bad line, or a line that differs
not_misprinted : HasOneAnswer → (bytes : List ℕ) (fault : SourceFault) (number : ℕ) → IsSourceFault bytes fault → HasBadPrint bytes number → ⊥
not_misprinted one bytes fault number cause bad = no_fault one bytes bad.program bad.source.source bad.source.accepted fault cause

not_different : HasOneAnswer → (mode : Mode) (bytes : List ℕ) (fault : SourceFault) (number : ℕ) → IsSourceFault bytes fault
    → HasDifference mode bytes number → ⊥
not_different one mode bytes fault number cause other =
    no_fault one bytes other.program other.says.source.source other.says.source.accepted fault cause

-- and a printed text that differs has no bad line
not_both : HasOneAnswer → (mode : Mode) (bytes : List ℕ) (number bad : ℕ) → HasDifference mode bytes number → HasBadPrint bytes bad → ⊥
not_both one mode bytes number bad other cause =
    no_bad_print one bytes other.program other.says.source.source other.says.source.accepted other.printed other.says.text bad cause

-- an input that asks for a run is refused with one status
one_run_status : HasOneAnswer → (bytes : List ℕ) (why other : Refusal) → RefusesRun bytes why → RefusesRun bytes other
    → status_of other ≡ status_of why
one_run_status one bytes (refusal.Source fault) (refusal.Source found) cause known = refl
one_run_status one bytes (refusal.Source fault) (refusal.Trace found) cause known = absurd (not_faulty one bytes fault found cause known)
one_run_status one bytes (refusal.Source fault) other cause known = absurd known
one_run_status one bytes (refusal.Trace fault) (refusal.Source found) cause known = absurd (not_faulty one bytes found fault known cause)
one_run_status one bytes (refusal.Trace fault) (refusal.Trace found) cause known = refl
one_run_status one bytes (refusal.Trace fault) other cause known = absurd known
one_run_status one bytes why other cause known = absurd cause

-- an input is refused with one status
one_status : HasOneAnswer → (command : Command) (bytes : List ℕ) (why other : Refusal) → Refuses command bytes why → Refuses command bytes other
    → status_of other ≡ status_of why
one_status one Check bytes (refusal.Source fault) (refusal.Source found) cause known = refl
one_status one Check bytes (refusal.Source fault) other cause known = absurd known
one_status one Check bytes why other cause known = absurd cause
one_status one Dump bytes (refusal.Source fault) (refusal.Source found) cause known = refl
one_status one Dump bytes (refusal.Source fault) other cause known = absurd known
one_status one Dump bytes why other cause known = absurd cause
one_status one (Run mode) bytes why other cause known = one_run_status one bytes why other cause known
one_status one (Replay mode) bytes (refusal.Trace fault) other cause known = absurd cause
one_status one (Replay mode) bytes why (refusal.Trace fault) cause known = absurd known
one_status one (Replay mode) bytes (refusal.Source fault) (refusal.Source found) cause known = refl
one_status one (Replay mode) bytes (refusal.Source fault) (refusal.BadPrint found) cause known = absurd (not_misprinted one bytes fault found cause known)
one_status one (Replay mode) bytes (refusal.Source fault) (refusal.Differs found) cause known = absurd (not_different one mode bytes fault found cause known)
one_status one (Replay mode) bytes (refusal.BadPrint number) (refusal.Source found) cause known = absurd (not_misprinted one bytes found number known cause)
one_status one (Replay mode) bytes (refusal.BadPrint number) (refusal.BadPrint found) cause known = refl
one_status one (Replay mode) bytes (refusal.BadPrint number) (refusal.Differs found) cause known = absurd (not_both one mode bytes found number known cause)
one_status one (Replay mode) bytes (refusal.Differs number) (refusal.Source found) cause known = absurd (not_different one mode bytes found number known cause)
one_status one (Replay mode) bytes (refusal.Differs number) (refusal.BadPrint found) cause known = absurd (not_both one mode bytes number found cause known)
one_status one (Replay mode) bytes (refusal.Differs number) (refusal.Differs found) cause known = refl
one_status one (Generate rounds) bytes why other cause known = absurd cause
one_status one (Load mode rounds) bytes why other cause known = one_run_status one (generated rounds) why other cause known

-- the only status of what is refused is that of its refusal
refused_answer : HasOneAnswer → (command : Command) (bytes : List ℕ) (why : Refusal) → Refuses command bytes why
    → (status : Status) (text : List ℕ) (board : Option Whole) → Answers command bytes status text board → status ≡ status_of why
refused_answer one command bytes why cause status text board (served shows is) = absurd (never_both one command bytes text board shows why cause)
refused_answer one command bytes why cause status text board (refused other known is text_is none) = is ∙ one_status one command bytes why other cause known

-- what a command has read of an undisturbed input is what it was given
same_bytes : (does : Bool) (input : InputEdge) (bytes given : List ℕ) → HasRead does input bytes → IsGiven does input given → bytes ≡ given
same_bytes true input bytes given whole gives = whole_is_told input.old input.new input_limit bytes given gives.told whole
same_bytes false input bytes given nothing empty = nothing ∙ sym empty

-- so the answer of an undisturbed call is one to these bytes
told_answer : (command : Command) (known : Status) (input : InputEdge) (output : OutputEdge) (board : Option Whole) (bytes : List ℕ) {Writing : List ℕ → Type 0}
    → IsUndisturbed command input output bytes → (why : Answered command known input board Writing) → Answers command bytes known why.text board
told_answer command known input output board bytes calm why =
    let same : why.bytes ≡ bytes = same_bytes (reads command) input why.bytes bytes why.read calm.given in
    subst (λ (bs : List ℕ). Answers command bs known why.text board) same why.answers

-- a command that reads is given what its input tells
gives_all : (command : Command) (input : InputEdge) (output : OutputEdge) (bytes : List ℕ) → reads command ≡ true
    → IsUndisturbed command input output bytes → Gives input bytes
gives_all command input output bytes does calm = subst (λ (b : Bool). IsGiven b input bytes) does calm.given

-- where each answer to the bytes has this status, so has an undisturbed call, by cases of how it ended
completes_at : (wanted : Status) (command : Command) (status : Status) (input : InputEdge) (output : OutputEdge) (board : Option Whole) (bytes : List ℕ)
    → ((answered : Status) (text : List ℕ) → Answers command bytes answered text board → answered ≡ wanted)
    → IsUndisturbed command input output bytes → CommandEnded command status input output board → EndsUnlessStarved wanted status
completes_at wanted command Ok input output board bytes only calm why = inl (only Ok why.text (told_answer command Ok input output board bytes calm why))
completes_at wanted command Usage input output board bytes only calm why = absurd why
completes_at wanted command ReadFault input output board bytes only calm why = absurd ((gives_all command input output bytes why.0 calm).read why.1)
completes_at wanted command WriteFault input output board bytes only calm why = absurd (calm.written why.written.failed)
completes_at wanted command TooLarge input output board bytes only calm why =
    let gives = gives_all command input output bytes why.0 calm in
    absurd (gives_no_more input.old input.new bytes gives.told gives.fits why.1)
completes_at wanted command OutOfMemory input output board bytes only calm why = inr refl
completes_at wanted command told input output board bytes only calm why =
    inl (only told why.text (told_answer command told input output board bytes calm why))

-- how an undisturbed call ends, by what its input is
pub completes_ended : HasOneAnswer → (command : Command) (status : Status) (input : InputEdge) (output : OutputEdge) (board : Option Whole)
    → CommandEnded command status input output board → (bytes : List ℕ) → IsUndisturbed command input output bytes → EndsByInput command status bytes
completes_ended one command status input output board why bytes calm = record {
  served = λ can. completes_at Ok command status input output board bytes (λ answered text. served_answer one command bytes can answered text board) calm why;
  refused = λ found cause. completes_at (status_of found) command status input output board bytes (λ answered text. refused_answer one command bytes found cause answered text board) calm why;
}
