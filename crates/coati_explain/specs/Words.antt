-- The words of each message, of the word that stands at the place, and of the word before it.
use Rattle.std.specs.Prelude.{ℕ, List, ◌++◌, codes}
use Rattle.trace_out.specs.Lines.{word_and_number}
use Rattle.coati_explain.specs.Shown.{around, quoted}
use Rattle.coati_explain.specs.declared.message.Message.{Message}
use Rattle.coati_explain.specs.declared.message.Message.TheVariants.{StrangeByte, UnprintableByte, ByteOrderMark, GreatNumber, NumberIntoLetter, NoTokens, NoBeginning, NoGoingOn, EndsEarly, ManyBrackets, ManyOperators, TwiceNamed, Unknown, WrongKind, BadCount, BadBuffer, TooManyWords, TooManyTasks, NoEnding, EarlyEnding, EarlyNext, IntoTx, TopReadsNv, GiveCount, FifthParameter, LoopAssigned, TooManyLocals, TooDeepStack, TooLong, BadLine, UnknownEvent, OutOfOrder, AboveLimit, OtherFirst, NothingSaid}

abbrev pub wording : Message → List ℕ → List ℕ → List ℕ
wording StrangeByte word before = around (codes "no token starts with ") word (codes "")
wording (UnprintableByte byte) word before =
    word_and_number (codes "no token starts with the byte") byte
wording ByteOrderMark word before = codes "a byte order mark stands in front of the source"
wording GreatNumber word before = around (codes "") word (codes " is above 65535")
wording NumberIntoLetter word before = around (codes "") word
    (codes " is a number that runs into a letter")
wording NoTokens word before = codes "the source says nothing"
wording NoBeginning word before = around (codes "no program begins with ") word (codes "")
wording NoGoingOn word before = around (codes "no program goes on with ") word (codes " behind ")
    ++ quoted before
wording EndsEarly word before = around (codes "the source ends too early, behind ") before
    (codes "")
wording ManyBrackets word before = around (codes "") word (codes " is the 65th open bracket")
wording ManyOperators word before = around (codes "") word
    (codes " is the 17th operator of its expression")
wording TwiceNamed word before = around (codes "") word (codes " is declared twice")
wording Unknown word before = around (codes "") word (codes " is not declared")
wording WrongKind word before = around (codes "") word (codes " is used as what it is not")
wording BadCount word before = around (codes "the count of ") word (codes " is out of its range")
wording BadBuffer word before = around (codes "no buffer has room for ") word (codes " postings")
wording TooManyWords word before = around (codes "with ") word
    (codes " the variables have more than 256 words")
wording TooManyTasks word before = around (codes "") word (codes " is one too many")
wording NoEnding word before = around (codes "the body of ") word (codes " does not end")
wording EarlyEnding word before = around (codes "") word (codes " stands where it may not")
wording EarlyNext word before = around (codes "the next task ") word
    (codes " is named where no task may end")
wording IntoTx word before = around (codes "") word
    (codes " is inside a transaction and not its first task")
wording TopReadsNv word before = around (codes "the top half names the variable ") word (codes "")
wording GiveCount word before = around (codes "") word
    (codes " has another count of words than the bottom half has parameters")
wording FifthParameter word before = around (codes "") word
    (codes " is the fifth parameter of its bottom half")
wording LoopAssigned word before = around (codes "") word
    (codes " is the name of a loop and is assigned to")
wording TooManyLocals word before = around (codes "a body of ") word
    (codes " has more than 32 locals")
wording TooDeepStack word before = around (codes "a body of ") word
    (codes " needs more than 32 operand words")
wording TooLong word before = around (codes "a body of ") word (codes " is too long")
wording BadLine word before = codes "this line of the trace has none of the forms"
wording UnknownEvent word before = codes "this line of the trace names no event of the source"
wording OutOfOrder word before = codes "this line of the trace is out of order"
wording AboveLimit word before = codes "with this line the trace is above a limit"
wording OtherFirst word before = codes "the trace begins with another line than its limit"
wording NothingSaid word before = codes "no line behind this one says anything"
