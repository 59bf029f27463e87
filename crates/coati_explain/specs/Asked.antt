-- What is asked where a message is told, and where that stands in the documents.
use Rattle.std.specs.Prelude.{ℕ, List, codes}
use Rattle.coati_explain.specs.declared.message.Message.{Message}
use Rattle.coati_explain.specs.declared.message.Message.TheVariants.{StrangeByte, UnprintableByte, ByteOrderMark, GreatNumber, NumberIntoLetter, NoTokens, NoBeginning, NoGoingOn, EndsEarly, ManyBrackets, ManyOperators, TwiceNamed, Unknown, WrongKind, BadCount, BadBuffer, TooManyWords, TooManyTasks, NoEnding, EarlyEnding, EarlyNext, IntoTx, TopReadsNv, GiveCount, FifthParameter, LoopAssigned, TooManyLocals, TooDeepStack, TooLong, BadLine, UnknownEvent, OutOfOrder, AboveLimit, OtherFirst, NothingSaid}

-- of the order of a source's parts
abbrev pub parts_asked : List ℕ
parts_asked =
    codes "a source declares its variables, then its buffer, then its events, and then its tasks and transactions (docs/LANGUAGE.md, Text)"

-- of the bytes of a source
abbrev pub bytes_asked : List ℕ
bytes_asked =
    codes "outside comments a source is names, numbers, signs and blanks, in ASCII (docs/LANGUAGE.md, Text)"

-- of what stands where
abbrev pub grammar_asked : List ℕ
grammar_asked = codes "a source follows the grammar (docs/FORMATS.md, The grammar)"

-- of endings
abbrev pub endings_asked : List ℕ
endings_asked =
    codes "an ending stands last in its body, or last in both blocks of an `if` that does: `next` or `halt` in a task, `give` in a top half (docs/LANGUAGE.md, Rules, 9)"

-- of messages
abbrev pub gives_asked : List ℕ
gives_asked =
    codes "a bottom half has at most four parameters, and each `give` of its top half as many words (docs/LANGUAGE.md, Rules, 12)"

-- of the beginning of a trace
abbrev pub limit_asked : List ℕ
limit_asked =
    codes "a trace begins with `limit L`; an empty line and one that begins with `#` say nothing (docs/FORMATS.md, The trace)"

abbrev pub asked_of : Message → List ℕ
asked_of StrangeByte = bytes_asked
asked_of (UnprintableByte byte) = bytes_asked
asked_of ByteOrderMark =
    codes "save the source without the mark: it is plain ASCII (docs/LANGUAGE.md, Text)"
asked_of GreatNumber = codes "a number is at most 65535 (docs/LANGUAGE.md, Text)"
asked_of NumberIntoLetter =
    codes "no letter and no `_` follows a number directly, and no name begins with a digit (docs/LANGUAGE.md, Text)"
asked_of NoTokens = parts_asked
asked_of NoBeginning = parts_asked
asked_of NoGoingOn = grammar_asked
asked_of EndsEarly = grammar_asked
asked_of ManyBrackets =
    codes "at most 64 brackets are open at once, those round blocks and lists too (docs/LANGUAGE.md, Limits)"
asked_of ManyOperators =
    codes "an expression has at most 16 binary operators, without those inside its brackets (docs/LANGUAGE.md, Limits)"
asked_of TwiceNamed =
    codes "variables, events, tasks and transactions have names of their own, and a local has one that nothing in scope has (docs/LANGUAGE.md, Rules, 1)"
asked_of Unknown =
    codes "a used name is that of a variable, a task or a local in scope (docs/LANGUAGE.md, Rules, 2)"
asked_of WrongKind =
    codes "an index stands behind arrays alone, a name without one is a scalar or a local, and `next` names a task (docs/LANGUAGE.md, Rules, 3)"
asked_of BadCount =
    codes "an array has 1 to 256 words and no single number or longer list, a scalar has no list, and a loop has 1 to 50000 turns (docs/LANGUAGE.md, Rules, 4)"
asked_of BadBuffer = codes "a buffer has room for 1 to 32 postings (docs/LANGUAGE.md, Rules, 5)"
asked_of TooManyWords =
    codes "all variables together have at most 256 words (docs/LANGUAGE.md, Rules, 6)"
asked_of TooManyTasks =
    codes "a source has at most 64 tasks, 16 events and 16 transactions (docs/LANGUAGE.md, Rules, 7)"
asked_of NoEnding =
    codes "a task and a top half end with an ending, or with an `if` of which both blocks do (docs/LANGUAGE.md, Rules, 8)"
asked_of EarlyEnding = endings_asked
asked_of EarlyNext = endings_asked
asked_of IntoTx =
    codes "from outside a transaction `next` names its first task alone (docs/LANGUAGE.md, Rules, 10)"
asked_of TopReadsNv =
    codes "a top half sees the posted word and its own locals, and no variable (docs/LANGUAGE.md, Rules, 11)"
asked_of GiveCount = gives_asked
asked_of FifthParameter = gives_asked
asked_of LoopAssigned =
    codes "the name of a loop is read and not assigned to (docs/LANGUAGE.md, Rules, 13)"
asked_of TooManyLocals =
    codes "a body has at most 32 locals: what it takes, each `let` and each loop (docs/LANGUAGE.md, Rules, 14)"
asked_of TooDeepStack =
    codes "a body needs at most 32 operand words: `let` splits an expression that nests deep (docs/LANGUAGE.md, Rules, 15)"
asked_of TooLong =
    codes "a body costs at most 50000 machine steps and has at most 50000 words of code (docs/LANGUAGE.md, Rules, 16)"
asked_of BadLine =
    codes "a line is `limit L`, `power P`, `power P times M` or `at T D EVENT A`, with one space between two fields and each number in its range (docs/FORMATS.md, The trace)"
asked_of UnknownEvent =
    codes "an `at` line names an event of the source (docs/FORMATS.md, The trace)"
asked_of OutOfOrder =
    codes "the limit comes first and once, then the power periods, then the postings in the order of their times (docs/FORMATS.md, The trace)"
asked_of AboveLimit =
    codes "a limit is at most 500000, a trace has at most 4096 periods and 4096 postings, and it takes at most 4000000 machine steps (docs/FORMATS.md, The trace)"
asked_of OtherFirst = limit_asked
asked_of NothingSaid = limit_asked
