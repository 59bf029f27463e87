-- How keywords and symbols are spelled.
use Rattle.std.specs.Prelude.{ℕ, List, codes}
use Rattle.task_lex.specs.declared.keyword.Keyword.{Keyword}
use Rattle.task_lex.specs.declared.keyword.Keyword.TheVariants.{Nv, Buffer, Event, Top, Bottom, Transaction, Task, Let, If, Else, Repeat, Next, Halt, Give}
use Rattle.task_lex.specs.declared.symbol.Symbol.{Symbol}
use Rattle.task_lex.specs.declared.symbol.Symbol.TheVariants.{OpenBrace, CloseBrace, OpenParen, CloseParen, OpenBracket, CloseBracket, Semicolon, Comma, Assign, Equal, NotEqual, Below, AtMost, Above, AtLeast, ShiftLeft, ShiftRight, Plus, Minus, Times, Divide, Remainder, And, Or, Xor, Invert, Not}

-- the bytes of a keyword
abbrev pub keyword_text : Keyword → List ℕ
keyword_text Nv = codes "nv"
keyword_text Buffer = codes "buffer"
keyword_text Event = codes "event"
keyword_text Top = codes "top"
keyword_text Bottom = codes "bottom"
keyword_text Transaction = codes "transaction"
keyword_text Task = codes "task"
keyword_text Let = codes "let"
keyword_text If = codes "if"
keyword_text Else = codes "else"
keyword_text Repeat = codes "repeat"
keyword_text Next = codes "next"
keyword_text Halt = codes "halt"
keyword_text Give = codes "give"

-- the bytes of a symbol
abbrev pub symbol_text : Symbol → List ℕ
symbol_text OpenBrace = codes "{"
symbol_text CloseBrace = codes "}"
symbol_text OpenParen = codes "("
symbol_text CloseParen = codes ")"
symbol_text OpenBracket = codes "["
symbol_text CloseBracket = codes "]"
symbol_text Semicolon = codes ";"
symbol_text Comma = codes ","
symbol_text Assign = codes "="
symbol_text Equal = codes "=="
symbol_text NotEqual = codes "!="
symbol_text Below = codes "<"
symbol_text AtMost = codes "<="
symbol_text Above = codes ">"
symbol_text AtLeast = codes ">="
symbol_text ShiftLeft = codes "<<"
symbol_text ShiftRight = codes ">>"
symbol_text Plus = codes "+"
symbol_text Minus = codes "-"
symbol_text Times = codes "*"
symbol_text Divide = codes "/"
symbol_text Remainder = codes "%"
symbol_text And = codes "&"
symbol_text Or = codes "|"
symbol_text Xor = codes "^"
symbol_text Invert = codes "~"
symbol_text Not = codes "!"
