-- A generated input: a sensor whose samples go into a ring, of which a transaction forms the mean;
-- with as many power periods and postings as are asked for.
use Rattle.std.specs.Prelude.{ℕ, zero, suc, ◌+◌, ◌*◌, ◌%◌, List, [], ◌++◌, codes, decimal}

-- the declarations before the count of rounds that are left
abbrev pub declared_text : List ℕ
declared_text = codes "nv s[16];\nnv w;\nnv sum;\nnv left = "

-- behind it: the buffer, the event, the task and the transaction, and the line that divides source
-- and trace
abbrev pub program_text : List ℕ
program_text =
    codes ";\nbuffer 4;\n"
    ++ codes "event tick(v) { top { give v, v >> 2; } bottom(x, y) { s[w] = x + y; w = w + 1; } }\n"
    ++ codes "task start { left = left - 1; next add; }\n"
    ++ codes "transaction mean { "
    ++ codes "task add { sum = 0; repeat i < 16 { sum = sum + s[i]; } next put; } "
    ++ codes "task put { sum = sum >> 4; if left == 0 { halt; } else { next start; } } }\n%%\n"

abbrev pub limit_line : ℕ → List ℕ
limit_line count = codes "limit " ++ decimal (2000 + 2000 * count) ++ codes "\n"

-- the power period of a number, counted from 1
abbrev pub power_line : ℕ → List ℕ
power_line i = codes "power " ++ decimal (900 + 13 * (i % 50)) ++ codes "\n"

-- the posting of a number, counted from 1
abbrev pub posting_line : ℕ → List ℕ
posting_line i =
    codes "at " ++ decimal (60 * i) ++ codes " " ++ decimal (i % 3) ++ codes " tick "
    ++ decimal (i * i) ++ codes "\n"

-- the lines of the numbers from 1 on
abbrev pub lines_up_to : (ℕ → List ℕ) → ℕ → List ℕ
lines_up_to line zero = []
lines_up_to line (suc i) = lines_up_to line i ++ line (suc i)

abbrev pub source_text : ℕ → List ℕ
source_text count = declared_text ++ decimal (count + 1) ++ program_text

abbrev pub trace_text : ℕ → List ℕ
trace_text count = limit_line count ++ lines_up_to power_line count
    ++ lines_up_to posting_line count

-- the whole input
abbrev pub generated : ℕ → List ℕ
generated count = source_text count ++ trace_text count
