-- Generated inputs are small: no number in them has more than ten digits.
use Rattle.std.proofs.Common.{◌≡◌, ℕ, zero, suc, ◌+◌, ◌*◌, ◌%◌, ◌<◌, ◌≤◌, ◌^◌, ◌++◌, List, length, mul-le-mul, refl, arith}
use Rattle.std.specs.Prelude.{codes, decimal}
use Rattle.std.proofs.lemmas.Fmt.{length-decimal-le}
use Rattle.std.proofs.lemmas.List.{length-append}
use Rattle.coati_gen.specs.Generated.{declared_text, generated, limit_line, lines_up_to, posting_line, power_line, program_text, source_text, trace_text}

-- a number's digits
digits-few : (n : ℕ) → n < 2 ^ 32 → length (decimal n) ≤ 10
digits-few n small = length-decimal-le 10 n (omega arith) (omega (arith, small)) (omega (arith, small))

-- lines of at most 50 bytes
lines-few : (line : ℕ → List ℕ) (count : ℕ) → ((i : ℕ) → i ≤ count → length (line i) ≤ 50) → length (lines_up_to line count) ≤ 50 * count
lines-few line zero short = omega arith
lines-few line (suc i) short =
    omega (
      arith,
      length-append (lines_up_to line i) (line (suc i)),
      short (suc i) (omega arith),
      lines-few line i (λ j within. short j (omega (arith, within))),
    )

limit-few : (count : ℕ) → count ≤ 200 → length (limit_line count) ≤ 50
limit-few count few =
    let number = decimal (2000 + 2000 * count) in
    omega (arith, length-append number (codes "\n"), digits-few (2000 + 2000 * count) (omega (arith, few)))

power-few : (i : ℕ) → i ≤ 200 → length (power_line i) ≤ 50
power-few i few =
    let number = decimal (900 + 13 * (i % 50)) in
    omega (arith, length-append number (codes "\n"), digits-few (900 + 13 * (i % 50)) (omega (arith, few)))

square-few : (i : ℕ) → i ≤ 200 → i * i < 2 ^ 32
square-few i few =
    let most : i * i ≤ 200 * 200 = mul-le-mul few few in
    omega (arith, most)

posting-length : (time device argument : List ℕ)
    → length (codes "at " ++ time ++ codes " " ++ device ++ codes " tick " ++ argument ++ codes "\n")
    ≡ 11 + length time + length device + length argument
posting-length time device argument =
    omega (
      arith,
      length-append time (codes " "),
      length-append (time ++ codes " ") device,
      length-append (time ++ codes " " ++ device) (codes " tick "),
      length-append (time ++ codes " " ++ device ++ codes " tick ") argument,
      length-append (time ++ codes " " ++ device ++ codes " tick " ++ argument) (codes "\n"),
    )

posting-few : (i : ℕ) → i ≤ 200 → length (posting_line i) ≤ 50
posting-few i few =
    let whole : length (posting_line i)
    ≡ 11 + length (decimal (60 * i)) + length (decimal (i % 3)) + length (decimal (i * i)) =
    posting-length (decimal (60 * i)) (decimal (i % 3)) (decimal (i * i)) in
    omega (
      arith,
      whole,
      digits-few (60 * i) (omega (arith, few)),
      digits-few (i % 3) (omega arith),
      digits-few (i * i) (square-few i few),
    )

source-few : (count : ℕ) → count ≤ 200 → length (source_text count) ≤ 400
source-few count few =
    let number = decimal (count + 1) in
    let fixed : length declared_text + length program_text ≡ 337 = refl in
    omega (
      arith,
      length-append declared_text (number ++ program_text),
      length-append number program_text,
      digits-few (count + 1) (omega (arith, few)),
      fixed,
    )

trace-few : (count : ℕ) → count ≤ 200 → length (trace_text count) ≤ 20050
trace-few count few =
    let powers = lines_up_to power_line count in
    let postings = lines_up_to posting_line count in
    omega (
      arith,
      length-append (limit_line count) powers,
      length-append (limit_line count ++ powers) postings,
      limit-few count few,
      lines-few power_line count (λ i within. power-few i (omega (arith, within, few))),
      lines-few posting_line count (λ i within. posting-few i (omega (arith, within, few))),
      few,
    )

pub generated-small : (count : ℕ) → count ≤ 200 → length (generated count) ≤ 262144
generated-small count few =
    omega (arith, length-append (source_text count) (trace_text count), source-few count few, trace-few count few)
