-- When two readings are the same.
use Rattle.std.proofs.Common.{◌≡◌, ◌==◌, true, arith, Decides}
use Rattle.std.specs.Prelude.{◌&&◌}
use Rattle.std.proofs.lemmas.Bool.Decides.{nat_tests}
use Rattle.coati_word.specs.declared.reading.Reading.{Reading}

same-reading : (a b : Reading) → ((a.word == b.word) && (a.value == b.value)) ≡ true → a ≡ b
same-reading a b e =
    let word : a.word ≡ b.word = grind (arith, nat_tests) in
    let value : a.value ≡ b.value = grind (arith, nat_tests) in
    λ i. record { word = word i; value = value i }

reading-same : (a b : Reading) → a ≡ b → ((a.word == b.word) && (a.value == b.value)) ≡ true
reading-same a b e =
    let word : a.word ≡ b.word = cc in
    let value : a.value ≡ b.value = cc in
    grind (arith, nat_tests)

pub readings-decide : (a b : Reading) → Decides ((a.word == b.word) && (a.value == b.value)) (a ≡ b)
readings-decide a b = (same-reading a b, reading-same a b)
