-- How far the lines of a text have come.
use Rattle.std.proofs.Common.{◌≡◌, ◌∙◌, ℕ, suc, ◌+◌, List, [], ◌∷◌, ◌++◌, length, refl, sym, subst, ap, arith, append_assoc, length-append}
use Rattle.std.proofs.lemmas.List.{append-nil}
use Rattle.coati_word.specs.declared.mode.Mode.{Mode}
use Rattle.coati_word.specs.declared.reading.Reading.{Reading}
use Rattle.task_syntax.specs.declared.program.Program.{Program}
use Rattle.serial_log.specs.declared.printed.Printed.{Printed}
use Rattle.serial_log.specs.Standing.{Standing, opening}
use Rattle.coati_replay.specs.Text.{TextLine, text_lines}
use Rattle.coati_replay.specs.Conditions.{AreMet, MeetsCondition, behind_line, behind_text}
use Rattle.coati_replay.specs.Verdicts.{DiffersAt, IsSerial}
use Rattle.coati_replay.specs.Stages.{HasCome}

module _ (program : Program) (mode : Mode) (all : List Reading) where
  behind-more : (s : Standing) (before : List TextLine) (line : TextLine) →
      behind_text program mode all s (before ++ line ∷ []) ≡ behind_line program mode all (behind_text program mode all s before) line
  behind-more s [] line = refl
  behind-more s (first ∷ before) line = behind-more (behind_line program mode all s first) before line

  met-more : (s : Standing) (before : List TextLine) (line : TextLine) → AreMet program mode all s before → MeetsCondition program mode all (behind_text program mode all s before) line →
      AreMet program mode all s (before ++ line ∷ [])
  met-more s [] line met here = (here, tt)
  met-more s (first ∷ before) line met here = (met.0, met-more (behind_line program mode all s first) before line met.1 here)

  -- a line among lines that are met
  met-there : (s : Standing) (before : List TextLine) (line : TextLine) (more : List TextLine) → AreMet program mode all s (before ++ line ∷ more) →
      MeetsCondition program mode all (behind_text program mode all s before) line
  met-there s [] line more met = met.0
  met-there s (first ∷ before) line more met = met-there (behind_line program mode all s first) before line more met.1

  -- two lines that are the first unmet
  one-place : (s : Standing) (before others : List TextLine) (line other : TextLine) (more rest : List TextLine) → before ++ line ∷ more ≡ others ++ other ∷ rest →
      AreMet program mode all s before → (MeetsCondition program mode all (behind_text program mode all s before) line → ⊥) →
      AreMet program mode all s others → (MeetsCondition program mode all (behind_text program mode all s others) other → ⊥) → length before ≡ length others
  one-place s [] [] line other more rest is met unmet met_other unmet_other = refl
  one-place s [] (first ∷ others) line other more rest is met unmet met_other unmet_other =
      let same : first ≡ line = cc in
      absurd (unmet (subst (λ (l : TextLine). MeetsCondition program mode all s l) same met_other.0))
  one-place s (first ∷ before) [] line other more rest is met unmet met_other unmet_other =
      let same : first ≡ other = cc in
      absurd (unmet_other (subst (λ (l : TextLine). MeetsCondition program mode all s l) same met.0))
  one-place s (first ∷ before) (second ∷ others) line other more rest is met unmet met_other unmet_other =
      let same : second ≡ first = cc in
      let tails : before ++ line ∷ more ≡ others ++ other ∷ rest = cc in
      let met_there = subst (λ (l : TextLine). AreMet program mode all (behind_line program mode all s l) others) same met_other.1 in
      let unmet_there = subst (λ (l : TextLine). MeetsCondition program mode all (behind_text program mode all (behind_line program mode all s l) others) other → ⊥) same unmet_other in
      ap suc (one-place (behind_line program mode all s first) before others line other more rest tails met.1 unmet met_there unmet_there)

module _ (program : Program) (mode : Mode) (printed : Printed) where
  pub begins : HasCome program mode printed (opening program) 1 (text_lines program printed)
  begins = record { before = []; lines = refl; number_is = refl; met = tt; leads = refl }

  pub goes-on : (s : Standing) (number : ℕ) (line : TextLine) (left : List TextLine) → HasCome program mode printed s number (line ∷ left) →
      MeetsCondition program mode printed.readings s line → HasCome program mode printed (behind_line program mode printed.readings s line) (number + 1) left
  goes-on s number line left come met =
      let met_there = subst (λ (t : Standing). MeetsCondition program mode printed.readings t line) come.leads met in
      record {
        before = come.before ++ line ∷ [];
        lines = come.lines ∙ sym (append_assoc come.before (line ∷ []) left);
        number_is = omega (arith, come.number_is, length-append come.before (line ∷ []));
        met = met-more program mode printed.readings (opening program) come.before line come.met met_there;
        leads = ap (λ (t : Standing). behind_line program mode printed.readings t line) come.leads ∙ sym (behind-more program mode printed.readings (opening program) come.before line);
      }

  pub differs : (s : Standing) (number : ℕ) (line : TextLine) (left : List TextLine) → HasCome program mode printed s number (line ∷ left) →
      (MeetsCondition program mode printed.readings s line → ⊥) → DiffersAt program mode printed number
  differs s number line left come unmet = record {
    before = come.before;
    line = line;
    more = left;
    lines = come.lines;
    number_is = come.number_is;
    met = come.met;
    unmet = subst (λ (t : Standing). MeetsCondition program mode printed.readings t line → ⊥) come.leads unmet;
  }

  pub serial : (s : Standing) (number : ℕ) (line : TextLine) → HasCome program mode printed s number (line ∷ []) → MeetsCondition program mode printed.readings s line → IsSerial program mode printed
  serial s number line come met =
      let met_there = subst (λ (t : Standing). MeetsCondition program mode printed.readings t line) come.leads met in
      subst (λ (lines : List TextLine). AreMet program mode printed.readings (opening program) lines) (sym come.lines)
      (met-more program mode printed.readings (opening program) come.before line come.met met_there)

  pub ends : (s : Standing) (number : ℕ) → HasCome program mode printed s number [] → IsSerial program mode printed
  ends s number come =
      let all = come.lines ∙ append-nil come.before in
      subst (λ (lines : List TextLine). AreMet program mode printed.readings (opening program) lines) (sym all) come.met

  pub not-both : (number : ℕ) → IsSerial program mode printed → DiffersAt program mode printed number → ⊥
  not-both number met differing =
      let met_so = subst (λ (lines : List TextLine). AreMet program mode printed.readings (opening program) lines) differing.lines met in
      differing.unmet (met-there program mode printed.readings (opening program) differing.before differing.line differing.more met_so)

  pub one-number : (one other : ℕ) → DiffersAt program mode printed one → DiffersAt program mode printed other → one ≡ other
  one-number one other first second =
      let lengths = one-place program mode printed.readings (opening program) first.before second.before first.line second.line first.more second.more
      (sym first.lines ∙ second.lines) first.met first.unmet second.met second.unmet in
      omega (arith, first.number_is, second.number_is, lengths)
