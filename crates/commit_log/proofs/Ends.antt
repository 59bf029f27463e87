-- Commits end.
use Rattle.std.proofs.Common.{◌≡◌, ◌↔◌, ◌+◌, ◌*◌, ◌<◌, ◌≤◌, arith, inl, inr}
use Rattle.std.proofs.lemmas.Bool.{cases_eq}
use Rattle.nv_memory.specs.InRange.{InRange}
use Rattle.nv_memory.specs.State.{Change, State, put}
use Rattle.nv_memory.specs.Words.{mark}
use Rattle.commit_log.specs.Laws.{IsCommitWrite}
use Rattle.commit_log.specs.Left.{writes_left}
use Rattle.commit_log.proofs.Commits.{IsOfCommit, commit_of, commits_keep, event, into_tx, unit}
use Rattle.commit_log.proofs.Counts.{event_few, event_goes_on, left_clear, left_event, left_unit, unit_few, unit_goes_on}
use Rattle.commit_log.proofs.MergeCounts.{into_tx_few, into_tx_goes_on, left_into}

go_on_step : (s : State) (c : Change) → IsCommitWrite s c → IsOfCommit s c → writes_left (put s c) < writes_left s
go_on_step s c w (into_tx one is) = into_tx_goes_on s one w.range c is
go_on_step s c w (unit two is) = unit_goes_on s c w.range two is (commits_keep s c w)
go_on_step s c w (event three is) = event_goes_on s c three is (commits_keep s c w)

pub commits_go_on : (s : State) (c : Change) → IsCommitWrite s c → writes_left (put s c) < writes_left s
commits_go_on s c w = go_on_step s c w (commit_of s c w)

-- the marker is one of four
pub data MarkOf (s : State) : Type 0 where
  clear : mark s ≡ 0 → MarkOf s
  merging : mark s ≡ 1 → MarkOf s
  applying : mark s ≡ 2 → MarkOf s
  taking : mark s ≡ 3 → MarkOf s

mark_of : (s : State) → InRange s → MarkOf s
mark_of s r = elim (cases_eq (mark s) 1) [
  | inl one ↦ merging one
  | inr n ↦ elim (cases_eq (mark s) 2) [
    | inl two ↦ applying two
    | inr o ↦ elim (cases_eq (mark s) 3) [
      | inl three ↦ taking three
      | inr t ↦ let low = r.mark in clear (omega (arith, n, o, t, low))
    ]
  ]
]

few_step : (s : State) → InRange s → MarkOf s → writes_left s ≤ 8 * s.n + 20
few_step s r (clear e) = let is = left_clear s e in omega (arith, is)
few_step s r (merging e) = let is = left_into s e in let few = into_tx_few s r in omega (arith, is, few)
few_step s r (applying e) = let is = left_unit s e in let few = unit_few s in omega (arith, is, few)
few_step s r (taking e) = let is = left_event s e in let few = event_few s in omega (arith, is, few)

pub few_left : (s : State) → InRange s → writes_left s ≤ 8 * s.n + 20
few_left s r = few_step s r (mark_of s r)

pub few_of_events : (s : State) → mark s ≡ 3 → writes_left s ≤ s.n + 2
few_of_events s three = let is = left_event s three in let few = event_few s in omega (arith, is, few)

none_step : (s : State) → MarkOf s → (writes_left s ≡ 0) ↔ (mark s ≡ 0)
none_step s (clear e) = (λ _. e, λ _. left_clear s e)
none_step s (merging e) = let is = left_into s e in (λ h. absurd (omega (arith, is, h)), λ h. absurd (omega (arith, e, h)))
none_step s (applying e) = let is = left_unit s e in (λ h. absurd (omega (arith, is, h)), λ h. absurd (omega (arith, e, h)))
none_step s (taking e) = let is = left_event s e in (λ h. absurd (omega (arith, is, h)), λ h. absurd (omega (arith, e, h)))

pub none_left : (s : State) → InRange s → (writes_left s ≡ 0) ↔ (mark s ≡ 0)
none_left s r = none_step s (mark_of s r)
