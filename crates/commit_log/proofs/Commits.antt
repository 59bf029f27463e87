-- The writes of every commit, put together.
use Rattle.std.proofs.Common.{◌≡◌, ◌≢◌, sym, ap, ◌∙◌, arith, inl, inr}
use Rattle.std.proofs.lemmas.Bool.{cases_eq}
use Rattle.nv_memory.specs.State.{Change, State, first_undone, put}
use Rattle.nv_memory.specs.Words.{mark}
use Rattle.commit_log.specs.Laws.{IsCommitWrite, Keeps}
use Rattle.commit_log.specs.OpenUnit.{KeepsUnit}
use Rattle.commit_log.proofs.Applying.{IsUnitWrite, unit_keeps, unit_write}
use Rattle.commit_log.proofs.Merging.{IsIntoTxWrite, into_tx_keeps, into_tx_unit, into_tx_write}
use Rattle.commit_log.proofs.Nexts.{clear_is_none, event_is, into_tx_is, unit_is}
use Rattle.commit_log.proofs.Taking.{IsEventWrite, event_keeps, event_unit, event_write}

-- which commit the write belongs to
pub data IsOfCommit (s : State) (c : Change) : Type 0 where
  into_tx : mark s ≡ 1 → IsIntoTxWrite s c → IsOfCommit s c
  unit : mark s ≡ 2 → IsUnitWrite s c → IsOfCommit s c
  event : mark s ≡ 3 → IsEventWrite s c → IsOfCommit s c

pub commit_of : (s : State) (c : Change) → IsCommitWrite s c → IsOfCommit s c
commit_of s c w = elim (cases_eq (mark s) 1) [
  | inl one ↦ into_tx one (into_tx_write s c w.range (sym (ap (first_undone s) (into_tx_is s one)) ∙ w.next))
  | inr n ↦ elim (cases_eq (mark s) 2) [
    | inl two ↦ unit two (unit_write s c w.range two (sym (ap (first_undone s) (unit_is s two)) ∙ w.next))
    | inr o ↦ elim (cases_eq (mark s) 3) [
      | inl three ↦ event three (event_write s c w.range three (sym (ap (first_undone s) (event_is s three)) ∙ w.next))
      | inr t ↦
          let low = w.range.mark in
          let zero : mark s ≡ 0 = omega (arith, n, o, t, low) in
          let none = clear_is_none s zero in
          let some = w.next in absurd cc
    ]
  ]
]

keeps_step : (s : State) (c : Change) → IsCommitWrite s c → IsOfCommit s c → Keeps s (put s c)
keeps_step s c w (into_tx one is) = into_tx_keeps s one w.range w.closed c is
keeps_step s c w (unit two is) = unit_keeps s two w.range w.closed c is
keeps_step s c w (event three is) = event_keeps s three w.range w.closed c is

pub commits_keep : (s : State) (c : Change) → IsCommitWrite s c → Keeps s (put s c)
commits_keep s c w = keeps_step s c w (commit_of s c w)

unit_step : (s : State) (c : Change) → IsCommitWrite s c → mark s ≢ 2 → IsOfCommit s c → KeepsUnit s (put s c)
unit_step s c w n (into_tx one is) = into_tx_unit s one w.range w.closed c is
unit_step s c w n (unit two is) = absurd (n two)
unit_step s c w n (event three is) = event_unit s three w.range w.closed c is

pub commits_keep_unit : (s : State) (c : Change) → IsCommitWrite s c → mark s ≢ 2 → KeepsUnit s (put s c)
commits_keep_unit s c w n = unit_step s c w n (commit_of s c w)
