-- Threads may share a desk, and what runs in them may go there.
use denote.RattleType.{RattleType}
use denote.Param.Send.{IsSend, IsSync, recorded_sync, sendable, struct_sync}
use denote.Param.SendFields.{as_row_send, as_row_sync, declared_send, declared_sync}
use denote.Builtin.{One}
use denote.Ref.{NamedLft}
use denote.Struct.Declared as structs
use denote.Struct.Field.{shr_ref_field}
use denote.Struct.Tuple.{TupleAt}
use mathlib.Core.List.{[], ◌∷◌}
use mir.Syntax.{Sym}
use Rattle.std.specs.declared.sync.ledger.Ledger.{Ghosts as Ledgers}
use Rattle.std.proofs.sync.Mutex.TheSendSync as mutex
use Rattle.booth.proofs.Sent.{booth_send}
use Rattle.booth.specs.contracts.booth.Booth.{the_row as booth_row}
use Rattle.booth.specs.declared.names.Names.{Ghosts as Named}
use Rattle.device_post.specs.contracts.desk.Desk as desks

module _ (A F L S E N : RattleType) (a : Ledgers A.Denot) (f : Ledgers F.Denot)
    (l : Ledgers L.Denot) (s : Ledgers S.Denot) (e : Ledgers E.Denot) (n : Named N.Denot) where
  pub desk_sync : IsSync (desks.the_row A F L S E N a f l s e n)
  desk_sync = recorded_sync (desks.the_field A F L S E N a f l s e n).row _ _
      (desks.the_type A F L S E N a f l s e n).to_one
      (struct_sync (structs.shape (desks.the_type A F L S E N a f l s e n))
      (mutex.the_sync (booth_row A F L S E N a f l s e n) (booth_send A F L S E N a f l s e n), tt))

-- what a closure captures: the runtime, the desk and the gate
module _ (name : Sym) (r d g : NamedLft) (Runtime Desk Gate : RattleType)
    (one_r : One Runtime.mir) (one_d : One Desk.mir) (one_g : One Gate.mir)
    (runtime : IsSync Runtime) (desk : IsSync Desk) (gate : IsSync Gate) where
  pub devices_sync : IsSync (TupleAt name
      ((shr_ref_field r Runtime one_r).row ∷ (shr_ref_field d Desk one_d).row
      ∷ (shr_ref_field g Gate one_g).row ∷ []))
  devices_sync = search (runtime, desk, gate, sendable, declared_sync, as_row_sync) depth 12

  -- and a seat
  pub executor_send : (Seat : RattleType) → IsSend Seat → IsSend (TupleAt name
      ((shr_ref_field r Runtime one_r).row ∷ (shr_ref_field d Desk one_d).row
      ∷ Seat ∷ (shr_ref_field g Gate one_g).row ∷ []))
  executor_send Seat seat =
      search (runtime, desk, gate, seat, sendable, declared_send, as_row_send) depth 12
