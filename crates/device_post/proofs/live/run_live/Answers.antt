use denote.Exit.{no}
use denote.Param.{param}
use denote.Param.Send.{arg_send, param_send}
use denote.RattleType.{RattleType}
use Rattle.booth.proofs.seats.TurnSeat.TheSendSync as turns
use Rattle.device_post.proofs.Sent.{desk_sync, executor_send}
use Rattle.device_post.proofs.live.run_live.Goals as goal

pub join-turns-requires-send-F : goal.join-turns-requires-send-F
join-turns-requires-send-F g c = λ κs within.
    let A : RattleType = param 0 g.row.A in
    let F : RattleType = param 1 g.row.F in
    let L : RattleType = param 2 g.row.L in
    let S : RattleType = param 3 g.row.S in
    let E : RattleType = param 4 g.row.E in
    let N : RattleType = param 5 g.row.N in
    let a = g.A.Ledger in
    let f = g.F.Ledger in
    let l = g.L.Ledger in
    let s = g.S.Ledger in
    let e = g.E.Ledger in
    let n = g.N.Names in
    param_send 1 _ (arg_send _ no _
    (executor_send _ _ _ _ (param 7 g.row.R) _ (param 6 g.row.G) tt tt tt
    c.type_bounds.sync-R
    (desk_sync A F L S E N a f l s e n)
    c.type_bounds.sync-G _
    (turns.the_send A F L S E N a f l s e n)))
