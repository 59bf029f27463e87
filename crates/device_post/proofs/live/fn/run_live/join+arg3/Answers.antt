use denote.Exit.{no}
use denote.Param.{param}
use denote.Param.Send.{arg_sync, param_sync}
use denote.RattleType.{RattleType}
use Rattle.device_post.proofs.Sent.{desk_sync, devices_sync}
use Rattle.device_post.proofs.live.fn.run_live.join+arg3.Goals as goal

pub for_each_mut-requires-sync-F : goal.for_each_mut-requires-sync-F
for_each_mut-requires-sync-F g c = λ κs within.
    let A : RattleType = param 0 g.row.A in
    let F : RattleType = param 1 g.row.F in
    let L : RattleType = param 2 g.row.L in
    let S : RattleType = param 3 g.row.S in
    let E : RattleType = param 4 g.row.E in
    let N : RattleType = param 5 g.row.N in
    let a = g.A.Ledger in
    let f = g.F.Ledger in
    let l = g.L.Ledger in
    let s = g.S.Ledger in
    let e = g.E.Ledger in
    let n = g.N.Names in
    param_sync 2 _ (arg_sync _ no _
    (devices_sync _ _ _ _ (param 7 g.row.R) _ (param 6 g.row.G) tt tt tt c.requires.0
    (desk_sync A F L S E N a f l s e n) c.requires.1))
