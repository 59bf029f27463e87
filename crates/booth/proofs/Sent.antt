-- A booth may go to another thread, as each of its parts may.
use denote.RattleType.{RattleType}
use denote.Param.Send.{IsSend, plain_send, recorded_send, struct_send, view_send}
use denote.Struct.Declared as structs
use Rattle.std.specs.declared.sync.ledger.Ledger.{Ghosts as Ledgers}
use Rattle.std.proofs.marker.PhantomData.TheSendSync as phantom
use Rattle.std.proofs.sync.ledger.Book.TheSendSync as book
use Rattle.booth.proofs.BoardSent.{board_send}
use Rattle.booth.specs.declared.names.Names.{Ghosts as Named}
use Rattle.booth.specs.contracts.booth.Booth.{the_row as booth_row}
use Rattle.booth.specs.contracts.booth.Booth.TheInside as inside

module _ (A F L S E N : RattleType) (a : Ledgers A.Denot) (f : Ledgers F.Denot)
    (l : Ledgers L.Denot) (s : Ledgers S.Denot) (e : Ledgers E.Denot) (n : Named N.Denot) where
  pub booth_send : IsSend (booth_row A F L S E N a f l s e n)
  booth_send = view_send (inside.the_row A F L S E N a f l s e n) _ _ _ _
      (recorded_send (inside.the_field A F L S E N a f l s e n).row _ _
      (inside.the_type A F L S E N a f l s e n).to_one
      (struct_send (structs.shape (inside.the_type A F L S E N a f l s e n)) (
        board_send,
        (
          book.the_send A a,
          (
            book.the_send F f,
            (
              book.the_send L l,
              (
                book.the_send S s,
                (book.the_send E e, (plain_send _ _ _ _ _, (phantom.the_field_send N, tt))),
              ),
            ),
          ),
        ),
      )))
