-- A board may go to another thread: so may each of its parts.
use denote.Param.Send.{IsSend, plain_send, recorded_send, sendable, struct_send, enum_send}
use denote.Param.SendFields.{as_row_send, declared_send}
use denote.Enum.Declared as enums
use denote.Struct.Declared as structs
use denote.Struct.Field.{u16-field, u32-field}
use Rattle.std.proofs.option.Option.TheSendSync as option
use Rattle.sqlite_items.proofs.boxed.Boxed.TheSendSync as boxed
use Rattle.sqlite_items.proofs.items.Items.TheSendSync as items
use Rattle.sqlite_items.specs.contracts.items.Items.{the_row as items_row}
use Rattle.coati_word.proofs.mode.Mode.TheSendSync as mode
use Rattle.coati_word.proofs.operator.Op.TheSendSync as op
use Rattle.coati_word.proofs.operator.Op1.TheSendSync as op1
use Rattle.task_syntax.proofs.name.Name.TheSendSync as name
use Rattle.task_syntax.proofs.name.Number.TheSendSync as number
use Rattle.task_syntax.proofs.program.Var.TheSendSync as var
use Rattle.task_syntax.specs.contracts.expression.Expr as expressions
use Rattle.task_syntax.specs.contracts.expression.Place as places
use Rattle.task_syntax.specs.contracts.statement.Stmt as statements
use Rattle.task_syntax.specs.contracts.name.Name as names
use Rattle.task_syntax.specs.contracts.name.Number as numbers
use Rattle.task_syntax.specs.contracts.program.Var as vars
use Rattle.task_syntax.specs.contracts.program.Event as events
use Rattle.task_syntax.specs.contracts.program.TaskDecl as tasks
use Rattle.task_syntax.specs.contracts.program.TxDecl as transactions
use Rattle.task_syntax.specs.contracts.program.UnitDecl as units
use Rattle.task_syntax.specs.contracts.program.Program as programs
use Rattle.task_syntax.proofs.expression.Expr.TheLaws.TheKnot.{send-Expr, send-Place}
use Rattle.task_syntax.proofs.statement.Stmt.TheLaws.TheKnot.{send-Stmt}
use Rattle.task_check.specs.contracts.checked.Checked.{the_row as checked_row}
use Rattle.coati_device.proofs.device.Device.TheSendSync as device
use Rattle.serial_log.proofs.script.Script.TheSendSync as script
use Rattle.word_code.proofs.code.Code.TheSendSync as code
use Rattle.coati_board.specs.contracts.board.Board.{the_row as board_row}

u16_send : IsSend u16-field.row
u16_send = plain_send _ _ _ _ _

u32_send : IsSend u32-field.row
u32_send = plain_send _ _ _ _ _

place_field_send : IsSend places.the_field.row
place_field_send =
    send-Place u16_send op1.the_field_send boxed.the_send op.the_field_send name.the_field_send

expr_field_send : IsSend expressions.the_field.row
expr_field_send =
    send-Expr u16_send op1.the_field_send boxed.the_send op.the_field_send name.the_field_send

expr_send : IsSend expressions.the_row
expr_send = recorded_send expressions.the_field.row _ _ expressions.the_field.into_one
    expr_field_send

stmt_field_send : IsSend statements.the_field.row
stmt_field_send =
    send-Stmt name.the_field_send expr_field_send place_field_send items.the_send
    (λ row send. option.the_send (items_row row) (items.the_send row send)) u16_send u32_send
    (items.the_send expressions.the_row expr_send)

stmt_send : IsSend statements.the_row
stmt_send = recorded_send statements.the_field.row _ _ statements.the_field.into_one
    stmt_field_send

block_send : IsSend (items_row statements.the_row)
block_send = items.the_send statements.the_row stmt_send

event_send : IsSend events.the_row
event_send = recorded_send events.the_field.row _ _ events.the_type.to_one
    (struct_send (structs.shape events.the_type) (
      name.the_field_send,
      (
        name.the_field_send,
        (
          block_send,
          (items.the_send names.the_row name.the_send, (block_send, tt)),
        ),
      ),
    ))

task_field_send : IsSend tasks.the_field.row
task_field_send =
    struct_send (structs.shape tasks.the_type) (name.the_field_send, (block_send, tt))

task_send : IsSend tasks.the_row
task_send = recorded_send tasks.the_field.row _ _ tasks.the_type.to_one task_field_send

transaction_field_send : IsSend transactions.the_field.row
transaction_field_send =
    struct_send (structs.shape transactions.the_type)
    (name.the_field_send, (items.the_send tasks.the_row task_send, tt))

unit_send : IsSend units.the_row
unit_send = recorded_send units.the_field.row _ _ units.the_type.to_one
    (enum_send (enums.shape units.the_type)
    ((task_field_send, tt), ((transaction_field_send, tt), tt)))

program_send : IsSend programs.the_row
program_send = recorded_send programs.the_field.row _ _ programs.the_type.to_one
    (struct_send (structs.shape programs.the_type) (
      items.the_send vars.the_row var.the_send,
      (
        option.the_field_send numbers.the_row number.the_send,
        (items.the_send events.the_row event_send, (items.the_send units.the_row unit_send, tt)),
      ),
    ))

checked_send : IsSend checked_row
checked_send = search (program_send, sendable, declared_send) depth 8

pub board_send : IsSend board_row
board_send =
    search (
      checked_send,
      code.the_send,
      script.the_send,
      device.the_send,
      mode.the_send,
      sendable,
      declared_send,
      as_row_send,
    ) depth 14
