-- What a cursor shows.
use Rattle.std.specs.Prelude.{◌+◌, ◌^◌, ◌≤◌, ◌<◌, All, length}
use Rattle.task_lex.specs.Span.{IsTokenOf}
use Rattle.task_parse.specs.Bars.{most_open}
use Rattle.task_parse.specs.Lexeme.{lexemes}
use Rattle.task_parse.specs.Machine.{Spot}
use Rattle.task_parse.specs.declared.cursor.Cursor.TheInside.{Inside}

abbrev pub spot_of : Inside → Spot
spot_of cursor = record {
  rest = lexemes cursor.source.now cursor.left.now;
  at = cursor.at;
  depth = cursor.depth;
}

-- a token's number fits, no more brackets are open than may be, and the tokens are those of the
-- source
pub record IsWithin (cursor : Inside) : Type 0 where
  pub few : cursor.at + length cursor.left.now < 2 ^ 31
  pub shallow : cursor.depth ≤ most_open
  pub texts : All (IsTokenOf cursor.source.now) cursor.left.now
