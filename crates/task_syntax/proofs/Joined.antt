-- Accesses joined end to end, and chains, which make them so.
use Rattle.std.proofs.Common.{List}
use Rattle.task_syntax.specs.Course.{Course, Store, Access, accesses, answer, after}
use Rattle.task_syntax.specs.CourseLaws.{JoinsUp, RunsInTurn}
use Rattle.task_syntax.proofs.Chains.{accesses-chain, answer-chain, after-append, readings-append, written_words-append}
use Rattle.task_syntax.proofs.Written.{last_written-append, is_written-append, is_shared-append}

pub joins_up : (first more : List Access) → JoinsUp first more
joins_up first more = record {
  store_after = after-append first more;
  read = readings-append first more;
  written = written_words-append first more;
  last = last_written-append first more;
  writes = is_written-append first more;
  shares = is_shared-append first more;
}

pub runs_in_turn : {A B : Type 0} (first : Course A) (next : A → Course B) (store : Store) → RunsInTurn A B first next store
runs_in_turn first next store = record {
  done = accesses-chain first next store;
  result = answer-chain first next store;
  joins = joins_up (accesses first store) (accesses (next (answer first store)) (after (accesses first store) store));
}
