use Rattle.std.proofs.Common.{◌≡◌, ◌+◌, ◌++◌, ◌∷◌, List, [], Result, Ok, Err, length, drop, ap, arith, length-drop}
use Rattle.std.proofs.lemmas.Grind.{common_steps}
use Rattle.std.proofs.lemmas.List.{take_rest}
use Rattle.task_lex.specs.Reading.{nothing}
use Rattle.task_lex.specs.declared.token.Token.{Token}
use Rattle.task_lex.specs.declared.fault.LexFault.{LexFault}
use Rattle.task_lex.specs.declared.fault.LexFault.TheVariants.{BadByte, BadNumber}
use Rattle.task_lex.proofs.OneReading.{one_fault, one_token_list, tokens_or_fault}
use Rattle.task_lex.proofs.Places.{ReadsTo-gap, ReadsTo-token, Tokens-at_end}
use Rattle.task_lex.proofs.Spans.{All-IsTokenOf, AreInOrder-Reads}
use Rattle.task_lex.proofs.scanner.lex.Goals as goal

abbrev accepted : List Token → Result (List Token) LexFault
accepted tokens = Ok tokens

abbrev refused : LexFault → Result (List Token) LexFault
refused fault = Err fault

pub loop-place-init : goal.loop-place-init
loop-place-init c = record { within = omega arith; read = rw c.new-tokens.ensures.items (nothing 0 c.args.source.now) }

pub loop-place-preserved-in-Gap : goal.loop-place-preserved-in-Gap
loop-place-preserved-in-Gap c =
    let source = c.args.source.now in
    let place = c.loop-place.place in
    let stands = rw (take_rest source place) at c.in-Gap.ensures.stands in
    let takes = rw (take_rest source place) at c.in-Gap.ensures.takes in
    record {
      within = omega (arith, takes.1, length-drop place source);
      read = ReadsTo-gap source c.loop-place.tokens.items place c.in-Gap.len takes.1 c.loop-place.invariant.read stands;
    }

pub loop-place-preserved : goal.loop-place-preserved
loop-place-preserved c =
    let source = c.args.source.now in
    let place = c.loop-place.place in
    let stands = rw (take_rest source place) at c.in-Token.ensures.stands in
    let takes = rw (take_rest source place) at c.in-Token.ensures.takes in
    let found : Token = record { kind = c.in-Token.kind; start = place; end = place + c.in-Token.len } in
    let grown : c.push.new.self.items ≡ c.loop-place.tokens.items ++ found ∷ [] = grind (arith, common_steps) in
    record {
      within = omega (arith, takes.1, length-drop place source);
      read = rw grown (ReadsTo-token c.in-Token.kind source c.loop-place.tokens.items place c.in-Token.len takes.1 c.loop-place.invariant.read stands);
    }

pub returns-in-BadByte-clause-accepts : goal.returns-in-BadByte-clause-accepts
returns-in-BadByte-clause-accepts c tokens read = absurd (tokens_or_fault c.args.source.now tokens (BadByte c.loop-place.place) read (record {
  tokens = c.loop-place.tokens.items;
  left = drop c.loop-place.place c.args.source.now;
  before = c.loop-place.invariant.read;
  bad = rw (take_rest c.args.source.now c.loop-place.place) at c.in-BadByte.ensures.stands;
}))

pub returns-in-BadByte-clause-refuses : goal.returns-in-BadByte-clause-refuses
returns-in-BadByte-clause-refuses c fault is = ap refused (one_fault c.args.source.now fault (BadByte c.loop-place.place) is (record {
  tokens = c.loop-place.tokens.items;
  left = drop c.loop-place.place c.args.source.now;
  before = c.loop-place.invariant.read;
  bad = rw (take_rest c.args.source.now c.loop-place.place) at c.in-BadByte.ensures.stands;
}))

pub returns-in-BadNumber-clause-accepts : goal.returns-in-BadNumber-clause-accepts
returns-in-BadNumber-clause-accepts c tokens read = absurd (tokens_or_fault c.args.source.now tokens (BadNumber c.loop-place.place) read (record {
  tokens = c.loop-place.tokens.items;
  left = drop c.loop-place.place c.args.source.now;
  before = c.loop-place.invariant.read;
  bad = rw (take_rest c.args.source.now c.loop-place.place) at c.in-BadNumber.ensures.stands;
}))

pub returns-in-BadNumber-clause-refuses : goal.returns-in-BadNumber-clause-refuses
returns-in-BadNumber-clause-refuses c fault is = ap refused (one_fault c.args.source.now fault (BadNumber c.loop-place.place) is (record {
  tokens = c.loop-place.tokens.items;
  left = drop c.loop-place.place c.args.source.now;
  before = c.loop-place.invariant.read;
  bad = rw (take_rest c.args.source.now c.loop-place.place) at c.in-BadNumber.ensures.stands;
}))

pub returns-clause-accepts : goal.returns-clause-accepts
returns-clause-accepts c tokens read =
    let all = Tokens-at_end c.args.source.now c.loop-place.tokens.items c.loop-place.place c.loop-place.invariant.within c.loop-place-test.false c.loop-place.invariant.read in
    ap accepted (one_token_list c.args.source.now tokens c.loop-place.tokens.items read all)

pub returns-clause-refuses : goal.returns-clause-refuses
returns-clause-refuses c fault is =
    let all = Tokens-at_end c.args.source.now c.loop-place.tokens.items c.loop-place.place c.loop-place.invariant.within c.loop-place-test.false c.loop-place.invariant.read in
    absurd (tokens_or_fault c.args.source.now c.loop-place.tokens.items fault all is)

pub returns-clause-order : goal.returns-clause-order
returns-clause-order c =
    let all = Tokens-at_end c.args.source.now c.loop-place.tokens.items c.loop-place.place c.loop-place.invariant.within c.loop-place-test.false c.loop-place.invariant.read in
    AreInOrder-Reads 0 c.args.source.now c.loop-place.tokens.items (length c.args.source.now) [] all

pub returns-clause-texts : goal.returns-clause-texts
returns-clause-texts c =
    All-IsTokenOf c.args.source.now c.loop-place.tokens.items
    (Tokens-at_end c.args.source.now c.loop-place.tokens.items c.loop-place.place c.loop-place.invariant.within c.loop-place-test.false c.loop-place.invariant.read)
