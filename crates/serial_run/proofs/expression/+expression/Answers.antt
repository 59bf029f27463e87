use Rattle.serial_run.proofs.Layers.{expression-num, expression-get, expression-one, expression-two, aim-plain, aim-item}
use Rattle.serial_run.proofs.Steps.{behind-ends, behind-chain, end_of-ends, end_of-chain}
use Rattle.serial_run.proofs.expression.+expression.Goals as goal

pub evaluate-returns-in-Num-clause-value : goal.evaluate-returns-in-Num-clause-value
evaluate-returns-in-Num-clause-value t c = rw (c.in-Num.is, expression-num, end_of-ends)

pub evaluate-returns-in-Num-clause-moment : goal.evaluate-returns-in-Num-clause-moment
evaluate-returns-in-Num-clause-moment t c = rw (c.in-Num.is, expression-num, behind-ends)

pub evaluate-returns-in_ok-target-in-Get-clause-value : goal.evaluate-returns-in_ok-target-in-Get-clause-value
evaluate-returns-in_ok-target-in-Get-clause-value t c =
    rw (c.in-Get.is, expression-get, end_of-chain, ← c.in_ok-target-in-Get.ensures.aim, ← c.in_ok-target-in-Get.ensures.moment) c.read.ensures.value

pub evaluate-returns-in_ok-target-in-Get-clause-moment : goal.evaluate-returns-in_ok-target-in-Get-clause-moment
evaluate-returns-in_ok-target-in-Get-clause-moment t c =
    rw (c.in-Get.is, expression-get, behind-chain, ← c.in_ok-target-in-Get.ensures.aim, ← c.in_ok-target-in-Get.ensures.moment) c.read.ensures.moment

pub evaluate-returns-in_ok-value-in-One-clause-value : goal.evaluate-returns-in_ok-value-in-One-clause-value
evaluate-returns-in_ok-value-in-One-clause-value t c =
    rw (c.in-One.is, expression-one, end_of-chain, end_of-ends, ← c.get.ensures, ← c.in_ok-value-in-One.ensures.value) c.apply1.ensures

pub evaluate-returns-in_ok-value-in-One-clause-moment : goal.evaluate-returns-in_ok-value-in-One-clause-moment
evaluate-returns-in_ok-value-in-One-clause-moment t c =
    rw (c.in-One.is, expression-one, behind-chain, behind-ends, ← c.get.ensures) c.in_ok-value-in-One.ensures.moment

pub evaluate-returns-in_ok-right-in-Two-clause-value : goal.evaluate-returns-in_ok-right-in-Two-clause-value
evaluate-returns-in_ok-right-in-Two-clause-value t c =
    rw (c.in-Two.is, expression-two, end_of-chain, end_of-chain, end_of-ends, ← c.get-in-Two.ensures, ← c.get-in-Two-2.ensures, ← c.in_ok-left-in-Two.ensures.value, ← c.in_ok-left-in-Two.ensures.moment, ← c.in_ok-right-in-Two.ensures.value) c.apply.ensures

pub evaluate-returns-in_ok-right-in-Two-clause-moment : goal.evaluate-returns-in_ok-right-in-Two-clause-moment
evaluate-returns-in_ok-right-in-Two-clause-moment t c =
    rw (c.in-Two.is, expression-two, behind-chain, behind-chain, behind-ends, ← c.get-in-Two.ensures, ← c.get-in-Two-2.ensures, ← c.in_ok-left-in-Two.ensures.moment) c.in_ok-right-in-Two.ensures.moment

pub aim-returns-in-Plain-clause-aim : goal.aim-returns-in-Plain-clause-aim
aim-returns-in-Plain-clause-aim t c = rw (c.in-Plain.is, aim-plain, end_of-ends) c.plain.ensures.aim

pub aim-returns-in-Plain-clause-moment : goal.aim-returns-in-Plain-clause-moment
aim-returns-in-Plain-clause-moment t c = rw (c.in-Plain.is, aim-plain, behind-ends)

pub aim-returns-in_ok-index-in-Item-clause-aim : goal.aim-returns-in_ok-index-in-Item-clause-aim
aim-returns-in_ok-index-in-Item-clause-aim t c =
    rw (c.in-Item.is, aim-item, end_of-chain, end_of-ends, ← c.get.ensures, ← c.in_ok-index-in-Item.ensures.value) c.item.ensures.aim

pub aim-returns-in_ok-index-in-Item-clause-moment : goal.aim-returns-in_ok-index-in-Item-clause-moment
aim-returns-in_ok-index-in-Item-clause-moment t c =
    rw (c.in-Item.is, aim-item, behind-chain, behind-ends, ← c.get.ensures) c.in_ok-index-in-Item.ensures.moment
