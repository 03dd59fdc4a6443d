-- `conjunct::node::filed` meets its contract.
use Rattle.conjunct.proofs.node.FileWords.{filed_constant, filed_reading, filed_rest}
use Rattle.conjunct.proofs.node.filed.Goals as goal

pub returns-then-w-lt-READING : goal.returns-then-w-lt-READING
returns-then-w-lt-READING c = λ types f. filed_constant types c.args.w f c.if-w-lt-READING.true

pub returns-then-w-lt-SUM : goal.returns-then-w-lt-SUM
returns-then-w-lt-SUM c = λ types f. filed_reading types c.args.w f c.if-w-lt-READING.false c.if-w-lt-SUM.true

pub returns : goal.returns
returns c = λ types f. filed_rest types c.args.w f c.if-w-lt-SUM.false
