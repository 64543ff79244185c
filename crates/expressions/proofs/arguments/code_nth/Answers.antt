-- `arguments::code_nth` meets its contract.
-- A register, and a comma in front of it past the first.
use Rattle.expressions.proofs.CodedCommas.{nth_behind}
use Rattle.expressions.proofs.arguments.code_nth.Goals as goal

pub returns-then-k-gt0 : goal.returns-then-k-gt0
returns-then-k-gt0 c s = nth_behind _ _ c.args.k c.argument_register-r.ensures c.if-k-gt0.true (c.code_word.ensures s) (c.code_register.ensures s)
