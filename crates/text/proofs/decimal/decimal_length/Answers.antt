-- How many decimal digits a number has: `decimal_length` meets its contract.
-- By its size.
use native.Mathlib.Omega.{arith}
use Rattle.text.proofs.DecimalDigits.{digits_1, digits_2, digits_3, digits_4, digits_5}
use Rattle.text.proofs.decimal.decimal_length.Goals as goal

pub returns-then-n-lt10 : goal.returns-then-n-lt10
returns-then-n-lt10 c = (digits_1 c.args.n (omega arith) c.if-n-lt10.true, omega arith)

pub returns-else-n-lt10 : goal.returns-else-n-lt10
returns-else-n-lt10 c = (digits_2 c.args.n (omega arith) c.if-n-lt10.false c.if-n-lt100.true, omega arith)

pub returns-then-n-lt1000 : goal.returns-then-n-lt1000
returns-then-n-lt1000 c = (digits_3 c.args.n (omega arith) c.if-n-lt100.false c.if-n-lt1000.true, omega arith)

pub returns-then-n-lt10000 : goal.returns-then-n-lt10000
returns-then-n-lt10000 c = (digits_4 c.args.n (omega arith) c.if-n-lt1000.false c.if-n-lt10000.true, omega arith)

pub returns-else-n-lt10000 : goal.returns-else-n-lt10000
returns-else-n-lt10000 c = (digits_5 c.args.n (omega arith) c.if-n-lt10000.false, omega arith)
