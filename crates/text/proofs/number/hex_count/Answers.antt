-- `number::hex_count` meets its contract.
-- The digits of what is left by a division, and those that it took away.
use native.Mathlib.Omega.{arith}
use Rattle.text.proofs.DigitLaws.{four_more, eight_more, twelve_more}
use Rattle.text.proofs.number.hex_count.Goals as goal

pub returns-then-v-lt4294967296 : goal.returns-then-v-lt4294967296
returns-then-v-lt4294967296 c = (λ l. omega (arith, c.few_digits-then-v-lt4294967296.ensures.0 l, four_more l c.args.v (omega arith)), omega arith)

pub returns-then-v-lt281474976710656 : goal.returns-then-v-lt281474976710656
returns-then-v-lt281474976710656 c = (λ l. omega (arith, c.few_digits-then-v-lt281474976710656.ensures.0 l, eight_more l c.args.v (omega arith)), omega arith)

pub returns : goal.returns
returns c = (λ l. omega (arith, c.few_digits-2.ensures.0 l, twelve_more l c.args.v (omega arith)), omega arith)
