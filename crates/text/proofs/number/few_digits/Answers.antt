-- `number::few_digits` meets its contract.
-- By how many there are.
use native.Mathlib.Omega.{arith}
use Rattle.text.proofs.DigitLaws.{digits_1, digits_2, digits_3, digits_4}
use Rattle.text.proofs.number.few_digits.Goals as goal

pub returns-then-v-lt16 : goal.returns-then-v-lt16
returns-then-v-lt16 c = (λ l. digits_1 l _ (omega arith), omega arith)

pub returns-else-v-lt16 : goal.returns-else-v-lt16
returns-else-v-lt16 c = (λ l. digits_2 l _ (omega arith) (omega arith), omega arith)

pub returns-then-v-lt4096 : goal.returns-then-v-lt4096
returns-then-v-lt4096 c = (λ l. digits_3 l _ (omega arith) (omega arith), omega arith)

pub returns-else-v-lt4096 : goal.returns-else-v-lt4096
returns-else-v-lt4096 c = (λ l. digits_4 l _ (omega arith) (omega arith), omega arith)
