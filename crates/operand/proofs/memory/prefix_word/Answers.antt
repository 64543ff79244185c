-- `memory::prefix_word` meets its contract.
-- A word behind the first of its kind.
use mathlib.Core.Path.{ap, ◌∙◌}
use Prim.Native.Nat.{◌+◌, ℕ}
use native.Mathlib.Omega.{arith}
use Rattle.tokens.specs.Words.{word_token}
use Rattle.operand.proofs.Choices.{prefix_small}
use Rattle.operand.proofs.WordNames.{prefix_word_lem}
use Rattle.operand.proofs.memory.prefix_word.Goals as goal

pub returns : goal.returns
returns c = let k = prefix_small c.args.size in (ap (λ (n : ℕ). word_token (97 + n)) c.prefix_index.ensures ∙ prefix_word_lem c.args.size, omega (arith, k, c.prefix_index.ensures))
