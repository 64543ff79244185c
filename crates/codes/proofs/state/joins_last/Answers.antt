-- `state::joins_last` meets its contract.
-- One computed test of the bit of each kind.
use Rattle.std.proofs.Common.{◌≡◌, ℕ, ◌/◌, ◌%◌, ◌^◌, ◌<◌, Bool, ◌&&◌, eqb, ap}
use mathlib.Core.Bool.{beq}
use Rattle.lists.specs.Below.{below_at}
use Rattle.lists.specs.Every.{beq→eq}
use Rattle.tokens.specs.Token.{joining}
use Rattle.codes.proofs.state.joins_last.Goals as goal

bit_is : (k : ℕ) → k < 8 → eqb (65 / 2 ^ k % 2) 1 ≡ joining k
bit_is k h = beq→eq _ _ (below_at (λ k. beq (eqb (65 / 2 ^ k % 2) 1) (joining k)) 8 tt k h)

pub returns : goal.returns
returns c = let a = c.args in ap (λ (b : Bool). eqb a.k a.last && b) (bit_is a.k c.requires)
