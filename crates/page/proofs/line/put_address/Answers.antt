-- `line::put_address` meets its contract.
-- Dashes, or zeros and the digits behind them.
use mathlib.Core.Path.{refl, ◌∙◌, ap}
use mathlib.Core.List.{List}
use mathlib.Core.Bool.{true}
use Prim.Native.Nat.{ℕ}
use native.Mathlib.Omega.{arith}
use Rattle.lists.specs.Put.{put}
use Rattle.lists.specs.PutLaws.{put_rest}
use Rattle.page.proofs.Pieces.{dashes, digits_put}
use Rattle.page.proofs.line.put_address.Goals as goal

pub returns-then-mark-lt256 : goal.returns-then-mark-lt256
returns-then-mark-lt256 c = c.put_run.ensures ∙ ap (λ (t : List ℕ). put c.args.at t c.args.out.now) (dashes c.args.mark c.args.address c.if-mark-lt256.true)

pub returns : goal.returns
returns c = digits_put c.args.mark c.args.address c.args.at _ _ _ _ _ c.if-mark-lt256.false (omega (arith, c.hex_count-zeros.ensures.0 true)) c.put_run-2.ensures refl (put_rest _ _ _ _ _ c.min-m.ensures c.put_hex.ensures.text)
