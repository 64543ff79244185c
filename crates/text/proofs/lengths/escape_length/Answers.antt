-- `lengths::escape_length` meets its contract.
-- A byte with a code; all else the check finds.
use native.Mathlib.Omega.{arith}
use Prim.Native.Nat.{◌+◌}
use mathlib.Core.Path.{◌≡◌}
use mathlib.Core.Bool.{false}
use lib.ListN.{length, length-append}
use Rattle.text.specs.Literal.{unseen, code_text, escape}
use Rattle.text.specs.LiteralBounds.{escape_short}
use Rattle.text.proofs.LiteralLaws.{escape_code}
use Rattle.text.proofs.lengths.escape_length.Goals as goal
use Rattle.text.proofs.lengths.escape_length.Goals.{in-127-1, in_default+then-b-lt9, in_default+else-b-lt9+else-b-lt11+then-b-lt32}

pub returns-in-0-to-31 : goal.returns-in-0-to-31
unfolding unseen code_text
returns-in-0-to-31 c =
    let b = c.args.b in
    let e : escape b ≡ code_text b = elim c.in-0-to-31-1.branch [
      | in-127-1 w ↦ grind (arith, escape_code)
      | in_default+then-b-lt9 w ↦ grind (arith, escape_code)
      | in_default+else-b-lt9+else-b-lt11+then-b-lt32 w ↦ grind (arith, escape_code)
    ] in
    let f : 4 + c.hex_count.result ≡ length (escape b) = rw e (simp length-append (omega (arith, c.hex_count.ensures.0 false))) in
    (f, omega (arith, f, escape_short b))
