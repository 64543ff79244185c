-- `x86::conventions::with_written` sets the bit of a full register, and of no other.
-- A shift below 16 loses nothing at 16 bits.
use Prim.Native.Nat.{◌-◌}
use native.Mathlib.Omega.{arith}
use borrow.Author.Tests.{lt-ltb, le-ltb, lt-leb, le-leb}
use Rattle.x86.specs.Conventions.{with_written}
use Rattle.x86.proofs.Written.{shifted}
use Rattle.x86.proofs.conventions.with_written.Goals as goal

pub returns-then-full-lt80 : goal.returns-then-full-lt80
unfolding with_written
returns-then-full-lt80 c = rw (lt-leb _ _ c.if-full-lt80.true)

pub returns-then-full-lt96 : goal.returns-then-full-lt96
unfolding with_written
returns-then-full-lt96 c = rw (le-leb _ _ c.if-full-lt80.false, lt-ltb _ _ c.if-full-lt96.true, shifted (c.args.full - 80) (omega arith))

pub returns : goal.returns
unfolding with_written
returns c = rw (le-leb _ _ c.if-full-lt80.false, le-ltb _ _ c.if-full-lt96.false)
