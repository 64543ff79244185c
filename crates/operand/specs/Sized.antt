-- Numbers as "sign and 64-bit size".
use Rattle.std.specs.Prelude.{ℕ, ◌-◌, true, false, ltb, ℤ, nat_abs}
use Rattle.lists.specs.Choice.{pick}
use Rattle.operand.specs.declared.numbers.Sized.{Sized}
use Rattle.operand.specs.Memory.{is_negative}

abbrev pub sized_of : ℤ → Sized
sized_of z = record { negative = is_negative z; size = nat_abs z }

-- a - b
abbrev pub sized_difference : ℕ → ℕ → Sized
sized_difference a b = pick (ltb a b) (record { negative = true; size = b - a }) (record { negative = false; size = a - b })
