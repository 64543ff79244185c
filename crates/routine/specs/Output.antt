-- What the program prints of a number: the small routine's record, or `no` and 18.
use Rattle.std.specs.Prelude.{ℕ, ◌<◌, List, ◌++◌, ◌≡◌}
use Rattle.text.specs.Decimal.{decimal_text}
use Rattle.page.specs.Page.{lf, refusal}
use Rattle.routines.specs.Numbered.{routine_at}
use Rattle.routines.specs.Written.{record_of}

-- a number in decimal, with no leading zero; LF may end it
pub data Says (s : List ℕ) (k : ℕ) : Type 0 where
  bare : s ≡ decimal_text k → Says s k
  line : s ≡ decimal_text k ++ lf → Says s k

-- What the program promises of the bytes that it prints for an input.
pub record Prints (s out : List ℕ) : Type 0 where
  pub made : (k : ℕ) → k < 276 → Says s k → out ≡ record_of (routine_at k)
  -- "18 if a number of 276 or more is asked for", and of a text that is no number
  pub refused : ((k : ℕ) → k < 276 → Says s k → ⊥) → out ≡ refusal 18
