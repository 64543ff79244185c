-- One text coded alone, from the first code on.
use Rattle.std.specs.Prelude.{ℕ, ◌+◌, ◌≤◌, List, ◌≡◌, length, take}
use Rattle.codes.specs.Code.{decode}
use Rattle.codes.specs.Coded.{bytes_in, count_in, codes_in}
use Rattle.codes.specs.Spelled.{spelled}

-- the list c holds all its codes, and their text is x
pub record Alone (t s c x : List ℕ) : Type 0 where
  pub bytes : bytes_in c ≡ length x
  pub fits : 5 + count_in c ≤ length c
  pub text : spelled (decode t s (take (count_in c) (codes_in c))) ≡ x
