-- A number in decimal.
use Rattle.std.specs.Prelude.{List, [], ◌∷◌, ◌++◌, ℕ, zero, suc, ◌+◌, ◌/◌, ◌%◌, ltb}
use Rattle.lists.specs.Choice.{pick}

-- at most k digits of v in decimal, the highest first and with no leading zero: 48 is '0'
unfoldable pub decimal_of : ℕ → ℕ → List ℕ
decimal_of zero v = []
decimal_of (suc k) v = pick (ltb v 10) ((48 + v) ∷ []) (decimal_of k (v / 10) ++ ((48 + v % 10) ∷ []))

-- a number of 64 bits has at most twenty digits
abbrev pub decimal_text : ℕ → List ℕ
decimal_text v = decimal_of 20 v
