-- Lines of a listing of a record that is accepted: so few of them, and each so short, that sizes fit u32 and any one of them a list of 16,384 codes.
use Rattle.std.specs.Prelude.{ℕ, ◌≤◌, List, [], ◌∷◌, length}
use Rattle.tokens.specs.Token.{Token}
use Rattle.tokens.specs.Listing.{bytes_of, pushes_of}

-- no line has more than n tokens
abbrev pub Short : ℕ → List (List Token) → Type 0
Short n [] = Unit {0}
Short n (l ∷ ls) = (length l ≤ n) × Short n ls

pub record Fits (ls : List (List Token)) : Type 0 where
  pub bytes : bytes_of ls ≤ 0xffff_ffff
  pub tokens : pushes_of ls ≤ 0xffff_ffff
  pub lines : length ls ≤ 900
  pub each : Short 8189 ls
