-- A plan's lines in a list of codes, and in the lent lists.
use Rattle.std.specs.Prelude.{ℕ, ◌+◌, ◌≤◌, true, List, ◌≡◌, length, take}
use Rattle.lists.specs.Put.{put}
use Rattle.tokens.specs.Token.{Token}
use Rattle.tokens.specs.Listing.{Listing}
use Rattle.codes.specs.Code.{all_in_table, decode}
use Rattle.codes.specs.Coded.{count_in, codes_in}
use Rattle.codes.specs.Lines.{of_lines}

-- a list of codes that has room for all of them holds those of the lines ls, and they lie within the table
abbrev pub HoldsLines : (t s c : List ℕ) → List (List Token) → Type 0
HoldsLines t s c ls =
    5 + count_in c ≤ length c → (decode t s (take (count_in c) (codes_in c)) ≡ of_lines ls) × (all_in_table (length t) (take (count_in c) (codes_in c)) ≡ true)

-- lists as long as the listing's
pub record Holds (p : Listing) (x e k l : List ℕ) : Type 0 where
  pub text : length p.text ≤ length x
  pub ends : length p.ends ≤ length e
  pub kinds : length p.kinds ≤ length k
  pub lines : length p.lines ≤ length l

-- what was written from the start of the lists on
pub record Printed (p : Listing) (x x' e e' k k' l l' : List ℕ) : Type 0 where
  pub text : x' ≡ put 0 p.text x
  pub ends : e' ≡ put 0 p.ends e
  pub kinds : k' ≡ put 0 p.kinds k
  pub lines : l' ≡ put 0 p.lines l
