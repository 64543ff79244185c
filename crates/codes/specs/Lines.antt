-- What it is to code lines: the tokens of each, and its end.
use Rattle.std.specs.Prelude.{◌≡◌, ℕ, ◌+◌, ◌*◌, ◌<◌, ◌≤◌, false, List, [], ◌∷◌, ◌++◌, length}
use Rattle.lists.specs.Put.{put}
use Rattle.tokens.specs.Token.{Token}
use Rattle.tokens.specs.Listing.{all, bytes_of, pushes_of}
use Rattle.codes.specs.Code.{Event, all_in_table, decode}
use Rattle.codes.specs.Code.Event.{end}
use Rattle.codes.specs.Coded.{wrap, bytes_in, tokens_in, count_in, last_in, is_plain, codes_in, marked}

-- lines of tokens in codes: each begins anew, and has an end
unfoldable pub of_lines : List (List Token) → List Event
of_lines [] = []
of_lines (l ∷ ls) = marked 255 l ++ end ∷ of_lines ls

-- a list of codes at the start of a line: no token before the next one, and none counts as Text
pub record AtLine (c : List ℕ) : Type 0 where
  pub last : last_in c ≡ 255
  pub plain : is_plain c ≡ false

-- The list c became c': the codes of the lines ls stand behind those before, as far as the list goes, and are counted.
pub record CodedLines (t s c c' : List ℕ) (ls : List (List Token)) : Type 0 where
  pub cells : List ℕ
  pub bytes : bytes_in c' ≡ wrap (bytes_in c + bytes_of ls)
  pub tokens : tokens_in c' ≡ wrap (tokens_in c + length (all ls))
  pub count : count_in c' ≡ wrap (count_in c + length cells)
  pub next : AtLine c'
  pub codes : count_in c + length cells < 18446744073709551616 → codes_in c' ≡ put (count_in c) cells (codes_in c)
  pub reads : (r : List ℕ) → decode t s (cells ++ r) ≡ of_lines ls ++ decode t s r
  pub within : (r : List ℕ) → all_in_table (length t) (cells ++ r) ≡ all_in_table (length t) r
  pub few : length cells ≤ 2 * pushes_of ls + length ls
