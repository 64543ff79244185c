-- What it is to code tokens. A list of codes begins with five numbers that tell what is coded: bytes, tokens, codes, the kind of the line's
-- last token (255 at its start), and 1 where all counts as Text. Behind them stand the codes. Sums wrap at 2^64.
use Rattle.std.specs.Prelude.{◌≡◌, ℕ, suc, ◌+◌, ◌*◌, ◌%◌, ◌<◌, ◌≤◌, Bool, false, ◌&&◌, List, [], ◌∷◌, ◌++◌, length, drop, ◌==◌, slice_index}
use Rattle.lists.specs.Choice.{pick}
use Rattle.lists.specs.Put.{put}
use Rattle.tokens.specs.Token.{Token}
use Rattle.tokens.specs.Token.{joining, as_text}
use Rattle.tokens.specs.Listing.{text_of}
use Rattle.codes.specs.Code.{Event, code_of, line_end, all_in_table, decode}
use Rattle.codes.specs.Code.Event.{tok}

abbrev pub wrap : ℕ → ℕ
wrap n = n % 18446744073709551616

abbrev pub bytes_in : List ℕ → ℕ
bytes_in c = slice_index c 0

abbrev pub tokens_in : List ℕ → ℕ
tokens_in c = slice_index c 1

abbrev pub count_in : List ℕ → ℕ
count_in c = slice_index c 2

abbrev pub last_in : List ℕ → ℕ
last_in c = slice_index c 3

abbrev pub is_plain : List ℕ → Bool
is_plain c = slice_index c 4 == 1

-- the codes behind the five
abbrev pub codes_in : List ℕ → List ℕ
codes_in c = drop 5 c

-- "Adjacent Punct tokens join, adjacent Text tokens join, others never": a token of kind k behind one of kind `last`
abbrev pub joins_last : ℕ → ℕ → Bool
joins_last last k = k == last && joining k

-- tokens as they count: as they are, or as Text
unfoldable pub counted : Bool → List Token → List Token
counted plain [] = []
counted plain (t ∷ ts) = pick plain (as_text t) t ∷ counted plain ts

-- the kind of the last token, behind one of kind `last`
unfoldable pub last_kind : ℕ → List Token → ℕ
last_kind last [] = last
last_kind last (t ∷ ts) = last_kind t.kind ts

-- how many tokens do not join the one before
unfoldable pub fresh : ℕ → List Token → ℕ
fresh last [] = 0
fresh last (t ∷ ts) = pick (joins_last last t.kind) 0 1 + fresh t.kind ts

-- what tokens are in codes
unfoldable pub marked : ℕ → List Token → List Event
marked last [] = []
marked last (t ∷ ts) = tok (joins_last last t.kind) t ∷ marked t.kind ts

-- The list c became c': the codes of the tokens ts stand behind those before, as far as the list goes, and are counted. Whatever codes come
-- behind, these read as the tokens, and those whose text is of the table lie within it.
pub record Coded (t s c c' : List ℕ) (ts : List Token) : Type 0 where
  pub cells : List ℕ
  pub bytes : bytes_in c' ≡ wrap (bytes_in c + length (text_of ts))
  pub tokens : tokens_in c' ≡ wrap (tokens_in c + fresh (last_in c) (counted (is_plain c) ts))
  pub count : count_in c' ≡ wrap (count_in c + length cells)
  pub last : last_in c' ≡ last_kind (last_in c) (counted (is_plain c) ts)
  pub plain : is_plain c' ≡ is_plain c
  pub codes : count_in c + length cells < 18446744073709551616 → codes_in c' ≡ put (count_in c) cells (codes_in c)
  pub reads : (r : List ℕ) → decode t s (cells ++ r) ≡ marked (last_in c) (counted (is_plain c) ts) ++ decode t s r
  pub within : (r : List ℕ) → all_in_table (length t) (cells ++ r) ≡ all_in_table (length t) r
  pub few : length cells ≤ 2 * length ts

-- the kind that a token of kind k counts as
abbrev pub kind_on : List ℕ → ℕ → ℕ
kind_on c k = pick (is_plain c) 0 k

-- One code more, with values behind it: of a token of kind k and so many bytes.
pub record Added (c c' : List ℕ) (k what size place bytes : ℕ) (values : List ℕ) : Type 0 where
  pub counted_bytes : bytes_in c' ≡ wrap (bytes_in c + bytes)
  pub counted_tokens : tokens_in c' ≡ wrap (tokens_in c + pick (joins_last (last_in c) (kind_on c k)) 0 1)
  pub counted_codes : count_in c' ≡ wrap (count_in c + suc (length values))
  pub last : last_in c' ≡ kind_on c k
  pub plain : is_plain c' ≡ is_plain c
  pub codes : codes_in c' ≡ put (count_in c) (code_of (kind_on c k) (joins_last (last_in c) (kind_on c k)) what size place ∷ values) (codes_in c)

-- The end of a line more.
pub record Ended (c c' : List ℕ) : Type 0 where
  pub same_bytes : bytes_in c' ≡ bytes_in c
  pub same_tokens : tokens_in c' ≡ tokens_in c
  pub counted_codes : count_in c' ≡ wrap (suc (count_in c))
  pub last : last_in c' ≡ 255
  pub plain : is_plain c' ≡ is_plain c
  pub codes : codes_in c' ≡ put (count_in c) (code_of 0 false line_end 0 0 ∷ []) (codes_in c)

-- Nothing is coded yet.
pub record Started (c : List ℕ) : Type 0 where
  pub no_bytes : bytes_in c ≡ 0
  pub no_tokens : tokens_in c ≡ 0
  pub no_codes : count_in c ≡ 0
  pub last : last_in c ≡ 255
  pub plain : is_plain c ≡ false

-- All from here on counts as Text, or no more.
pub record Plain (c c' : List ℕ) (plain : Bool) : Type 0 where
  pub same_bytes : bytes_in c' ≡ bytes_in c
  pub same_tokens : tokens_in c' ≡ tokens_in c
  pub same_count : count_in c' ≡ count_in c
  pub last : last_in c' ≡ last_in c
  pub now_plain : is_plain c' ≡ plain
  pub codes : codes_in c' ≡ codes_in c
