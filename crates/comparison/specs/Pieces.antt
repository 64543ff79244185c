-- What `piece_tokens` answers and leaves in the lent lists.
use Rattle.std.specs.Prelude.{Bool, true, ◌&&◌, List, [], ◌∷◌, ◌≡◌, ℕ, ◌+◌, ◌-◌, ◌*◌, ◌≤◌, eqb, leb, ltb, length, take}
use Rattle.lists.specs.Choice.{pick}
use Rattle.lists.specs.Put.{put}
use Rattle.tokens.specs.Token.{Token}
use Rattle.tokens.specs.Listing.{listing}
use Rattle.codes.specs.Code.{all_in_table, decode}
use Rattle.codes.specs.Coded.{bytes_in, tokens_in, count_in, codes_in}
use Rattle.codes.specs.Lines.{of_lines}
use Rattle.record.specs.declared.header.Header.{Header}
use Rattle.record.specs.Header.{header_of}
use Rattle.record.specs.Asked.{first_no}
use Rattle.operand.specs.Memory.{mem_tokens}
use Rattle.operand.specs.Operand.{op_tokens}
use Rattle.expressions.specs.Condition.{body_of, condition_tokens}

pub record Answer : Type 0 where
  pub text : List ℕ
  pub ends : List ℕ
  pub kinds : List ℕ
  pub sizes : ℕ

abbrev pub answer : List ℕ → List ℕ → List ℕ → ℕ → Answer
answer t e k n = record { text = t; ends = e; kinds = k; sizes = n }

-- the tokens as a line of their own, from the start of the lists on; bytes * 2^32 + tokens
unfoldable pub line_answer : List Token → List ℕ → List ℕ → List ℕ → Answer
line_answer ts t e k =
    let l = listing (ts ∷ []) in
    answer (put 0 l.text t) (put 0 l.ends e) (put 0 l.kinds k) (length l.text * 4294967296 + length l.ends)

-- the lists have room for it
unfoldable pub has_room : List Token → List ℕ → List ℕ → List ℕ → Bool
has_room ts t e k =
    let l = listing (ts ∷ []) in
    leb (length l.text) (length t) && leb (length l.ends) (length e) && leb (length l.ends) (length k)

-- of instruction i, in the block whose first instruction is `first`: 0 to 4 an operand; 5 the memory operand read; 6 to 15 as an
-- address; 16 and above the condition with that number less 16
unfoldable pub chosen_tokens : Header → List ℕ → ℕ → ℕ → ℕ → List Token
chosen_tokens h s first i what =
    pick (leb 16 what) (condition_tokens h s first i (what - 16))
    (pick (ltb what 5) (op_tokens h s (body_of h s i) what) (mem_tokens h s (eqb what 5) (body_of h s i)))

-- every question gets a yes for the whole range, and there is such an instruction
unfoldable pub is_listed : List ℕ → ℕ → Bool
is_listed s i = eqb (first_no s 0 (header_of s).blocks) 0 && ltb i (header_of s).instructions

unfoldable pub exported : List ℕ → ℕ → ℕ → ℕ → List ℕ → List ℕ → List ℕ → Answer
exported s first i what t e k =
    let ts = chosen_tokens (header_of s) s first i what in
    pick (is_listed s i && has_room ts t e k) (line_answer ts t e k) (answer t e k 0)

-- a list of codes that holds those of the tokens ts as a line, within the table, and tells how much they have
pub record LineCoded (t s c : List ℕ) (ts : List Token) : Type 0 where
  pub bytes : bytes_in c ≡ length (listing (ts ∷ [])).text
  pub tokens : tokens_in c ≡ length (listing (ts ∷ [])).ends
  pub short : bytes_in c ≤ 1002
  pub few : tokens_in c ≤ 40
  pub room : 5 + count_in c ≤ length c
  pub codes : decode t s (take (count_in c) (codes_in c)) ≡ of_lines (ts ∷ [])
  pub within : all_in_table (length t) (take (count_in c) (codes_in c)) ≡ true
