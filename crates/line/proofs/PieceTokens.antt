-- The tokens of each piece, as the code finds the piece by its number, and of a row of them.
-- A number is one of a few, at which the piece computes; one turn of a row pushes the piece in front.
use mathlib.Core.Path.{◌≡◌, refl, ap}
use mathlib.Core.Bool.{true, false}
use mathlib.Core.List.{List, [], ◌∷◌, ◌++◌, map}
use Prim.Native.Nat.{ℕ, ◌+◌, ◌-◌, ◌≤◌, ◌<◌}
use native.Mathlib.Numerals.{add-one}
use native.Mathlib.Omega.{arith}
use lib.ListN.{length, drop, get_or, drop_of_length-le, get_or-eq_default}
use lib.Seq.{drop-cons}
use borrow.Author.Tests.{lt-ltb, le-ltb}
use Rattle.tokens.specs.Token.{register, symbol}
use Rattle.tokens.specs.Words.{word_token, words, prefixed}
use Rattle.x86.specs.Registers.{register_name, register_names}
use Rattle.x86.specs.Width.{return_register}
use Rattle.x86.specs.Conditions.{negate}
use Rattle.record.specs.declared.header.Header.{Header}
use Rattle.record.specs.Layout.{starts_of}
use Rattle.record.specs.Blocks.{start_at}
use Rattle.record.specs.Body.{condition_of, operand_number}
use Rattle.operand.specs.Memory.{number, mem_tokens, register_token}
use Rattle.operand.specs.Names.{name_or}
use Rattle.operand.specs.Operand.{op_tokens}
use Rattle.expressions.specs.Condition.{body_of, condition_tokens}
use Rattle.expressions.specs.Arguments.{argument_tokens}
use Rattle.line.specs.declared.pieces.Site.{Site}
use Rattle.line.specs.Forms.Piece.{zeros}
use Rattle.line.specs.Codes.{specials, piece_of, codes_of}
use Rattle.line.specs.Print.{assembly_tokens, piece_tokens, pieces_tokens}

rax : register_token 0x50 ≡ register "rax"
unfolding register_name register_names
rax = refl

eax : register_token 0x40 ≡ register "eax"
unfolding register_name register_names
eax = refl

ecx : register_token 0x41 ≡ register "ecx"
unfolding register_name register_names
ecx = refl

loc_word : word_token 94 ≡ symbol "loc_"
unfolding word_token words
loc_word = refl

sub_word : word_token 95 ≡ symbol "sub_"
unfolding word_token words
sub_word = refl

module _ (h : Header) (s : List ℕ) (site : Site) (b : ℕ) where
  pub is_word : b < 102 → word_token b ∷ [] ≡ piece_tokens h s site (piece_of b)
  unfolding piece_of piece_tokens
  is_word l = rw (lt-ltb b 102 l)

  pub is_zeros_lem : b ≡ 137 → number false 0 ∷ [] ≡ piece_tokens h s site (piece_of b)
  unfolding piece_of piece_tokens
  is_zeros_lem e = rw e

  pub is_ones : b ≡ 138 → number true 1 ∷ [] ≡ piece_tokens h s site (piece_of b)
  unfolding piece_of piece_tokens
  is_ones e = rw e

  pub is_arguments : b ≡ 141 → argument_tokens h s site.range site.at site.written ≡ piece_tokens h s site (piece_of b)
  unfolding piece_of piece_tokens
  is_arguments e = rw e

  pub is_start_lem : (l : List ℕ) (v : ℕ) → l ≡ starts_of h s → v ≡ start_at l site.place → b ≡ 144 → prefixed (word_token 94) v ∷ [] ≡ piece_tokens h s site (piece_of b)
  unfolding piece_of piece_tokens
  is_start_lem l v p q e = rw (q, p, e, loc_word)

  pub is_accumulator : b ≡ 145 → register_token (return_register h.bits) ∷ [] ≡ piece_tokens h s site (piece_of b)
  unfolding piece_of piece_tokens
  is_accumulator e = rw e

  pub is_first_fixed : b ≡ 147 → register_token 0x50 ∷ [] ≡ piece_tokens h s site (piece_of b)
  unfolding piece_of piece_tokens
  is_first_fixed e = rw (e, rax)

  pub is_second_fixed : b ≡ 148 → register_token 0x40 ∷ [] ≡ piece_tokens h s site (piece_of b)
  unfolding piece_of piece_tokens
  is_second_fixed e = rw (e, eax)

  pub is_third_fixed : b ≡ 149 → register_token 0x41 ∷ [] ≡ piece_tokens h s site (piece_of b)
  unfolding piece_of piece_tokens
  is_third_fixed e = rw (e, ecx)

  pub is_past : 150 ≤ b → number false 0 ∷ [] ≡ piece_tokens h s site (piece_of b)
  unfolding piece_of piece_tokens
  is_past l =
      let n : length specials ≤ b - 136 = omega arith in
      rw (le-ltb b 102 (omega arith), le-ltb b 136 (omega arith), get_or-eq_default specials zeros n)

  -- t is the body of the site's instruction
  module _ (t : List ℕ) (p : t ≡ body_of h s site.at) where
    pub is_operand : (k : ℕ) → 102 ≤ b → b < 136 → k ≡ b - 128 → op_tokens h s t k ≡ piece_tokens h s site (piece_of b)
    unfolding piece_of piece_tokens
    is_operand k l m e = rw (le-ltb b 102 l, lt-ltb b 136 m, e, p)

    pub is_address : b ≡ 136 → mem_tokens h s false t ≡ piece_tokens h s site (piece_of b)
    unfolding piece_of piece_tokens
    is_address e = rw (p, e)

    pub is_condition : (cc : ℕ) → cc ≡ condition_of t → b ≡ 139 → condition_tokens h s site.first site.at cc ≡ piece_tokens h s site (piece_of b)
    unfolding piece_of piece_tokens
    is_condition cc q e = rw (q, p, e)

    pub is_negated : (cc n : ℕ) → cc ≡ condition_of t → n ≡ negate cc → b ≡ 140 → condition_tokens h s site.first site.at n ≡ piece_tokens h s site (piece_of b)
    unfolding piece_of piece_tokens
    is_negated cc n q r e = rw (r, q, p, e)

    pub is_loc : (v : ℕ) → v ≡ operand_number t 0 → b ≡ 142 → name_or h s v (word_token 94) ∷ [] ≡ piece_tokens h s site (piece_of b)
    unfolding piece_of piece_tokens
    is_loc v q e = rw (q, p, e, loc_word)

    pub is_sub : (v : ℕ) → v ≡ operand_number t 0 → b ≡ 143 → name_or h s v (word_token 95) ∷ [] ≡ piece_tokens h s site (piece_of b)
    unfolding piece_of piece_tokens
    is_sub v q e = rw (q, p, e, sub_word)

    pub is_assembly : b ≡ 146 → assembly_tokens h s t ≡ piece_tokens h s site (piece_of b)
    unfolding piece_of piece_tokens
    is_assembly e = rw (p, e)

pub row_step : (h : Header) (s : List ℕ) (site : Site) (cs : List ℕ) (i : ℕ) → i < length cs
    → pieces_tokens h s site (map piece_of (drop i cs)) ≡ piece_tokens h s site (piece_of (get_or cs i 0)) ++ pieces_tokens h s site (map piece_of (drop (i + 1) cs))
unfolding pieces_tokens
row_step h s site cs i l = rw (drop-cons cs i 0 l, add-one)

pub row_done : (h : Header) (s : List ℕ) (site : Site) (cs : List ℕ) (i : ℕ) → length cs ≤ i → pieces_tokens h s site (map piece_of (drop i cs)) ≡ []
unfolding pieces_tokens
row_done h s site cs i l = rw (drop_of_length-le cs l)

pub row_all : (h : Header) (s : List ℕ) (site : Site) (cs : List ℕ) (form : ℕ) → cs ≡ codes_of form → pieces_tokens h s site (map piece_of (drop 0 cs)) ≡ pieces_tokens h s site (map piece_of (codes_of form))
row_all h s site cs form e = ap (λ (x : List ℕ). pieces_tokens h s site (map piece_of x)) e
