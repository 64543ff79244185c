-- `mem`: a memory operand, read (`deref`) or as an address.
use Rattle.std.specs.Prelude.{ℕ, Bool, true, false, not, ◌&&◌, ◌||◌, List, [], ◌∷◌, ◌++◌, eqb, ltb, ℤ, pos, negsuc, ◌+ℤ◌, nat_abs}
use Rattle.lists.specs.Ascii.{ascii}
use Rattle.lists.specs.Choice.{pick}
use Rattle.lists.specs.Signed.{signed_at}
use Rattle.text.specs.Number.{num_text}
use Rattle.tokens.specs.Token.{Token, token, punct, keyword, register}
use Rattle.tokens.specs.Words.{prefixed}
use Rattle.x86.specs.Registers.{register_name, eip, rip, fs, gs}
use Rattle.x86.specs.Width.{stack_pointer, is_stack_pointer, slot_bits, address_bits}
use Rattle.x86.specs.Sizes.{size_type, size_prefix}
use Rattle.record.specs.declared.header.Header.{Header}
use Rattle.record.specs.Body.{segment_of, base_of, index_of, scale_of, memory_size, memory_address}
use Rattle.operand.specs.Expr.{Expr, tight, wrap, binop}
use Rattle.operand.specs.Names.{name_or, is_literal}

abbrev pub is_fs_or_gs : ℕ → Bool
is_fs_or_gs r = eqb r fs || eqb r gs

abbrev pub is_ip : ℕ → Bool
is_ip r = eqb r eip || eqb r rip

abbrev pub is_negative : ℤ → Bool
is_negative (pos n) = false
is_negative (negsuc n) = true

abbrev pub register_token : ℕ → Token
register_token r = token 1 (register_name r)

-- a number as "sign and 64-bit size"
abbrev pub number : Bool → ℕ → Token
number negative n = token 2 (num_text negative n)

-- the read of a segment register's memory, by size
unfoldable pub segment_word : ℕ → ℕ → Token
segment_word seg size =
    pick (eqb seg gs)
    (pick (eqb size 8) (keyword "__readgsqword") (pick (eqb size 4) (keyword "__readgsdword") (keyword "__readgsbyte")))
    (pick (eqb size 8) (keyword "__readfsqword") (pick (eqb size 4) (keyword "__readfsdword") (keyword "__readfsbyte")))

-- `*(uint32_t *)` and so on, and `dword_` and so on, by size
unfoldable pub type_word : ℕ → Token
type_word size = token 3 (ascii "*(" ++ (size_type size ++ ascii " *)"))

unfoldable pub prefix_word : ℕ → Token
prefix_word size = token 4 (size_prefix size)

-- `&` in front of what is not read, but of no literal
abbrev pub address_of : Bool → Token → List Token
address_of true t = t ∷ []
address_of false t = punct "&" ∷ t ∷ []

-- index × scale
abbrev pub scaled : List ℕ → Expr
scaled b =
    pick (ltb 1 (scale_of b))
    (binop (tight (register_token (index_of b) ∷ [])) (punct " * ") (tight (number false (scale_of b) ∷ [])))
    (tight (register_token (index_of b) ∷ []))

-- fs and gs reads: no base, no index
abbrev pub is_segment_read : List ℕ → Bool
is_segment_read b = is_fs_or_gs (segment_of b) && eqb (base_of b) 0 && eqb (index_of b) 0

abbrev pub segment_read : List ℕ → List Token
segment_read b = segment_word (segment_of b) (memory_size b) ∷ punct "(" ∷ number false (memory_address b) ∷ punct ")" ∷ []

-- absolute or by rip or eip: a global
abbrev pub is_global : List ℕ → Bool
is_global b = is_ip (base_of b) || (eqb (base_of b) 0 && eqb (index_of b) 0)

module _ (h : Header) where
  -- "frame register (0 none, equal to nothing)"
  abbrev pub is_frame : ℕ → Bool
  is_frame r = not (eqb r 0) && eqb r h.frame

  -- the frame register with a shift stands for the stack pointer
  abbrev pub is_shifted : List ℕ → Bool
  is_shifted b = eqb h.shifted 1 && is_frame (base_of b) && eqb (index_of b) 0

  unfoldable pub slot_base : List ℕ → ℕ
  slot_base b = pick (is_shifted b) (stack_pointer h.bits) (base_of b)

  -- the displacement of a slot, by the base and the index that are recorded
  unfoldable pub slot_displacement : List ℕ → ℤ
  slot_displacement b = signed_at (slot_bits h.bits (base_of b) (index_of b)) (memory_address b)

  unfoldable pub slot_number : List ℕ → ℤ
  slot_number b = pick (is_shifted b) (slot_displacement b +ℤ h.shift) (slot_displacement b)

  -- a stack slot: by the frame register, or by the stack pointer and not below it
  unfoldable pub is_slot : List ℕ → Bool
  is_slot b =
      eqb (index_of b) 0
      && (is_frame (slot_base b) || is_stack_pointer h.bits (slot_base b))
      && not (is_stack_pointer h.bits (slot_base b) && is_negative (slot_number b))

  -- var_ by the stack pointer or below the frame register, arg_ above it
  unfoldable pub slot_token : List ℕ → Token
  slot_token b = prefixed (pick (is_stack_pointer h.bits (slot_base b) || is_negative (slot_number b)) (register "var_") (register "arg_")) (nat_abs (slot_number b))

  -- the displacement that an address prints: never shifted
  unfoldable pub displacement : List ℕ → ℤ
  displacement b = signed_at (address_bits h.bits (base_of b) (index_of b)) (memory_address b)

  -- base + index × scale
  abbrev pub registers : List ℕ → Expr
  registers b =
      pick (eqb (index_of b) 0) (tight (register_token (slot_base b) ∷ []))
      (pick (eqb (slot_base b) 0) (scaled b) (binop (tight (register_token (slot_base b) ∷ [])) (punct " + ") (scaled b)))

  -- with the displacement where it is not 0
  unfoldable pub address_expr : List ℕ → Expr
  address_expr b =
      pick (eqb (nat_abs (displacement b)) 0) (registers b)
      (binop (registers b) (pick (is_negative (displacement b)) (punct " - ") (punct " + ")) (tight (number false (nat_abs (displacement b)) ∷ [])))

  abbrev pub address : Bool → List ℕ → Expr
  address true b = tight (type_word (memory_size b) ∷ wrap (address_expr b))
  address false b = address_expr b

  module _ (s : List ℕ) where
    abbrev pub global : Bool → List ℕ → List Token
    global deref b = address_of (deref || is_literal h s (memory_address b)) (name_or h s (memory_address b) (prefix_word (memory_size b)))

    unfoldable pub mem_expr : Bool → List ℕ → Expr
    mem_expr deref b =
        pick (is_segment_read b) (tight (segment_read b))
        (pick (is_global b) (tight (global deref b))
        (pick (is_slot b) (tight (address_of deref (slot_token b)))
        (address deref b)))

    -- the tokens of a memory operand, read or as an address
    unfoldable pub mem_tokens : Bool → List ℕ → List Token
    mem_tokens deref b = (mem_expr deref b).tokens
