-- `op`: the tokens of operand i of a body, read from its slot.
use Rattle.std.specs.Prelude.{ℕ, Bool, true, false, ◌&&◌, ◌||◌, List, [], ◌∷◌, eqb, leb, ltb, ℤ, pos, negsuc, nat_abs}
use Rattle.lists.specs.Choice.{pick}
use Rattle.lists.specs.Signed.{signed_at}
use Rattle.tokens.specs.Token.{Token, plain_text, symbol}
use Rattle.record.specs.declared.header.Header.{Header}
use Rattle.record.specs.Body.{operand_kind, operand_register, operand_number}
use Rattle.operand.specs.Names.{name_or, in_span}
use Rattle.operand.specs.Memory.{register_token, number, mem_tokens}

-- "kinds 6, 9, 10 are read as signed 64-bit and 5, 8 as signed low 32 bits", and by #106 "Kind 7 is now read as the signed low 16 bits"; no
-- other kind is, and its reading is 0, outside the window
unfoldable pub signed_read : ℕ → ℕ → ℤ
signed_read kind v =
    pick (eqb kind 6 || eqb kind 9 || eqb kind 10) (signed_at 64 v)
    (pick (eqb kind 5 || eqb kind 8) (signed_at 32 v)
    (pick (eqb kind 7) (signed_at 16 v) (pos 0)))

-- "from -4096 up to -1 they print negative. All else prints unsigned."
abbrev pub in_window : ℤ → Bool
in_window (pos n) = false
in_window (negsuc n) = ltb n 4096

unfoldable pub immediate_number : ℕ → ℕ → Token
immediate_number kind v = pick (in_window (signed_read kind v)) (number true (nat_abs (signed_read kind v))) (number false v)

module _ (h : Header) (s : List ℕ) where
  -- "An immediate of 0x1000 or more inside a span is a name with `off_`. Otherwise .."
  unfoldable pub immediate : ℕ → ℕ → Token
  immediate kind v = pick (leb 0x1000 v && in_span h s v) (name_or h s v (symbol "off_")) (immediate_number kind v)

  -- "Operand kinds: 0 register, 1 memory, 2 near branch, 3 to 10 immediates .., 11 other"
  unfoldable pub op_tokens : List ℕ → ℕ → List Token
  op_tokens b i =
      let kind = operand_kind b i in
      pick (eqb kind 0) (register_token (operand_register b i) ∷ [])
      (pick (eqb kind 1) (mem_tokens h s true b)
      (pick (eqb kind 2) (name_or h s (operand_number b i) (symbol "loc_") ∷ [])
      (pick (leb kind 10) (immediate kind (operand_number b i) ∷ [])
      (plain_text "?" ∷ []))))
