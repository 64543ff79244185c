-- An instruction's body, and what question 8 asks of it. Each definition speaks of the part that begins at the body.
use Rattle.std.specs.Prelude.{ℕ, ◌+◌, ◌*◌, List, Bool, not, ◌&&◌, ◌||◌, drop, leb, eqb}
use Rattle.std.specs.Bool.{beq}
use Rattle.lists.specs.Bytes.{u8_at, u16_at, u64_at}
use Rattle.lists.specs.Choice.{pick, all_below}
use Rattle.x86.specs.Mnemonics.{setcc, cmovcc}
use Rattle.x86.specs.Registers.{register_exists}

-- "I u64 addresses; I bodies of 92 bytes"
abbrev pub address_at : List ℕ → ℕ → ℕ
address_at addresses i = u64_at addresses (8 * i)

abbrev pub body_at : List ℕ → ℕ → List ℕ
body_at bodies i = drop (92 * i) bodies

-- "u8 mnemonic, condition, operand count, skip mark (0 or 1); u8 segment, base, index, scale; u16 memory size in bytes;
-- u64 memory address; five operands of u8 kind, u8 register, u64 number; 24 bytes of name"
abbrev pub mnemonic_of : List ℕ → ℕ
mnemonic_of b = u8_at b 0

abbrev pub condition_of : List ℕ → ℕ
condition_of b = u8_at b 1

abbrev pub operand_count : List ℕ → ℕ
operand_count b = u8_at b 2

abbrev pub skip_mark : List ℕ → ℕ
skip_mark b = u8_at b 3

abbrev pub segment_of : List ℕ → ℕ
segment_of b = u8_at b 4

abbrev pub base_of : List ℕ → ℕ
base_of b = u8_at b 5

abbrev pub index_of : List ℕ → ℕ
index_of b = u8_at b 6

abbrev pub scale_of : List ℕ → ℕ
scale_of b = u8_at b 7

abbrev pub memory_size : List ℕ → ℕ
memory_size b = u16_at b 8

abbrev pub memory_address : List ℕ → ℕ
memory_address b = u64_at b 10

-- where operand i stands in a body
abbrev pub operand_at : ℕ → ℕ
operand_at i = 18 + 10 * i

abbrev pub operand_kind : List ℕ → ℕ → ℕ
operand_kind b i = u8_at b (operand_at i)

-- a condition, "and, as first operand, a near branch", read from its slot
abbrev pub is_conditional_branch : List ℕ → Bool
is_conditional_branch b = not (eqb (condition_of b) 0) && eqb (operand_kind b 0) 2

abbrev pub register_byte : List ℕ → ℕ → ℕ
register_byte b i = u8_at b (operand_at i + 1)

-- "its register byte counts as 0 unless its kind is 0"
abbrev pub operand_register : List ℕ → ℕ → ℕ
operand_register b i = pick (eqb (operand_kind b i) 0) (register_byte b i) 0

abbrev pub operand_number : List ℕ → ℕ → ℕ
operand_number b i = u64_at b (operand_at i + 2)

abbrev pub name_of : List ℕ → List ℕ
name_of b = drop 68 b

-- "Mnemonics 0 to 45; conditions 0 to 16, non-zero for setcc and cmovcc, zero for other mnemonics above 0"
abbrev pub sets_by_condition : ℕ → Bool
sets_by_condition m = eqb m setcc || eqb m cmovcc

abbrev pub condition_ok : ℕ → ℕ → Bool
condition_ok m c = leb m 45 && leb c 16 && (eqb m 0 || beq (sets_by_condition m) (not (eqb c 0)))

-- "scale 1, 2, 4 or 8"
abbrev pub scale_ok : ℕ → Bool
scale_ok k = eqb k 1 || eqb k 2 || eqb k 4 || eqb k 8

-- "registers (.. operands of every kind) exist", "kinds ≤ 11"
unfoldable pub operand_ok : List ℕ → ℕ → Bool
operand_ok b i = leb (operand_kind b i) 11 && register_exists (register_byte b i)

-- "operand count ≤ 5; skip 0 or 1; registers .. exist"
unfoldable pub fixed_ok : List ℕ → Bool
fixed_ok b =
    condition_ok (mnemonic_of b) (condition_of b)
    && leb (operand_count b) 5
    && leb (skip_mark b) 1
    && register_exists (segment_of b)
    && register_exists (base_of b)
    && register_exists (index_of b)
    && scale_ok (scale_of b)

abbrev pub name_byte : ℕ → Bool
name_byte c = (leb 97 c && leb c 122) || (leb 48 c && leb c 57) || eqb c 95

-- a byte of a name is a letter, a digit or `_` behind another such, or a zero
abbrev pub name_goes_on : List ℕ → ℕ → Bool
name_goes_on n k = eqb (u8_at n (k + 1)) 0 || (name_byte (u8_at n (k + 1)) && not (eqb (u8_at n k) 0))

-- "name 1 to 24 of a-z 0-9 `_` then zeros for mnemonic 0"
unfoldable pub is_name : List ℕ → Bool
is_name n = name_byte (u8_at n 0) && all_below (name_goes_on n) 23

-- "all zeros otherwise"
unfoldable pub is_zeros : List ℕ → Bool
is_zeros n = all_below (λ k. eqb (u8_at n k) 0) 24

unfoldable pub operands_ok : List ℕ → Bool
operands_ok b = all_below (operand_ok b) 5

unfoldable pub body_ok : List ℕ → Bool
body_ok b =
    fixed_ok b && operands_ok b
    && pick (eqb (mnemonic_of b) 0) (is_name (name_of b)) (is_zeros (name_of b))

-- "8. Mnemonics 0 to 45; .. registers (frame too, ..) exist; .. ?"
unfoldable pub bodies_ok : List ℕ → ℕ → Bool
bodies_ok bodies I = all_below (λ i. body_ok (body_at bodies i)) I
