-- The table: an entry a number, made from the definitions. "Constant arrays give spelling, full
-- register, flag effect and conditions by number."
use Rattle.std.specs.Prelude.{ℕ, zero, suc, ◌+◌, ◌-◌, Bool, true, false, not, List, [], ◌∷◌, ◌++◌, length, replicate, take, drop}
use Rattle.lists.specs.Bytes.{u8_at}
use Rattle.x86.specs.Conditions.{relation_after_cmp, relation_after_test, relation_after_other, prints_unsigned, negate}
use Rattle.x86.specs.Mnemonics.{mnemonic_name, writes_flags}
use Rattle.x86.specs.Registers.{register_exists, register_name, full_register, register_size}

-- a text's length, its bytes, and zeros up to n bytes
abbrev pub padded : ℕ → List ℕ → List ℕ
padded n t = length t ∷ t ++ replicate (n - length t) 0

abbrev pub bit : Bool → ℕ
bit true = 1
bit false = 0

-- 8 bytes
abbrev pub register_entry : ℕ → List ℕ
register_entry r = padded 5 (register_name r) ++ (full_register r ∷ register_size r ∷ [])

-- 16 bytes
abbrev pub mnemonic_entry : ℕ → List ℕ
mnemonic_entry m = padded 14 (mnemonic_name m) ++ (bit (writes_flags m) ∷ [])

-- 8 bytes
abbrev pub condition_entry : ℕ → List ℕ
condition_entry k =
    relation_after_cmp k ∷ relation_after_test k ∷ relation_after_other k ∷ bit (prints_unsigned k) ∷ negate k ∷ 0 ∷ 0 ∷ 0 ∷ []

-- the entries of the n numbers from i on
abbrev pub entries : (ℕ → List ℕ) → ℕ → ℕ → List ℕ
entries f i zero = []
entries f i (suc n) = f i ++ entries f (suc i) n

unfoldable pub register_table : List ℕ
register_table = entries register_entry 0 160

unfoldable pub mnemonic_table : List ℕ
mnemonic_table = entries mnemonic_entry 0 46

unfoldable pub condition_table : List ℕ
condition_table = entries condition_entry 0 17

-- a byte a number: 1 where no register has it
unfoldable pub missing_table : List ℕ
missing_table = entries (λ r. bit (not (register_exists r)) ∷ []) 0 256

-- the registers at 0, the mnemonics at 1280, the conditions at 2016
unfoldable pub isa_bytes : List ℕ
isa_bytes = register_table ++ (mnemonic_table ++ condition_table)

-- a text as `padded` keeps it: its length, then its bytes
abbrev pub text_at : List ℕ → ℕ → List ℕ
text_at s at = take (u8_at s at) (drop (at + 1) s)
