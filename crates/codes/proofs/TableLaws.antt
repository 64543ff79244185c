-- What the table holds: the words first, then registers and mnemonics, each text behind its length.
-- One equation of the words, computed; behind them stands the table of registers and mnemonics.
use Rattle.std.proofs.Common.{◌≡◌, ℕ, zero, suc, ◌+◌, ◌*◌, ◌<◌, ◌≤◌, Bool, eqb, ltb, List, [], ◌∷◌, ◌++◌, length, get_or, drop, sym, refl, ◌∙◌, arith, eqb→eq, ltb→lt, length-append}
use lib.ListN.{get_or-eq_default}
use Rattle.lists.specs.Below.{below_at}
use Rattle.lists.specs.Bytes.{u8_at}
use Rattle.lists.specs.Entries.{entry}
use Rattle.tokens.specs.Token.{Token, token}
use Rattle.tokens.specs.Words.{words, word_token, word_bytes}
use Rattle.tokens.proofs.Rows.{size}
use Rattle.x86.specs.Table.{register_table, mnemonic_table, condition_table, isa_bytes, text_at}
use Rattle.x86.specs.Registers.{register_names, register_name}
use Rattle.x86.specs.Mnemonics.{mnemonic_names, mnemonic_name}
use Rattle.x86.proofs.Columns.{register_spelt, mnemonic_spelt}
use Rattle.codes.specs.Tables.{table_bytes}

-- word w as the code reads it
unfoldable row : ℕ → Token
row w = token (u8_at table_bytes (32 * w)) (text_at table_bytes (32 * w + 1))

word_row : (w : ℕ) → w < 102 → row w ≡ word_token w
unfolding row word_token table_bytes word_bytes words
word_row w h = entry row 102 words (token 0 []) refl w h

-- a text is as long as the number before it says
abbrev sized : List ℕ → ℕ → Bool
sized t at = eqb (u8_at t at) (length (text_at t at))

abbrev Sized : List ℕ → ℕ → Type 0
Sized t at = u8_at t at ≡ length (text_at t at)

-- behind the words
drop_behind : (a b : List ℕ) (n m : ℕ) → m ≡ length a + n → drop m (a ++ b) ≡ drop n b
drop_behind [] b n m e = let q : m ≡ n = omega arith in rw q
drop_behind (x ∷ a) b n zero e = absurd (omega arith)
drop_behind (x ∷ a) b n (suc m) e = drop_behind a b n m (omega arith)

byte_behind : (a b : List ℕ) (n m : ℕ) → m ≡ length a + n → get_or (a ++ b) m 0 ≡ get_or b n 0
byte_behind [] b n m e = let q : m ≡ n = omega arith in rw q
byte_behind (x ∷ a) b n zero e = absurd (omega arith)
byte_behind (x ∷ a) b n (suc m) e = byte_behind a b n m (omega arith)

module _ (at n : ℕ) (e : at ≡ 3264 + n) where
  byte_at : u8_at table_bytes at ≡ u8_at isa_bytes n
  unfolding table_bytes
  byte_at = byte_behind word_bytes isa_bytes n at (omega (arith, size))

  text_at_lem : text_at table_bytes at ≡ text_at isa_bytes n
  unfolding table_bytes
  text_at_lem = rw (byte_behind word_bytes isa_bytes n at (omega (arith, size)), drop_behind word_bytes isa_bytes (n + 1) (at + 1) (omega (arith, size)))

  size_at : Sized isa_bytes n → Sized table_bytes at
  size_at h = byte_at ∙ h ∙ rw text_at_lem

register_sizes : (r : ℕ) → r < 160 → Sized isa_bytes (8 * r)
unfolding isa_bytes register_table register_names register_name
register_sizes r h = eqb→eq _ _ (below_at (λ r. sized isa_bytes (8 * r)) 160 tt r h)

mnemonic_sizes : (m : ℕ) → m < 46 → Sized isa_bytes (1280 + 16 * m)
unfolding isa_bytes register_table mnemonic_table register_names register_name mnemonic_names mnemonic_name
mnemonic_sizes m h = eqb→eq _ _ (below_at (λ m. sized isa_bytes (1280 + 16 * m)) 46 tt m h)

isa_behind : drop 3264 table_bytes ≡ isa_bytes
unfolding table_bytes
isa_behind = drop_behind word_bytes isa_bytes 0 3264 (omega (arith, size))

isa_size : length isa_bytes ≡ 2152
unfolding isa_bytes register_table mnemonic_table condition_table register_names register_name mnemonic_names mnemonic_name
isa_size = refl

pub table_size : length table_bytes ≡ 5416
unfolding table_bytes
table_size = omega (arith, length-append word_bytes isa_bytes, size, isa_size)

-- Registers, mnemonics and conditions, read from the table as it is lent.
pub isa_is : (t r : List ℕ) → t ≡ table_bytes → r ≡ drop 3264 t → r ≡ isa_bytes
isa_is t r e h = h ∙ rw e isa_behind

module _ (w : ℕ) (h : w < 102) where
  pub word_is : token (u8_at table_bytes (32 * w)) (text_at table_bytes (32 * w + 1)) ≡ word_token w
  unfolding row
  word_is = word_row w h

  pub word_kind : u8_at table_bytes (32 * w) < 8
  unfolding table_bytes word_bytes words
  word_kind = ltb→lt _ _ (below_at (λ w. ltb (u8_at table_bytes (32 * w)) 8) 102 tt w h)

  pub word_size : Sized table_bytes (32 * w + 1)
  unfolding table_bytes word_bytes words
  word_size = eqb→eq _ _ (below_at (λ w. sized table_bytes (32 * w + 1)) 102 tt w h)

module _ (r : ℕ) (h : r < 160) where
  pub register_is : text_at table_bytes (3264 + 8 * r) ≡ register_name r
  register_is = text_at_lem _ (8 * r) refl ∙ register_spelt isa_bytes refl r h

  pub register_size_lem : Sized table_bytes (3264 + 8 * r)
  register_size_lem = size_at _ (8 * r) refl (register_sizes r h)

module _ (m : ℕ) (h : m < 46) where
  pub mnemonic_is : text_at table_bytes (4544 + 16 * m) ≡ mnemonic_name m
  mnemonic_is = text_at_lem _ (1280 + 16 * m) (omega arith) ∙ mnemonic_spelt isa_bytes refl m h

  pub mnemonic_size : Sized table_bytes (4544 + 16 * m)
  mnemonic_size = size_at _ (1280 + 16 * m) (omega arith) (mnemonic_sizes m h)

-- past the last word
pub no_word : (w : ℕ) → 102 ≤ w → token 0 [] ≡ word_token w
unfolding word_token words
no_word w h = sym (get_or-eq_default words (token 0 []) h)
