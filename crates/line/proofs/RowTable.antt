-- The code's table has the specification's rows, whose numbers stand for the pieces of each form, and behind them the byte of each mnemonic.
-- One equation of the whole table, computed, gives the rule at each row and at each mnemonic. Each form by itself.
use mathlib.Core.Path.{◌≡◌, refl, sym, ap, ◌∙◌}
use mathlib.Core.Bool.{Bool}
use mathlib.Core.List.{List, [], map}
use Prim.Native.Nat.{ℕ, ◌+◌, ◌*◌, ◌<◌, ◌≤◌}
use native.Mathlib.Omega.{arith}
use lib.Dec.{T, ltb, ltb→lt}
use lib.ListN.{length, get_or, take, drop}
use lib.Seq.{get_or-drop}
use Rattle.lists.specs.Entries.{tab, entry}
use Rattle.lists.specs.Choice.{all_below}
use Rattle.lists.specs.Below.{below_at}
use Rattle.tokens.specs.Words.{word_token, words}
use Rattle.line.specs.Forms.{Piece, Form, row_of}
use Rattle.line.specs.Forms.Form.{assign, cast_u32, cast_u64, cast_i32, cast_i64, take_address, store_zero, store_ones, add_to, subtract, and_with, or_with, xor_with, shift_left, shift_right, rotate_left, rotate_right, increment, decrement, negation, complement, multiply_two, multiply_by, pop_value, call_target, call_memory, call_through, return_value, return_nothing, tail_call_memory, computed_jump, set_condition, move_if, compare_exchange, exchange_first, exchange_second, time_stamp, cpu_identify, fast_fail, assembly_line, label, open_do, open_if, goto_if, close_while, close, goto, tail_call_target}
use Rattle.line.specs.Codes.{piece_of, form_number, codes, codes_of, form_byte, row_bytes}

-- what the code reads of a table as row k
abbrev row_in : List ℕ → ℕ → List ℕ
row_in t k = take (get_or t (16 * k) 0) (drop (16 * k + 1) t)

whole : tab (row_in row_bytes) 0 48 ≡ codes
unfolding row_bytes codes
whole = refl

size : length row_bytes ≡ 1024
unfolding row_bytes codes
size = refl

pub size_of : (t : List ℕ) → t ≡ row_bytes → length t ≡ 1024
size_of t e = ap length e ∙ size

pub codes_in_lem : (t : List ℕ) (k : ℕ) → t ≡ row_bytes → k < 48 → row_in t k ≡ codes_of k
unfolding codes_of
codes_in_lem t k e h = ap (λ (l : List ℕ). row_in l k) e ∙ entry (row_in row_bytes) 48 codes [] whole k h

-- each row is within the table
row_short : (k : ℕ) → k < 48 → get_or row_bytes (16 * k) 0 < 16
unfolding row_bytes codes
row_short k h = ltb→lt _ _ (below_at (λ k. ltb (get_or row_bytes (16 * k) 0) 16) 48 tt k h)

pub row_end : (t : List ℕ) (k : ℕ) → t ≡ row_bytes → k < 48 → 16 * k + 1 + get_or t (16 * k) 0 ≤ length t
row_end t k e h = rw e (omega (arith, row_short k h, size))

-- the byte of each mnemonic
behind : drop 768 row_bytes ≡ tab form_byte 0 256
unfolding row_bytes codes
behind = refl

pub byte_in : (m : ℕ) → m < 256 → get_or row_bytes (768 + m) 0 ≡ form_byte m
byte_in m l = sym (get_or-drop 768 row_bytes m 0) ∙ sym (entry form_byte 256 (drop 768 row_bytes) 0 (sym behind) m l)

-- each form's number is a row's, and the numbers there stand for its pieces
numbered : (f : Form) → T (ltb (form_number f) 48) × (map piece_of (codes_of (form_number f)) ≡ row_of f)
unfolding codes_of codes form_number piece_of word_token words row_of
numbered assign = (tt, refl)
numbered cast_u32 = (tt, refl)
numbered cast_u64 = (tt, refl)
numbered cast_i32 = (tt, refl)
numbered cast_i64 = (tt, refl)
numbered take_address = (tt, refl)
numbered store_zero = (tt, refl)
numbered store_ones = (tt, refl)
numbered add_to = (tt, refl)
numbered subtract = (tt, refl)
numbered and_with = (tt, refl)
numbered or_with = (tt, refl)
numbered xor_with = (tt, refl)
numbered shift_left = (tt, refl)
numbered shift_right = (tt, refl)
numbered rotate_left = (tt, refl)
numbered rotate_right = (tt, refl)
numbered increment = (tt, refl)
numbered decrement = (tt, refl)
numbered negation = (tt, refl)
numbered complement = (tt, refl)
numbered multiply_two = (tt, refl)
numbered multiply_by = (tt, refl)
numbered pop_value = (tt, refl)
numbered call_target = (tt, refl)
numbered call_memory = (tt, refl)
numbered call_through = (tt, refl)
numbered return_value = (tt, refl)
numbered return_nothing = (tt, refl)
numbered tail_call_memory = (tt, refl)
numbered computed_jump = (tt, refl)
numbered set_condition = (tt, refl)
numbered move_if = (tt, refl)
numbered compare_exchange = (tt, refl)
numbered exchange_first = (tt, refl)
numbered exchange_second = (tt, refl)
numbered time_stamp = (tt, refl)
numbered cpu_identify = (tt, refl)
numbered fast_fail = (tt, refl)
numbered assembly_line = (tt, refl)
numbered label = (tt, refl)
numbered open_do = (tt, refl)
numbered open_if = (tt, refl)
numbered goto_if = (tt, refl)
numbered close_while = (tt, refl)
numbered close = (tt, refl)
numbered goto = (tt, refl)
numbered tail_call_target = (tt, refl)

pub form_below : (n : ℕ) (f : Form) → n ≡ form_number f → n < 48
form_below n f e = rw e (ltb→lt _ _ (numbered f).0)

pub pieces_are : (f : Form) → map piece_of (codes_of (form_number f)) ≡ row_of f
pieces_are f = (numbered f).1

-- a test that all rows pass, computed, each form's passes
pub every_row : (q : List Piece → Bool) → T (all_below (λ k. q (map piece_of (codes_of k))) 48) → (f : Form) → T (q (row_of f))
every_row q t f = rw (← pieces_are f) (below_at (λ k. q (map piece_of (codes_of k))) 48 t (form_number f) (form_below (form_number f) f refl))
