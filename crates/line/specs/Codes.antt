-- The forms and their pieces as the code has them: a form by its number, a fixed word by its number, other pieces by numbers from 128 on.
use Rattle.std.specs.Prelude.{ℕ, ◌-◌, Bool, ◌&&◌, ◌||◌, List, [], ◌∷◌, ◌++◌, eqb, leb, ltb, get_or, length, replicate}
use Rattle.lists.specs.Choice.{pick}
use Rattle.lists.specs.Entries.{tab}
use Rattle.tokens.specs.Words.{word_token}
use Rattle.x86.specs.Mnemonics as mnemonic
use Rattle.line.specs.Forms.{Piece, Form, reg, loc, sub, plain_form}
use Rattle.line.specs.Forms.Piece.{fixed, op, address, zeros, ones, condition, negated, arguments, start, accumulator, assembly}
use Rattle.line.specs.Forms.Form.{assign, cast_u32, cast_u64, cast_i32, cast_i64, take_address, store_zero, store_ones, add_to, subtract, and_with, or_with, xor_with, shift_left, shift_right, rotate_left, rotate_right, increment, decrement, negation, complement, multiply_two, multiply_by, pop_value, call_target, call_memory, call_through, return_value, return_nothing, tail_call_memory, computed_jump, set_condition, move_if, compare_exchange, exchange_first, exchange_second, time_stamp, cpu_identify, fast_fail, assembly_line, label, open_do, open_if, goto_if, close_while, close, goto, tail_call_target}

-- the pieces from 136 on
abbrev pub specials : List Piece
specials = address ∷ zeros ∷ ones ∷ condition ∷ negated ∷ arguments ∷ loc ∷ sub ∷ start ∷ accumulator ∷ assembly ∷ reg "rax" ∷ reg "eax" ∷ reg "ecx" ∷ []

-- the piece that a number stands for: a word below 102, operand 0 to 7 from 128 on
unfoldable pub piece_of : ℕ → Piece
piece_of b = pick (ltb b 102) (fixed (word_token b)) (pick (ltb b 136) (op (b - 128)) (get_or specials (b - 136) zeros))

-- the number of a form
unfoldable pub form_number : Form → ℕ
form_number assign = 0
form_number cast_u32 = 1
form_number cast_u64 = 2
form_number cast_i32 = 3
form_number cast_i64 = 4
form_number take_address = 5
form_number store_zero = 6
form_number store_ones = 7
form_number add_to = 8
form_number subtract = 9
form_number and_with = 10
form_number or_with = 11
form_number xor_with = 12
form_number shift_left = 13
form_number shift_right = 14
form_number rotate_left = 15
form_number rotate_right = 16
form_number increment = 17
form_number decrement = 18
form_number negation = 19
form_number complement = 20
form_number multiply_two = 21
form_number multiply_by = 22
form_number pop_value = 23
form_number call_target = 24
form_number call_memory = 25
form_number call_through = 26
form_number return_value = 27
form_number return_nothing = 28
form_number tail_call_memory = 29
form_number computed_jump = 30
form_number set_condition = 31
form_number move_if = 32
form_number compare_exchange = 33
form_number exchange_first = 34
form_number exchange_second = 35
form_number time_stamp = 36
form_number cpu_identify = 37
form_number fast_fail = 38
form_number assembly_line = 39
form_number label = 40
form_number open_do = 41
form_number open_if = 42
form_number goto_if = 43
form_number close_while = 44
form_number close = 45
form_number goto = 46
form_number tail_call_target = 47

-- the pieces of each form, by their numbers
unfoldable pub codes : List (List ℕ)
codes =
    (128 ∷ 0 ∷ 129 ∷ 1 ∷ [])
    ∷ (128 ∷ 0 ∷ 58 ∷ 129 ∷ 1 ∷ [])
    ∷ (128 ∷ 0 ∷ 59 ∷ 129 ∷ 1 ∷ [])
    ∷ (128 ∷ 0 ∷ 60 ∷ 129 ∷ 1 ∷ [])
    ∷ (128 ∷ 0 ∷ 61 ∷ 129 ∷ 1 ∷ [])
    ∷ (128 ∷ 0 ∷ 136 ∷ 1 ∷ [])
    ∷ (128 ∷ 0 ∷ 137 ∷ 1 ∷ [])
    ∷ (128 ∷ 0 ∷ 138 ∷ 1 ∷ [])
    ∷ (128 ∷ 16 ∷ 129 ∷ 1 ∷ [])
    ∷ (128 ∷ 17 ∷ 129 ∷ 1 ∷ [])
    ∷ (128 ∷ 18 ∷ 129 ∷ 1 ∷ [])
    ∷ (128 ∷ 19 ∷ 129 ∷ 1 ∷ [])
    ∷ (128 ∷ 20 ∷ 129 ∷ 1 ∷ [])
    ∷ (128 ∷ 21 ∷ 129 ∷ 1 ∷ [])
    ∷ (128 ∷ 22 ∷ 129 ∷ 1 ∷ [])
    ∷ (128 ∷ 0 ∷ 49 ∷ 2 ∷ 128 ∷ 4 ∷ 129 ∷ 29 ∷ [])
    ∷ (128 ∷ 0 ∷ 50 ∷ 2 ∷ 128 ∷ 4 ∷ 129 ∷ 29 ∷ [])
    ∷ (128 ∷ 24 ∷ [])
    ∷ (128 ∷ 25 ∷ [])
    ∷ (128 ∷ 26 ∷ 128 ∷ 1 ∷ [])
    ∷ (128 ∷ 27 ∷ 128 ∷ 1 ∷ [])
    ∷ (128 ∷ 0 ∷ 129 ∷ 8 ∷ 130 ∷ 1 ∷ [])
    ∷ (128 ∷ 23 ∷ 129 ∷ 1 ∷ [])
    ∷ (128 ∷ 0 ∷ 48 ∷ 28 ∷ [])
    ∷ (145 ∷ 0 ∷ 143 ∷ 2 ∷ 141 ∷ 29 ∷ [])
    ∷ (145 ∷ 0 ∷ 128 ∷ 2 ∷ 141 ∷ 29 ∷ [])
    ∷ (145 ∷ 0 ∷ 62 ∷ 128 ∷ 3 ∷ 2 ∷ 141 ∷ 29 ∷ [])
    ∷ (45 ∷ 41 ∷ 145 ∷ 1 ∷ [])
    ∷ (45 ∷ 1 ∷ [])
    ∷ (45 ∷ 41 ∷ 128 ∷ 2 ∷ 141 ∷ 29 ∷ [])
    ∷ (44 ∷ 38 ∷ 128 ∷ 1 ∷ [])
    ∷ (128 ∷ 0 ∷ 139 ∷ 1 ∷ [])
    ∷ (43 ∷ 31 ∷ 139 ∷ 32 ∷ 128 ∷ 0 ∷ 129 ∷ 1 ∷ [])
    ∷ (145 ∷ 0 ∷ 51 ∷ 30 ∷ 128 ∷ 4 ∷ 129 ∷ 4 ∷ 145 ∷ 29 ∷ [])
    ∷ (129 ∷ 0 ∷ 52 ∷ 30 ∷ 128 ∷ 4 ∷ 129 ∷ 29 ∷ [])
    ∷ (128 ∷ 0 ∷ 52 ∷ 30 ∷ 129 ∷ 4 ∷ 128 ∷ 29 ∷ [])
    ∷ (147 ∷ 0 ∷ 53 ∷ 28 ∷ [])
    ∷ (54 ∷ 2 ∷ 148 ∷ 4 ∷ 149 ∷ 29 ∷ [])
    ∷ (55 ∷ 28 ∷ [])
    ∷ (56 ∷ 39 ∷ 146 ∷ 40 ∷ [])
    ∷ (144 ∷ 37 ∷ [])
    ∷ (46 ∷ 34 ∷ [])
    ∷ (43 ∷ 31 ∷ 140 ∷ 33 ∷ [])
    ∷ (43 ∷ 31 ∷ 139 ∷ 32 ∷ 44 ∷ 41 ∷ 142 ∷ 1 ∷ [])
    ∷ (36 ∷ 47 ∷ 31 ∷ 139 ∷ 29 ∷ [])
    ∷ (35 ∷ [])
    ∷ (44 ∷ 41 ∷ 142 ∷ 1 ∷ [])
    ∷ (45 ∷ 41 ∷ 143 ∷ 2 ∷ 141 ∷ 29 ∷ [])
    ∷ []

unfoldable pub codes_of : ℕ → List ℕ
codes_of form = get_or codes form []

-- 16 bytes a row: its length, its pieces and zeros
abbrev pub packed_rows : List (List ℕ) → List ℕ
packed_rows [] = []
packed_rows (r ∷ rs) = length r ∷ r ++ (replicate (15 - length r) 0 ++ packed_rows rs)

-- the mnemonics whose form the operands decide
abbrev pub by_operands : ℕ → Bool
by_operands m =
    (leb mnemonic.movzx m && leb m mnemonic.movsxd) || (leb mnemonic.xor m && leb m mnemonic.or)
    || eqb m mnemonic.imul || eqb m mnemonic.call || eqb m mnemonic.jmp || eqb m mnemonic.xchg

-- what the table has of a mnemonic: the number of its form, or 255 where the operands decide it, or, of a ret, the instructions before
abbrev pub form_byte : ℕ → ℕ
form_byte m = pick (by_operands m || eqb m mnemonic.ret) 255 (form_number (plain_form m))

-- the code's table: the rows, and behind them a byte for each number that a record can give as a mnemonic
unfoldable pub row_bytes : List ℕ
row_bytes = packed_rows codes ++ tab form_byte 0 256
