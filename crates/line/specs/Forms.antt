-- The forms of lines: rows of pieces, and which form a line has.
use Rattle.std.specs.Prelude.{ℕ, ◌+◌, ◌-◌, ◌%◌, Bool, ◌&&◌, ◌||◌, List, [], ◌∷◌, eqb, leb, ltb}
use Prim.Native.String.{String}
use Rattle.lists.specs.Choice.{pick, any_below}
use Rattle.tokens.specs.Token.{Token, punct, plain_text, keyword, register, symbol}
use Rattle.x86.specs.Mnemonics as mnemonic
use Rattle.x86.specs.Registers.{qword, full_register, register_size}
use Rattle.record.specs.declared.header.Header.{Header}
use Rattle.record.specs.Layout.{bodies_of}
use Rattle.record.specs.Body.{body_at, mnemonic_of, operand_count, operand_kind, operand_register, operand_number, base_of, memory_size}
use Rattle.operand.specs.Memory.{is_ip}
use Rattle.structure.specs.Plan.{What}
use Rattle.structure.specs.Plan.What.{label_line, do_line, open_line, if_goto, while_line, close_line, goto_line, tail_call, insn_line}
use Rattle.expressions.specs.Condition.{body_of}

-- a piece of a line: a fixed token; operand k; the memory operand as an address; the number 0 or -1; the condition, or the one that
-- it turns into; a call's arguments; the name of the branch's target, or a prefix and its address; the block's label; rax or eax; the
-- operands and name of `__asm`
pub data Piece : Type 0 where
  fixed : Token → Piece
  op : ℕ → Piece
  address : Piece
  zeros : Piece
  ones : Piece
  condition : Piece
  negated : Piece
  arguments : Piece
  target : Token → Piece
  start : Piece
  accumulator : Piece
  assembly : Piece

abbrev pub p : String → Piece
p t = fixed (punct t)

abbrev pub kw : String → Piece
kw t = fixed (keyword t)

abbrev pub reg : String → Piece
reg t = fixed (register t)

abbrev pub sp : Piece
sp = fixed (plain_text " ")

-- the prefix of a place in the routine, and that of a routine
abbrev pub loc : Piece
loc = target (symbol "loc_")

abbrev pub sub : Piece
sub = target (symbol "sub_")

-- the forms of lines: what a line does
pub data Form : Type 0 where
  assign cast_u32 cast_u64 cast_i32 cast_i64 : Form
  take_address store_zero store_ones : Form
  add_to subtract and_with or_with xor_with shift_left shift_right rotate_left rotate_right : Form
  increment decrement negation complement multiply_two multiply_by : Form
  pop_value call_target call_memory call_through : Form
  return_value return_nothing : Form
  tail_call_memory computed_jump : Form
  set_condition move_if : Form
  compare_exchange exchange_first exchange_second : Form
  time_stamp cpu_identify fast_fail assembly_line : Form
  label open_do open_if goto_if close_while close goto tail_call_target : Form

-- the pieces of a form, in their order
unfoldable pub row_of : Form → List Piece
row_of assign = op 0 ∷ p " = " ∷ op 1 ∷ p ";" ∷ []
row_of cast_u32 = op 0 ∷ p " = " ∷ kw "(uint32_t)" ∷ op 1 ∷ p ";" ∷ []
row_of cast_u64 = op 0 ∷ p " = " ∷ kw "(uint64_t)" ∷ op 1 ∷ p ";" ∷ []
row_of cast_i32 = op 0 ∷ p " = " ∷ kw "(int32_t)" ∷ op 1 ∷ p ";" ∷ []
row_of cast_i64 = op 0 ∷ p " = " ∷ kw "(int64_t)" ∷ op 1 ∷ p ";" ∷ []
row_of take_address = op 0 ∷ p " = " ∷ address ∷ p ";" ∷ []
row_of store_zero = op 0 ∷ p " = " ∷ zeros ∷ p ";" ∷ []
row_of store_ones = op 0 ∷ p " = " ∷ ones ∷ p ";" ∷ []
row_of add_to = op 0 ∷ p " += " ∷ op 1 ∷ p ";" ∷ []
row_of subtract = op 0 ∷ p " -= " ∷ op 1 ∷ p ";" ∷ []
row_of and_with = op 0 ∷ p " &= " ∷ op 1 ∷ p ";" ∷ []
row_of or_with = op 0 ∷ p " |= " ∷ op 1 ∷ p ";" ∷ []
row_of xor_with = op 0 ∷ p " ^= " ∷ op 1 ∷ p ";" ∷ []
row_of shift_left = op 0 ∷ p " <<= " ∷ op 1 ∷ p ";" ∷ []
row_of shift_right = op 0 ∷ p " >>= " ∷ op 1 ∷ p ";" ∷ []
row_of rotate_left = op 0 ∷ p " = " ∷ kw "__ROL__" ∷ p "(" ∷ op 0 ∷ p ", " ∷ op 1 ∷ p ");" ∷ []
row_of rotate_right = op 0 ∷ p " = " ∷ kw "__ROR__" ∷ p "(" ∷ op 0 ∷ p ", " ∷ op 1 ∷ p ");" ∷ []
row_of increment = op 0 ∷ p "++;" ∷ []
row_of decrement = op 0 ∷ p "--;" ∷ []
row_of negation = op 0 ∷ p " = -" ∷ op 0 ∷ p ";" ∷ []
row_of complement = op 0 ∷ p " = ~" ∷ op 0 ∷ p ";" ∷ []
row_of multiply_two = op 0 ∷ p " = " ∷ op 1 ∷ p " * " ∷ op 2 ∷ p ";" ∷ []
row_of multiply_by = op 0 ∷ p " *= " ∷ op 1 ∷ p ";" ∷ []
row_of pop_value = op 0 ∷ p " = " ∷ kw "__pop" ∷ p "();" ∷ []
row_of call_target = accumulator ∷ p " = " ∷ sub ∷ p "(" ∷ arguments ∷ p ");" ∷ []
row_of call_memory = accumulator ∷ p " = " ∷ op 0 ∷ p "(" ∷ arguments ∷ p ");" ∷ []
row_of call_through = accumulator ∷ p " = " ∷ kw "((void (*)())" ∷ op 0 ∷ p ")" ∷ p "(" ∷ arguments ∷ p ");" ∷ []
row_of return_value = kw "return" ∷ sp ∷ accumulator ∷ p ";" ∷ []
row_of return_nothing = kw "return" ∷ p ";" ∷ []
row_of tail_call_memory = kw "return" ∷ sp ∷ op 0 ∷ p "(" ∷ arguments ∷ p ");" ∷ []
row_of computed_jump = kw "goto" ∷ p " *" ∷ op 0 ∷ p ";" ∷ []
row_of set_condition = op 0 ∷ p " = " ∷ condition ∷ p ";" ∷ []
row_of move_if = kw "if" ∷ p " (" ∷ condition ∷ p ") " ∷ op 0 ∷ p " = " ∷ op 1 ∷ p ";" ∷ []
row_of compare_exchange = accumulator ∷ p " = " ∷ kw "_InterlockedCompareExchange" ∷ p "(&" ∷ op 0 ∷ p ", " ∷ op 1 ∷ p ", " ∷ accumulator ∷ p ");" ∷ []
row_of exchange_first = op 1 ∷ p " = " ∷ kw "_InterlockedExchange" ∷ p "(&" ∷ op 0 ∷ p ", " ∷ op 1 ∷ p ");" ∷ []
row_of exchange_second = op 0 ∷ p " = " ∷ kw "_InterlockedExchange" ∷ p "(&" ∷ op 1 ∷ p ", " ∷ op 0 ∷ p ");" ∷ []
row_of time_stamp = reg "rax" ∷ p " = " ∷ kw "__rdtsc" ∷ p "();" ∷ []
row_of cpu_identify = kw "__cpuid" ∷ p "(" ∷ reg "eax" ∷ p ", " ∷ reg "ecx" ∷ p ");" ∷ []
row_of fast_fail = kw "__fastfail" ∷ p "();" ∷ []
row_of assembly_line = kw "__asm" ∷ p " { " ∷ assembly ∷ p " }" ∷ []
row_of label = start ∷ p ":" ∷ []
row_of open_do = kw "do" ∷ p " {" ∷ []
row_of open_if = kw "if" ∷ p " (" ∷ negated ∷ p ") {" ∷ []
row_of goto_if = kw "if" ∷ p " (" ∷ condition ∷ p ") " ∷ kw "goto" ∷ sp ∷ loc ∷ p ";" ∷ []
row_of close_while = p "} " ∷ kw "while" ∷ p " (" ∷ condition ∷ p ");" ∷ []
row_of close = p "}" ∷ []
row_of goto = kw "goto" ∷ sp ∷ loc ∷ p ";" ∷ []
row_of tail_call_target = kw "return" ∷ sp ∷ sub ∷ p "(" ∷ arguments ∷ p ");" ∷ []

-- which cast a movzx, or a movsx or movsxd, prints: by whether the first operand is 4 bytes wide
unfoldable pub cast_form : ℕ → List ℕ → Form
cast_form m b =
    let narrow = eqb (register_size (operand_register b 0)) 4 in
    pick (eqb m mnemonic.movzx) (pick narrow cast_u32 cast_u64) (pick narrow cast_i32 cast_i64)

-- `xor x, x` with two operands, both the same register
abbrev pub is_xor_self : List ℕ → Bool
is_xor_self b =
    eqb (operand_count b) 2 && eqb (operand_kind b 0) 0 && eqb (operand_kind b 1) 0
    && eqb (operand_register b 0) (operand_register b 1)

-- "the and/or rule reads the second operand's number for any kind above 1"
abbrev pub has_constant : List ℕ → Bool
has_constant b = eqb (operand_count b) 2 && leb 2 (operand_kind b 1)

-- `and x, 0`; `or x, -1`, also by the low 32 bits where the first operand is memory of 4 bytes
abbrev pub is_and_zero : List ℕ → Bool
is_and_zero b = has_constant b && eqb (operand_number b 1) 0

abbrev pub is_or_ones : List ℕ → Bool
is_or_ones b =
    has_constant b
    && (eqb (operand_number b 1) 18446744073709551615
    || (eqb (operand_number b 1 % 4294967296) 4294967295 && eqb (operand_kind b 0) 1 && eqb (memory_size b) 4))

-- imul: exactly three operands, two or more, or `__asm`
unfoldable pub imul_form : ℕ → Form
imul_form count = pick (eqb count 3) multiply_two (pick (leb 2 count) multiply_by assembly_line)

-- call: a near branch, memory by rip, eip or no base, or anything else
unfoldable pub call_form : List ℕ → Form
call_form b =
    pick (eqb (operand_kind b 0) 2) call_target
    (pick (eqb (operand_kind b 0) 1 && (is_ip (base_of b) || eqb (base_of b) 0)) call_memory call_through)

-- xchg with memory first, second, or not at all
unfoldable pub xchg_form : List ℕ → Form
xchg_form b = pick (eqb (operand_kind b 0) 1) exchange_first (pick (eqb (operand_kind b 1) 1) exchange_second assembly_line)

-- the forms that the mnemonic alone decides
abbrev pub plain_forms : List (ℕ × Form)
plain_forms =
    (mnemonic.mov, assign)
    ∷ (mnemonic.lea, take_address)
    ∷ (mnemonic.xor, xor_with)
    ∷ (mnemonic.and, and_with)
    ∷ (mnemonic.or, or_with)
    ∷ (mnemonic.add, add_to)
    ∷ (mnemonic.sub, subtract)
    ∷ (mnemonic.shl, shift_left)
    ∷ (mnemonic.shr, shift_right)
    ∷ (mnemonic.sar, shift_right)
    ∷ (mnemonic.rol, rotate_left)
    ∷ (mnemonic.ror, rotate_right)
    ∷ (mnemonic.inc, increment)
    ∷ (mnemonic.dec, decrement)
    ∷ (mnemonic.neg, negation)
    ∷ (mnemonic.not, complement)
    ∷ (mnemonic.pop, pop_value)
    ∷ (mnemonic.setcc, set_condition)
    ∷ (mnemonic.cmovcc, move_if)
    ∷ (mnemonic.cmpxchg, compare_exchange)
    ∷ (mnemonic.rdtsc, time_stamp)
    ∷ (mnemonic.cpuid, cpu_identify)
    ∷ (mnemonic.ud2, fast_fail)
    ∷ (mnemonic.hlt, fast_fail)
    ∷ []

abbrev pub form_in : List (ℕ × Form) → ℕ → Form
form_in [] m = assembly_line
form_in (e ∷ es) m = pick (eqb m e.0) e.1 (form_in es m)

-- any other mnemonic prints `__asm`
unfoldable pub plain_form : ℕ → Form
plain_form m = form_in plain_forms m

-- xor, and, or, where the operands may make it the store of a constant
unfoldable pub logic_form : ℕ → List ℕ → Form
logic_form m b =
    pick (eqb m mnemonic.xor && is_xor_self b) store_zero
    (pick (eqb m mnemonic.and && is_and_zero b) store_zero
    (pick (eqb m mnemonic.or && is_or_ones b) store_ones (plain_form m)))

-- ret, with a value or without
unfoldable pub return_form : Bool → Form
return_form value = pick value return_value return_nothing

-- an indirect jmp: through memory a tail call, else a computed jump
unfoldable pub jump_form : List ℕ → Form
jump_form b = pick (eqb (operand_kind b 0) 1) tail_call_memory computed_jump

-- the form of an instruction's line, by its mnemonic; `value` says whether a ret returns one
unfoldable pub insn_form : Bool → List ℕ → Form
insn_form value b =
    let m = mnemonic_of b in
    pick (leb mnemonic.movzx m && leb m mnemonic.movsxd) (cast_form m b)
    (pick (eqb m mnemonic.imul) (imul_form (operand_count b))
    (pick (eqb m mnemonic.call) (call_form b)
    (pick (eqb m mnemonic.ret) (return_form value)
    (pick (eqb m mnemonic.jmp) (jump_form b)
    (pick (eqb m mnemonic.xchg) (xchg_form b)
    (pick (leb mnemonic.xor m && leb m mnemonic.or) (logic_form m b)
    (plain_form m)))))))

-- an instruction that leaves a value in the accumulator: its first operand is a part of rax, or it is a call
unfoldable pub leaves_value : List ℕ → Bool
leaves_value b =
    (ltb 0 (operand_count b) && eqb (operand_kind b 0) 0 && eqb (full_register (operand_register b 0)) (qword 0))
    || eqb (mnemonic_of b) mnemonic.call

-- instruction i - 1 - k is of the block whose first instruction is `first`, and leaves a value; the part given begins at the bodies
unfoldable pub value_before : List ℕ → ℕ → ℕ → ℕ → Bool
value_before bodies first i k = ltb (first + k) i && leaves_value (body_at bodies (i - 1 - k))

-- ret: with a value if one of the six instructions before it, in its block, leaves one
unfoldable pub returns_value : List ℕ → ℕ → ℕ → Bool
returns_value bodies first i = any_below (value_before bodies first i) 6

module _ (h : Header) (s : List ℕ) where
  -- the form of a line that is written for this, of instruction i of the block whose first instruction is `first`
  abbrev pub form_of : What → ℕ → ℕ → Form
  form_of label_line first i = label
  form_of do_line first i = open_do
  form_of open_line first i = open_if
  form_of if_goto first i = goto_if
  form_of while_line first i = close_while
  form_of close_line first i = close
  form_of goto_line first i = goto
  form_of tail_call first i = tail_call_target
  form_of insn_line first i = insn_form (returns_value (bodies_of h s) first i) (body_of h s i)
