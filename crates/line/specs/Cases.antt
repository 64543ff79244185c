-- Document 01's cases (a) to (j) and one of #114, as rows of one check: whole records of which every question before 12 gets a yes, and the lines that
-- each prints.
-- All rows are computed at once from the definitions that the contracts cite.
use Rattle.std.specs.Prelude.{◌≡◌, Bool, true, false, ℕ, suc, zero, ◌/◌, ◌%◌, ◌^◌, ◌<◌, length}
use Rattle.std.proofs.Common.{ap, ◌∙◌, div-lt_iff_lt-mul, pow-suc, arith, lt-ltb, le-ltb}
use mathlib.Core.List.{List, [], ◌∷◌, ◌++◌, map, flatten, flat_map}
use Prim.Native.String.{String}
use Rattle.std.proofs.Math.Decide.{dec_lt}
use Rattle.lists.specs.Ascii.{ascii}
use Rattle.text.specs.Number.{digit, hex_of, hex_text, sign, size_text, num_text}
use Rattle.text.specs.NumberLaws.{hex_one, hex_more}
use Rattle.text.specs.Literal.{escape, escapes, opening, closing, literal_text}
use Rattle.tokens.specs.Token.{Token, token, punct, plain_text, keyword, register, symbol}
use Rattle.tokens.specs.Words.{prefixed}
use Rattle.tokens.specs.Listing.{run, join}
use Rattle.x86.specs.Registers.{register_names, register_name, register_exists}
use Rattle.x86.specs.Width.{is_stack_pointer, adds_to_word}
use Rattle.x86.specs.Mnemonics.{mov, lea, add, dec, cmp, mnemonic_names, mnemonic_name, writes_flags}
use Rattle.x86.specs.Conditions.{condition_names, condition_name, operator_text, relation_after_cmp, relation_after_other, prints_unsigned}
use Rattle.x86.specs.Sizes.{size_types, size_type}
use Rattle.record.specs.Header.{header_of}
use Rattle.record.specs.Asked.{first_no, sizes_no, blocks_no, contents_no, range_no, marks_asked, starts_asked, edge_kinds_asked, bodies_asked, branches_asked, atlas_asked, spans_asked}
use Rattle.record.specs.Blocks.{first_instruction, first_edge, marks_ok, starts_differ, start_is_new, edge_kinds_ok}
use Rattle.record.specs.Body.{bodies_ok, body_ok, fixed_ok, operands_ok, operand_ok, is_name, is_zeros}
use Rattle.record.specs.Branches.{true_count, true_lead, branch_agrees, branch_ok, branches_ok}
use Rattle.record.specs.Atlas.{text_start, atlas_ok, entries_ok, texts_ok, text_ok, spans_ok}
use Rattle.record.specs.Search.{find_from, last_from}
use Rattle.operand.specs.Names.{entry_at, entry_token, name_or, in_span}
use Rattle.operand.specs.Memory.{slot_base, slot_displacement, slot_number, is_slot, slot_token, displacement, type_word, address_expr, mem_expr, mem_tokens}
use Rattle.operand.specs.Operand.{signed_read, immediate_number, immediate, op_tokens}
use Rattle.expressions.specs.Condition.{flag_writer, after_writer, condition_tokens}
use Rattle.cfg.specs.Graph.{closes_loop, has_edge, ending_in}
use Rattle.cfg.specs.Shape.{shape_at, last_loop, region_at, opens_region}
use Rattle.structure.specs.Tree.{tree_of, tree_go}
use Rattle.structure.specs.Plan.{range_lines, tree_lines, shown_lines, body_count, closing_lines, block_lines}
use Rattle.flow.specs.Silent.{is_silent_itself, is_prologue_noise, ending_of}
use Rattle.flow.specs.Rows.{rows_from, block_row, edge_row, shown_row, block_ending, block_branch, place_of, block_rows, edge_rows, shown_rows}
use Rattle.flow.specs.Planned.{record_plan}
use Rattle.line.specs.Forms.{row_of, insn_form, plain_form}
use Rattle.line.specs.Print.{piece_tokens, pieces_tokens, line_tokens, printed}

pub record Case : Type 0 where
  pub bytes : List ℕ
  pub expected : List (List Token)

-- of a record's whole range the number of the first question that gets a no, and the lines of tokens, joined as the lists hold them
abbrev answered : Case → ℕ × List (List Token)
answered c =
    let h = header_of c.bytes in
    (first_no c.bytes 0 h.blocks, map join (printed h c.bytes 0 0 (record_plan h c.bytes 0 h.blocks)))

-- n bytes of a number, the lowest first
abbrev pub bytes : ℕ → ℕ → List ℕ
bytes zero v = []
bytes (suc n) v = (v % 256) ∷ bytes n (v / 256)

-- n bytes, the first of them given, the rest zeros
abbrev pub padded : ℕ → List ℕ → List ℕ
padded zero t = []
padded (suc n) [] = 0 ∷ padded n []
padded (suc n) (b ∷ t) = b ∷ padded n t

-- an operand: "u8 kind, u8 register, u64 number"
abbrev pub slot : ℕ → ℕ → ℕ → List ℕ
slot kind register number = kind ∷ register ∷ bytes 8 number

-- "class × 16 + index": 0x40 is eax, 0x51 rcx, 0x61 rip
abbrev pub in_register : ℕ → List ℕ
in_register r = slot 0 r 0

abbrev in_memory : List ℕ
in_memory = slot 1 0 0

-- "u8 segment, base, index, scale; u16 memory size in bytes; u64 memory address", with no segment
abbrev pub memory : ℕ → ℕ → ℕ → ℕ → ℕ → List ℕ
memory base index scale size address = 0 ∷ base ∷ index ∷ scale ∷ (bytes 2 size ++ bytes 8 address)

abbrev pub no_memory : List ℕ
no_memory = memory 0 0 1 0 0

-- a body of 92 bytes: mnemonic, condition, operands, no skip mark; memory; operands; name
abbrev pub body : ℕ → ℕ → List ℕ → List (List ℕ) → String → List ℕ
body mnemonic cc mem operands name =
    flatten ((mnemonic ∷ cc ∷ length operands ∷ 0 ∷ []) ∷ mem ∷ padded 50 (flatten operands) ∷ padded 24 (ascii name) ∷ [])

-- an instruction without a condition, and a conditional branch: another mnemonic, with a name and a condition
abbrev pub insn : ℕ → List ℕ → List (List ℕ) → List ℕ
insn mnemonic mem operands = body mnemonic 0 mem operands ""

abbrev pub branch : String → ℕ → ℕ → List ℕ
branch name cc target = body 0 cc no_memory (slot 2 0 target ∷ []) name

-- 24 bytes: bits, frame register, shift, shift given, numbers of instructions, edges, atlas entries and text bytes; convention 0, one
-- block, no spans, indent 0
abbrev header : ℕ → ℕ → ℕ → ℕ → ℕ → ℕ → ℕ → ℕ → List ℕ
header bits frame shift given I E A T =
    flatten (map (bytes 2) (bits ∷ 0 ∷ 1 ∷ I ∷ E ∷ A ∷ 0 ∷ frame ∷ []) ++ (bytes 4 shift ∷ bytes 1 given ∷ bytes 1 0 ∷ bytes 2 T ∷ []))

-- a record of one block, which starts at 0x1000 and wants no label: bits, frame register, shift, shift given; edges, each a target and
-- a kind; instructions, each an address and a body; strings, each an address and a text
abbrev record_of : ℕ → ℕ → ℕ → ℕ → List (ℕ × ℕ) → List (ℕ × List ℕ) → List (ℕ × List ℕ) → List ℕ
record_of bits frame shift given edges insns strings =
    let texts = flat_map (λ (t : ℕ × List ℕ). t.1) strings in
    flatten
    (header bits frame shift given (length insns) (length edges) (length strings) (length texts)
    ∷ bytes 8 0x1000
    ∷ (bytes 2 (length insns) ++ (length edges ∷ 0 ∷ []))
    ∷ flat_map (λ (e : ℕ × ℕ). bytes 8 e.0) edges
    ∷ map (λ (e : ℕ × ℕ). e.1) edges
    ∷ flat_map (λ (i : ℕ × List ℕ). bytes 8 i.0) insns
    ∷ flat_map (λ (i : ℕ × List ℕ). i.1) insns
    ∷ flat_map (λ (t : ℕ × List ℕ). bytes 8 t.0) strings
    ∷ flat_map (λ (t : ℕ × List ℕ). 1 ∷ length t.1 ∷ []) strings
    ∷ texts
    ∷ [])

-- bits 64, no frame, no edges, no atlas
abbrev plain : List (ℕ × List ℕ) → List ℕ
plain insns = record_of 64 0 0 0 [] insns []

abbrev numeral : String → Token
numeral t = token 2 (ascii t)

abbrev literal : String → Token
literal t = token 5 (ascii t)

-- mov of an immediate of kind 5 to eax, and what it prints
abbrev mov_eax : ℕ → List ℕ
mov_eax n = insn mov no_memory (in_register 0x40 ∷ slot 5 0 n ∷ [])

abbrev eax_gets : String → List Token
eax_gets t = register "eax" ∷ punct " = " ∷ numeral t ∷ punct ";" ∷ []

-- "(a) -9, 9, 10, -10 print `-9`, `9`, `0xa`, `-0xa`"
abbrev case_a : Case
case_a = record {
  bytes = plain ((0x1000, mov_eax 0xFFFFFFF7) ∷ (0x1005, mov_eax 9) ∷ (0x100A, mov_eax 10) ∷ (0x100F, mov_eax 0xFFFFFFF6) ∷ []);
  expected = eax_gets "-9" ∷ eax_gets "9" ∷ eax_gets "0xa" ∷ eax_gets "-0xa" ∷ [];
}

-- "(b) kind 5, 0xFFFFF000 `-0x1000`, 0xFFFFEFFF `0xffffefff`"
abbrev case_b : Case
case_b = record {
  bytes = plain ((0x1000, mov_eax 0xFFFFF000) ∷ (0x1005, mov_eax 0xFFFFEFFF) ∷ []);
  expected = eax_gets "-0x1000" ∷ eax_gets "0xffffefff" ∷ [];
}

-- "(c) kind 7, 0xFFFF `0xffff`"; by #106 "Row (c) of the proved cases becomes `-1`": added to ax
abbrev case_c : Case
case_c = record {
  bytes = plain ((0x1000, insn add no_memory (in_register 0x30 ∷ slot 7 0 0xFFFF ∷ [])) ∷ []);
  expected = (register "ax" ∷ punct " += " ∷ numeral "-1" ∷ punct ";" ∷ []) ∷ [];
}

-- "(d) rax, rcx × 4, 8, size 4 `*(uint32_t *)((rax + (rcx * 4)) + 8)`": a store of ecx
abbrev case_d : Case
case_d = record {
  bytes = plain ((0x1000, insn mov (memory 0x50 0x51 4 4 8) (in_memory ∷ in_register 0x41 ∷ [])) ∷ []);
  expected =
      (keyword "*(uint32_t *)" ∷ punct "((" ∷ register "rax" ∷ punct " + (" ∷ register "rcx" ∷ punct " * " ∷ numeral "4" ∷ punct ")) + " ∷ numeral "8" ∷ punct ") = "
      ∷ register "ecx" ∷ punct ";" ∷ [])
      ∷ [];
}

-- "(e) rsp+0x20 `var_20`, rsp-8 size 8 `*(uint64_t *)(rsp - 8)`": loads into rax and rcx
abbrev case_e : Case
case_e = record {
  bytes =
      plain
      ((0x1000, insn mov (memory 0x54 0 1 8 0x20) (in_register 0x50 ∷ in_memory ∷ []))
      ∷ (0x1005, insn mov (memory 0x54 0 1 8 0xFFFFFFFFFFFFFFF8) (in_register 0x51 ∷ in_memory ∷ []))
      ∷ []);
  expected =
      (register "rax" ∷ punct " = " ∷ register "var_20" ∷ punct ";" ∷ [])
      ∷ (register "rcx" ∷ punct " = " ∷ keyword "*(uint64_t *)" ∷ punct "(" ∷ register "rsp" ∷ punct " - " ∷ numeral "8" ∷ punct ");" ∷ [])
      ∷ [];
}

-- "(f) frame rbp, shift 0x20, rbp-0x30, size 8 `*(uint64_t *)(rsp - 0x30)`": a load into rax
abbrev case_f : Case
case_f = record {
  bytes = record_of 64 0x55 0x20 1 [] ((0x1000, insn mov (memory 0x55 0 1 8 0xFFFFFFFFFFFFFFD0) (in_register 0x50 ∷ in_memory ∷ [])) ∷ []) [];
  expected = (register "rax" ∷ punct " = " ∷ keyword "*(uint64_t *)" ∷ punct "(" ∷ register "rsp" ∷ punct " - " ∷ numeral "0x30" ∷ punct ");" ∷ []) ∷ [];
}

-- "(g) bits 32, frame ebp, no shift, 0xFFFFFFF8 gives arg_FFFFFFF8": a load into eax
abbrev case_g : Case
case_g = record {
  bytes = record_of 32 0x45 0 0 [] ((0x1000, insn mov (memory 0x45 0 1 4 0xFFFFFFF8) (in_register 0x40 ∷ in_memory ∷ [])) ∷ []) [];
  expected = (register "eax" ∷ punct " = " ∷ register "arg_FFFFFFF8" ∷ punct ";" ∷ []) ∷ [];
}

-- "(h) cmp eax,5 then jb `(unsigned)eax < 5`": a True edge (kind 1) to the branch's target, a False one (kind 2) to behind the branch
abbrev case_h : Case
case_h = record {
  bytes =
      record_of 64 0 0 0 ((0x1010, 1) ∷ (0x1005, 2) ∷ [])
      ((0x1000, insn cmp no_memory (in_register 0x40 ∷ slot 8 0 5 ∷ [])) ∷ (0x1003, branch "jb" 3 0x1010) ∷ [])
      [];
  expected =
      (keyword "if" ∷ punct " (" ∷ keyword "(unsigned)" ∷ register "eax" ∷ punct " < " ∷ numeral "5" ∷ punct ") " ∷ keyword "goto" ∷ plain_text " "
      ∷ symbol "loc_1010" ∷ punct ";" ∷ [])
      ∷ [];
}

-- "(i) string of one backslash `"\\"`": lea of its address, by rip, into rcx
abbrev case_i : Case
case_i = record {
  bytes = record_of 64 0 0 0 [] ((0x1000, insn lea (memory 0x61 0 1 0 0x2000) (in_register 0x51 ∷ in_memory ∷ [])) ∷ []) ((0x2000, ascii "\\") ∷ []);
  expected = (register "rcx" ∷ punct " = " ∷ literal "\"\\\\\"" ∷ punct ";" ∷ []) ∷ [];
}

-- "(j) self-loop: if-goto, no do": dec eax, then jne to the block itself
abbrev case_j : Case
case_j = record {
  bytes =
      record_of 64 0 0 0 ((0x1000, 1) ∷ (0x1004, 2) ∷ [])
      ((0x1000, insn dec no_memory (in_register 0x40 ∷ [])) ∷ (0x1002, branch "jne" 6 0x1000) ∷ [])
      [];
  expected =
      (register "eax" ∷ punct "--;" ∷ [])
      ∷ (keyword "if" ∷ punct " (" ∷ register "eax" ∷ punct " != " ∷ numeral "0" ∷ punct ") " ∷ keyword "goto" ∷ plain_text " " ∷ symbol "loc_1000" ∷ punct ";" ∷ [])
      ∷ [];
}

-- #114, "displacements added to a word register are read as the signed low 16 bits": bits 16, frame bp, a load of bp-4 into ax, a store of ax
-- at bx+si-2
abbrev case_16 : Case
case_16 = record {
  bytes =
      record_of 16 0x35 0 0 []
      ((0x1000, insn mov (memory 0x35 0 1 2 0xFFFC) (in_register 0x30 ∷ in_memory ∷ []))
      ∷ (0x1003, insn mov (memory 0x33 0x36 1 2 0xFFFE) (in_memory ∷ in_register 0x30 ∷ []))
      ∷ [])
      [];
  expected =
      (register "ax" ∷ punct " = " ∷ register "var_4" ∷ punct ";" ∷ [])
      ∷ (keyword "*(uint16_t *)" ∷ punct "((" ∷ register "bx" ∷ punct " + " ∷ register "si" ∷ punct ") - " ∷ numeral "2" ∷ punct ") = " ∷ register "ax" ∷ punct ";" ∷ [])
      ∷ [];
}

pub cases : List Case
cases = case_a ∷ case_b ∷ case_c ∷ case_d ∷ case_e ∷ case_f ∷ case_g ∷ case_h ∷ case_i ∷ case_j ∷ case_16 ∷ []

-- a number in hex by as many division steps as it has digits, which computes
hex : (l : Bool) (k v : ℕ) → v < 16 ^ suc k → hex_text l v ≡ hex_of l (suc k) v
unfolding hex_of
hex l zero v h = rw (lt-ltb v 16 h) (hex_one l v h)
hex l (suc k) v h =
    elim (dec_lt v 16) [
      | yes a ↦ rw (lt-ltb v 16 a) (hex_one l v a)
      | no a ↦
          rw (le-ltb v 16 (omega arith))
          (hex_more l v (omega arith) ∙ ap (λ (t : List ℕ). t ++ (digit l (v % 16) ∷ [])) (hex l k (v / 16) ((div-lt_iff_lt-mul (omega arith)).1 (rw pow-suc at h))))
    ]

pub all_print : map answered cases ≡ map (λ (c : Case). (0, c.expected)) cases
unfolding cases flatten flat_map header_of first_no sizes_no blocks_no contents_no range_no marks_asked starts_asked edge_kinds_asked bodies_asked branches_asked atlas_asked spans_asked branches_ok branch_ok branch_agrees true_count true_lead marks_ok starts_differ start_is_new edge_kinds_ok bodies_ok body_ok fixed_ok operands_ok operand_ok is_name is_zeros register_exists atlas_ok entries_ok texts_ok text_ok spans_ok join run printed line_tokens pieces_tokens row_of insn_form plain_form record_plan block_rows edge_rows edge_row shown_rows shown_row rows_from block_row first_instruction first_edge block_ending block_branch ending_of place_of find_from is_silent_itself is_prologue_noise is_stack_pointer range_lines tree_lines tree_of tree_go shape_at last_loop last_from closes_loop has_edge ending_in region_at opens_region shown_lines body_count closing_lines block_lines relation_after_other piece_tokens op_tokens immediate immediate_number signed_read mem_tokens mem_expr address_expr displacement type_word size_type size_types slot_token is_slot slot_number slot_displacement adds_to_word slot_base name_or entry_at entry_token text_start in_span prefixed num_text sign size_text hex_of digit register_name register_names literal_text opening closing escapes escape condition_tokens flag_writer after_writer writes_flags mnemonic_name mnemonic_names condition_name condition_names operator_text relation_after_cmp prints_unsigned
all_print =
    rw (
      hex false 0 10 (omega arith),
      hex false 7 0x1000 (omega arith),
      hex false 7 0xFFFFEFFF (omega arith),
      hex true 7 0x20 (omega arith),
      hex false 7 0x30 (omega arith),
      hex true 7 0xFFFFFFF8 (omega arith),
      hex true 7 0x1010 (omega arith),
      hex true 7 0x1000 (omega arith),
      hex true 0 4 (omega arith),
    )
