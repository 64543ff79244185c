-- The header, and what questions 1 to 3 ask of it.
use Rattle.std.specs.Prelude.{ℕ, List, Bool, ◌&&◌, ◌||◌, length, leb, eqb}
use Rattle.lists.specs.Bytes.{u8_at, u16_at, u32_at}
use Rattle.lists.specs.Signed.{signed_at, is_zero}
use Rattle.record.specs.declared.header.Header.{Header}

-- "Header, 24 bytes: u16 bits (32 or 64), convention (0 Microsoft x64, 1 System V), B blocks, I instructions, E edges,
-- A atlas entries, S spans, frame register (0 none, equal to nothing); i32 frame shift; u8 shift given (0 or 1);
-- u8 starting indent; u16 T text bytes."
unfoldable pub header_of : List ℕ → Header
header_of s = record {
  bits = u16_at s 0;
  convention = u16_at s 2;
  blocks = u16_at s 4;
  instructions = u16_at s 6;
  edges = u16_at s 8;
  atlas = u16_at s 10;
  spans = u16_at s 12;
  frame = u16_at s 14;
  shift = signed_at 32 (u32_at s 16);
  shifted = u8_at s 20;
  indent = u8_at s 21;
  text = u16_at s 22;
}

-- "1. At least 24 bytes?"
abbrev pub header_fits : List ℕ → Bool
header_fits s = leb 24 (length s)

-- "2. Bits, convention and shift mark as listed, and shift 0 if not given?", and by #114 "2 now allows bits 16"
abbrev pub fields_ok : Header → Bool
fields_ok h = (eqb h.bits 16 || eqb h.bits 32 || eqb h.bits 64)
    && leb h.convention 1
    && leb h.shifted 1
    && (eqb h.shifted 1 || is_zero h.shift)

-- "3. B ≤ 200, I ≤ 500, E ≤ 600, A ≤ 200, S ≤ 32, T ≤ 4,000, indent ≤ 55?"
abbrev pub limits_ok : Header → Bool
limits_ok h = leb h.blocks 200
    && leb h.instructions 500
    && leb h.edges 600
    && leb h.atlas 200
    && leb h.spans 32
    && leb h.text 4000
    && leb h.indent 55
