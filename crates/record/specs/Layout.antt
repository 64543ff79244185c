-- Where each array of a record begins, behind "Header, 24 bytes" and "in this order": "B u64 block starts; B marks of u16 instruction
-- count, u8 edge count, u8 label wanted (0 or 1)", "E u64 targets; E u8 kinds", "I u64 addresses; I bodies of 92 bytes",
-- "A u64 addresses; A pairs of u8 kind .. and u8 length", "S pairs of u64 first and last mapped address", "T bytes".
use Rattle.std.specs.Prelude.{ℕ, ◌+◌, ◌*◌, List, Bool, length, drop, eqb}
use Rattle.record.specs.declared.header.Header.{Header}

abbrev pub starts_at : ℕ
starts_at = 24

abbrev pub marks_at : Header → ℕ
marks_at h = starts_at + 8 * h.blocks

abbrev pub targets_at : Header → ℕ
targets_at h = marks_at h + 4 * h.blocks

abbrev pub edge_kinds_at : Header → ℕ
edge_kinds_at h = targets_at h + 8 * h.edges

abbrev pub addresses_at : Header → ℕ
addresses_at h = edge_kinds_at h + h.edges

abbrev pub bodies_at : Header → ℕ
bodies_at h = addresses_at h + 8 * h.instructions

abbrev pub entries_at : Header → ℕ
entries_at h = bodies_at h + 92 * h.instructions

abbrev pub pairs_at : Header → ℕ
pairs_at h = entries_at h + 8 * h.atlas

abbrev pub spans_at : Header → ℕ
spans_at h = pairs_at h + 2 * h.atlas

abbrev pub texts_at : Header → ℕ
texts_at h = spans_at h + 16 * h.spans

abbrev pub size_of : Header → ℕ
size_of h = texts_at h + h.text

-- "4. Length exactly what the sizes say?"
abbrev pub length_ok : Header → List ℕ → Bool
length_ok h s = eqb (length s) (size_of h)

-- Each array as the part of the record that begins at its offset.
module _ (h : Header) (s : List ℕ) where
  abbrev pub starts_of : List ℕ
  starts_of = drop starts_at s

  abbrev pub marks_of : List ℕ
  marks_of = drop (marks_at h) s

  abbrev pub targets_of : List ℕ
  targets_of = drop (targets_at h) s

  abbrev pub edge_kinds_of : List ℕ
  edge_kinds_of = drop (edge_kinds_at h) s

  abbrev pub addresses_of : List ℕ
  addresses_of = drop (addresses_at h) s

  abbrev pub bodies_of : List ℕ
  bodies_of = drop (bodies_at h) s

  abbrev pub entries_of : List ℕ
  entries_of = drop (entries_at h) s

  abbrev pub pairs_of : List ℕ
  pairs_of = drop (pairs_at h) s

  abbrev pub spans_of : List ℕ
  spans_of = drop (spans_at h) s

  abbrev pub texts_of : List ℕ
  texts_of = drop (texts_at h) s
