-- The atlas and the spans, and what questions 9 and 10 ask of them. Each definition speaks of the part that begins at its array.
use Rattle.std.specs.Prelude.{ℕ, ◌+◌, ◌-◌, ◌*◌, List, Bool, ◌&&◌, ◌||◌, not, drop, take, ltb, leb, eqb}
use Rattle.lists.specs.Bytes.{u8_at, u64_at}
use Rattle.lists.specs.Choice.{pick, all_below, sum_below}

-- "A u64 addresses; A pairs of u8 kind (1 string, 2 wide string, 3 name) and u8 length"
abbrev pub entry_address : List ℕ → ℕ → ℕ
entry_address entries k = u64_at entries (8 * k)

abbrev pub entry_kind : List ℕ → ℕ → ℕ
entry_kind pairs k = u8_at pairs (2 * k)

abbrev pub entry_length : List ℕ → ℕ → ℕ
entry_length pairs k = u8_at pairs (2 * k + 1)

-- "T bytes: atlas texts in entry order, unescaped": where entry k's text begins, and the text
unfoldable pub text_start : List ℕ → ℕ → ℕ
text_start pairs k = sum_below (entry_length pairs) k

abbrev pub entry_text : List ℕ → List ℕ → ℕ → List ℕ
entry_text pairs texts k = take (entry_length pairs k) (drop (text_start pairs k) texts)

-- "Atlas addresses strictly rising": entry k stands behind the one before it
abbrev pub rises : List ℕ → ℕ → Bool
rises entries k = eqb k 0 || ltb (entry_address entries (k - 1)) (entry_address entries k)

-- "kinds 1 to 3"
abbrev pub entry_kind_ok : ℕ → Bool
entry_kind_ok kind = leb 1 kind && leb kind 3

-- "string bytes below 0x80, names of 1 or more bytes 0x20 to 0x7e"
abbrev pub text_byte_ok : ℕ → ℕ → Bool
text_byte_ok kind c = pick (eqb kind 3) (leb 0x20 c && leb c 0x7e) (ltb c 0x80)

unfoldable pub text_ok : ℕ → ℕ → List ℕ → Bool
text_ok kind n t = (not (eqb kind 3) || leb 1 n) && all_below (λ j. text_byte_ok kind (u8_at t j)) n

unfoldable pub entries_ok : List ℕ → List ℕ → ℕ → Bool
entries_ok entries pairs A = all_below (λ k. rises entries k && entry_kind_ok (entry_kind pairs k)) A

unfoldable pub texts_ok : List ℕ → List ℕ → ℕ → Bool
texts_ok pairs texts A = all_below (λ k. text_ok (entry_kind pairs k) (entry_length pairs k) (drop (text_start pairs k) texts)) A

-- "9. Atlas addresses strictly rising, kinds 1 to 3, lengths total T, string bytes below 0x80, names of 1 or more bytes
-- 0x20 to 0x7e?"
unfoldable pub atlas_ok : List ℕ → List ℕ → List ℕ → ℕ → ℕ → Bool
atlas_ok entries pairs texts A T = entries_ok entries pairs A && eqb (text_start pairs A) T && texts_ok pairs texts A

-- "S pairs of u64 first and last mapped address, both included"
abbrev pub span_first : List ℕ → ℕ → ℕ
span_first spans k = u64_at spans (16 * k)

abbrev pub span_last : List ℕ → ℕ → ℕ
span_last spans k = u64_at spans (16 * k + 8)

-- "10. Each span's first ≤ last?"
unfoldable pub spans_ok : List ℕ → ℕ → Bool
spans_ok spans S = all_below (λ k. leb (span_first spans k) (span_last spans k)) S
