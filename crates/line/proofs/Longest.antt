-- How long the lines of a plan can be: no line has more than 8189 tokens, and 900 of instructions up to 500 have fewer than 2 ^ 32 bytes.
-- Each piece has a bound for its tokens and one for its bytes; a test of the rows for each, computed, bounds the sum of a row's.
use mathlib.Core.Path.{◌≡◌, refl, ap}
use mathlib.Core.Bool.{Bool, true, false}
use mathlib.Core.List.{List, [], ◌∷◌, ◌++◌, map}
use Prim.Native.Nat.{ℕ, zero, suc, ◌+◌, ◌*◌, ◌^◌, ◌≤◌, ◌<◌}
use native.Mathlib.Omega.{arith}
use lib.Dec.{leb, leb→le, eqb}
use lib.IntN.{nat_abs}
use lib.ListN.{length, length-take, length-map, length-append}
use Rattle.lists.specs.Bytes.{u8_at}
use Rattle.lists.specs.Every.{every_at}
use Rattle.text.specs.NumberLaws.{hex_64}
use Rattle.tokens.specs.Token.{Token, token, plain_text, symbol, as_text}
use Rattle.tokens.specs.Words.{words, word_token, prefixed}
use Rattle.tokens.specs.Listing.{text_of, bytes_of, pushes_of}
use Rattle.tokens.proofs.Bounds.{prefixed_short}
use Rattle.x86.specs.Mnemonics.{mnemonic_names, mnemonic_name}
use Rattle.x86.specs.Conditions.{negate}
use Rattle.x86.specs.Width.{return_register}
use Rattle.record.specs.declared.header.Header.{Header}
use Rattle.record.specs.Layout.{starts_at, starts_of}
use Rattle.record.specs.Body.{mnemonic_of, condition_of, operand_count, operand_at, name_of}
use Rattle.std.specs.Prelude.{Option, Some, None}
use Rattle.operand.specs.Names.{entry_at, name_or_at, name_or}
use Rattle.operand.proofs.Bounds.{AllBytes, bytes_drop, u64_small, up_to, Within, nothing, more, one, both, register_within, number_within, name_within, mem_within}
use Rattle.operand.proofs.Choices.{pick_le}
use Rattle.structure.specs.Plan.{Line}
use Rattle.structure.specs.Placed.{Placed}
use Rattle.expressions.specs.Condition.{body_of}
use Rattle.expressions.proofs.Bounds.{comma_within, body_bytes, operand_within, condition_within, arguments_within}
use Rattle.line.specs.declared.pieces.Site.{Site}
use Rattle.line.specs.Forms.{Piece, Form, row_of, form_of}
use Rattle.line.specs.Forms.Piece.{fixed, op, address, zeros, ones, condition, negated, arguments, target, start, accumulator, assembly}
use Rattle.line.specs.Codes.{piece_of, codes, codes_of}
use Rattle.line.specs.Fits.{Short, Fits}
use Rattle.line.proofs.RowTable.{every_row}
use Rattle.line.specs.Print.{length_from, name_length, insn_name, assembled, assembly_tokens, piece_tokens, pieces_tokens, site_of, line_tokens, mask_after, printed}

-- tokens made Text
same_texts : (ts : List Token) → text_of (map as_text ts) ≡ text_of ts
unfolding text_of
same_texts [] = refl
same_texts (t ∷ ts) = ap (λ (l : List ℕ). t.bytes ++ l) (same_texts ts)

as_text_lem : {n m : ℕ} (ts : List Token) → Within n m ts → Within n m (map as_text ts)
as_text_lem ts p = record { few = omega (arith, length-map ts as_text); short = rw same_texts p.short }

-- an instruction's name
length_from_lem : (n : List ℕ) (k m : ℕ) → length_from n k m ≤ k + m
unfolding length_from
length_from_lem n k zero = omega arith
length_from_lem n k (suc m) = pick_le (λ (x : ℕ). x) (k + suc m) (eqb (u8_at n k) 0) _ _ (omega arith) (omega (arith, length_from_lem n (suc k) m))

name_short : (b : List ℕ) → length (insn_name b) ≤ 24
unfolding insn_name name_length mnemonic_name mnemonic_names
name_short b =
    pick_le length 24 (eqb (mnemonic_of b) 0) _ _ (omega (arith, length-take (name_length (name_of b)) (name_of b), length_from_lem (name_of b) 0 24))
    (leb→le _ _ (every_at (up_to 24) [] tt mnemonic_names (mnemonic_of b) tt))

-- how many tokens a piece has at most
abbrev most_tokens : Piece → ℕ
most_tokens (fixed t) = 1
most_tokens (op k) = 14
most_tokens address = 14
most_tokens zeros = 1
most_tokens ones = 1
most_tokens condition = 40
most_tokens negated = 40
most_tokens arguments = 7500
most_tokens (target w) = 1
most_tokens start = 1
most_tokens accumulator = 1
most_tokens assembly = 3827

-- and how many bytes
abbrev most : Piece → ℕ
most (fixed t) = 1 + length t.bytes
most (op k) = 487
most address = 487
most zeros = 19
most ones = 19
most condition = 1002
most negated = 1002
most arguments = 244500
most (target w) = 486 + length w.bytes
most start = 46
most accumulator = 5
most assembly = 124720

abbrev most_of : List Piece → ℕ
most_of [] = 0
most_of (p ∷ ps) = most p + most_of ps

abbrev most_tokens_of : List Piece → ℕ
most_tokens_of [] = 0
most_tokens_of (p ∷ ps) = most_tokens p + most_tokens_of ps

-- no row has more than 8189 tokens and 300000 bytes
row_few : (form : Form) → most_tokens_of (row_of form) ≤ 8189
unfolding codes_of codes piece_of word_token words
row_few form = leb→le _ _ (every_row (λ (ps : List Piece). leb (most_tokens_of ps) 8189) tt form)

row_short : (form : Form) → most_of (row_of form) ≤ 300000
unfolding codes_of codes piece_of word_token words
row_short form = leb→le _ _ (every_row (λ (ps : List Piece). leb (most_of ps) 300000) tt form)

module _ (h : Header) (s : List ℕ) (ss : AllBytes s) (shift : nat_abs h.shift ≤ 2 ^ 31) where
  -- `__asm`: the count of operands is a byte
  assembled_within : (i : ℕ) (comma : Bool) (k n : ℕ) → Within (15 * n) (489 * n) (assembled h s (body_of h s i) comma k n)
  unfolding assembled
  assembled_within i comma k zero = nothing
  assembled_within i comma k (suc n) = more _ _ (comma_within comma (both (operand_within h s ss shift i k) (assembled_within i true (suc k) n))) (omega arith) (omega arith)

  assembly_within : (i : ℕ) → Within 3827 124720 (assembly_tokens h s (body_of h s i))
  unfolding assembly_tokens
  assembly_within i =
      let b = body_of h s i in
      let count = body_bytes h s ss i 2 in
      as_text_lem _
      (more 3827 124720
      (both (one (token 0 (insn_name b)) 24 (name_short b)) (both (one (plain_text " ") 1 (omega arith)) (assembled_within i false 0 (operand_count b))))
      (omega (arith, count)) (omega (arith, count)))

  -- an entry of the atlas, or a prefix and an address
  target_within : (va : ℕ) (w : Token) → va < 2 ^ 64 → Within 1 (486 + length w.bytes) (name_or h s va w ∷ [])
  unfolding name_or prefixed
  target_within va w p = go (entry_at h s va) (name_within h s ss va (symbol "loc_") (omega arith) p)
    where
      go : (e : Option ℕ) → Within 1 486 (name_or_at h s e va (symbol "loc_") ∷ []) → Within 1 (486 + length w.bytes) (name_or_at h s e va w ∷ [])
      go (Some k) t = more _ _ t (omega arith) (omega arith)
      go None t = one _ _ (rw length-append (omega (arith, hex_64 true va p)))

  piece_within : (c : Site) → c.at ≤ 500 → (p : Piece) → Within (most_tokens p) (most p) (piece_tokens h s c p)
  unfolding piece_tokens
  piece_within c l (fixed t) = more _ _ (one t (length t.bytes) (omega arith)) (omega arith) (omega arith)
  piece_within c l (op k) = more _ _ (operand_within h s ss shift c.at k) (omega arith) (omega arith)
  piece_within c l address = more _ _ (mem_within h s (body_of h s c.at) ss (body_bytes h s ss c.at) shift false) (omega arith) (omega arith)
  piece_within c l zeros = more _ _ (number_within false 0 (omega arith)) (omega arith) (omega arith)
  piece_within c l ones = more _ _ (number_within true 1 (omega arith)) (omega arith) (omega arith)
  piece_within c l condition = more _ _ (condition_within h s ss shift c.first c.at (condition_of (body_of h s c.at))) (omega arith) (omega arith)
  piece_within c l negated = more _ _ (condition_within h s ss shift c.first c.at (negate (condition_of (body_of h s c.at)))) (omega arith) (omega arith)
  piece_within c l arguments = more _ _ (arguments_within h s ss shift c.range c.at c.written l) (omega arith) (omega arith)
  piece_within c l (target w) =
      more _ _ (target_within _ w (u64_small (body_of h s c.at) (body_bytes h s ss c.at) (operand_at 0 + 2))) (omega arith) (omega arith)
  piece_within c l start =
      more _ _ (one _ 46 (prefixed_short (symbol "loc_") _ (omega arith) (u64_small (starts_of h s) (bytes_drop starts_at s ss) (8 * c.place)))) (omega arith) (omega arith)
  piece_within c l accumulator =
      more _ _ (register_within (return_register h.bits)) (omega arith) (omega arith)
  piece_within c l assembly = more _ _ (assembly_within c.at) (omega arith) (omega arith)

  pieces_within : (c : Site) → c.at ≤ 500 → (ps : List Piece) → Within (most_tokens_of ps) (most_of ps) (pieces_tokens h s c ps)
  unfolding pieces_tokens
  pieces_within c l [] = nothing
  pieces_within c l (p ∷ ps) = both (piece_within c l p) (pieces_within c l ps)

  line_within : (range mask : ℕ) (l : Line) → l.at ≤ 500 → Within 8189 300000 (line_tokens h s range mask l)
  unfolding line_tokens
  line_within range mask l p =
      let c = site_of h s range mask l in
      let form = form_of h s l.what c.first l.at in
      more 8189 300000 (pieces_within c p (row_of form)) (row_few form) (row_short form)

module _ (h : Header) (s : List ℕ) (ss : AllBytes s) (shift : nat_abs h.shift ≤ 2 ^ 31) where
  -- what `Fits` says, for any number of lines
  record Bounded (ls : List (List Token)) (n : ℕ) : Type 0 where
    bytes : bytes_of ls ≤ 300000 * n
    tokens : pushes_of ls ≤ 8189 * n
    count : length ls ≡ n
    each : Short 8189 ls

  printed_bounded : (range mask m : ℕ) (ls : List Line) → Placed m 500 ls → Bounded (printed h s range mask ls) (length ls)
  unfolding printed bytes_of pushes_of
  printed_bounded range mask m [] p = record { bytes = omega arith; tokens = omega arith; count = refl; each = tt }
  printed_bounded range mask m (l ∷ ls) p =
      let w = line_within h s ss shift range mask l p.1 in
      let r = printed_bounded range (mask_after h s mask l.what l.at) m ls p.2 in
      record { bytes = omega (arith, w.short, r.bytes); tokens = omega (arith, w.few, r.tokens); count = ap suc r.count; each = (w.few, r.each) }

-- a listing of at most 900 lines of instructions up to 500 has fewer than 2 ^ 32 bytes and tokens
pub printed_fits : (h : Header) (s : List ℕ) → AllBytes s → nat_abs h.shift ≤ 2 ^ 31 → (range mask m : ℕ) (ls : List Line)
    → Placed m 500 ls → length ls ≤ 900 → Fits (printed h s range mask ls)
printed_fits h s ss shift range mask m ls p l =
    let r = printed_bounded h s ss shift range mask m ls p in
    record { bytes = omega (arith, r.bytes); tokens = omega (arith, r.tokens); lines = omega (arith, r.count); each = r.each }
