-- Every line of an accepted record is fit for rows: it has a token, none of its tokens is empty, and each is of a kind below 8.
-- Each piece is, where the line's instruction is what the piece reads; one test of the rows, computed, tells which pieces a line has.
use mathlib.Core.Path.{◌≡◌, refl}
use mathlib.Core.Bool.{Bool, true, false, not, ◌&&◌, ◌||◌, beq, false≢true}
use mathlib.Core.List.{List, [], ◌∷◌}
use Prim.Native.Nat.{ℕ, zero, suc, ◌+◌, ◌≤◌, ◌<◌}
use native.Mathlib.Omega.{arith}
use borrow.Author.Tests.{leb-true, eqb-true, eqb-false}
use lib.Dec.{T, eqb, ltb, leb, leb→le, ltb→lt}
use lib.ListN.{length, take, length-append, length-take}
use Rattle.lists.specs.Choice.{pick, all_below}
use Rattle.lists.specs.Every.{every, both_yes, both_left, both_right}
use Rattle.lists.specs.Bytes.{u8_at}
use Rattle.tokens.specs.Token.{Token, plain_text, symbol}
use Rattle.tokens.specs.Words.{words, word_token}
use Rattle.tokens.proofs.Fit as tokens
use Rattle.tokens.proofs.Fit.{fit_token, Fit, none, one, behind, prefixed_fit, as_text_lem}
use Rattle.x86.specs.Mnemonics.{mnemonic_name}
use Rattle.x86.specs.Conditions.{negate}
use Rattle.x86.specs.Width.{return_register}
use Rattle.x86.proofs.Named.{width_exists, mnemonic_some, negate_within}
use Rattle.record.specs.declared.header.Header.{Header}
use Rattle.record.specs.Layout.{bodies_of}
use Rattle.record.specs.Asked.{atlas_asked}
use Rattle.record.specs.Body.{mnemonic_of, condition_of, operand_count, operand_number, name_of, sets_by_condition, name_byte, name_goes_on, is_name}
use Rattle.record.proofs.Bodies.{Proper}
use Rattle.operand.proofs.Choices.{either}
use Rattle.operand.proofs.Fit.{first_some, register_fit, number_fit, name_fit, mem_fit, op_fit}
use Rattle.structure.specs.Plan.{What, Line}
use Rattle.structure.specs.Plan.What.{label_line, do_line, open_line, if_goto, while_line, close_line, goto_line, tail_call, insn_line}
use Rattle.flow.proofs.LinesRead.{Conditional, Reads}
use Rattle.expressions.specs.Condition.{body_of, condition_tokens}
use Rattle.expressions.proofs.Fit.{comma_fit, condition_fit, arguments_fit}
use Rattle.line.specs.declared.pieces.Site.{Site}
use Rattle.line.specs.Forms.{Piece, Form, row_of, form_of, insn_form, returns_value}
use Rattle.line.specs.Forms.Piece.{fixed, op, address, zeros, ones, condition, negated, arguments, target, start, accumulator, assembly}
use Rattle.line.specs.Forms.Form.{label, open_do, open_if, goto_if, close_while, close, goto, tail_call_target}
use Rattle.line.specs.Codes.{piece_of, codes, codes_of}
use Rattle.line.specs.Print.{length_from, name_length, insn_name, assembled, assembly_tokens, piece_tokens, pieces_tokens, site_of, line_tokens}
use Rattle.line.proofs.RowTable.{every_row}
use Rattle.line.proofs.ConditionForms.{reach, reaches, told, insn_told}

-- what question 8 asks of the mnemonic and the condition
proper_condition : (b : List ℕ) → Proper b
    → (mnemonic_of b ≤ 45) × (condition_of b ≤ 16) × ((eqb (mnemonic_of b) 0 || beq (sets_by_condition (mnemonic_of b)) (not (eqb (condition_of b) 0))) ≡ true)
proper_condition b ok =
    let m = leb (mnemonic_of b) 45 in
    let c = leb (condition_of b) 16 in
    let f = both_yes (m && c) (eqb (mnemonic_of b) 0 || beq (sets_by_condition (mnemonic_of b)) (not (eqb (condition_of b) 0))) ok.condition in
    let g = both_yes m c f.0 in
    (leb-true (mnemonic_of b) 45 g.0, leb-true (condition_of b) 16 g.1, f.1)

-- ---- an instruction's name
length_least : (n : List ℕ) (k m : ℕ) → k ≤ length_from n k m
unfolding length_from
length_least n k zero = omega arith
length_least n k (suc m) = either (λ (x : ℕ). k ≤ x) (eqb (u8_at n k) 0) _ _ (omega arith) (omega (arith, length_least n (suc k) m))

length_some : (n : List ℕ) (m : ℕ) → eqb (u8_at n 0) 0 ≡ false → 0 < length_from n 0 (suc m)
unfolding length_from
length_some n m e = rw e (length_least n 1 m)

given_some : (n : List ℕ) → is_name n ≡ true → 0 < length (take (name_length n) n)
unfolding is_name name_length
given_some n ok =
    let z = go (eqb (u8_at n 0) 0) refl (both_yes (name_byte (u8_at n 0)) (all_below (name_goes_on n) 23) ok).0 in
    let l = eqb-false (u8_at n 0) 0 z in
    rw length-take (omega (arith, first_some n (omega arith), length_some n 23 z))
  where
    go : (b : Bool) → eqb (u8_at n 0) 0 ≡ b → name_byte (u8_at n 0) ≡ true → b ≡ false
    go false e ok = refl
    go true e ok = absurd (false≢true (rw (eqb-true (u8_at n 0) 0 e) at ok))

name_some : (b : List ℕ) → Proper b → 0 < length (insn_name b)
unfolding insn_name
name_some b ok = go (eqb (mnemonic_of b) 0) refl
  where
    go : (z : Bool) → eqb (mnemonic_of b) 0 ≡ z → 0 < length (pick z (take (name_length (name_of b)) (name_of b)) (mnemonic_name (mnemonic_of b)))
    go true e = given_some (name_of b) (ok.name e)
    go false e = mnemonic_some (mnemonic_of b) (omega (arith, eqb-false (mnemonic_of b) 0 e)) (proper_condition b ok).0

-- ---- pieces
-- what is fixed of a piece is fit, and an operand is one of five
abbrev sound : Piece → Bool
sound (fixed t) = fit_token t
sound (op k) = ltb k 5
sound address = true
sound zeros = true
sound ones = true
sound condition = true
sound negated = true
sound arguments = true
sound (target w) = fit_token w
sound start = true
sound accumulator = true
sound assembly = true

-- how many tokens a piece has at least
abbrev least : Piece → ℕ
least (fixed t) = 1
least (op k) = 0
least address = 0
least zeros = 1
least ones = 1
least condition = 0
least negated = 0
least arguments = 0
least (target w) = 1
least start = 1
least accumulator = 1
least assembly = 0

abbrev least_of : List Piece → ℕ
least_of [] = 0
least_of (p ∷ ps) = least p + least_of ps

abbrev row_sound : List Piece → Bool
row_sound ps = every sound ps && ltb 0 (least_of ps) && reaches 3 ps

row_sound_lem : (f : Form) → T (row_sound (row_of f))
unfolding codes_of codes piece_of word_token words
row_sound_lem f = every_row row_sound tt f

-- a line has a token, and all are fit
pub record FitLine (ts : List Token) : Type 0 where
  pub each : Fit ts
  pub long : 0 < length ts

module _ (h : Header) (s : List ℕ) (asked : atlas_asked h s ≡ true) (bodies : (i : ℕ) → i < h.instructions → Proper (body_of h s i)) where
  -- what is known of a line's instruction i, by how far its pieces reach
  record Known (n i : ℕ) : Type 0 where
    before : 1 ≤ n → i ≤ h.instructions
    body : 2 ≤ n → i < h.instructions
    tested : 3 ≤ n → Conditional h s i

  assembled_fit : (b : List ℕ) → Proper b → (comma : Bool) (k n : ℕ) → k + n ≤ 5 → Fit (assembled h s b comma k n)
  unfolding assembled
  assembled_fit b ok comma k zero l = none
  assembled_fit b ok comma k (suc n) l =
      comma_fit comma (behind (op_fit h s asked b ok k (omega arith)) (assembled_fit b ok true (suc k) n (omega arith)))

  assembly_fit : (b : List ℕ) → Proper b → Fit (assembly_tokens h s b)
  unfolding assembly_tokens
  assembly_fit b ok =
      as_text_lem (behind (one 0 (insn_name b) (omega arith) (name_some b ok)) (behind (tokens.fixed (plain_text " ") tt) (assembled_fit b ok false 0 (operand_count b) (omega (arith, ok.count)))))

  condition_small : (i : ℕ) → Conditional h s i → (1 ≤ condition_of (body_of h s i)) × (condition_of (body_of h s i) ≤ 16)
  condition_small i c =
      (omega (arith, eqb-false (condition_of (body_of h s i)) 0 c.1), (proper_condition (body_of h s i) (bodies i c.0)).1)

  shown_fit : (first i cc : ℕ) → i < h.instructions → (1 ≤ cc) × (cc ≤ 16) → Fit (condition_tokens h s first i cc)
  shown_fit first i cc l c = condition_fit cc c.0 c.1 h s asked first i (λ k b. bodies k (omega arith))

  piece_fit : (c : Site) (n : ℕ) → Known n c.at → (p : Piece) → T (sound p) → reach p ≤ n → Fit (piece_tokens h s c p)
  unfolding piece_tokens
  piece_fit c n a (fixed t) w r = tokens.fixed t w
  piece_fit c n a (op k) w r = op_fit h s asked (body_of h s c.at) (bodies c.at (a.body r)) k (ltb→lt k 5 w)
  piece_fit c n a address w r = mem_fit h s asked (body_of h s c.at) (bodies c.at (a.body r)) false
  piece_fit c n a zeros w r = number_fit false 0
  piece_fit c n a ones w r = number_fit true 1
  piece_fit c n a condition w r =
      let t = a.tested r in shown_fit c.first c.at (condition_of (body_of h s c.at)) t.0 (condition_small c.at t)
  piece_fit c n a negated w r =
      let t = a.tested r in
      let k = condition_small c.at t in
      shown_fit c.first c.at (negate (condition_of (body_of h s c.at))) t.0 (negate_within (condition_of (body_of h s c.at)) k.0 k.1)
  piece_fit c n a arguments w r = arguments_fit h s asked c.range c.at c.written (λ k l. bodies k (omega (arith, a.before r)))
  piece_fit c n a (target t) w r = name_fit h s asked (operand_number (body_of h s c.at) 0) t (tokens.fixed t w)
  piece_fit c n a start w r = prefixed_fit (symbol "loc_") _ (tokens.fixed (symbol "loc_") tt)
  piece_fit c n a accumulator w r = register_fit (return_register h.bits) (width_exists h.bits).0
  piece_fit c n a assembly w r = assembly_fit (body_of h s c.at) (bodies c.at (a.body r))

  pieces_fit : (c : Site) (n : ℕ) → Known n c.at → (ps : List Piece) → T (every sound ps) → T (reaches n ps) → Fit (pieces_tokens h s c ps)
  unfolding pieces_tokens
  pieces_fit c n a [] w r = none
  pieces_fit c n a (p ∷ ps) w r =
      behind (piece_fit c n a p (both_left (sound p) (every sound ps) w) (leb→le _ _ (both_left (leb (reach p) n) (reaches n ps) r)))
      (pieces_fit c n a ps (both_right (sound p) (every sound ps) w) (both_right (leb (reach p) n) (reaches n ps) r))

  piece_least : (c : Site) (p : Piece) → least p ≤ length (piece_tokens h s c p)
  unfolding piece_tokens
  piece_least c (fixed t) = omega arith
  piece_least c (op k) = omega arith
  piece_least c address = omega arith
  piece_least c zeros = omega arith
  piece_least c ones = omega arith
  piece_least c condition = omega arith
  piece_least c negated = omega arith
  piece_least c arguments = omega arith
  piece_least c (target w) = omega arith
  piece_least c start = omega arith
  piece_least c accumulator = omega arith
  piece_least c assembly = omega arith

  pieces_least : (c : Site) (ps : List Piece) → least_of ps ≤ length (pieces_tokens h s c ps)
  unfolding pieces_tokens
  pieces_least c [] = omega arith
  pieces_least c (p ∷ ps) = rw length-append (omega (arith, piece_least c p, pieces_least c ps))

  -- a row whose pieces read no more than is known
  row_fit : (c : Site) (n : ℕ) → Known n c.at → (f : Form) → T (reaches n (row_of f)) → FitLine (pieces_tokens h s c (row_of f))
  row_fit c n a f r =
      let t = both_left (every sound (row_of f) && ltb 0 (least_of (row_of f))) (reaches 3 (row_of f)) (row_sound_lem f) in
      record {
        each = pieces_fit c n a (row_of f) (both_left (every sound (row_of f)) (ltb 0 (least_of (row_of f))) t) r;
        long = omega (arith, ltb→lt 0 (least_of (row_of f)) (both_right (every sound (row_of f)) (ltb 0 (least_of (row_of f))) t), pieces_least c (row_of f));
      }

  -- ---- lines
  nothing_known : (i : ℕ) → Known 0 i
  nothing_known i = record { before = λ l. absurd (omega arith); body = λ l. absurd (omega arith); tested = λ l. absurd (omega arith) }

  before_known : (i : ℕ) → i ≤ h.instructions → Known 1 i
  before_known i b = record { before = λ l. b; body = λ l. absurd (omega arith); tested = λ l. absurd (omega arith) }

  body_known : (i : ℕ) → i < h.instructions → Known 2 i
  body_known i b = record { before = λ l. omega arith; body = λ l. b; tested = λ l. absurd (omega arith) }

  condition_known : (i : ℕ) → Conditional h s i → Known 3 i
  condition_known i c = let b = c.0 in record { before = λ l. omega arith; body = λ l. b; tested = λ l. c }

  -- a setcc or cmovcc has a condition
  set_known : (i : ℕ) → i < h.instructions → sets_by_condition (mnemonic_of (body_of h s i)) ≡ true → Known 3 i
  set_known i l e =
      let b = body_of h s i in
      condition_known i (l, go (mnemonic_of b) (eqb (mnemonic_of b) 0) refl (eqb (condition_of b) 0) e (proper_condition b (bodies i l)).2)
    where
      go : (m : ℕ) (z : Bool) → eqb m 0 ≡ z → (c : Bool) → sets_by_condition m ≡ true → (z || beq (sets_by_condition m) (not c)) ≡ true → c ≡ false
      go m true q c e t = absurd (false≢true (rw (eqb-true m 0 q) at e))
      go m false q false e t = refl
      go m false q true e t = absurd (false≢true (rw e at t))

  -- by whether its form reads a condition
  insn_fit : (c : Site) (f : Form) → c.at < h.instructions → T (told f (mnemonic_of (body_of h s c.at))) → FitLine (pieces_tokens h s c (row_of f))
  insn_fit c f l t = go (reaches 2 (row_of f)) refl (sets_by_condition (mnemonic_of (body_of h s c.at))) refl t
    where
      go : (r : Bool) → reaches 2 (row_of f) ≡ r → (q : Bool) → sets_by_condition (mnemonic_of (body_of h s c.at)) ≡ q → T (r || q) → FitLine (pieces_tokens h s c (row_of f))
      go true e q d t = row_fit c 2 (body_known c.at l) f (rw e tt)
      go false e true d t = row_fit c 3 (set_known c.at l d) f (both_right (every sound (row_of f) && ltb 0 (least_of (row_of f))) (reaches 3 (row_of f)) (row_sound_lem f))
      go false e false d t = absurd t

  site_fit : (c : Site) (w : What) → Reads h s w c.at → FitLine (pieces_tokens h s c (row_of (form_of h s w c.first c.at)))
  unfolding row_of
  site_fit c label_line a = row_fit c 0 (nothing_known c.at) label tt
  site_fit c do_line a = row_fit c 0 (nothing_known c.at) open_do tt
  site_fit c close_line a = row_fit c 0 (nothing_known c.at) close tt
  site_fit c open_line a = row_fit c 3 (condition_known c.at a) open_if tt
  site_fit c if_goto a = row_fit c 3 (condition_known c.at a) goto_if tt
  site_fit c while_line a = row_fit c 3 (condition_known c.at a) close_while tt
  site_fit c goto_line a = row_fit c 1 (before_known c.at a) goto tt
  site_fit c tail_call a = row_fit c 1 (before_known c.at a) tail_call_target tt
  site_fit c insn_line a =
      let value = returns_value (bodies_of h s) c.first c.at in
      insn_fit c (insn_form value (body_of h s c.at)) a (insn_told (body_of h s c.at) value)

  pub line_fit : (range mask : ℕ) (l : Line) → Reads h s l.what l.at → FitLine (line_tokens h s range mask l)
  unfolding line_tokens
  line_fit range mask l a = site_fit (site_of h s range mask l) l.what a
