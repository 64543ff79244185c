-- The tokens of an operand are fit for rows: none is empty, each is of a kind below 8, where question 8 got a yes of the body and question 9
-- of the atlas. Registers that exist have names, an atlas name has a byte, and every other token has a fixed part or digits.
use mathlib.Core.Path.{◌≡◌, refl}
use mathlib.Core.Bool.{Bool, true, false, ◌&&◌, ◌||◌}
use mathlib.Core.List.{List, [], ◌∷◌}
use Prim.Native.Nat.{ℕ, ◌≤◌, ◌<◌}
use native.Mathlib.Omega.{arith}
use borrow.Author.Tests.{leb-true, eqb-true}
use lib.Dec.{eqb, ltb, leb, ltb→lt}
use lib.IntN.{nat_abs}
use lib.ListN.{length, get_or, take, drop, length-take}
use Rattle.lists.specs.Choice.{pick, all_below}
use Rattle.lists.specs.Every.{both_yes}
use Rattle.lists.specs.Below.{all_at, below_at}
use Rattle.lists.specs.Bytes.{u8_at}
use Rattle.text.specs.NumberLaws.{num_some}
use Rattle.text.specs.Literal.{literal_text}
use Rattle.text.specs.LiteralBounds.{literal_some}
use Rattle.tokens.specs.Token.{Token, token, punct, symbol, register}
use Rattle.tokens.proofs.Fit.{Fit, fixed, one, behind, prefixed_fit}
use Rattle.x86.specs.Registers.{register_exists, register_name}
use Rattle.x86.specs.Width.{is_stack_pointer}
use Rattle.x86.specs.Sizes.{prefix_index, size_prefixes, size_prefix}
use Rattle.x86.proofs.Named.{register_some, width_exists}
use Rattle.record.specs.declared.header.Header.{Header}
use Rattle.record.specs.Layout.{entries_of, pairs_of, texts_of}
use Rattle.record.specs.Atlas.{entry_kind, entry_length, text_start, entry_text, text_byte_ok, text_ok, entries_ok, texts_ok, atlas_ok}
use Rattle.record.specs.Asked.{atlas_asked}
use Rattle.record.specs.Body.{segment_of, index_of, scale_of, memory_size, memory_address, operand_kind, register_byte, operand_number}
use Rattle.record.proofs.Bodies.{Proper}
use Rattle.record.proofs.SearchLaws.{find_kept}
use Rattle.operand.specs.Expr.{Expr, wrap_if}
use Rattle.operand.specs.Names.{entry_at, entry_token, name_or_at, name_or, in_span, is_literal}
use Rattle.operand.specs.Memory.{register_token, number, segment_word, type_word, prefix_word, address_of, is_negative, is_shifted, slot_base, slot_number, is_slot, slot_token, displacement, scaled, registers, address_expr, is_segment_read, is_global, segment_read, address, mem_expr, mem_tokens}
use Rattle.operand.specs.Operand.{signed_read, in_window, immediate_number, immediate, op_tokens}
use Rattle.operand.proofs.Choices.{either, prefix_small}

-- a list whose first entry is not 0 has one
pub first_some : (t : List ℕ) → 0 < get_or t 0 0 → 0 < length t
first_some [] h = h
first_some (x ∷ t) h = omega arith

-- ---- tokens by themselves
pub register_fit : (r : ℕ) → register_exists r ≡ true → Fit (register_token r ∷ [])
register_fit r e = one 1 (register_name r) (omega arith) (register_some r e)

pub number_fit : (f : Bool) (v : ℕ) → Fit (number f v ∷ [])
number_fit f v = one 2 _ (omega arith) (num_some f v)

type_fit : (n : ℕ) → Fit (type_word n ∷ [])
unfolding type_word
type_fit n = one 3 _ (omega arith) (omega arith)

prefix_fit : (n : ℕ) → Fit (prefix_word n ∷ [])
unfolding prefix_word size_prefix size_prefixes
prefix_fit n =
    one 4 (size_prefix n) (omega arith) (ltb→lt _ _ (below_at (λ k. ltb 0 (length (get_or size_prefixes k []))) 5 tt (prefix_index n) (omega (arith, prefix_small n))))

segment_fit : (seg size : ℕ) → Fit (segment_word seg size ∷ [])
unfolding segment_word
segment_fit seg size =
    let P : Token → Type 0 = λ t. Fit (t ∷ []) in
    let by : (a b c : Token) → P a → P b → P c → P (pick (eqb size 8) a (pick (eqb size 4) b c)) = λ a b c p q r. either P (eqb size 8) _ _ p (either P (eqb size 4) _ _ q r) in
    either P (eqb seg 117) _ _ (by _ _ _ (fixed _ tt) (fixed _ tt) (fixed _ tt)) (by _ _ _ (fixed _ tt) (fixed _ tt) (fixed _ tt))

pub wrap_fit : (l : Bool) {ts : List Token} → Fit ts → Fit (wrap_if l ts)
wrap_fit true p = behind (fixed (punct "(") tt) (behind p (fixed (punct ")") tt))
wrap_fit false p = p

address_of_lem : (f : Bool) (t : Token) → Fit (t ∷ []) → Fit (address_of f t)
address_of_lem true t p = p
address_of_lem false t p = behind (fixed (punct "&") tt) p

-- ---- names: "names of 1 or more bytes 0x20 to 0x7e", so the text has a byte there
text_some : (n : ℕ) (t : List ℕ) → text_ok 3 n t ≡ true → 0 < length (take n t)
unfolding text_ok
text_some n t ok =
    let p = both_yes (leb 1 n) (all_below (λ j. text_byte_ok 3 (u8_at t j)) n) ok in
    let some : 1 ≤ n = leb-true 1 n p.0 in
    let byte = all_at (λ j. text_byte_ok 3 (u8_at t j)) n 0 p.1 some in
    let seen : 32 ≤ u8_at t 0 = leb-true 32 (u8_at t 0) (both_yes (leb 32 (u8_at t 0)) (leb (u8_at t 0) 126) byte).0 in
    rw length-take (omega (arith, first_some t (omega arith)))

module _ (h : Header) (s : List ℕ) (asked : atlas_asked h s ≡ true) where
  abbrev kind : ℕ → ℕ
  kind k = entry_kind (pairs_of h s) k

  abbrev named : ℕ → List ℕ
  named k = drop (text_start (pairs_of h s) k) (texts_of h s)

  abbrev text : ℕ → List ℕ
  text k = entry_text (pairs_of h s) (texts_of h s) k

  entry_ok : (k : ℕ) → k < h.atlas → text_ok (kind k) (entry_length (pairs_of h s) k) (named k) ≡ true
  unfolding atlas_asked atlas_ok texts_ok
  entry_ok k l =
      let texts = texts_ok (pairs_of h s) (texts_of h s) h.atlas in
      all_at (λ j. text_ok (kind j) (entry_length (pairs_of h s) j) (named j)) h.atlas k
      (both_yes (entries_ok (entries_of h s) (pairs_of h s) h.atlas && eqb (text_start (pairs_of h s) h.atlas) h.text) texts asked).1 l

  entry_fit : (k : ℕ) → k < h.atlas → Fit (entry_token h s k ∷ [])
  unfolding entry_token
  entry_fit k l = go (eqb (kind k) 3) refl
    where
      go : (b : Bool) → eqb (kind k) 3 ≡ b → Fit (pick b (token 4 (text k)) (token 5 (literal_text (eqb (kind k) 2) (text k))) ∷ [])
      go true e = one 4 _ (omega arith) (text_some (entry_length (pairs_of h s) k) (named k) (rw (eqb-true (kind k) 3 e) at (entry_ok k l)))
      go false e = one 5 _ (omega arith) (literal_some _ _)

  pub name_fit : (va : ℕ) (w : Token) → Fit (w ∷ []) → Fit (name_or h s va w ∷ [])
  unfolding name_or entry_at
  name_fit va w p =
      find_kept (entries_of h s) va (λ f. Fit (name_or_at h s f va w ∷ [])) 0 h.atlas h.atlas (omega arith) (prefixed_fit w va p) entry_fit

  immediate_fit : (kind v : ℕ) → Fit (immediate h s kind v ∷ [])
  unfolding immediate immediate_number
  immediate_fit kind v =
      either (λ (t : Token). Fit (t ∷ [])) (leb 0x1000 v && in_span h s v) _ _ (name_fit v (symbol "off_") (fixed (symbol "off_") tt))
      (either (λ (t : Token). Fit (t ∷ [])) (in_window (signed_read kind v)) _ _ (number_fit true _) (number_fit false v))

  -- ---- operands
  module _ (b : List ℕ) (ok : Proper b) where
    index_fit : Fit (register_token (index_of b) ∷ [])
    index_fit = register_fit (index_of b) ok.index

    base_fit : Fit (register_token (slot_base h b) ∷ [])
    unfolding slot_base
    base_fit = register_fit _ (either (λ r. register_exists r ≡ true) (is_shifted h b) _ _ (width_exists h.bits).1 ok.base)

    scaled_fit : Fit (scaled b).tokens
    scaled_fit =
        either (λ (e : Expr). Fit e.tokens) (ltb 1 (scale_of b)) _ _ (behind index_fit (behind (fixed (punct " * ") tt) (number_fit false (scale_of b)))) index_fit

    registers_fit : Fit (registers h b).tokens
    registers_fit =
        either (λ (e : Expr). Fit e.tokens) (eqb (index_of b) 0) _ _ base_fit
        (either (λ (e : Expr). Fit e.tokens) (eqb (slot_base h b) 0) _ _ scaled_fit
        (behind base_fit (behind (fixed (punct " + ") tt) (wrap_fit (scaled b).loose scaled_fit))))

    address_fit : Fit (address_expr h b).tokens
    unfolding address_expr
    address_fit =
        either (λ (e : Expr). Fit e.tokens) (eqb (nat_abs (displacement h b)) 0) _ _ registers_fit
        (behind (wrap_fit (registers h b).loose registers_fit)
        (behind (either (λ (t : Token). Fit (t ∷ [])) (is_negative (displacement h b)) _ _ (fixed (punct " - ") tt) (fixed (punct " + ") tt))
        (number_fit false (nat_abs (displacement h b)))))

    slot_fit : Fit (slot_token h b ∷ [])
    unfolding slot_token
    slot_fit =
        prefixed_fit _ (nat_abs (slot_number h b))
        (either (λ (t : Token). Fit (t ∷ [])) (is_stack_pointer h.bits (slot_base h b) || is_negative (slot_number h b)) _ _
        (fixed (register "var_") tt) (fixed (register "arg_") tt))

    address_either : (deref : Bool) → Fit (address h deref b).tokens
    address_either true = behind (type_fit (memory_size b)) (wrap_fit (address_expr h b).loose address_fit)
    address_either false = address_fit

    segment_read_lem : Fit (segment_read b)
    segment_read_lem =
        behind (segment_fit (segment_of b) (memory_size b)) (behind (fixed (punct "(") tt) (behind (number_fit false _) (fixed (punct ")") tt)))

    pub mem_fit : (deref : Bool) → Fit (mem_tokens h s deref b)
    unfolding mem_tokens mem_expr
    mem_fit deref =
        either (λ (e : Expr). Fit e.tokens) (is_segment_read b) _ _ segment_read_lem
        (either (λ (e : Expr). Fit e.tokens) (is_global b) _ _
        (address_of_lem (deref || is_literal h s (memory_address b)) _ (name_fit (memory_address b) (prefix_word (memory_size b)) (prefix_fit (memory_size b))))
        (either (λ (e : Expr). Fit e.tokens) (is_slot h b) _ _ (address_of_lem deref _ slot_fit)
        (address_either deref)))

    pub op_fit : (i : ℕ) → i < 5 → Fit (op_tokens h s b i)
    unfolding op_tokens
    op_fit i l = go (eqb (operand_kind b i) 0)
      where
        go : (r : Bool)
            → Fit (pick r (register_token (pick r (register_byte b i) 0) ∷ [])
            (pick (eqb (operand_kind b i) 1) (mem_tokens h s true b)
            (pick (eqb (operand_kind b i) 2) (name_or h s (operand_number b i) (symbol "loc_") ∷ [])
            (pick (leb (operand_kind b i) 10) (immediate h s (operand_kind b i) (operand_number b i) ∷ []) (token 0 (63 ∷ []) ∷ [])))))
        go true = register_fit (register_byte b i) (ok.operands i l)
        go false =
            either Fit (eqb (operand_kind b i) 1) _ _ (mem_fit true)
            (either Fit (eqb (operand_kind b i) 2) _ _ (name_fit (operand_number b i) (symbol "loc_") (fixed (symbol "loc_") tt))
            (either Fit (leb (operand_kind b i) 10) _ _ (immediate_fit (operand_kind b i) (operand_number b i)) (fixed _ tt)))
