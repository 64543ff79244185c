-- How long an operand can be: at most 14 tokens and 487 bytes, where the record is one of bytes.
-- Each token has a bound of its own, and bounds add up (`Within`); the longest token is a string's literal.
use mathlib.Core.Bool.{Bool, true, false, ◌&&◌, ◌||◌}
use mathlib.Core.List.{List, [], ◌∷◌, ◌++◌, append-nil}
use Prim.Native.Nat.{ℕ, suc, ◌+◌, ◌*◌, ◌/◌, ◌%◌, ◌^◌, ◌≤◌, ◌<◌}
use native.Mathlib.Decide.{dec_lt}
use native.Mathlib.Omega.{arith}
use borrow.Author.Tests.{lt-ltb, le-ltb}
use lib.Dec.{leb, leb→le, eqb, ltb}
use lib.IntN.{ℤ, pos, negsuc, sub_ℕ, ◌+ℤ◌, nat_abs}
use lib.ListN.{length, get_or, drop, length-append, length-take}
use lib.Seq.{get_or-drop}
use Rattle.lists.specs.Every.{every, every_at}
use Rattle.lists.specs.Bytes.{u16_at, u32_at, u64_at}
use Rattle.lists.specs.Signed.{signed_at}
use Rattle.lists.specs.SignedLaws.{signed_abs}
use Rattle.text.specs.NumberLaws.{num_64}
use Rattle.text.specs.LiteralBounds.{literal_short}
use Rattle.tokens.specs.Token.{Token, punct, symbol}
use Rattle.tokens.specs.Words.{prefixed}
use Rattle.tokens.specs.Listing.{text_of}
use Rattle.tokens.proofs.ListingLaws.{text_append}
use Rattle.tokens.proofs.Bounds.{prefixed_short}
use Rattle.operand.proofs.Choices.{either, pick_le}
use Rattle.operand.proofs.Displacements.{fits_abs, slot_fits, displacement_fits}
use Rattle.operand.proofs.WordNames.{type_short, prefix_short, segment_short}
use Rattle.x86.specs.Registers.{register_names, register_name}
use Rattle.x86.specs.Width.{is_stack_pointer}
use Rattle.record.specs.declared.header.Header.{Header}
use Rattle.record.specs.Layout.{pairs_at, pairs_of}
use Rattle.record.specs.Atlas.{entry_kind}
use Rattle.record.specs.Body.{operand_kind, operand_at, segment_of, scale_of, index_of, memory_size, memory_address}
use Rattle.std.specs.Prelude.{Option, Some, None}
use Rattle.operand.specs.Expr.{Expr, wrap, wrap_if}
use Rattle.operand.specs.Names.{entry_at, entry_token, name_or_at, name_or, in_span, is_literal}
use Rattle.operand.specs.Memory.{register_token, number, prefix_word, address_of, is_negative, is_shifted, slot_base, slot_displacement, slot_number, is_slot, slot_token, displacement, scaled, registers, address_expr, is_segment_read, is_global, segment_read, global, address, mem_expr, mem_tokens}
use Rattle.operand.specs.Operand.{signed_read, in_window, immediate_number, immediate, op_tokens}

-- a list of bytes
abbrev pub AllBytes : List ℕ → Type 0
AllBytes s = (i : ℕ) → get_or s i 0 < 256

pub bytes_drop : (n : ℕ) (s : List ℕ) → AllBytes s → AllBytes (drop n s)
bytes_drop n s bs i = rw get_or-drop (bs (n + i))

module _ (s : List ℕ) (bs : AllBytes s) where
  u16_small : (at : ℕ) → u16_at s at < 65536
  u16_small at = omega (arith, bs at, bs (at + 1))

  u32_small : (at : ℕ) → u32_at s at < 4294967296
  u32_small at = omega (arith, u16_small at, u16_small (at + 2))

  pub u64_small : (at : ℕ) → u64_at s at < 2 ^ 64
  u64_small at = omega (arith, u32_small at, u32_small (at + 4))

-- at most n letters
abbrev pub up_to : ℕ → List ℕ → Bool
up_to n t = leb (length t) n

-- every name of every class has at most 5 letters
pub register_short : (r : ℕ) → length (register_name r) ≤ 5
unfolding register_name register_names
register_short r =
    let names = get_or register_names (r / 16) [] in
    let class = every_at (every (up_to 5)) [] tt register_names (r / 16) tt in
    pick_le length 5 (eqb r 0) _ _ (omega arith) (leb→le _ _ (every_at (up_to 5) [] tt names (r % 16) class))

-- sums of signed numbers
difference_abs : (a b : ℕ) → nat_abs (sub_ℕ a b) ≤ a + b
difference_abs a b =
    elim (dec_lt a b) [
      | yes h ↦ rw (lt-ltb a b h) (omega arith)
      | no h ↦ rw (le-ltb a b (omega arith)) (omega arith)
    ]

pub sum_abs : (a b : ℤ) → nat_abs (a +ℤ b) ≤ nat_abs a + nat_abs b
sum_abs (pos a) (pos b) = omega arith
sum_abs (pos a) (negsuc b) = difference_abs a (suc b)
sum_abs (negsuc a) (pos b) = omega (arith, difference_abs b (suc a))
sum_abs (negsuc a) (negsuc b) = omega arith

-- at most n tokens, of at most m bytes in all
pub record Within (n m : ℕ) (ts : List Token) : Type 0 where
  pub few : length ts ≤ n
  pub short : length (text_of ts) ≤ m

pub nothing : Within 0 0 []
unfolding text_of
nothing = record { few = omega arith; short = omega arith }

pub more : {n m : ℕ} {ts : List Token} (k l : ℕ) → Within n m ts → n ≤ k → m ≤ l → Within k l ts
more k l p a b = record { few = omega arith; short = omega arith }

pub one : (t : Token) (m : ℕ) → length t.bytes ≤ m → Within 1 m (t ∷ [])
unfolding text_of
one t m p = record { few = omega arith; short = rw append-nil p }

pub both : {n m k l : ℕ} {a b : List Token} → Within n m a → Within k l b → Within (n + k) (m + l) (a ++ b)
both {a = a} {b = b} p q = record { few = omega (arith, length-append a b); short = rw text_append (omega (arith, length-append (text_of a) (text_of b))) }

pub wrapped : (n m : ℕ) (e : Expr) → Within n m e.tokens → Within (n + 2) (m + 2) (wrap e)
wrapped n m e p = go e.loose
  where
    go : (l : Bool) → Within (n + 2) (m + 2) (wrap_if l e.tokens)
    go true = more (n + 2) (m + 2) (both (one (punct "(") 1 (omega arith)) (both p (one (punct ")") 1 (omega arith)))) (omega arith) (omega arith)
    go false = more (n + 2) (m + 2) p (omega arith) (omega arith)

addressed : (m : ℕ) (f : Bool) (t : Token) → Within 1 m (t ∷ []) → Within 2 (1 + m) (address_of f t)
addressed m true t p = more 2 (1 + m) p (omega arith) (omega arith)
addressed m false t p = both (one (punct "&") 1 (omega arith)) p

pub register_within : (r : ℕ) → Within 1 5 (register_token r ∷ [])
register_within r = one (register_token r) 5 (register_short r)

pub number_within : (f : Bool) (v : ℕ) → v < 2 ^ 64 → Within 1 19 (number f v ∷ [])
number_within f v p = one (number f v) 19 (num_64 f v p)

module _ (h : Header) (b : List ℕ) (bs : AllBytes b) where
  scaled_within : Within 3 27 (scaled b).tokens
  scaled_within =
      either (λ (e : Expr). Within 3 27 e.tokens) (ltb 1 (scale_of b)) _ _
      (both (register_within (index_of b)) (both (one (punct " * ") 3 (omega arith)) (number_within false (scale_of b) (omega (arith, bs 7)))))
      (more 3 27 (register_within (index_of b)) (omega arith) (omega arith))

  registers_within : Within 7 37 (registers h b).tokens
  registers_within =
      either (λ (e : Expr). Within 7 37 e.tokens) (eqb (index_of b) 0) _ _
      (more 7 37 (register_within (slot_base h b)) (omega arith) (omega arith))
      (either (λ (e : Expr). Within 7 37 e.tokens) (eqb (slot_base h b) 0) _ _
      (more 7 37 scaled_within (omega arith) (omega arith))
      (both (register_within (slot_base h b)) (both (one (punct " + ") 3 (omega arith)) (wrapped 3 27 (scaled b) scaled_within))))

  address_within : Within 11 61 (address_expr h b).tokens
  unfolding address_expr
  address_within =
      either (λ (e : Expr). Within 11 61 e.tokens) (eqb (nat_abs (displacement h b)) 0) _ _
      (more 11 61 registers_within (omega arith) (omega arith))
      (both (wrapped 7 37 (registers h b) registers_within)
      (both
      (either (λ (t : Token). Within 1 3 (t ∷ [])) (is_negative (displacement h b)) _ _ (one (punct " - ") 3 (omega arith)) (one (punct " + ") 3 (omega arith)))
      (number_within false (nat_abs (displacement h b)) (omega (arith, fits_abs (displacement h b) (displacement_fits h b))))))

  slot_abs : nat_abs h.shift ≤ 2 ^ 31 → nat_abs (slot_number h b) ≤ 2 ^ 63 + 2 ^ 31
  unfolding slot_number
  slot_abs p =
      let m = fits_abs (slot_displacement h b) (slot_fits h b) in
      pick_le nat_abs (2 ^ 63 + 2 ^ 31) (is_shifted h b) _ _ (omega (arith, sum_abs (slot_displacement h b) h.shift, m)) (omega (arith, m))

  slot_within : nat_abs h.shift ≤ 2 ^ 31 → Within 1 46 (slot_token h b ∷ [])
  unfolding slot_token
  slot_within p =
      one _ 46
      (prefixed_short _ (nat_abs (slot_number h b))
      (pick_le (λ (t : Token). length t.bytes) 30 (is_stack_pointer h.bits (slot_base h b) || is_negative (slot_number h b)) _ _ (omega arith) (omega arith))
      (omega (arith, slot_abs p)))

module _ (h : Header) (s : List ℕ) (ss : AllBytes s) where
  entry_within : (k : ℕ) → Within 1 486 (entry_token h s k ∷ [])
  unfolding entry_token
  entry_within k =
      either (λ (t : Token). Within 1 486 (t ∷ [])) (eqb (entry_kind (pairs_of h s) k) 3) _ _
      (one _ 486 (rw length-take (omega (arith, bytes_drop (pairs_at h) s ss (2 * k + 1)))))
      (one _ 486 (literal_short _ _))

  pub name_within : (va : ℕ) (w : Token) → length w.bytes ≤ 30 → va < 2 ^ 64 → Within 1 486 (name_or h s va w ∷ [])
  unfolding name_or
  name_within va w l p = go (entry_at h s va)
    where
      go : (e : Option ℕ) → Within 1 486 (name_or_at h s e va w ∷ [])
      go (Some k) = entry_within k
      go None = more 1 486 (one (prefixed w va) 46 (prefixed_short w va l p)) (omega arith) (omega arith)

read_abs : (kind v : ℕ) → nat_abs (signed_read kind v) ≤ 18446744073709551615
unfolding signed_read
read_abs kind v =
    pick_le nat_abs 18446744073709551615 (eqb kind 6 || eqb kind 9 || eqb kind 10) (signed_at 64 v) _ (omega (arith, signed_abs 64 v (omega arith)))
    (pick_le nat_abs 18446744073709551615 (eqb kind 5 || eqb kind 8) (signed_at 32 v) _ (omega (arith, signed_abs 32 v (omega arith)))
    (pick_le nat_abs 18446744073709551615 (eqb kind 7) (signed_at 16 v) (pos 0) (omega (arith, signed_abs 16 v (omega arith))) (omega arith)))

module _ (h : Header) (s b : List ℕ) (ss : AllBytes s) (bs : AllBytes b) where
  immediate_within : (kind v : ℕ) → v < 2 ^ 64 → Within 1 486 (immediate h s kind v ∷ [])
  unfolding immediate immediate_number
  immediate_within kind v p =
      either (λ (t : Token). Within 1 486 (t ∷ [])) (leb 0x1000 v && in_span h s v) _ _ (name_within h s ss v (symbol "off_") (omega arith) p)
      (either (λ (t : Token). Within 1 486 (t ∷ [])) (in_window (signed_read kind v)) _ _
      (more 1 486 (number_within true _ (omega (arith, read_abs kind v))) (omega arith) (omega arith))
      (more 1 486 (number_within false v p) (omega arith) (omega arith)))

  address_either : (deref : Bool) → Within 14 487 (address h deref b).tokens
  address_either true = more 14 487 (both (one _ 30 (type_short (memory_size b))) (wrapped 11 61 (address_expr h b) (address_within h b bs))) (omega arith) (omega arith)
  address_either false = more 14 487 (address_within h b bs) (omega arith) (omega arith)

  segment_within : Within 4 51 (segment_read b)
  segment_within =
      both (one _ 30 (segment_short (segment_of b) (memory_size b))) (both (one (punct "(") 1 (omega arith)) (both (number_within false _ (u64_small b bs 10)) (one (punct ")") 1 (omega arith))))

  global_within : (deref : Bool) → Within 2 487 (global h s deref b)
  global_within deref =
      addressed 486 (deref || is_literal h s (memory_address b)) (name_or h s (memory_address b) (prefix_word (memory_size b)))
      (name_within h s ss (memory_address b) (prefix_word (memory_size b)) (prefix_short (memory_size b)) (u64_small b bs 10))

  module _ (shift : nat_abs h.shift ≤ 2 ^ 31) where
    pub mem_within : (deref : Bool) → Within 14 487 (mem_tokens h s deref b)
    unfolding mem_tokens mem_expr
    mem_within deref =
        either (λ (e : Expr). Within 14 487 e.tokens) (is_segment_read b) _ _ (more 14 487 segment_within (omega arith) (omega arith))
        (either (λ (e : Expr). Within 14 487 e.tokens) (is_global b) _ _
        (more 14 487 (global_within deref) (omega arith) (omega arith))
        (either (λ (e : Expr). Within 14 487 e.tokens) (is_slot h b) _ _
        (more 14 487 (addressed 46 deref (slot_token h b) (slot_within h b bs shift)) (omega arith) (omega arith))
        (address_either deref)))

    pub op_within : (i : ℕ) → Within 14 487 (op_tokens h s b i)
    unfolding op_tokens
    op_within i =
        let v = u64_small b bs (operand_at i + 2) in
        either (Within 14 487) (eqb (operand_kind b i) 0) _ _ (more 14 487 (register_within _) (omega arith) (omega arith))
        (either (Within 14 487) (eqb (operand_kind b i) 1) _ _ (mem_within true)
        (either (Within 14 487) (eqb (operand_kind b i) 2) _ _ (more 14 487 (name_within h s ss _ (symbol "loc_") (omega arith) v) (omega arith) (omega arith))
        (either (Within 14 487) (leb (operand_kind b i) 10) _ _ (more 14 487 (immediate_within _ _ v) (omega arith) (omega arith))
        (more 14 487 (one _ 1 (omega arith)) (omega arith) (omega arith)))))
