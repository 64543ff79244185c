-- Which of the cases of a memory operand, an immediate or an operand is meant.
-- Each test that was made picks its case.
use mathlib.Core.Path.{◌≡◌, sym, ap, ◌∙◌}
use mathlib.Core.Bool.{Bool, true, false, ◌&&◌, ◌||◌}
use mathlib.Core.List.{List, [], ◌∷◌}
use Prim.Native.Nat.{ℕ, ◌≤◌, ◌<◌}
use native.Mathlib.Omega.{arith}
use borrow.Author.Tests.{le-leb, lt-leb}
use lib.Dec.{eqb, leb}
use lib.IntN.{ℤ, pos, nat_abs}
use mir.Syntax.{w64}
use mir.Val.{to_z, of_z, SFits}
use mir.ValLaws.{to_z-of_z}
use Rattle.lists.specs.Choice.{pick}
use Rattle.lists.specs.Signed.{signed_at}
use Rattle.lists.specs.SignedLaws.{signed_fits}
use Rattle.text.specs.Number.{num_text}
use Rattle.tokens.specs.Token.{Token, token}
use Rattle.tokens.specs.Words.{words, word_token}
use Rattle.record.specs.declared.header.Header.{Header}
use Rattle.record.specs.Body.{operand_kind, operand_register, operand_number}
use Rattle.x86.specs.Sizes.{size_index, prefix_index}
use Rattle.operand.specs.Expr.{Expr, tight}
use Rattle.operand.specs.Names.{name_or, in_span}
use Rattle.operand.specs.Memory.{register_token, number, is_segment_read, is_global, is_slot, segment_read, global, slot_token, address_of, address, mem_expr, mem_tokens}
use Rattle.operand.specs.Operand.{signed_read, in_window, immediate_number, immediate, op_tokens}
use Rattle.operand.proofs.Readings.{yes_is, no_is}

-- of two, either
pub either : {A : Type 0} (P : A → Type 0) (t : Bool) (x y : A) → P x → P y → P (pick t x y)
either P true x y p q = p
either P false x y p q = q

pub yes_of : {A : Type 0} (t : Bool) (x y : A) → t ≡ true → pick t x y ≡ x
yes_of t x y e = rw e

pub no_of : {A : Type 0} (t : Bool) (x y : A) → t ≡ false → pick t x y ≡ y
no_of t x y e = rw e

-- a test b that was made as t
pub made : (t u b : Bool) → t ≡ b → t ≡ u → b ≡ u
made t u b p q = sym p ∙ q

module _ (h : Header) (s b : List ℕ) (deref : Bool) where
  abbrev third : Expr
  third = pick (is_slot h b) (tight (address_of deref (slot_token h b))) (address h deref b)

  abbrev second : Expr
  second = pick (is_global b) (tight (global h s deref b)) third

  pub is_segment : is_segment_read b ≡ true → segment_read b ≡ mem_tokens h s deref b
  unfolding mem_tokens mem_expr
  is_segment e = sym (ap (λ (x : Expr). x.tokens) (yes_of (is_segment_read b) (tight (segment_read b)) second e))

  module _ (p : is_segment_read b ≡ false) where
    others : mem_expr h s deref b ≡ second
    unfolding mem_expr
    others = no_of (is_segment_read b) (tight (segment_read b)) second p

    pub is_global_lem : is_global b ≡ true → global h s deref b ≡ mem_tokens h s deref b
    unfolding mem_tokens
    is_global_lem e = sym (ap (λ (x : Expr). x.tokens) (others ∙ yes_of (is_global b) (tight (global h s deref b)) third e))

    module _ (q : is_global b ≡ false) where
      pub is_slot_lem : is_slot h b ≡ true → address_of deref (slot_token h b) ≡ mem_tokens h s deref b
      unfolding mem_tokens
      is_slot_lem e =
          sym (ap (λ (x : Expr). x.tokens)
          (others ∙ (no_of (is_global b) (tight (global h s deref b)) third q ∙ yes_of (is_slot h b) (tight (address_of deref (slot_token h b))) (address h deref b) e)))

      pub is_address : is_slot h b ≡ false → (address h deref b).tokens ≡ mem_tokens h s deref b
      unfolding mem_tokens
      is_address e =
          sym (ap (λ (x : Expr). x.tokens)
          (others ∙ (no_of (is_global b) (tight (global h s deref b)) third q ∙ no_of (is_slot h b) (tight (address_of deref (slot_token h b))) (address h deref b) e)))

-- the window is asked of a number that fits
read_fits : (kind v : ℕ) → SFits w64 (signed_read kind v)
unfolding signed_read
read_fits kind v = go (eqb kind 6 || eqb kind 9 || eqb kind 10) (eqb kind 5 || eqb kind 8) (eqb kind 7)
  where
    go : (a b c : Bool) → SFits w64 (pick a (signed_at 64 v) (pick b (signed_at 32 v) (pick c (signed_at 16 v) (pos 0))))
    go true b c = signed_fits w64 64 v (omega arith) (omega arith)
    go false true c = signed_fits w64 32 v (omega arith) (omega arith)
    go false false true = signed_fits w64 16 v (omega arith) (omega arith)
    go false false false = record { sfits = omega arith }

module _ (kind v : ℕ) (z : ℤ) (w : Bool) (p : z ≡ signed_read kind v) (q : w ≡ in_window (to_z w64 (of_z w64 z))) where
  back : to_z w64 (of_z w64 z) ≡ signed_read kind v
  back = rw p (to_z-of_z w64 (signed_read kind v) (read_fits kind v))

  asked : w ≡ in_window (signed_read kind v)
  asked = q ∙ ap in_window back

  pub in_window_lem : w ≡ true → (m : ℕ) → m ≡ nat_abs (to_z w64 (of_z w64 z)) → token 2 (num_text true m) ≡ immediate_number kind v
  unfolding immediate_number
  in_window_lem e m r =
      ap (λ (n : ℕ). number true n) (r ∙ ap nat_abs back)
      ∙ sym (yes_of (in_window (signed_read kind v)) (number true (nat_abs (signed_read kind v))) (number false v) (sym asked ∙ e))

  pub not_in_window : w ≡ false → token 2 (num_text false v) ≡ immediate_number kind v
  unfolding immediate_number
  not_in_window e = sym (no_of (in_window (signed_read kind v)) (number true (nat_abs (signed_read kind v))) (number false v) (sym asked ∙ e))

module _ (h : Header) (s : List ℕ) (kind v : ℕ) where
  pub in_span_lem : (leb 0x1000 v && in_span h s v) ≡ true → name_or h s v (word_token 96) ∷ [] ≡ immediate h s kind v ∷ []
  unfolding immediate word_token words
  in_span_lem e = ap {B = List Token} (λ t. t ∷ []) (sym (yes_of (leb 0x1000 v && in_span h s v) (name_or h s v (word_token 96)) (immediate_number kind v) e))

  pub not_in_span : (leb 0x1000 v && in_span h s v) ≡ false → immediate_number kind v ∷ [] ≡ immediate h s kind v ∷ []
  unfolding immediate word_token words
  not_in_span e = ap {B = List Token} (λ t. t ∷ []) (sym (no_of (leb 0x1000 v && in_span h s v) (name_or h s v (word_token 96)) (immediate_number kind v) e))

-- k is the operand's kind
module _ (h : Header) (s b : List ℕ) (i k : ℕ) (p : k ≡ operand_kind b i) where
  pub op_register_is : k ≡ 0 → (r : ℕ) → r ≡ operand_register b i → register_token r ∷ [] ≡ op_tokens h s b i
  unfolding op_tokens
  op_register_is e r q = rw (q, yes_is k (operand_kind b i) 0 p e)

  module _ (a : k ≡ 0 → ⊥) where
    pub op_memory_is : k ≡ 1 → mem_tokens h s true b ≡ op_tokens h s b i
    unfolding op_tokens
    op_memory_is e = rw (no_is k (operand_kind b i) 0 p a, yes_is k (operand_kind b i) 1 p e)

    module _ (c : k ≡ 1 → ⊥) (v : ℕ) (q : v ≡ operand_number b i) where
      pub op_branch_is : k ≡ 2 → name_or h s v (word_token 94) ∷ [] ≡ op_tokens h s b i
      unfolding op_tokens word_token words
      op_branch_is e = rw (no_is k (operand_kind b i) 0 p a, no_is k (operand_kind b i) 1 p c, yes_is k (operand_kind b i) 2 p e, q)

      pub op_immediate_is : (k ≡ 2 → ⊥) → k ≤ 10 → immediate h s k v ∷ [] ≡ op_tokens h s b i
      unfolding op_tokens
      op_immediate_is d e =
          let l : leb (operand_kind b i) 10 ≡ true = le-leb (operand_kind b i) 10 (omega arith) in
          rw (no_is k (operand_kind b i) 0 p a, no_is k (operand_kind b i) 1 p c, no_is k (operand_kind b i) 2 p d, l, q, p)

    pub op_other_is : (k ≡ 1 → ⊥) → (k ≡ 2 → ⊥) → 10 < k → word_token 42 ∷ [] ≡ op_tokens h s b i
    unfolding op_tokens word_token words
    op_other_is c d e =
        let l : leb (operand_kind b i) 10 ≡ false = lt-leb (operand_kind b i) 10 (omega arith) in
        rw (no_is k (operand_kind b i) 0 p a, no_is k (operand_kind b i) 1 p c, no_is k (operand_kind b i) 2 p d, l)

-- the longer of two
pub pick_le : {A : Type 0} (f : A → ℕ) (n : ℕ) (t : Bool) (x y : A) → f x ≤ n → f y ≤ n → f (pick t x y) ≤ n
pick_le f n true x y p q = p
pick_le f n false x y p q = q

-- the words of sizes end with the table
pub prefix_small : (n : ℕ) → prefix_index n ≤ 4
prefix_small n = go (eqb n 1) (eqb n 2) (eqb n 4) (eqb n 8)
  where
    go : (a b c d : Bool) → pick a 0 (pick b 1 (pick c 2 (pick d 3 4))) ≤ 4
    go true b c d = omega arith
    go false true c d = omega arith
    go false false true d = omega arith
    go false false false true = omega arith
    go false false false false = omega arith

pub size_small : (n : ℕ) → size_index n ≤ 6
size_small n = go (eqb n 1) (eqb n 2) (eqb n 4) (eqb n 8) (eqb n 16) (eqb n 32)
  where
    go : (a b c d e f : Bool) → pick a 0 (pick b 1 (pick c 2 (pick d 3 (pick e 4 (pick f 5 6))))) ≤ 6
    go true b c d e f = omega arith
    go false true c d e f = omega arith
    go false false true d e f = omega arith
    go false false false true e f = omega arith
    go false false false false true f = omega arith
    go false false false false false true = omega arith
    go false false false false false false = omega arith
