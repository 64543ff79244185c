-- The parts of lines: an operand begins with no Punct and no keyword of the flow; neither it nor a condition has a `goto`.
-- Each token by its kind, a keyword by its first letters; by the cases of the definitions.
use Prim.Native.Nat.{ℕ, ◌-◌}
use mathlib.Core.Path.{◌≡◌, refl}
use mathlib.Core.Bool.{Bool, true, false, ◌&&◌, ◌||◌}
use mathlib.Core.List.{List, [], ◌∷◌, ◌++◌}
use mathlib.Core.Logic.{inl, inr, ⊎_elim}
use lib.Dec.{eqb, leb, ltb}
use lib.IntN.{nat_abs}
use borrow.Author.Tests.{not-true}
use Rattle.lists.specs.Choice.{pick}
use Rattle.lists.specs.Every.{both_yes, neither, every}
use Rattle.tokens.specs.Token.{Token, punct, plain_text, keyword, symbol, register}
use Rattle.tokens.specs.Words.{prefixed}
use Rattle.x86.specs.Registers.{gs}
use Rattle.x86.specs.Width.{is_stack_pointer}
use Rattle.x86.specs.Mnemonics.{cmp, test, is_bt_or_imul}
use Rattle.x86.specs.Conditions.{relation_after_cmp, relation_after_test, relation_after_other, prints_unsigned}
use Rattle.record.specs.declared.header.Header.{Header}
use Rattle.std.specs.Prelude.{Option, Some, None}
use Rattle.record.specs.Layout.{pairs_of, bodies_of}
use Rattle.record.specs.Atlas.{entry_kind}
use Rattle.record.specs.Body.{operand_kind, operand_register, operand_number, segment_of, scale_of, index_of, memory_size, memory_address, mnemonic_of}
use Rattle.operand.specs.Alike.{alike}
use Rattle.operand.specs.Expr.{Expr, wrap_if}
use Rattle.operand.specs.Names.{entry_at, entry_token, name_or_at, name_or, in_span}
use Rattle.operand.specs.Memory.{register_token, number, type_word, prefix_word, segment_word, is_negative, slot_base, slot_number, is_slot, slot_token, displacement, scaled, registers, address_expr, is_segment_read, is_global, mem_expr, mem_tokens}
use Rattle.operand.specs.Operand.{signed_read, in_window, immediate_number, immediate, op_tokens}
use Rattle.operand.proofs.Choices.{either}
use Rattle.expressions.specs.Condition.{operator, flags_word, relation_or, unsigned_if, flag_writer, body_of, tested, after_writer, condition_after, condition_tokens}
use Rattle.route.specs.Statement.{is_punct, is_keyword}
use Rattle.route.proofs.Joined.{calm, mild, Named}

-- no `goto` in it
pub record Mild (ts : List Token) : Type 0 where
  pub all : every mild ts ≡ true

-- and a calm token first
abbrev pub front : List Token → Bool
front [] = false
front (t ∷ ts) = calm t

pub record Tame (ts : List Token) : Type 0 where
  pub first : front ts ≡ true
  pub rest : Mild ts

pub mild_none : Mild []
mild_none = record { all = refl }

pub mild_cons : (t : Token) {ts : List Token} → mild t ≡ true → Mild ts → Mild (t ∷ ts)
mild_cons t m p = record { all = rw (m, p.all) }

pub mild_both : {a b : List Token} → Mild a → Mild b → Mild (a ++ b)
mild_both {a = []} p q = q
mild_both {a = t ∷ a} p q = let f = both_yes (mild t) (every mild a) p.all in mild_cons t f.0 (mild_both {a = a} (record { all = f.1 }) q)

tame_cons : (t : Token) {ts : List Token} → calm t ≡ true → Mild ts → Tame (t ∷ ts)
tame_cons t c p =
    let a = neither (is_punct t || is_keyword "return" t || is_keyword "goto" t) (is_keyword "if" t) (not-true _ c) in
    let g = neither (is_punct t || is_keyword "return" t) (is_keyword "goto" t) a.0 in
    record { first = c; rest = mild_cons t (rw g.1) p }

-- one token
record Calm (t : Token) : Type 0 where
  is : calm t ≡ true

told : {t : Token} → calm t ≡ true → Calm t
told e = record { is = e }

tame_one : {t : Token} → Calm t → Tame (t ∷ [])
tame_one {t} c = tame_cons t c.is mild_none

-- ---- names: Symbol or Address, where the prefix is a Symbol
module _ (h : Header) (s : List ℕ) where
  pub name_named : (va : ℕ) (w : Token) → w.kind ≡ 4 → Named (name_or h s va w)
  unfolding name_or entry_token prefixed
  name_named va w e = go (entry_at h s va)
    where
      go : (f : Option ℕ) → Named (name_or_at h s f va w)
      go (Some k) = either Named (eqb (entry_kind (pairs_of h s) k) 3) _ _ (inl refl) (inr refl)
      go None = inl e

  name_calm : (va : ℕ) (w : Token) → w.kind ≡ 4 → Calm (name_or h s va w)
  name_calm va w e = told (⊎_elim (λ k. rw k) (λ k. rw k) (name_named va w e))

-- ---- operands
wrap_mild : (l : Bool) {ts : List Token} → Mild ts → Mild (wrap_if l ts)
wrap_mild true p = mild_cons (punct "(") refl (mild_both p (mild_cons (punct ")") refl mild_none))
wrap_mild false p = p

register_mild : (r : ℕ) → Mild (register_token r ∷ [])
register_mild r = mild_cons (register_token r) refl mild_none

number_mild : (f : Bool) (v : ℕ) → Mild (number f v ∷ [])
number_mild f v = mild_cons (number f v) refl mild_none

segment_calm : (seg size : ℕ) → Calm (segment_word seg size)
unfolding segment_word
segment_calm seg size =
    let by : (a b c : Token) → Calm a → Calm b → Calm c → Calm (pick (eqb size 8) a (pick (eqb size 4) b c)) = λ a b c p q r. either Calm (eqb size 8) _ _ p (either Calm (eqb size 4) _ _ q r) in
    either Calm (eqb seg gs) _ _ (by _ _ _ (told refl) (told refl) (told refl)) (by _ _ _ (told refl) (told refl) (told refl))

module _ (h : Header) (b : List ℕ) where
  scaled_mild : Mild (scaled b).tokens
  scaled_mild =
      either (λ (e : Expr). Mild e.tokens) (ltb 1 (scale_of b)) _ _
      (mild_both (register_mild (index_of b)) (mild_cons (punct " * ") refl (number_mild false (scale_of b)))) (register_mild (index_of b))

  registers_mild : Mild (registers h b).tokens
  registers_mild =
      either (λ (e : Expr). Mild e.tokens) (eqb (index_of b) 0) _ _ (register_mild (slot_base h b))
      (either (λ (e : Expr). Mild e.tokens) (eqb (slot_base h b) 0) _ _ scaled_mild
      (mild_both (register_mild (slot_base h b)) (mild_cons (punct " + ") refl (wrap_mild (scaled b).loose scaled_mild))))

  address_mild : Mild (address_expr h b).tokens
  unfolding address_expr
  address_mild =
      either (λ (e : Expr). Mild e.tokens) (eqb (nat_abs (displacement h b)) 0) _ _ registers_mild
      (mild_both (wrap_mild (registers h b).loose registers_mild)
      (mild_cons _ (either (λ (t : Token). mild t ≡ true) (is_negative (displacement h b)) (punct " - ") (punct " + ") refl refl) (number_mild false (nat_abs (displacement h b)))))

  slot_calm : Calm (slot_token h b)
  unfolding slot_token prefixed
  slot_calm =
      either (λ (t : Token). Calm (prefixed t (nat_abs (slot_number h b)))) (is_stack_pointer h.bits (slot_base h b) || is_negative (slot_number h b))
      (register "var_") (register "arg_") (told refl) (told refl)

module _ (h : Header) (s b : List ℕ) where
  mem_tame : Tame (mem_tokens h s true b)
  unfolding mem_tokens mem_expr type_word prefix_word
  mem_tame =
      either (λ (e : Expr). Tame e.tokens) (is_segment_read b) _ _
      (tame_cons _ (segment_calm (segment_of b) (memory_size b)).is (mild_cons (punct "(") refl (mild_cons (number false (memory_address b)) refl (mild_cons (punct ")") refl mild_none))))
      (either (λ (e : Expr). Tame e.tokens) (is_global b) _ _ (tame_one (name_calm h s (memory_address b) (prefix_word (memory_size b)) refl))
      (either (λ (e : Expr). Tame e.tokens) (is_slot h b) _ _ (tame_one (slot_calm h b))
      (tame_cons (type_word (memory_size b)) refl (wrap_mild (address_expr h b).loose (address_mild h b)))))

  immediate_calm : (kind v : ℕ) → Calm (immediate h s kind v)
  unfolding immediate immediate_number
  immediate_calm kind v =
      either Calm (leb 0x1000 v && in_span h s v) _ _ (name_calm h s v (symbol "off_") refl)
      (either Calm (in_window (signed_read kind v)) _ _ (told refl) (told refl))

  pub op_tame : (i : ℕ) → Tame (op_tokens h s b i)
  unfolding op_tokens
  op_tame i =
      either Tame (eqb (operand_kind b i) 0) _ _ (tame_cons (register_token (operand_register b i)) refl mild_none)
      (either Tame (eqb (operand_kind b i) 1) _ _ mem_tame
      (either Tame (eqb (operand_kind b i) 2) _ _ (tame_one (name_calm h s (operand_number b i) (symbol "loc_") refl))
      (either Tame (leb (operand_kind b i) 10) _ _ (tame_one (immediate_calm (operand_kind b i) (operand_number b i)))
      (tame_cons (plain_text "?") refl mild_none))))

  pub op_mild : (i : ℕ) → Mild (op_tokens h s b i)
  op_mild i = (op_tame i).rest

-- ---- conditions
flags_mild : (cc : ℕ) → Mild (flags_word cc ∷ [])
flags_mild cc = mild_cons _ (either (λ (t : Token). mild t ≡ true) (ltb 0 cc && ltb cc 17) _ _ refl refl) mild_none

relation_mild : (cc r : ℕ) {ts : List Token} → Mild ts → Mild (relation_or cc r ts)
relation_mild cc r p = either Mild (ltb r 6) _ _ p (flags_mild cc)

unsigned_mild : (b : Bool) {ts : List Token} → Mild ts → Mild (unsigned_if b ts)
unsigned_mild true p = mild_cons (keyword "(unsigned)") refl p
unsigned_mild false p = p

against_zero : (cc r : ℕ) {ts : List Token} → Mild ts → Mild (relation_or cc r (ts ++ (operator r ∷ number false 0 ∷ [])))
against_zero cc r p = relation_mild cc r (mild_both p (mild_cons (operator r) refl (number_mild false 0)))

module _ (h : Header) (s : List ℕ) where
  tested_mild : (b : List ℕ) → Mild (tested h s b)
  tested_mild b = either Mild (alike h s b) _ _ (op_mild h s b 0) (wrap_mild true (mild_both (op_mild h s b 0) (mild_cons (punct " & ") refl (op_mild h s b 1))))

  writer_mild : (b : List ℕ) (cc : ℕ) → Mild (after_writer h s b cc)
  unfolding after_writer
  writer_mild b cc =
      either Mild (eqb (mnemonic_of b) cmp) _ _
      (relation_mild cc (relation_after_cmp cc) (mild_both (unsigned_mild (prints_unsigned cc) (op_mild h s b 0)) (mild_cons (operator (relation_after_cmp cc)) refl (op_mild h s b 1))))
      (either Mild (eqb (mnemonic_of b) test) _ _ (against_zero cc (relation_after_test cc) (tested_mild b))
      (either Mild (is_bt_or_imul (mnemonic_of b)) _ _ (flags_mild cc) (against_zero cc (relation_after_other cc) (op_mild h s b 0))))

  pub condition_mild : (first i cc : ℕ) → Mild (condition_tokens h s first i cc)
  unfolding condition_tokens
  condition_mild first i cc = go (flag_writer (bodies_of h s) first (i - first))
    where
      go : (w : Option ℕ) → Mild (condition_after h s w cc)
      go (Some p) = writer_mild (body_of h s p) cc
      go None = flags_mild cc
