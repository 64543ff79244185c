-- The tokens of a condition after CMP and TEST say what Intel's flags say, those of the negated one the opposite; after BT and IMUL they claim nothing.
-- By the flag rule at each width, of the relation that the tokens' operator is; `negate` keeps to the conditions that print a relation.
use Prim.Native.Nat.{ℕ, ◌-◌, ◌≤◌}
use mathlib.Core.Path.{◌≡◌, refl, sym, ap, ◌∙◌}
use mathlib.Core.Bool.{Bool, true, false, ◌||◌}
use mathlib.Core.List.{List, [], ◌∷◌}
use Prim.Native.String.{String}
use native.Mathlib.Omega.{arith}
use borrow.Author.Tests.{eqb-true, eq-eqb, ne_eqb}
use lib.Bits.{bit_and}
use lib.Dec.{eqb}
use lib.IntN.{pos}
use Rattle.lists.specs.Choice.{pick}
use Rattle.lists.specs.Signed.{signed}
use Rattle.tokens.specs.Listing.{text_of}
use Rattle.x86.specs.Words.{words_of, is_one_of, is_word_of}
use Rattle.x86.specs.Mnemonics as mnemonic
use Rattle.x86.specs.Mnemonics.{is_bt_or_imul}
use Rattle.x86.specs.Conditions.{condition_names, condition_name, among, negate, is_relation, relation_after_cmp, relation_after_test, related, prints_unsigned}
use Rattle.x86.specs.Flags.{Flags, test, condition_holds}
use Rattle.x86.proofs.Rule.{flag_rule, rule}
use Rattle.x86.proofs.Negate.{among_negated, named_turns}
use Rattle.record.specs.declared.header.Header.{Header}
use Rattle.std.specs.Prelude.{Option, Some}
use Rattle.record.specs.Layout.{bodies_of}
use Rattle.record.specs.Body.{mnemonic_of}
use Rattle.operand.specs.Operand.{op_tokens}
use Rattle.operand.specs.Alike.{alike}
use Rattle.operand.proofs.Texts.{same_text}
use Rattle.expressions.specs.Condition.{flags_word, flag_writer, body_of, after_cmp, after_test, after_writer, condition_after, condition_tokens}
use Rattle.expressions.specs.Shown.{Reading, turned_if, value_of, AfterCmp, AfterTest, Shows}

-- one of the four widths has a bit
some_bits : (w : ℕ) → is_one_of w (8 ∷ 16 ∷ 32 ∷ 64 ∷ []) ≡ true → 1 ≤ w
some_bits w e = by (eqb w 8) (eqb w 16) (eqb w 32) (eqb w 64) refl refl refl refl e
  where
    by : (a b c d : Bool) → eqb w 8 ≡ a → eqb w 16 ≡ b → eqb w 32 ≡ c → eqb w 64 ≡ d → (a || (b || (c || (d || false)))) ≡ true → 1 ≤ w
    by true b c d p q r t e = omega (arith, eqb-true w 8 p)
    by false true c d p q r t e = omega (arith, eqb-true w 16 q)
    by false false true d p q r t e = omega (arith, eqb-true w 32 r)
    by false false false true p q r t e = omega (arith, eqb-true w 64 t)
    by false false false false p q r t e = absurd (let z : ◌≡◌ {A = ℕ} 0 1 = cc in omega arith)

-- condition k shown by condition k': as it is, or turned over by its opposite
record ShownBy (k k' : ℕ) (turned : Bool) : Type 0 where
  unsigned : among k' "b ae be a" ≡ among k "b ae be a"
  holds : (f : Flags) → condition_holds k' f ≡ turned_if turned (condition_holds k f)

module _ (h : Header) (s b : List ℕ) (k k' : ℕ) (turned : Bool) (by : ShownBy k k' turned) where
  shown_cmp : is_relation (relation_after_cmp k') ≡ true → AfterCmp h s b k turned (after_cmp h s b k')
  unfolding prints_unsigned
  shown_cmp e = record {
    relation = relation_after_cmp k';
    tokens = rw (e, by.unsigned);
    right = λ w o r.
        let rule = (flag_rule w (some_bits w o)).after_cmp_lem (value_of h s r b 0) (value_of h s r b 1) (r.fits _) (r.fits _) k' e in
        (rw by.unsigned at rule) ∙ by.holds _;
  }

  tested_right : (w : ℕ) (r : Reading w) (c : Bool) → alike h s b ≡ c → 1 ≤ w → is_relation (relation_after_test k') ≡ true
      → related (relation_after_test k') (signed w (pick c (value_of h s r b 0) (bit_and (value_of h s r b 0) (value_of h s r b 1)))) (pos 0) ≡ condition_holds k' (test w (value_of h s r b 0) (value_of h s r b 1))
  unfolding alike
  tested_right w r true a o e =
      (flag_rule w o).after_test_alike (value_of h s r b 0) (value_of h s r b 1)
      (ap r.value (same_text (text_of (op_tokens h s b 0)) (text_of (op_tokens h s b 1)) a)) k' e
  tested_right w r false a o e = (flag_rule w o).after_test_lem (value_of h s r b 0) (value_of h s r b 1) k' e

  shown_test : is_relation (relation_after_test k') ≡ true → AfterTest h s b k turned (after_test h s b k')
  shown_test e = record {
    relation = relation_after_test k';
    tokens = rw e;
    right = λ w o r. tested_right w r (alike h s b) refl (some_bits w o) e ∙ by.holds _;
  }

as_it_is : (k : ℕ) → ShownBy k k false
as_it_is k = record { unsigned = refl; holds = λ f. refl }

-- the three sets that the paper names have each condition with its opposite
by_opposite : (names : String) → is_word_of [] (words_of names) ≡ false → (k : ℕ) → among k names ≡ true → ShownBy k (negate k) true
unfolding negate condition_name condition_names
by_opposite names e k a = record { unsigned = among_negated "b ae be a" tt k; holds = named_turns names e k a }

other_number : (m n : ℕ) → is_bt_or_imul m ≡ true → (n ≡ mnemonic.bt → ⊥) → (n ≡ mnemonic.imul → ⊥) → m ≡ n → ⊥
other_number m n t a b e = by (eqb m mnemonic.bt) (eqb m mnemonic.imul) refl refl t
  where
    by : (x y : Bool) → eqb m mnemonic.bt ≡ x → eqb m mnemonic.imul ≡ y → (x || y) ≡ true → ⊥
    by true y p q t = a (sym e ∙ eqb-true m mnemonic.bt p)
    by false true p q t = b (sym e ∙ eqb-true m mnemonic.imul q)
    by false false p q t = absurd (let z : ◌≡◌ {A = ℕ} 0 1 = cc in omega arith)

module _ (h : Header) (s : List ℕ) where
  module _ (first i p k : ℕ) (f : flag_writer (bodies_of h s) first (i - first) ≡ Some p) where
    condition_is : condition_tokens h s first i k ≡ after_writer h s (body_of h s p) k
    unfolding condition_tokens
    condition_is = ap (λ (x : Option ℕ). condition_after h s x k) f

    cmp_is : mnemonic_of (body_of h s p) ≡ mnemonic.cmp → condition_tokens h s first i k ≡ after_cmp h s (body_of h s p) k
    unfolding after_writer
    cmp_is m = condition_is ∙ rw (eq-eqb (mnemonic_of (body_of h s p)) mnemonic.cmp m)

    test_is : mnemonic_of (body_of h s p) ≡ mnemonic.test → condition_tokens h s first i k ≡ after_test h s (body_of h s p) k
    unfolding after_writer
    test_is m =
        let n : (mnemonic_of (body_of h s p) ≡ mnemonic.cmp) → ⊥ = λ z. omega (arith, m, z) in
        condition_is ∙ rw (ne_eqb (mnemonic_of (body_of h s p)) mnemonic.cmp n, eq-eqb (mnemonic_of (body_of h s p)) mnemonic.test m)

    -- neither CMP nor TEST is BT or IMUL
    bt_imul_is : is_bt_or_imul (mnemonic_of (body_of h s p)) ≡ true → condition_tokens h s first i k ≡ flags_word k ∷ []
    unfolding after_writer
    bt_imul_is m = condition_is ∙ rw (not_both 38 (omega arith) (omega arith), not_both 39 (omega arith) (omega arith), m)
      where
        not_both : (n : ℕ) → (n ≡ mnemonic.bt → ⊥) → (n ≡ mnemonic.imul → ⊥) → eqb (mnemonic_of (body_of h s p)) n ≡ false
        not_both n a b = ne_eqb (mnemonic_of (body_of h s p)) n (other_number (mnemonic_of (body_of h s p)) n m a b)

  pub shows : (first i k : ℕ) → Shows h s first i k false (condition_tokens h s first i k)
  shows first i k = record {
    after_cmp_lem = λ p f m a. rw (cmp_is first i p k f m) (shown_cmp h s (body_of h s p) k k false (as_it_is k) (rule.printed.after_cmp_lem k ∙ a));
    after_test_lem = λ p f m a. rw (test_is first i p k f m) (shown_test h s (body_of h s p) k k false (as_it_is k) (rule.printed.after_test_lem k ∙ a));
    after_bt_imul = λ p f m. bt_imul_is first i p k f m;
  }

  pub shows_turned : (first i k : ℕ) → Shows h s first i k true (condition_tokens h s first i (negate k))
  unfolding negate condition_name condition_names
  shows_turned first i k = record {
    after_cmp_lem = λ p f m a.
        rw (cmp_is first i p (negate k) f m)
        (shown_cmp h s (body_of h s p) k (negate k) true (by_opposite "e ne b ae be a l ge le g" refl k a)
        (rule.printed.after_cmp_lem (negate k) ∙ among_negated "e ne b ae be a l ge le g" tt k ∙ a));
    after_test_lem = λ p f m a.
        rw (test_is first i p (negate k) f m)
        (shown_test h s (body_of h s p) k (negate k) true (by_opposite "e ne s ns l ge le g" refl k a)
        (rule.printed.after_test_lem (negate k) ∙ among_negated "e ne s ns l ge le g" tt k ∙ a));
    after_bt_imul = λ p f m. bt_imul_is first i p (negate k) f m;
  }
