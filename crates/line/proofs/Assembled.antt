-- The name of an instruction in the record, and tokens coded while all counts as Text.
-- A name stands 68 bytes into its body; what counts as Text is what Text tokens count as.
use mathlib.Core.Path.{◌≡◌, refl, sym, ap, ◌∙◌}
use mathlib.Core.Bool.{Bool, true, false}
use mathlib.Core.List.{List, [], ◌∷◌, ◌++◌, map}
use Prim.Native.Nat.{ℕ, zero, suc, ◌+◌, ◌*◌, ◌≤◌}
use native.Mathlib.Omega.{arith}
use lib.Dec.{eqb}
use lib.ListN.{length, take, drop}
use lib.Seq.{drop-drop}
use borrow.Author.Tests.{eq-eqb, ne_eqb}
use Rattle.lists.specs.Choice.{pick}
use Rattle.lists.specs.Bytes.{u8_at}
use Rattle.tokens.specs.Token.{Token, token}
use Rattle.tokens.specs.Words.{words, word_token}
use Rattle.tokens.specs.Token.{as_text}
use Rattle.tokens.specs.Listing.{text_of}
use Rattle.x86.specs.Mnemonics.{mnemonic_name}
use Rattle.record.specs.declared.header.Header.{Header}
use Rattle.record.specs.Layout.{bodies_at}
use Rattle.record.specs.Body.{mnemonic_of, operand_count}
use Rattle.codes.specs.Coded.{is_plain, counted, Coded, Plain}
use Rattle.codes.proofs.Coding.{coded_more}
use Rattle.expressions.specs.Condition.{body_of}
use Rattle.line.specs.Print.{length_from, name_length, insn_name, assembled, assembly_tokens}

-- a name has at most 24 bytes
name_within : (n : List ℕ) (k m : ℕ) → length_from n k m ≤ k + m
unfolding length_from
name_within n k zero = omega arith
name_within n k (suc m) = either (eqb (u8_at n k) 0) (name_within n (suc k) m)
  where
    either : (b : Bool) → length_from n (suc k) m ≤ suc k + m → pick b k (length_from n (suc k) m) ≤ k + suc m
    either true h = omega arith
    either false h = omega (arith, h)

pub name_short : {k : ℕ} (n : List ℕ) → k ≡ name_length n → k ≤ 24
unfolding name_length
name_short n e = omega (arith, e, name_within n 0 24)

module _ (h : Header) (s b : List ℕ) (m : ℕ) (p : m ≡ mnemonic_of b) where
  pub name_of_record : (i n at : ℕ) (name : List ℕ) → m ≡ 0 → b ≡ body_of h s i → name ≡ drop 68 b → n ≡ name_length name → at ≡ bodies_at h + 92 * i + 68
      → token 0 (take n (drop at s)) ≡ token 0 (insn_name b)
  unfolding insn_name
  name_of_record i n at name e f g l q =
      let d : drop at s ≡ name = ap (λ (k : ℕ). drop k s) q ∙ sym (drop-drop 68 (bodies_at h + 92 * i) s) ∙ ap (drop 68) (sym (drop-drop (92 * i) (bodies_at h) s)) ∙ sym (g ∙ ap (drop 68) f) in
      rw (eq-eqb (mnemonic_of b) 0 (sym p ∙ e), ← g, ← l, d)

  pub name_of_mnemonic : (m ≡ 0 → ⊥) → token 0 (mnemonic_name m) ≡ token 0 (insn_name b)
  unfolding insn_name
  name_of_mnemonic e = rw (ne_eqb (mnemonic_of b) 0 (λ z. e (p ∙ z)), ← p)

counted_text : (ts : List Token) → counted true ts ≡ counted false (map as_text ts)
unfolding counted
counted_text [] = refl
counted_text (t ∷ ts) = ap {B = List Token} (λ l. as_text t ∷ l) (counted_text ts)

same_text : (ts : List Token) → text_of (map as_text ts) ≡ text_of ts
unfolding text_of
same_text [] = refl
same_text (t ∷ ts) = ap (λ (l : List ℕ). t.bytes ++ l) (same_text ts)

same_count : (ts : List Token) → length (map as_text ts) ≡ length ts
same_count [] = refl
same_count (t ∷ ts) = ap suc (same_count ts)

-- plain from c₁ to c₂, and before and behind it not
pub as_text_lem : {t s c c₁ c₂ c₃ : List ℕ} {ts : List Token} → is_plain c ≡ false → Plain c c₁ true → Coded t s c₁ c₂ ts → Plain c₂ c₃ false
    → Coded t s c c₃ (map as_text ts)
as_text_lem {t} {s} {c} {c₁} {c₂} {c₃} {ts} e p f q =
    let k : counted (is_plain c₁) ts ≡ counted (is_plain c) (map as_text ts) = ap (λ (b : Bool). counted b ts) p.now_plain ∙ counted_text ts ∙ ap (λ (b : Bool). counted b (map as_text ts)) (sym e) in
    record {
      cells = f.cells;
      bytes = q.same_bytes ∙ f.bytes ∙ rw (p.same_bytes, same_text ts);
      tokens = q.same_tokens ∙ f.tokens ∙ rw (p.same_tokens, p.last, k);
      count = q.same_count ∙ f.count ∙ rw p.same_count;
      last = q.last ∙ f.last ∙ rw (p.last, k);
      plain = q.now_plain ∙ sym e;
      codes = λ h. q.codes ∙ f.codes (omega (arith, p.same_count, h)) ∙ rw (p.same_count, p.codes);
      reads = λ r. f.reads r ∙ rw (p.last, k);
      within = f.within;
      few = omega (arith, f.few, same_count ts);
    }

-- all of an instruction: its name, a space, its operands
pub all_assembled : (h : Header) (s b : List ℕ) {t c c₁ c₂ c₃ c₄ c₅ : List ℕ} → is_plain c ≡ false → Plain c c₁ true → Coded t s c₁ c₂ (token 0 (insn_name b) ∷ [])
    → Coded t s c₂ c₃ (word_token 41 ∷ []) → Coded t s c₃ c₄ (assembled h s b false 0 (operand_count b)) → Plain c₄ c₅ false → Coded t s c c₅ (assembly_tokens h s b)
unfolding assembly_tokens word_token words
all_assembled h s b {t} e p x y z q = as_text_lem e p (coded_more t s x (coded_more t s y z)) q
