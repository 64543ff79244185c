-- Writers one behind the other: what each of a row's fields leaves.
-- Two runs of stores, the second where the first ended, are one.
use mathlib.Core.Path.{◌≡◌, refl, sym, ap, ◌∙◌}
use mathlib.Core.List.{List, [], ◌∷◌, ◌++◌}
use mathlib.Core.Logic.{⊎_elim}
use Prim.Native.Nat.{ℕ, ◌+◌}
use native.Mathlib.Nat.{add-zero}
use native.Mathlib.Omega.{arith}
use lib.Dec.{eqb}
use lib.ListN.{length, set, length-append}
use borrow.Author.Tests.{eq-eqb, ne_eqb}
use Rattle.lists.specs.PutLaws.{put_cons, put_none, put_append, put_length}
use Rattle.tokens.specs.Token.{token}
use Rattle.tokens.proofs.ListingLaws.{cases}
use Rattle.csv_rows.specs.Format.{letter, doubled, token_text}
use Rattle.csv_rows.specs.Writing.{Wrote, char_text}

pub wrote_none : {at : ℕ} {e : List ℕ} → Wrote at [] e e at
wrote_none {at} {e} = record { end = sym (add-zero at); text = sym (put_none at e) }

pub wrote_one : {at b : ℕ} {e e' : List ℕ} → e' ≡ set e at b → Wrote at (b ∷ []) e e' (at + 1)
wrote_one {at} {b} {e} {e'} h = record { end = refl; text = h ∙ sym (put_cons at b [] e ∙ put_none (at + 1) (set e at b)) }

pub wrote_then : {at r r' : ℕ} {v w e e₁ e₂ : List ℕ} → Wrote at v e e₁ r → Wrote r w e₁ e₂ r' → Wrote at (v ++ w) e e₂ r'
wrote_then {at} {r} {r'} {v} {w} {e} {e₁} {e₂} p q =
    record { end = q.end ∙ rw (p.end, length-append) (omega arith); text = q.text ∙ rw (p.text, p.end, put_append) }

-- a byte, and more behind it
pub wrote_byte : {at b r : ℕ} {w e e₁ e₂ : List ℕ} → e₁ ≡ set e at b → Wrote (at + 1) w e₁ e₂ r → Wrote at (b ∷ w) e e₂ r
wrote_byte {at} {b} {r} {w} {e} {e₁} {e₂} h q = record { end = q.end ∙ omega arith; text = q.text ∙ rw h (sym (put_cons at b w e)) }

-- where a writer ends, said in another way
pub wrote_at : {at at' r : ℕ} {w e e' : List ℕ} → at ≡ at' → Wrote at w e e' r → Wrote at' w e e' r
wrote_at h q = rw (← h) q

pub wrote_to : {at r r' : ℕ} {w e e' : List ℕ} → r ≡ r' → Wrote at w e e' r → Wrote at w e e' r'
wrote_to h q = rw (← h) q

-- a writer changes no length
pub wrote_length : {at r : ℕ} {w e e' : List ℕ} → Wrote at w e e' r → length e' ≡ length e
wrote_length {at} {r} {w} {e} q = ap length q.text ∙ put_length at w e

-- ---- a text with its quotes doubled
pub doubled_cons : (b : ℕ) (t : List ℕ) → doubled (b ∷ t) ≡ char_text b ++ doubled t
unfolding doubled
doubled_cons b t = ⊎_elim (λ e. rw e) (λ e. rw e) (cases (eqb b 34))

pub wrote_quote : {at b : ℕ} {e e₁ e₂ : List ℕ} → b ≡ 34 → e₁ ≡ set e at b → e₂ ≡ set e₁ (at + 1) b → Wrote at (char_text b) e e₂ (at + 2)
wrote_quote {at} {b} h p q = rw (eq-eqb b 34 h, ← h) (wrote_to (omega arith) (wrote_byte p (wrote_one q)))

pub wrote_char : {at b : ℕ} {e e₁ : List ℕ} → (b ≡ 34 → ⊥) → e₁ ≡ set e at b → Wrote at (char_text b) e e₁ (at + 1)
wrote_char {at} {b} h p = rw (ne_eqb b 34 h) (wrote_one p)

-- ---- a token, as its six parts
pub wrote_token : (k : ℕ) (t : List ℕ) {at p c : ℕ} {e e₁ e₂ e₃ e₄ e₅ e₆ : List ℕ} → e₁ ≡ set e at 44 → c ≡ letter k → e₂ ≡ set e₁ (at + 1) c → e₃ ≡ set e₂ (at + 2) 44
    → e₄ ≡ set e₃ (at + 3) 34 → Wrote (at + 4) (doubled t) e₄ e₅ p → e₆ ≡ set e₅ p 34 → Wrote at (token_text (token k t)) e e₆ (p + 1)
unfolding token_text
wrote_token k t {at} h1 hc h2 h3 h4 w h6 =
    wrote_byte h1
    (wrote_byte (h2 ∙ rw hc)
    (wrote_at {at = at + 2} (omega arith) (wrote_byte h3 (wrote_at {at = at + 3} (omega arith) (wrote_byte h4 (wrote_at {at = at + 4} (omega arith) (wrote_then w (wrote_one h6))))))))

pub token_length : (k : ℕ) (t : List ℕ) → length (token_text (token k t)) ≡ 5 + length (doubled t)
unfolding token_text
token_length k t = rw length-append (omega arith)
