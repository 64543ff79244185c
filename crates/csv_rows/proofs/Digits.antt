-- What a store of a hex digit leaves.
-- The digits of w are those of w / 16 and one more, and the last of a text may be stored first.
use mathlib.Core.Path.{◌≡◌, sym, ap, ◌∙◌}
use mathlib.Core.Bool.{true}
use mathlib.Core.List.{List, [], ◌∷◌, ◌++◌}
use Prim.Native.Nat.{ℕ, suc, ◌+◌, ◌-◌, ◌/◌, ◌%◌, ◌≤◌}
use native.Mathlib.Omega.{arith}
use lib.ListN.{length, set}
use Rattle.lists.specs.Put.{put}
use Rattle.lists.specs.PutLaws.{put_length, put_snoc, put_none}
use Rattle.text.specs.Number.{digit, hex_digits}
use Rattle.text.specs.NumberLaws.{hex_digits_length}

-- i digits of w are left to be stored from `at` on in e
pub record Hex (at v : ℕ) (e₀ : List ℕ) (w i : ℕ) (e : List ℕ) : Type 0 where
  pub few : i ≤ 16
  pub left : put at (hex_digits true i w) e ≡ put at (hex_digits true 16 v) e₀

module _ {at v : ℕ} {e₀ : List ℕ} {w i : ℕ} {e : List ℕ} (z : Hex at v e₀ w i e) where
  pub hex_length : length e ≡ length e₀
  hex_length = sym (put_length at (hex_digits true i w) e) ∙ ap length z.left ∙ put_length at (hex_digits true 16 v) e₀

  hex_more : 1 ≤ i → hex_digits true i w ≡ hex_digits true (i - 1) (w / 16) ++ (digit true (w % 16) ∷ [])
  unfolding hex_digits
  hex_more h = let d : i ≡ suc (i - 1) = omega arith in ap (λ (k : ℕ). hex_digits true k w) d

  pub hex_turn : {c : ℕ} {e' : List ℕ} → 1 ≤ i → c ≡ digit true (w % 16) → e' ≡ set e (at + (i - 1)) c → Hex at v e₀ (w / 16) (i - 1) e'
  hex_turn {c} {e'} h q p =
      let t = hex_digits true (i - 1) (w / 16) in
      let k : i - 1 ≡ length t = sym (hex_digits_length true (i - 1) (w / 16)) in
      let a : e' ≡ set e (at + length t) (digit true (w % 16)) = p ∙ rw (q, ← k) in
      record {
        few = omega (arith, z.few);
        left = ap (put at t) a ∙ sym (put_snoc at t (digit true (w % 16)) e) ∙ ap (λ (u : List ℕ). put at u e) (sym (hex_more h)) ∙ z.left;
      }

  pub hex_end : i ≤ 0 → e ≡ put at (hex_digits true 16 v) e₀
  unfolding hex_digits
  hex_end h = let d : i ≡ 0 = omega arith in sym (put_none at e) ∙ ap (λ (k : ℕ). put at (hex_digits true k w) e) (sym d) ∙ z.left
