-- A loop that writes pieces one behind the other.
-- To write the rest from where it stands is to write all from where it began.
use mathlib.Core.Path.{◌≡◌, refl, sym, ap, ◌∙◌}
use mathlib.Core.List.{List, [], ◌++◌}
use Prim.Native.Nat.{ℕ, suc, ◌+◌, ◌≤◌, ◌<◌}
use native.Mathlib.Numerals.{add-one}
use native.Mathlib.Omega.{arith}
use lib.ListN.{length, drop, get_or, length-append, drop_of_length-le}
use lib.Seq.{drop-cons}
use Rattle.lists.specs.Put.{put}
use Rattle.lists.specs.PutLaws.{put_none, put_append, put_length}
use Rattle.csv_rows.specs.Format.{doubled}
use Rattle.csv_rows.specs.Writing.{Wrote, char_text}
use Rattle.csv_rows.proofs.Wrote.{doubled_cons}

-- w i is what is left to write at step i, from `at` on in e; it began at step x, from at₀ on in e₀
pub record Going (w : ℕ → List ℕ) (x at₀ : ℕ) (e₀ : List ℕ) (i at : ℕ) (e : List ℕ) : Type 0 where
  pub done : at + length (w i) ≡ at₀ + length (w x)
  pub left : put at (w i) e ≡ put at₀ (w x) e₀

module _ {w : ℕ → List ℕ} {x at₀ : ℕ} {e₀ : List ℕ} {i at : ℕ} {e : List ℕ} (z : Going w x at₀ e₀ i at e) where
  pub go_length : length e ≡ length e₀
  go_length = sym (put_length at (w i) e) ∙ ap length z.left ∙ put_length at₀ (w x) e₀

  pub go_room : (p : List ℕ) → w i ≡ p ++ w (i + 1) → at₀ + length (w x) ≤ length e₀ → at + length p ≤ length e
  go_room p d h = omega (arith, z.done, ap length d, length-append p (w (i + 1)), go_length)

  pub go_turn : {p : List ℕ} {r : ℕ} {e' : List ℕ} → w i ≡ p ++ w (i + 1) → Wrote at p e e' r → Going w x at₀ e₀ (i + 1) r e'
  go_turn {p} d q =
      record {
        done = omega (arith, q.end, z.done, ap length d, length-append p (w (i + 1)));
        left = rw (q.end, q.text) (sym (put_append at p (w (i + 1)) e) ∙ ap (λ (u : List ℕ). put at u e) (sym d) ∙ z.left);
      }

  pub go_end : w i ≡ [] → Wrote at₀ (w x) e₀ e at
  go_end d = record { end = omega (arith, z.done, ap length d); text = sym (put_none at e) ∙ ap (λ (u : List ℕ). put at u e) (sym d) ∙ z.left }

-- ---- the bytes of a text
unfoldable pub text_from : List ℕ → ℕ → List ℕ
text_from s i = doubled (drop i s)

pub text_more : (s : List ℕ) (i : ℕ) → i < length s → text_from s i ≡ char_text (get_or s i 0) ++ text_from s (i + 1)
unfolding text_from
text_more s i h = ap doubled (drop-cons s i 0 h) ∙ doubled_cons (get_or s i 0) (drop (suc i) s) ∙ rw add-one

pub text_none : (s : List ℕ) (i : ℕ) → length s ≤ i → text_from s i ≡ []
unfolding text_from doubled
text_none s i h = rw (drop_of_length-le s {i = i} h)

pub text_all : (s : List ℕ) → text_from s 0 ≡ doubled s
unfolding text_from
text_all s = refl

pub text_room : (s : List ℕ) {at₀ : ℕ} {e₀ : List ℕ} {i at : ℕ} {e : List ℕ} → Going (text_from s) 0 at₀ e₀ i at e → i < length s
    → at₀ + length (doubled s) ≤ length e₀ → at + length (char_text (get_or s i 0)) ≤ length e
unfolding text_from
text_room s {i = i} z h k = go_room z (char_text (get_or s i 0)) (text_more s i h) k
