-- How loops store rows.
-- The invariant of each: what is left from here on is what there was from the start.
use Prim.Native.Nat.{ℕ, suc, ◌+◌, ◌-◌, ◌≤◌, ◌<◌}
use mathlib.Core.List.{List, [], ◌∷◌, ◌++◌}
use mathlib.Core.Path.{◌≡◌, sym, ap, ◌∙◌}
use native.Mathlib.Numerals.{add-one}
use native.Mathlib.Omega.{arith}
use lib.ListN.{length, set}
use Rattle.lists.specs.Put.{put}
use Rattle.lists.specs.PutLaws.{put_length, put_append, put_cons, put_none}
use Rattle.flow.specs.Rows.{rows_from}

-- A loop's invariant: to store the rows from k on where the loop stands is to store all of them where it began.
pub record Left (f : ℕ → List ℕ) (n : ℕ) (l₀ : List ℕ) (at : ℕ) (l : List ℕ) (k : ℕ) : Type 0 where
  pub list : put at (rows_from f k (n - k)) l ≡ put 0 (rows_from f 0 n) l₀

pub left_all : (f : ℕ → List ℕ) (n : ℕ) (l : List ℕ) → Left f n l 0 l 0
left_all f n l = record { list = let e : n - 0 ≡ n = omega arith in rw e }

pub left_length : {f : ℕ → List ℕ} {n : ℕ} {l₀ : List ℕ} {at : ℕ} {l : List ℕ} {k : ℕ} → Left f n l₀ at l k → length l ≡ length l₀
left_length {f} {n} {l₀} {at} {l} {k} a = sym (put_length at (rows_from f k (n - k)) l) ∙ ap length a.list ∙ put_length 0 (rows_from f 0 n) l₀

rows_one : (f : ℕ → List ℕ) (n k : ℕ) → k < n → rows_from f k (n - k) ≡ f k ++ rows_from f (k + 1) (n - (k + 1))
unfolding rows_from
rows_one f n k h = let d : n - k ≡ suc (n - (k + 1)) = omega arith in rw (d, add-one)

rows_none : (f : ℕ → List ℕ) (n k : ℕ) → n ≤ k → rows_from f k (n - k) ≡ []
unfolding rows_from
rows_none f n k h = let d : n - k ≡ 0 = omega arith in rw d

-- row k is stored
pub left_step : {f : ℕ → List ℕ} {n : ℕ} {l₀ : List ℕ} {at : ℕ} {l : List ℕ} {k at' : ℕ} {l' : List ℕ}
    → Left f n l₀ at l k → k < n → at' ≡ at + length (f k) → l' ≡ put at (f k) l → Left f n l₀ at' l' (k + 1)
left_step {f} {n} {l₀} {at} {l} {k} {at'} {l'} a h e p = record {
  list = rw (p, e) (sym (put_append at (f k) (rows_from f (k + 1) (n - (k + 1))) l) ∙ ap (λ (t : List ℕ). put at t l) (sym (rows_one f n k h)) ∙ a.list);
}

pub left_done : {f : ℕ → List ℕ} {n : ℕ} {l₀ : List ℕ} {at : ℕ} {l : List ℕ} {k : ℕ} → Left f n l₀ at l k → n ≤ k → l ≡ put 0 (rows_from f 0 n) l₀
left_done {f} {n} {l₀} {at} {l} {k} a h = sym (put_none at l) ∙ ap (λ (t : List ℕ). put at t l) (sym (rows_none f n k h)) ∙ a.list

-- stores one behind the other
pub put_two : (e e₁ e₂ : List ℕ) (at a b : ℕ) → e₁ ≡ set e at a → e₂ ≡ set e₁ (at + 1) b → e₂ ≡ put at (a ∷ b ∷ []) e
put_two e e₁ e₂ at a b p q = q ∙ rw (p, put_cons, put_cons, put_none)

pub put_four : (e e₁ e₂ : List ℕ) (at a b c d : ℕ) → e₁ ≡ put at (a ∷ b ∷ []) e → e₂ ≡ put (at + 2) (c ∷ d ∷ []) e₁ → e₂ ≡ put at (a ∷ b ∷ c ∷ d ∷ []) e
put_four e e₁ e₂ at a b c d p q = q ∙ rw p (sym (put_append at (a ∷ b ∷ []) (c ∷ d ∷ []) e))
