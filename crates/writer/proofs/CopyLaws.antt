-- A copy in parts is a copy of the whole.
-- Each byte read and stored is one of the part; behind a part stands what is left.
use mathlib.Core.Path.{◌≡◌, sym, ◌∙◌}
use mathlib.Core.List.{List}
use Prim.Native.Nat.{ℕ, suc, ◌+◌, ◌-◌, ◌≤◌, ◌<◌}
use native.Mathlib.Nat.{add-zero}
use native.Mathlib.Numerals.{add-one}
use native.Mathlib.Omega.{arith}
use lib.ListN.{length, get_or, take, drop, set, length-drop}
use lib.Seq.{drop-cons, drop-drop, take-add, length-take-le}
use Rattle.lists.specs.Put.{put}
use Rattle.lists.specs.PutLaws.{put_none, put_cons, put_append}
use Rattle.writer.specs.Copy.{left}

-- a byte stored, and k behind it
next : (s e : List ℕ) (to from k : ℕ) → from < length s → put to (take (suc k) (drop from s)) e ≡ put (to + 1) (take k (drop (from + 1) s)) (set e to (get_or s from 0))
next s e to from k h = rw (drop-cons s from 0 h, put_cons, ← add-one from)

module _ (s : List ℕ) (to from : ℕ) where
  -- the same, where d were stored before
  further : (e : List ℕ) (d k : ℕ) → from + d < length s → put (to + d) (take (suc k) (drop (from + d) s)) e ≡ put (to + suc d) (take k (drop (from + suc d) s)) (set e (to + d) (get_or s (from + d) 0))
  further e d k h =
      let a : to + d + 1 ≡ to + suc d = omega arith in
      let b : from + d + 1 ≡ from + suc d = omega arith in
      next s e (to + d) (from + d) k h ∙ rw (a, b)

  stored : (e : List ℕ) (d : ℕ) → put (to + d) (take 0 (drop (from + d) s)) e ≡ e
  stored e d = put_none (to + d) e

  pub two : (e : List ℕ) → from + 2 ≤ length s → set (set e to (get_or s from 0)) (to + 1) (get_or s (from + 1) 0) ≡ put to (take 2 (drop from s)) e
  two e h = sym (next s e to from 1 (omega arith) ∙ further _ 1 0 (omega arith) ∙ stored _ 2)

  pub four : (e : List ℕ) → from + 4 ≤ length s → set (set (set (set e to (get_or s from 0)) (to + 1) (get_or s (from + 1) 0)) (to + 2) (get_or s (from + 2) 0)) (to + 3) (get_or s (from + 3) 0) ≡ put to (take 4 (drop from s)) e
  four e h = sym (next s e to from 3 (omega arith) ∙ further _ 1 2 (omega arith) ∙ further _ 2 1 (omega arith) ∙ further _ 3 0 (omega arith) ∙ stored _ 4)

  pub eight : (e : List ℕ) → from + 8 ≤ length s → set (set (set (set (set (set (set (set e to (get_or s from 0)) (to + 1) (get_or s (from + 1) 0)) (to + 2) (get_or s (from + 2) 0)) (to + 3) (get_or s (from + 3) 0)) (to + 4) (get_or s (from + 4) 0)) (to + 5) (get_or s (from + 5) 0)) (to + 6) (get_or s (from + 6) 0)) (to + 7) (get_or s (from + 7) 0) ≡ put to (take 8 (drop from s)) e
  eight e h = sym (next s e to from 7 (omega arith) ∙ further _ 1 6 (omega arith) ∙ further _ 2 5 (omega arith) ∙ further _ 3 4 (omega arith) ∙ further _ 4 3 (omega arith) ∙ further _ 5 2 (omega arith) ∙ further _ 6 1 (omega arith) ∙ further _ 7 0 (omega arith) ∙ stored _ 8)

-- a part that is there whole
pub whole_part : (s : List ℕ) (at n : ℕ) → at + n ≤ length s → length (take n (drop at s)) ≡ n
whole_part s at n h = length-take-le n (drop at s) (rw length-drop (omega arith))

-- behind m bytes of those that are left stand the others
pub behind_part : (s e e' : List ℕ) (at n i m : ℕ) → at + n ≤ length s → i + m ≤ n → e' ≡ put i (take m (drop (at + i) s)) e → put (i + m) (left s at n (i + m)) e' ≡ put i (left s at n i) e
unfolding left
behind_part s e e' at n i m h g p =
    let d : n - i ≡ m + (n - (i + m)) = omega arith in
    let b : at + i + m ≡ at + (i + m) = omega arith in
    rw (d, take-add, put_append, whole_part s (at + i) m (omega arith), drop-drop, b, p)

-- nothing is left, or one byte
pub none_left : (s e : List ℕ) (at n i : ℕ) → n ≤ i → e ≡ put i (left s at n i) e
unfolding left
none_left s e at n i h = let d : n - i ≡ 0 = omega arith in rw d (sym (put_none i e))

pub one_left : (s e : List ℕ) (at n i : ℕ) → at + n ≤ length s → i < n → n < i + 2 → set e i (get_or s (at + i) 0) ≡ put i (left s at n i) e
unfolding left
one_left s e at n i h g l = let d : n - i ≡ 1 = omega arith in rw d (sym (next s e i (at + i) 0 (omega arith) ∙ put_none _ _))

-- all are left at the start; each part leaves what is left to the next
module _ (s e e₁ e₂ e₃ e₄ : List ℕ) (at n i j k : ℕ) where
  all_left : put 0 (left s at n 0) e ≡ put 0 (take n (drop at s)) e
  unfolding left
  all_left = let d : n - 0 ≡ n = omega arith in rw (d, add-zero)

  pub in_parts : put i (left s at n i) e₁ ≡ put 0 (left s at n 0) e → put j (left s at n j) e₂ ≡ put i (left s at n i) e₁
      → put k (left s at n k) e₃ ≡ put j (left s at n j) e₂ → e₄ ≡ put k (left s at n k) e₃ → e₄ ≡ put 0 (take n (drop at s)) e
  in_parts a b c d = d ∙ c ∙ b ∙ a ∙ all_left
