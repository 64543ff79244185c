-- A loop over a list makes its sum.
-- The invariant: the sum of what is left, from here, is that of the whole.
use mathlib.Core.Path.{◌≡◌}
use mathlib.Core.List.{List, map}
use Prim.Native.Nat.{ℕ, ◌+◌, ◌/◌, ◌%◌, ◌≤◌, ◌<◌}
use native.Mathlib.Numerals.{add-one}
use lib.ListN.{length, get_or, drop, drop_of_length-le}
use lib.Seq.{drop-cons}
use Rattle.replay.specs.Sum.{turn, sum_from, wide_from}

module _ {A : Type 0} (value : A → ℕ) (s : List A) (i h r : ℕ) where
  pub sum_turn : (g : ℕ) (x : A) → i < length s → x ≡ get_or s i x → g ≡ turn h (value x) → sum_from h (map value (drop i s)) ≡ r → sum_from g (map value (drop (i + 1) s)) ≡ r
  unfolding sum_from
  sum_turn g x l at e p = rw (e, add-one, at) (rw (drop-cons s i x l) at p)

  pub sum_done : length s ≤ i → sum_from h (map value (drop i s)) ≡ r → h ≡ r
  unfolding sum_from
  sum_done l p = rw (drop_of_length-le s l) at p

module _ (s : List ℕ) (i h r : ℕ) where
  pub wide_turn : (f g : ℕ) → i < length s → f ≡ turn h (get_or s i 0 % 4294967296) → g ≡ turn f (get_or s i 0 / 4294967296) → wide_from h (drop i s) ≡ r → wide_from g (drop (i + 1) s) ≡ r
  unfolding wide_from
  wide_turn f g l e d p = rw (d, e, add-one) (rw (drop-cons s i 0 l) at p)

  pub wide_done : length s ≤ i → wide_from h (drop i s) ≡ r → h ≡ r
  unfolding wide_from
  wide_done l p = rw (drop_of_length-le s l) at p
