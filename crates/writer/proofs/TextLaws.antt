-- What a writer of a text has told, where the text has another name.
-- The one name stands for the other.
use mathlib.Core.Path.{◌≡◌}
use mathlib.Core.List.{List}
use Prim.Native.Nat.{ℕ, ◌≤◌}
use lib.ListN.{length}
use Rattle.lists.specs.Put.{put}

pub told : (x y out out' : List ℕ) (r : ℕ) → x ≡ y → r ≡ length y → out' ≡ put 0 y out → (r ≡ length x) × (out' ≡ put 0 x out)
told x y out out' r e a b = rw e (a, b)

pub room : (x y : List ℕ) (n : ℕ) → x ≡ y → length x ≤ n → length y ≤ n
room x y n e h = rw e at h
