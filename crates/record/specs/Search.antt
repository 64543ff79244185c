-- Searches: for the last number that passes a test, and for a number among u64 numbers that stand one after the other, as block
-- starts and atlas addresses do.
use Rattle.std.specs.Prelude.{ℕ, zero, suc, ◌+◌, ◌*◌, ◌<◌, List, Bool, eqb}
use Rattle.lists.specs.Choice.{pick}
use Rattle.lists.specs.Bytes.{u64_at}
use Rattle.std.specs.Prelude.{Option, Some, None}

-- "B u64 block starts", "A u64 addresses"
abbrev pub number_at : List ℕ → ℕ → ℕ
number_at numbers k = u64_at numbers (8 * k)

-- each of the first n numbers is above the one before it
abbrev pub Rises : (ℕ → ℕ) → ℕ → Type 0
Rises f n = (k : ℕ) → suc k < n → f k < f (suc k)

-- the first of the n numbers from k on that is x
unfoldable pub find_from : List ℕ → ℕ → ℕ → ℕ → Option ℕ
find_from numbers x k zero = None
find_from numbers x k (suc n) = pick (eqb (number_at numbers k) x) (Some k) (find_from numbers x (suc k) n)

-- the last of the n numbers from i on that passes the test
unfoldable pub last_from : (ℕ → Bool) → ℕ → ℕ → Option ℕ
last_from p i zero = None
last_from p i (suc n) = pick (p (i + n)) (Some (i + n)) (last_from p i n)
