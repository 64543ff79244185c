-- What a small routine is, and the order of all: "Produce every routine of one, two or three blocks".
use Rattle.std.specs.Prelude.{ℕ, ◌+◌, ◌≤◌, ◌<◌, Bool, true, false, ◌&&◌, ◌||◌, List, [], ◌∷◌, ◌≡◌, ltb, eqb, length, get_or}
use Rattle.routines.specs.declared.ending.Ending.{Ending}
use Rattle.routines.specs.declared.ending.Ending.TheVariants.{Ret, Fall, Jmp, Jne}

-- "Each block is a single instruction": a routine is its blocks' endings. "The last block may not fall or branch conditionally." Of block k
-- of n:
abbrev pub allowed : ℕ → ℕ → Ending → Bool
allowed n k Ret = true
allowed n k Fall = ltb (k + 1) n
allowed n k (Jmp t) = ltb t n
allowed n k (Jne t) = ltb t n && ltb (k + 1) n

pub record IsRoutine (r : List Ending) : Type 0 where
  pub some : 1 ≤ length r
  pub few : length r ≤ 3
  pub each : (k : ℕ) → k < length r → allowed (length r) k (get_or r k Ret) ≡ true

-- "The endings rank ret, fall, jmp by rising t, jne by rising t.": t is below 3
abbrev pub rank : Ending → ℕ
rank Ret = 0
rank Fall = 1
rank (Jmp t) = 2 + t
rank (Jne t) = 5 + t

-- "then the first block's ending decides, then the second's and third's"
unfoldable pub decides : List Ending → List Ending → Bool
decides [] b = false
decides (x ∷ a) [] = false
decides (x ∷ a) (y ∷ b) = ltb (rank x) (rank y) || (eqb (rank x) (rank y) && decides a b)

-- "Fewer blocks come first"
unfoldable pub comes_before : List Ending → List Ending → Bool
comes_before a b = ltb (length a) (length b) || (eqb (length a) (length b) && decides a b)

-- A numbering of all of them: "Each comes exactly once, none is missing", in that order. "There are 2, 18 and 256."
pub record FullSet (f : ℕ → List Ending) : Type 0 where
  pub each : (k : ℕ) → k < 276 → IsRoutine (f k)
  pub once : (j k : ℕ) → j < 276 → k < 276 → f j ≡ f k → j ≡ k
  pub missing : (r : List Ending) → IsRoutine r → (k : ℕ) × ((k < 276) × (f k ≡ r))
  pub order : (j k : ℕ) → j < k → k < 276 → comes_before (f j) (f k) ≡ true
  pub one : (k : ℕ) → k < 2 → length (f k) ≡ 1
  pub two : (k : ℕ) → 2 ≤ k → k < 20 → length (f k) ≡ 2
  pub three : (k : ℕ) → 20 ≤ k → k < 276 → length (f k) ≡ 3
