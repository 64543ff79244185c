-- Rows and columns: what stands where once rows are columns, and that both exchanged twice are as they were.
-- Byte i of column j is number j * m + i of the columns, and j and i are this number's quotient and remainder by m.
use mathlib.Core.Path.{◌≡◌, sym, ◌∙◌}
use mathlib.Core.List.{List}
use Prim.Native.Nat.{ℕ, zero, suc, ◌+◌, ◌*◌, ◌/◌, ◌%◌, ◌≤◌, ◌<◌}
use native.Mathlib.Nat.{add-zero, zero-add, suc-mul, mul-zero, mul-le-mul_right, mod-lt, mod-eq_of_lt, div-eq_of_lt, div-add-mod', div-lt_iff_lt-mul, mul-add-div_right, mul-add-mod_self_right}
use native.Mathlib.Numerals.{add-one}
use native.Mathlib.Omega.{arith}
use lib.ListN.{length, take, get_or}
use lib.Seq.{ext_get_or, get_or-take, length-take-le}
use Rattle.lists.specs.Entries.{tab, tab_at}
use Rattle.lists.proofs.Tabs.{tab_length}
use Rattle.columns.specs.Columns.{transposed}

-- ---- entries
-- the same entries, from a on and from b on
pub tab_same : (f g : ℕ → ℕ) (a b n : ℕ) → ((k : ℕ) → k < n → f (a + k) ≡ g (b + k)) → tab f a n ≡ tab g b n
tab_same f g a b n h =
    ext_get_or 0 (tab f a n) (tab g b n) (tab_length f a n ∙ sym (tab_length g b n))
    (λ k l. let u : k < n = omega (arith, tab_length f a n) in tab_at f a n k 0 u ∙ h k u ∙ sym (tab_at g b n k 0 u))

-- a list's own first entries
tab_own : (n : ℕ) (t : List ℕ) → n ≤ length t → tab (λ k. get_or t k 0) 0 n ≡ take n t
tab_own n t h =
    let f : ℕ → ℕ = λ k. get_or t k 0 in
    ext_get_or 0 (tab f 0 n) (take n t) (tab_length f 0 n ∙ sym (length-take-le n t h))
    (λ k l. let u : k < n = omega (arith, tab_length f 0 n) in tab_at f 0 n k 0 u ∙ rw (zero-add, get_or-take n t k 0 u))

-- ---- rows and columns
pub next_row : (i n : ℕ) → (i + 1) * n ≡ i * n + n
next_row i n = rw (add-one, suc-mul)

-- a row ends no later than the last
pub within_rows : (i m n : ℕ) → i < m → i * n + n ≤ m * n
within_rows i m n h = omega (arith, mul-le-mul_right {m = suc i} n h, suc-mul i n)

some_bytes : (m n q : ℕ) → q < m * n → 0 < n
some_bytes m zero q h = omega (arith, mul-zero m)
some_bytes m (suc n) q h = omega arith

-- byte q of the columns of m rows of n bytes
abbrev pub cell : ℕ → ℕ → List ℕ → ℕ → ℕ
cell m n t q = get_or t (q % m * n + q / m) 0

pub cell_at : (m n : ℕ) (t : List ℕ) (i j : ℕ) → i < m → cell m n t (j * m + i) ≡ get_or t (i * n + j) 0
cell_at m n t i j h =
    let row : (j * m + i) % m ≡ i = mul-add-mod_self_right j m i ∙ mod-eq_of_lt h in
    let column : (j * m + i) / m ≡ j = mul-add-div_right {m = m} (omega arith) j i ∙ rw (div-eq_of_lt h, add-zero) in
    rw (row, column)

pub transposed_length : (m n : ℕ) (t : List ℕ) → length (transposed m n t) ≡ n * m
unfolding transposed
transposed_length m n t = tab_length (cell m n t) 0 (n * m)

pub transposed_at : (m n : ℕ) (t : List ℕ) (i j : ℕ) → i < m → j < n → get_or (transposed m n t) (j * m + i) 0 ≡ get_or t (i * n + j) 0
unfolding transposed
transposed_at m n t i j a b =
    tab_at (cell m n t) 0 (n * m) (j * m + i) 0 (omega (arith, within_rows j n m b)) ∙ rw zero-add (cell_at m n t i j a)

-- u has the columns of t's m rows of n bytes: the columns of u's n rows are those rows again
pub twice : (m n : ℕ) (t u : List ℕ) → m * n ≤ length t
    → ((i j : ℕ) → i < m → j < n → get_or u (j * m + i) 0 ≡ get_or t (i * n + j) 0) → transposed n m u ≡ take (m * n) t
unfolding transposed
twice m n t u fits moved = tab_same (cell n m u) (λ k. get_or t k 0) 0 0 (m * n) at_each ∙ tab_own (m * n) t fits
  where
    at_each : (q : ℕ) → q < m * n → cell n m u (0 + q) ≡ get_or t (0 + q) 0
    at_each q l =
        let p = some_bytes m n q l in
        rw zero-add (moved (q / n) (q % n) ((div-lt_iff_lt-mul p).1 l) (mod-lt q p) ∙ rw div-add-mod')
