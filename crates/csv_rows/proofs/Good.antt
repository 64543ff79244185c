-- The rows that lists hold are rows of a file.
-- Each test of `goodRow` is one of `rowHeld` and `tokenHeld`, or follows from the width of a list's entries.
use mathlib.Core.Path.{◌≡◌, refl}
use mathlib.Core.Bool.{Bool, true}
use mathlib.Core.List.{List, [], ◌∷◌}
use Prim.Native.Nat.{ℕ, zero, suc, ◌+◌, ◌-◌, ◌^◌, ◌≤◌, ◌<◌}
use native.Mathlib.Omega.{arith}
use lib.ListN.{length, get_or}
use borrow.Author.Tests.{le-leb, lt-ltb}
use Rattle.lists.specs.Every.{every}
use Rattle.lists.specs.Entries.{tab}
use Rattle.tokens.specs.Lines.{end_at, between, token_at, line_at}
use Rattle.lists.proofs.Tabs.{tab_length}
use Rattle.rows.specs.Lists.{Lists}
use Rattle.rows.specs.Rows.{indent_of, row_at, rows_in}
use Rattle.rows.proofs.Held.{Held, row_held_lem, kind_held, token_rise, token_inside, row_inside, between_length}
use Rattle.csv_rows.specs.Format.{some, good_token, good_row, good_rows}

every_tab : {A : Type 0} (q : A → Bool) (f : ℕ → A) (k j : ℕ) → ((i : ℕ) → j ≤ i → i < j + k → q (f i) ≡ true) → every q (tab f j k) ≡ true
every_tab q f zero j h = refl
every_tab q f (suc k) j h = rw (h j (omega arith) (omega arith), every_tab q f k (suc j) (λ i a b. h i (omega arith) (omega arith)))

some_long : {A : Type 0} (l : List A) → 0 < length l → some l ≡ true
some_long [] h = absurd (omega arith)
some_long (a ∷ l) h = refl

module _ (l : Lists) (x n m : ℕ) (h : Held l x n m) where
  token_good : (j : ℕ) → j < n → good_token (token_at l.text l.ends l.kinds j) ≡ true
  unfolding good_token token_at
  token_good j k =
      let a = end_at l.ends j in
      let b = end_at l.ends (suc j) in
      let r : a < b = token_rise l x n m h j k in
      let e = between_length l.text a b (omega arith) (token_inside l x n m h (suc j) k) in
      rw (kind_held l x n m h j k, some_long (between a b l.text) (omega (arith, e)))

  module _ (addresses : (i : ℕ) → get_or l.addresses i 0 < 2 ^ 64) (places : (i : ℕ) → get_or l.places i 0 < 65536) where
    row_good : (i : ℕ) → i < m → good_row (row_at l i) ≡ true
    unfolding good_row row_at line_at
    row_good i k =
        let a = end_at l.lines i in
        let b = end_at l.lines (suc i) in
        let r = row_held_lem l x n m h i k in
        let token_at_lem = token_at l.text l.ends l.kinds in
        let s : some (tab token_at_lem a (b - a)) ≡ true = some_long (tab token_at_lem a (b - a)) (omega (arith, r.rise, tab_length token_at_lem a (b - a))) in
        let t : every good_token (tab token_at_lem a (b - a)) ≡ true =
        every_tab good_token token_at_lem (b - a) a (λ j p q. token_good j (omega (arith, r.rise, row_inside l x n m h (suc i) k))) in
        rw (lt-ltb (get_or l.addresses i 0) (2 ^ 64) (addresses i), r.address, le-leb (indent_of (get_or l.marks i 0)) 254 r.indent, le-leb (get_or l.places i 0) 65535 (omega (arith, places i)), s, t)

    pub rows_good : good_rows (rows_in l m) ≡ true
    unfolding rows_in
    rows_good = every_tab good_row (row_at l) m 0 (λ i p q. row_good i (omega arith))
