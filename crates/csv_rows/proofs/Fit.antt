-- Rows of a file can be held, their lists hold them, and their addresses have 64 bits.
-- Each test of a row or a token that lists can hold is one of `goodRow` and `goodToken`.
use mathlib.Core.Path.{◌≡◌, refl}
use mathlib.Core.Bool.{true, ◌&&◌, ◌||◌}
use mathlib.Core.List.{List, [], ◌∷◌}
use Prim.Native.Nat.{ℕ, zero, suc, ◌^◌, ◌<◌}
use native.Mathlib.Omega.{arith}
use lib.Dec.{eqb, ltb, leb}
use lib.ListN.{length, get_or}
use borrow.Author.Tests.{ltb-true, lt-ltb}
use Rattle.lists.specs.Every.{every, both_yes}
use Rattle.tokens.specs.Token.{Token}
use Rattle.tokens.specs.Listing.{text_of}
use Rattle.rows.specs.Rows.{Row, all_tokens, row_lists}
use Rattle.lists.proofs.Tests.{never}
use Rattle.tokens.proofs.Fit.{fit_token}
use Rattle.rows.proofs.Back.{fit_row, begins_alone, rows_hold}
use Rattle.rows.proofs.Held.{Held, held}
use Rattle.csv_rows.specs.Format.{some, good_token, good_row, good_rows}
use Rattle.csv_rows.specs.Called.{writable}

some_long : {A : Type 0} (l : List A) → some l ≡ true → ltb 0 (length l) ≡ true
some_long [] h = never h
some_long (x ∷ l) h = lt-ltb 0 (suc (length l)) (omega arith)

tokens_fit : (ts : List Token) → every good_token ts ≡ true → every fit_token ts ≡ true
unfolding good_token
tokens_fit [] h = refl
tokens_fit (t ∷ ts) h =
    let f = both_yes (good_token t) (every good_token ts) h in
    let g = both_yes (ltb t.kind 8) (some t.bytes) f.0 in
    rw (some_long t.bytes g.1, g.0, tokens_fit ts f.1)

row_fits : (r : Row) → good_row r ≡ true → (fit_row r ≡ true) × (r.address < 2 ^ 64)
unfolding good_row
row_fits r h =
    let a = ltb r.address (2 ^ 64) in
    let b = r.addressed || eqb r.address 0 in
    let d = leb r.indent 254 in
    let p = leb r.place 65535 in
    let h1 = both_yes (a && b && d && p && some r.tokens) (every good_token r.tokens) h in
    let h2 = both_yes (a && b && d && p) (some r.tokens) h1.0 in
    let h3 = both_yes (a && b && d) p h2.0 in
    let h4 = both_yes (a && b) d h3.0 in
    let h5 = both_yes a b h4.0 in
    (rw (some_long r.tokens h2.1, h4.1, h5.1, tokens_fit r.tokens h1.1), ltb-true r.address (2 ^ 64) h5.0)

pub rows_fit : (rs : List Row) → good_rows rs ≡ true → every fit_row rs ≡ true
rows_fit [] h = refl
rows_fit (r ∷ rs) h = let f = both_yes (good_row r) (good_rows rs) h in rw ((row_fits r f.0).0, rows_fit rs f.1)

pub addresses_fit : (rs : List Row) → good_rows rs ≡ true → (i : ℕ) → get_or (row_lists rs).addresses i 0 < 2 ^ 64
unfolding row_lists
addresses_fit [] h i = omega arith
addresses_fit (r ∷ rs) h zero = (row_fits r (both_yes (good_row r) (good_rows rs) h).0).1
addresses_fit (r ∷ rs) h (suc i) = addresses_fit rs (both_yes (good_row r) (good_rows rs) h).1 i

-- the lists of rows hold them
pub rows_held : (rs : List Row) → good_rows rs ≡ true → Held (row_lists rs) (length (text_of (all_tokens rs))) (length (all_tokens rs)) (length rs)
rows_held rs h = held (row_lists rs) _ _ _ (rows_hold rs (row_lists rs) (begins_alone rs) (rows_fit rs h))

pub writable_good : (rs : List Row) → writable rs ≡ true → good_rows rs ≡ true
unfolding writable
writable_good rs w =
    let x = leb (length (text_of (all_tokens rs))) 4294967295 in
    (both_yes (good_rows rs) x (both_yes (good_rows rs && x) (leb (length (all_tokens rs)) 4294967295) w).0).0
