-- What is stored grows by one entry, by one column, and is whole by three parts.
-- What is stored behind a text is stored with it, by `put_append`.
use mathlib.Core.Path.{◌≡◌, sym, ap, ◌∙◌}
use mathlib.Core.List.{List, ◌++◌}
use Prim.Native.Nat.{ℕ, ◌+◌, ◌-◌, ◌*◌, ◌≤◌, ◌<◌}
use native.Mathlib.Nat.{zero-add}
use native.Mathlib.Omega.{arith}
use lib.ListN.{length, drop, set, get_or}
use lib.Seq.{get_or-drop}
use borrow.Rule.Slice.PartMut.{mid_of, put_mid}
use Rattle.lists.specs.Entries.{tab}
use Rattle.lists.specs.Put.{put}
use Rattle.lists.specs.PutLaws.{put_append, put_cons, put_none, put_length, put_rest}
use Rattle.lists.proofs.Tabs.{tab_append, tab_length}
use Rattle.columns.proofs.Transposed.{tab_same, next_row, cell, cell_at}

pub entry_more : (f : ℕ → ℕ) (to i : ℕ) (e : List ℕ) → set (put to (tab f 0 i) e) (to + i) (f i) ≡ put to (tab f 0 (i + 1)) e
entry_more f to i e = sym (rw (tab_append f 0 i 1, put_append, tab_length, put_cons, put_none, zero-add))

-- column j, every n-th byte from byte j on, behind the columns before it
pub column_more : (m n at j : ℕ) (s e : List ℕ)
    → put (at + j * m) (tab (λ i. get_or s (at + j + i * n) 0) 0 m) (put at (tab (cell m n (drop at s)) 0 (j * m)) e)
    ≡ put at (tab (cell m n (drop at s)) 0 ((j + 1) * m)) e
column_more m n at j s e =
    let f = cell m n (drop at s) in
    let g : ℕ → ℕ = λ i. get_or s (at + j + i * n) 0 in
    let each : (i : ℕ) → i < m → f (0 + j * m + i) ≡ g (0 + i) = λ i l. rw (zero-add (j * m), cell_at m n (drop at s) i j l, get_or-drop) (ap (λ k. get_or s k 0) (omega arith)) in
    sym (rw (next_row j m, tab_append f 0 (j * m) m, put_append, tab_length, tab_same f g (0 + j * m) 0 m each))

-- two texts are stored in the whole, the third in what is lent of it from b on
pub three_stored : (a b : ℕ) (x y z e e₁ e₂ r : List ℕ) → length x ≡ a → a + length y ≡ b → b ≤ length e
    → e₁ ≡ put 0 x e → e₂ ≡ put a y e₁ → r ≡ put 0 z (mid_of b (length e₂ - b) e₂) → put_mid b (length e₂ - b) e₂ r ≡ put 0 (x ++ (y ++ z)) e
three_stored a b x y z e e₁ e₂ r hx hy room p q w =
    let long : length e₂ ≡ length e = rw (q, put_length, p, put_length) in
    put_rest b b z e₂ r (omega arith) w ∙ rw (q, p) (sym (rw (put_append 0 x (y ++ z) e, zero-add, hx, put_append, hy)))
