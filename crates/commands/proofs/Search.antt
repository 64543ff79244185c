-- The search back for the line that sets a register: where it stands at line i, and each of its turns.
-- What the lines before line i give is what those before the call's line give.
use mathlib.Core.Path.{◌≡◌, sym, ap, ◌∙◌}
use mathlib.Core.Bool.{Bool, true, false}
use mathlib.Core.List.{List}
use Prim.Native.Nat.{ℕ, zero, suc, ◌-◌, ◌≤◌, ◌<◌}
use native.Mathlib.Omega.{arith}
use lib.Dec.{eqb}
use lib.ListN.{get_or}
use borrow.Author.Tests.{eq-eqb, ne_eqb}
use Rattle.std.specs.Prelude.{Option, Some, None}
use Rattle.std.proofs.lemmas.Option.{none-some, same_Some}
use Rattle.lists.proofs.Tests.{split}
use Rattle.lists.specs.Choice.{pick}
use Rattle.rows.specs.Lists.{Lists}
use Rattle.rows.specs.Rows.{row_at}
use Rattle.commands.specs.Calls.{is_call, begins_with}
use Rattle.commands.specs.Table.{line_before}

place_at : (l : Lists) (i p : ℕ) → p ≡ get_or l.places i 0 → p ≡ (row_at l i).place
unfolding row_at
place_at l i p e = e

-- a line that is found lies before
pub line_within : (l : Lists) (register : List ℕ) (p k i : ℕ) → line_before l register p k ≡ Some i → i < k
unfolding line_before
line_within l register p zero i e = absurd (none-some i e)
line_within l register p (suc k) i e =
    let r = row_at l k in
    split (eqb r.place p)
    (λ a.
    split (is_call r)
    (λ b. absurd (none-some i (rw (a, b) at e)))
    (λ b.
    split (begins_with register r)
    (λ c. let q = same_Some k i (rw (a, b, c) at e) in omega (arith, q))
    (λ c. let q = line_within l register p k i (rw (a, b, c) at e) in omega (arith, q))))
    (λ a. let q = line_within l register p k i (rw a at e) in omega (arith, q))

-- what is sought for the call on line k
abbrev pub Sought : Lists → List ℕ → ℕ → Option ℕ
Sought l register k = line_before l register (row_at l k).place k

pub search_start : (l : Lists) (register : List ℕ) (k p : ℕ) → p ≡ get_or l.places k 0 → line_before l register p k ≡ Sought l register k
search_start l register k p e = rw (place_at l k p e)

-- the search stands at line i, and looks at the line before it
module _ (l : Lists) (register : List ℕ) (k p i : ℕ) (w : line_before l register p i ≡ Sought l register k) where
  pub search_end : i ≤ 0 → None ≡ Sought l register k
  unfolding line_before
  search_end h = let z : i ≡ 0 = omega arith in rw z at w

  module _ (q : ℕ) (h : 0 < i) (e : q ≡ get_or l.places (i - 1) 0) where
    before : line_before l register p i
        ≡ pick (eqb q p) (pick (is_call (row_at l (i - 1))) None (pick (begins_with register (row_at l (i - 1))) (Some (i - 1)) (line_before l register p (i - 1)))) (line_before l register p (i - 1))
    unfolding line_before
    before = let d : i ≡ suc (i - 1) = omega arith in ap (line_before l register p) d ∙ rw (place_at l (i - 1) q e)

    pub search_other : (q ≡ p → ⊥) → line_before l register p (i - 1) ≡ Sought l register k
    search_other n = sym (before ∙ rw (ne_eqb q p n)) ∙ w

    module _ (y : q ≡ p) (c : Bool) (f : c ≡ is_call (row_at l (i - 1))) where
      pub search_call : c ≡ true → None ≡ Sought l register k
      search_call g = sym (before ∙ rw (eq-eqb q p y, ← f, g)) ∙ w

      module _ (g : c ≡ false) (b : Bool) (z : b ≡ begins_with register (row_at l (i - 1))) where
        pub search_found : b ≡ true → Some (i - 1) ≡ Sought l register k
        search_found s = sym (before ∙ rw (eq-eqb q p y, ← f, g, ← z, s)) ∙ w

        pub search_further : b ≡ false → line_before l register p (i - 1) ≡ Sought l register k
        search_further s = sym (before ∙ rw (eq-eqb q p y, ← f, g, ← z, s)) ∙ w
