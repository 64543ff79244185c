-- Edges read one after the other, up to the first that passes a test: two parts, and what a loop over them has shown when it ends.
-- To read two parts is to read one and, if none passed there, the other.
use mathlib.Core.Path.{◌≡◌, refl, sym, ap, ap₂, ◌∙◌}
use mathlib.Core.Bool.{Bool, true, false, ◌||◌, or-false, or_assoc}
use Prim.Native.Nat.{ℕ, zero, suc, ◌+◌, ◌-◌, ◌≤◌, ◌<◌}
use native.Mathlib.Omega.{arith}
use Rattle.lists.specs.Choice.{pick, any_below}
use Rattle.lists.specs.Below.{any_found}
use Rattle.lists.specs.Every.{neither}
use Rattle.cfg.specs.Looks.{edge_looks}
use Rattle.cfg.specs.Reads.{Reads}
use Rattle.cfg.specs.declared.edges.Looked.{Looked}

abbrev pub looked : Bool → ℕ → Looked
looked found looks = record { found = found; looks = looks }

abbrev pub nothing : Looked
nothing = looked false 0

-- one part and, if none passed there, the other
abbrev pub and_then : Looked → Looked → Looked
and_then a b = looked (a.found || b.found) (a.looks + pick a.found 0 b.looks)

pub nothing_then : (a : Looked) → and_then nothing a ≡ a
nothing_then a = ap (looked a.found) (let e : 0 + a.looks ≡ a.looks = omega arith in e)

then_assoc : (a b c : Looked) → and_then (and_then a b) c ≡ and_then a (and_then b c)
then_assoc a b c = go a.found a.looks b.found b.looks
  where
    go : (p : Bool) (x : ℕ) (q : Bool) (y : ℕ) → and_then (and_then (looked p x) (looked q y)) c ≡ and_then (looked p x) (and_then (looked q y) c)
    go true x q y = ap (looked true) (let e : x + 0 + 0 ≡ x + 0 = omega arith in e)
    go false x true y = ap (looked true) (let e : x + y + 0 ≡ x + (y + 0) = omega arith in e)
    go false x false y = ap (looked c.found) (let e : x + y + c.looks ≡ x + (y + c.looks) = omega arith in e)

pub then_stops : (a b : Looked) → a.found ≡ true → a ≡ and_then a b
then_stops a b t =
    let e : a.looks ≡ a.looks + 0 = omega arith in
    ap₂ looked t e ∙ ap (λ (q : Bool). looked (q || b.found) (a.looks + pick q 0 b.looks)) (sym t)

pub then_goes_on : (a b : Looked) → a.found ≡ false → looked b.found (a.looks + b.looks) ≡ and_then a b
then_goes_on a b t = ap (λ (q : Bool). looked (q || b.found) (a.looks + pick q 0 b.looks)) (sym t)

-- n parts from k on
unfoldable pub over : (ℕ → Looked) → ℕ → ℕ → Looked
over f k zero = nothing
over f k (suc n) = and_then (f k) (over f (suc k) n)

pub over_split : (f : ℕ → Looked) (k n m : ℕ) → over f k (n + m) ≡ and_then (over f k n) (over f (k + n) m)
unfolding over
over_split f k zero m =
    let d : 0 + m ≡ m = omega arith in
    let e : k + 0 ≡ k = omega arith in
    rw (d, e) (sym (nothing_then (over f k m)))
over_split f k (suc n) m =
    let d : suc n + m ≡ suc (n + m) = omega arith in
    let e : suc k + n ≡ k + suc n = omega arith in
    ap (over f k) d ∙ ap (and_then (f k)) (over_split f (suc k) n m) ∙ sym (then_assoc (f k) (over f (suc k) n) (over f (suc k + n) m))
    ∙ ap (λ (x : ℕ). and_then (and_then (f k) (over f (suc k) n)) (over f x m)) e

pub over_nothing : (f : ℕ → Looked) (k n : ℕ) → ((j : ℕ) → k ≤ j → j < k + n → f j ≡ nothing) → over f k n ≡ nothing
unfolding over
over_nothing f k zero h = refl
over_nothing f k (suc n) h = ap₂ and_then (h k (omega arith) (omega arith)) (over_nothing f (suc k) n (λ j a b. h j (omega arith) (omega arith)))

-- of the tests from k on the first is the one at k
pub any_first : (q : ℕ → Bool) (k n : ℕ) → any_below (λ m. q (k + m)) (suc n) ≡ (q k || any_below (λ m. q (suc k + m)) n)
any_first q k zero = let e : k + 0 ≡ k = omega arith in ap q e ∙ sym (or-false (q k))
any_first q k (suc n) =
    let e : k + suc n ≡ suc k + n = omega arith in
    ap₂ ◌||◌ (any_first q k n) (ap q e) ∙ or_assoc (q k) (any_below (λ m. q (suc k + m)) n) (q (suc k + n))

-- Edges

-- none passes where each was told not to
pub none_until : (p : ℕ → Bool) (e m : ℕ) → ((j : ℕ) → j < m → p (e + j) ≡ false) → any_below (λ j. p (e + j)) m ≡ false
none_until p e zero h = refl
none_until p e (suc m) h = ap₂ ◌||◌ (none_until p e m (λ j l. h j (omega arith))) (h m (omega arith))

module _ (p : ℕ → Bool) where
  abbrev edge : ℕ → Looked
  edge e = looked (p e) 1

  -- n edges from e on
  abbrev pub run : ℕ → ℕ → Looked
  run e n = looked (any_below (λ m. p (e + m)) n) (edge_looks p e n)

  over_run : (e n : ℕ) → over edge e n ≡ run e n
  unfolding over edge_looks
  over_run e zero = refl
  over_run e (suc n) =
      let s : 1 + pick (p e) 0 (edge_looks p (suc e) n) ≡ suc (pick (p e) 0 (edge_looks p (suc e) n)) = omega arith in
      ap (and_then (edge e)) (over_run (suc e) n) ∙ ap₂ looked (sym (any_first p e n)) s

  pub run_split : (e n m : ℕ) → run e (n + m) ≡ and_then (run e n) (run (e + n) m)
  run_split e n m = sym (over_run e (n + m)) ∙ over_split edge e n m ∙ ap₂ and_then (over_run e n) (over_run (e + n) m)

  -- what a loop over them has shown when it ends: none passed, or none before the last one read
  none_looks : (e n : ℕ) → any_below (λ m. p (e + m)) n ≡ false → edge_looks p e n ≡ n
  unfolding edge_looks
  none_looks e zero h = refl
  none_looks e (suc n) h =
      let q = neither (p e) (any_below (λ m. p (suc e + m)) n) (sym (any_first p e n) ∙ h) in
      ap suc (rw q.0 (none_looks (suc e) n q.1))

  at_looks : (e n m : ℕ) → m < n → any_below (λ j. p (e + j)) m ≡ false → p (e + m) ≡ true → edge_looks p e n ≡ m + 1
  unfolding edge_looks
  at_looks e n m lt h t =
      let s : n ≡ m + suc (n - m - 1) = omega arith in
      ap (edge_looks p e) s ∙ ap (λ (r : Looked). r.looks) (run_split e m (suc (n - m - 1)))
      ∙ ap₂ (λ (x : ℕ) (b : Bool). x + pick b 0 (edge_looks p (e + m) (suc (n - m - 1)))) (none_looks e m h) h
      ∙ ap (λ (b : Bool). m + suc (pick b 0 (edge_looks p (suc (e + m)) (n - m - 1)))) t

  pub reads_none : (e n m : ℕ) → m ≤ n → n ≤ m → any_below (λ j. p (e + j)) m ≡ false → Reads p e n (looked false m)
  reads_none e n m le ge h =
      let s : m ≡ n = omega arith in
      record { found = sym (rw s at h); looks = s ∙ sym (none_looks e n (rw s at h)); few = le }

  pub reads_at : (e n m : ℕ) → m < n → any_below (λ j. p (e + j)) m ≡ false → p (e + m) ≡ true → Reads p e n (looked true (m + 1))
  reads_at e n m lt h t = record { found = sym (any_found (λ j. p (e + j)) n m lt t); looks = sym (at_looks e n m lt h t); few = omega arith }

  pub reads_run : {e n : ℕ} {r : Looked} → Reads p e n r → r ≡ run e n
  reads_run h = ap₂ looked h.found h.looks
