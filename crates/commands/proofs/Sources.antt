-- The bytes set for a call are those of a source, and where there is a source it is found.
-- The search back finds just the line that is the last one of its block, by induction on how many lines lie before.
use mathlib.Core.Path.{◌≡◌, refl, sym, ap, ◌∙◌}
use mathlib.Core.Bool.{Bool, true, false}
use mathlib.Core.List.{List}
use Rattle.std.specs.Prelude.{Option, None, Some}
use Rattle.std.proofs.lemmas.Option.{none-some, same_Some}
use Prim.Native.Nat.{ℕ, zero, suc, ◌≤◌, ◌<◌}
use native.Mathlib.Nat.{not-suc-le-zero}
use native.Mathlib.Decide.{ℕ_discrete}
use native.Mathlib.Omega.{arith}
use lib.Dec.{eqb}
use borrow.Author.Tests.{eqb-true, eqb-false}
use Rattle.lists.specs.Choice.{pick}
use Rattle.rows.specs.Lists.{Lists}
use Rattle.rows.specs.Rows.{row_at}
use Rattle.lists.proofs.Tests.{never}
use Rattle.commands.specs.Literals.{string_of}
use Rattle.commands.specs.Calls.{token_of, is_assign, is_call, begins_with, given}
use Rattle.commands.specs.Table.{line_before, given_by, bytes_for}
use Rattle.commands.specs.Called.{Source}
use Rattle.commands.proofs.Strings.{string_sound, string_complete}

-- two different constructors
some_none : {A B : Type 0} (s : A) → Some s ≡ None → B
some_none s h = let z : ◌≡◌ {A = ℕ} 0 1 = cc in absurd (omega arith)

module _ (l : Lists) (register : List ℕ) (p : ℕ) where
  -- ---- line i is what the search back from line k is for
  record Last (k i : ℕ) : Type 0 where
    earlier : i < k
    block : (row_at l i).place ≡ p
    first : begins_with register (row_at l i) ≡ true
    after : (j : ℕ) → i ≤ j → j < k → (row_at l j).place ≡ p → is_call (row_at l j) ≡ false
    last : (j : ℕ) → i < j → j < k → (row_at l j).place ≡ p → begins_with register (row_at l j) ≡ false

  -- one line more or less at the end
  further : (k i : ℕ) → Last k i → ((row_at l k).place ≡ p → (is_call (row_at l k) ≡ false) × (begins_with register (row_at l k) ≡ false)) → Last (suc k) i
  further k i w h =
      record {
        earlier = omega (arith, w.earlier);
        block = w.block;
        first = w.first;
        after = λ j a b e. elim (ℕ_discrete j k) [ yes q ↦ rw q (h (rw q at e)).0 | no q ↦ w.after j a (omega arith) e ];
        last = λ j a b e. elim (ℕ_discrete j k) [ yes q ↦ rw q (h (rw q at e)).1 | no q ↦ w.last j a (omega arith) e ];
      }

  nearer : (k i : ℕ) → Last (suc k) i → (i ≡ k → ⊥) → Last k i
  nearer k i w h =
      record {
        earlier = omega (arith, w.earlier);
        block = w.block;
        first = w.first;
        after = λ j a b e. w.after j a (omega arith) e;
        last = λ j a b e. w.last j a (omega arith) e;
      }

  -- what is found is such a line
  found : (k i : ℕ) → line_before l register p k ≡ Some i → Last k i
  unfolding line_before
  found zero i h = absurd (none-some i h)
  found (suc k) i h = go (eqb (row_at l k).place p) (is_call (row_at l k)) (begins_with register (row_at l k)) refl refl refl h (found k i)
    where
      go : (a b c : Bool) → eqb (row_at l k).place p ≡ a → is_call (row_at l k) ≡ b → begins_with register (row_at l k) ≡ c
          → pick a (pick b None (pick c (Some k) (line_before l register p k))) (line_before l register p k) ≡ Some i → (line_before l register p k ≡ Some i → Last k i)
          → Last (suc k) i
      go true true c e f g h ih = absurd (none-some i h)
      go true false true e f g h ih =
          let q : k ≡ i = same_Some k i h in
          record {
            earlier = omega arith;
            block = rw (← q) (eqb-true (row_at l k).place p e);
            first = rw (← q) g;
            after = λ j a b _. let r : j ≡ k = omega arith in rw r f;
            last = λ j a b _. absurd (omega arith);
          }
      go true false false e f g h ih = further k i (ih h) (λ _. (f, g))
      go false b c e f g h ih = further k i (ih h) (λ q. absurd (eqb-false (row_at l k).place p e q))

  -- and such a line is found
  finds : (k i : ℕ) → Last k i → line_before l register p k ≡ Some i
  unfolding line_before
  finds zero i w = absurd (not-suc-le-zero w.earlier)
  finds (suc k) i w = go (eqb (row_at l k).place p) (begins_with register (row_at l k)) refl refl (λ q. finds k i (nearer k i w q))
    where
      go : (a c : Bool) → eqb (row_at l k).place p ≡ a → begins_with register (row_at l k) ≡ c → ((i ≡ k → ⊥) → line_before l register p k ≡ Some i)
          → pick a (pick (is_call (row_at l k)) None (pick c (Some k) (line_before l register p k))) (line_before l register p k) ≡ Some i
      go true c e g ih = rw (w.after k (omega (arith, w.earlier)) (omega arith) (eqb-true (row_at l k).place p e)) (here c g)
        where
          here : (c : Bool) → begins_with register (row_at l k) ≡ c → pick c (Some k) (line_before l register p k) ≡ Some i
          here true g = elim (ℕ_discrete i k) [ yes q ↦ ap Some (sym q) | no q ↦ never (sym (w.last k (omega (arith, w.earlier)) (omega arith) (eqb-true (row_at l k).place p e)) ∙ g) ]
          here false g = ih (λ q. never (sym g ∙ rw (← q) w.first))
      go false c e g ih = ih (λ q. eqb-false (row_at l k).place p e (rw (← q) w.block))

-- ---- the literal that a line sets
module _ (l : Lists) (register : List ℕ) where
  -- the bytes found are those of a source
  pub source : (k : ℕ) (s : List ℕ) → bytes_for l register k ≡ Some s → Source l register k s
  unfolding bytes_for given
  source k s h = go (line_before l register (row_at l k).place k) refl h
    where
      of : (i : ℕ) → Last l register (row_at l k).place k i → (b : Bool) → is_assign (token_of (row_at l i) 1) ≡ b
          → pick b (string_of (token_of (row_at l i) 2)) None ≡ Some s → Source l register k s
      of i w true e h =
          let f = string_sound (token_of (row_at l i) 2) s h in
          record {
            line = i;
            earlier = w.earlier;
            block = w.block;
            first = w.first;
            second = e;
            wide = f.0;
            third = f.1.0;
            whole = f.1.1;
            after = w.after;
            last = w.last;
          }
      of i w false e h = some_none s (sym h)

      go : (n : Option ℕ) → line_before l register (row_at l k).place k ≡ n → given_by l register n ≡ Some s → Source l register k s
      go None e h = some_none s (sym h)
      go (Some i) e h = of i (found l register (row_at l k).place k i e) (is_assign (token_of (row_at l i) 1)) refl h

  -- and a source's bytes are found
  pub source_found : (k : ℕ) (s : List ℕ) → Source l register k s → bytes_for l register k ≡ Some s
  unfolding bytes_for given
  source_found k s w =
      let f = finds l register (row_at l k).place k w.line (record { earlier = w.earlier; block = w.block; first = w.first; after = w.after; last = w.last }) in
      rw (f, w.second) (string_complete (token_of (row_at l w.line) 2) w.wide s w.third w.whole)

  -- a call without bytes has no source for any
  pub no_source : (k : ℕ) (s : List ℕ) → bytes_for l register k ≡ None → Source l register k s → ⊥
  no_source k s h w = some_none s (sym (source_found k s w) ∙ h)
