-- What is asked of a line is answered from its mark, the kinds and the texts of its tokens, as the code reads them.
-- Each test that passes falls away, and the first that fails decides.
use mathlib.Core.Path.{◌≡◌, refl}
use mathlib.Core.Bool.{Bool, true, false, ◌&&◌}
use mathlib.Core.List.{List}
use Prim.Native.Nat.{ℕ, ◌≤◌, ◌<◌}
use lib.Dec.{eqb}
use lib.ListN.{get_or}
use borrow.Author.Tests.{le-leb, lt-leb, ne_eqb}
use Rattle.lists.specs.Ascii.{ascii}
use Rattle.lists.specs.Bytes.{u8_at}
use Rattle.lists.specs.Every.{both_yes}
use Rattle.x86.specs.Words.{same_word}
use Rattle.rows.specs.Lists.{Lists}
use Rattle.rows.specs.Rows.{Row, row_at}
use Rattle.commands.specs.Calls.{token_of, is_assign, is_call, calls_to, begins_with}

-- ---- whether a line has an address
module _ (l : Lists) (i mark : ℕ) (e : mark ≡ get_or l.marks i 0) where
  pub addressed : 256 ≤ mark → (row_at l i).addressed ≡ true
  unfolding row_at
  addressed h = rw (← e) (le-leb 256 mark h)

  pub not_addressed : mark < 256 → (row_at l i).addressed ≡ false
  unfolding row_at
  not_addressed h = rw (← e) (lt-leb 256 mark h)

-- ---- whether it is a call line
pub no_address : (r : Row) → r.addressed ≡ false → false ≡ is_call r
unfolding is_call
no_address r h = rw h

-- two of the tests, where one fails
one_fails : (a b c d e : Bool) → (b && d) ≡ false → false ≡ (a && (b && (c && (d && e))))
one_fails false b c d e h = refl
one_fails true false c d e h = refl
one_fails true true false d e h = refl
one_fails true true true d e h = rw h

module _ (r : Row) (j k : ℕ) (e : j ≡ (token_of r 0).kind) (f : k ≡ (token_of r 3).kind) where
  pub call_told : (t u : List ℕ) (s : Bool) (b : ℕ) → r.addressed ≡ true → (eqb j 1 && eqb k 6) ≡ true → t ≡ (token_of r 1).bytes → s ≡ same_word t (ascii " = ")
      → u ≡ (token_of r 3).bytes → b ≡ u8_at u 0 → (s && eqb b 40) ≡ is_call r
  unfolding is_call
  call_told t u s b a h p g q d =
      let w = both_yes (eqb j 1) (eqb k 6) h in
      rw (a, ← e, w.0, ← p, ← g, ← f, w.1, ← q, ← d)

  pub other_kinds : (eqb j 1 && eqb k 6) ≡ false → false ≡ is_call r
  unfolding is_call
  other_kinds h =
      rw (← e, ← f) (one_fails r.addressed (eqb j 1) (is_assign (token_of r 1)) (eqb k 6) (eqb (get_or (token_of r 3).bytes 0 0) 40) h)

-- ---- by this name
pub calls_told : (r : Row) (call t : List ℕ) (a s : Bool) → a ≡ is_call r → a ≡ true → t ≡ (token_of r 2).bytes → s ≡ same_word t call → s ≡ calls_to call r
unfolding calls_to
calls_told r call t a s e h p g = rw (← e, h, ← p, ← g)

pub calls_none : (r : Row) (call : List ℕ) (a : Bool) → a ≡ is_call r → a ≡ false → false ≡ calls_to call r
unfolding calls_to
calls_none r call a e h = rw (← e, h)

-- ---- whether it begins with a register
pub begins_told : (r : Row) (register t : List ℕ) (k : ℕ) (s : Bool) → k ≡ (token_of r 0).kind → k ≡ 1 → t ≡ (token_of r 0).bytes → s ≡ same_word t register → s ≡ begins_with register r
unfolding begins_with
begins_told r register t k s e h p g = rw (← e, h, ← p, ← g)

pub begins_none : (r : Row) (register : List ℕ) (k : ℕ) → k ≡ (token_of r 0).kind → (k ≡ 1 → ⊥) → false ≡ begins_with register r
unfolding begins_with
begins_none r register k e h = rw (← e, ne_eqb k 1 h)
