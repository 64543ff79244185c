-- How long a table's text can be: 178 bytes a row. There is an address for each row.
-- Sixteen digits, a space, LF, and a dash or the pairs of at most 80 bytes.
use mathlib.Core.Path.{◌≡◌, refl, sym, ◌∙◌}
use mathlib.Core.Bool.{true}
use mathlib.Core.List.{List, [], ◌∷◌, ◌++◌, append-nil}
use Prim.Native.Nat.{ℕ, zero, suc, ◌+◌, ◌*◌, ◌≤◌, ◌<◌}
use native.Mathlib.Omega.{arith}
use lib.ListN.{length, length-append, length-map}
use Rattle.text.specs.NumberLaws.{hex_digits_length}
use Rattle.rows.specs.Lists.{Lists}
use Rattle.rows.specs.declared.answer.Sizes.{Sizes}
use Rattle.lists.proofs.Tests.{split}
use Rattle.commands.specs.Table.{Entry, Table, table_of}
use Rattle.commands.specs.Called.{has_none, row_bytes, Told, table}
use Rattle.commands.specs.Printed.{pairs, value_text, row_lines, table_text}
use Rattle.commands.proofs.Printing.{line_length}
use Rattle.commands.proofs.Told.{rows_count, told}

pub same_count : (es : List Entry) → length (table_of es).rows ≡ length (table_of es).addresses
unfolding table_of
same_count es = rows_count es 0 ∙ sym (length-map es (λ (e : Entry). e.address))

pairs_length : (s : List ℕ) → length (pairs s) ≡ 2 * length s
unfolding pairs
pairs_length [] = refl
pairs_length (b ∷ s) = rw length-append (omega (arith, hex_digits_length true 2 b, pairs_length s))

module _ (l : Lists) (z : Sizes) (call register : List ℕ) (t : Table) where
  value_short : (j : ℕ) → Told l z call register t j → length (value_text t.bytes t.rows j) ≤ 160
  unfolding value_text
  value_short j w =
      split (has_none t.rows j) (λ e. rw e (omega arith)) (λ e. rw e (omega (arith, pairs_length (row_bytes t.bytes t.rows j), (w.bytes e).whole)))

  lines_short : (n j : ℕ) → ((i : ℕ) → i < j + n → Told l z call register t i) → length (row_lines t j n) ≤ 178 * n
  unfolding row_lines
  lines_short zero j f = omega arith
  lines_short (suc n) j f =
      rw length-append (omega (arith, line_length t j, value_short j (f j (omega arith)), lines_short n (suc j) (λ i h. f i (omega (arith, h)))))

module _ (l : Lists) (z : Sizes) (call register : List ℕ) where
  pub text_short : let t = table l z call register in length (table_text t (length t.rows)) ≤ 178 * length t.rows
  text_short =
      let t = table l z call register in
      lines_short l z call register t (length t.rows) 0
      (λ i h. told l z call register t [] [] [] (alone t.bytes) (alone t.rows) (alone t.addresses) i (omega (arith, h)))
    where
      alone : (s : List ℕ) → s ≡ s ++ []
      alone s = sym (append-nil s)
