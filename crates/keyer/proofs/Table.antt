-- What the program prints of rows: their table, or 16.
-- Its lists suffice for every file of rows and for its table; the table of the lists that reading leaves is that of the rows.
use mathlib.Core.Path.{◌≡◌, sym, ap, ◌∙◌}
use mathlib.Core.Bool.{true, false}
use mathlib.Core.List.{List, []}
use Prim.Native.Nat.{ℕ, ◌≤◌, ◌<◌}
use native.Mathlib.Decide.{ℕ_discrete}
use native.Mathlib.Omega.{arith}
use lib.ListN.{length, take, drop, get_or}
use lib.Seq.{take-append_seam}
use borrow.Author.Tests.{le-leb}
use Rattle.lists.specs.Entries.{entry}
use Rattle.rows.specs.Lists.{Lists, sizes_of, values_of, left, Leaves}
use Rattle.rows.specs.Rows.{Row, row, row_at, rows_in, row_lists, holds_rows}
use Rattle.rows.specs.declared.answer.Sizes.{Sizes}
use Rattle.std.specs.declared.result.Result.{Result}
use Rattle.std.specs.Prelude.{Ok, Err}
use Rattle.lists.specs.Question.{number, number_of, Answers}
use Rattle.lists.specs.declared.question.Question.{Question}
use Rattle.lists.proofs.Answered.{value_is, question_some}
use Rattle.rows.proofs.Back.{leaves_rows, rows_back, begins_alone}
use Rattle.rows.proofs.Listed.{lines_size}
use Rattle.csv_rows.specs.Format.{rows_text}
use Rattle.csv_rows.specs.Called.{writable, Reads}
use Rattle.csv_rows.proofs.Fit.{writable_good, rows_fit}
use Rattle.csv_rows.proofs.Holding.{holding}
use Rattle.csv_rows.proofs.Room.{addresses_length, enough}
use Rattle.page.specs.Page.{refusal}
use Rattle.commands.specs.Table.{Table, table_lists, entries_from, table_of}
use Rattle.commands.specs.Called.{size_of, table, table_no, Makes}
use Rattle.commands.specs.Printed.{table_text}
use Rattle.commands.specs.declared.table.Size.{Size}
use Rattle.commands.proofs.Alike.{entries_alike}
use Rattle.commands.proofs.Told.{few}
use Rattle.commands.proofs.Short.{same_count, text_short}
use Rattle.keyer.specs.Output.{named, table_in}
use Rattle.keyer.specs.Parts.{commands_text, PrintsTable}

abbrev pub Roomy : Lists → Type 0
Roomy b =
    (65536 ≤ length b.text) × (10922 ≤ length b.ends) × (10922 ≤ length b.kinds)
    × (5461 ≤ length b.addresses) × (5461 ≤ length b.marks) × (5461 ≤ length b.places) × (5461 ≤ length b.lines)

abbrev pub RoomyTable : Table → Type 0
RoomyTable t = (436880 ≤ length t.bytes) × (5461 ≤ length t.rows) × (5461 ≤ length t.addresses)

taken : (i k : ℕ) (new old l : List ℕ) → i ≡ 0 → l ≡ left i new old → k ≡ length new → take k l ≡ new
taken i k new old l z p q = rw (p, z, q) (take-append_seam new (drop (length new) old))

-- ---- the table of lists that hold rows, of at most 5,461 lines
module _ (l : Lists) (z : Sizes) (call register : List ℕ) (holds : holds_rows l z.text z.tokens z.lines ≡ true) (lines_few : z.lines ≤ 5461) (some : named call register ≡ true)
    (lent after : Table) (room : RoomyTable lent) (r : Result Size Question) (m : Makes l z call register lent after r) where
  abbrev new : Table
  new = table l z call register

  yes_all : table_no l z call register lent ≡ 0
  unfolding table_no
  yes_all =
      let f = few l z call register in
      rw (
        some,
        holds,
        le-leb (length new.bytes) (length lent.bytes) (omega (arith, f.2, lines_few, room.0)),
        le-leb (length new.rows) (length lent.rows) (omega (arith, f.0, lines_few, room.1)),
        le-leb (length new.addresses) (length lent.addresses) (omega (arith, f.1, lines_few, room.2)),
      )

  made : Answers 0 (size_of new) r
  made = rw yes_all at m.answer

  pub not_refused : (q : Question) → r ≡ Err q → {A : Type 0} → A
  not_refused q e = absurd (omega (arith, question_some 0 (size_of new) r q made e))

  module _ (size : Size) (q : r ≡ Ok size) (bs rows addresses : List ℕ) (c : bs ≡ take size.bytes after.bytes) (d : rows ≡ take size.rows after.rows) (e : addresses ≡ take size.rows after.addresses) where
    sizes_are : size ≡ size_of new
    sizes_are = (value_is 0 (size_of new) r size made q).1

    bytes_are : bs ≡ new.bytes
    bytes_are = c ∙ taken (table_no l z call register lent) size.bytes new.bytes lent.bytes after.bytes yes_all m.bytes (ap (λ (u : Size). u.bytes) sizes_are)

    count : size.rows ≡ length new.rows
    count = ap (λ (u : Size). u.rows) sizes_are

    rows_are : rows ≡ new.rows
    rows_are = d ∙ taken (table_no l z call register lent) size.rows new.rows lent.rows after.rows yes_all m.rows count

    addresses_are : addresses ≡ new.addresses
    addresses_are =
        e
        ∙ taken (table_no l z call register lent) size.rows new.addresses lent.addresses after.addresses yes_all m.addresses
        (count ∙ same_count (entries_from l call register 0 z.lines))

    pub text_is : table_text (table_lists bs rows addresses) size.rows ≡ commands_text l z call register
    text_is = rw (bytes_are, rows_are, addresses_are, count)

    pub text_fits : length (table_text (table_lists bs rows addresses) size.rows) ≤ 972058
    text_fits = omega (arith, ap length text_is, text_short l z call register, (few l z call register).0, lines_few)

-- ---- what is printed of a file
module _ (call register s : List ℕ) (b a : Lists) (roomy : Roomy b) (g : Result Sizes Question) (v : Reads s b a g) (short : length s ≤ 65536) where
  listed : (rs : List Row) → writable rs ≡ true → rows_text rs ≡ s → Leaves 0 (row_lists rs) b a g
  listed rs w t =
      let e =
      enough rs (writable_good rs w) 65536 (omega (arith, ap length t, short)) b
      (roomy.0, omega (arith, roomy.1), omega (arith, roomy.2), omega (arith, roomy.3), omega (arith, roomy.4), omega (arith, roomy.5), omega (arith, roomy.6)) in
      rw e at (v.rows rs w t)

  pub no_rows : (out : List ℕ) (q : Question) → g ≡ Err q → out ≡ refusal (number q) → PrintsTable call register s out
  no_rows out q h o =
      record {
        refused = λ none. elim (ℕ_discrete (number q) 16) [
          | yes e ↦ o ∙ rw e
          | no e ↦ let r = v.others (λ n. e (sym (ap number_of h) ∙ n)) in absurd (none r.0 r.1.0 r.1.1)
        ];
        table = λ rs w t. absurd (omega (arith, question_some 0 (sizes_of (row_lists rs)) g q (listed rs w t).answer h));
      }

  module _ (z : Sizes) (h : g ≡ Ok z) where
    file : (rs : List Row) × ((writable rs ≡ true) × (rows_text rs ≡ s))
    file = v.others (λ q. let n : 0 ≡ 16 = sym (ap number_of h) ∙ q in omega (arith, n))

    module _ (rs : List Row) (w : writable rs ≡ true) (t : rows_text rs ≡ s) where
      lines_are : z.lines ≡ length rs
      lines_are = lines_size (listed rs w t) z h ∙ addresses_length rs

      read_rows : rows_in a (length rs) ≡ rs
      read_rows =
          let e : (values_of g).lines ≡ length rs = ap (λ (r : Result Sizes Question). (values_of r).lines) h ∙ lines_are in
          ap (rows_in a) (sym e) ∙ (leaves_rows rs b a g (listed rs w t) (rows_fit rs (writable_good rs w))).1

      row_is : (l : Lists) → rows_in l (length rs) ≡ rs → (i : ℕ) → i < length rs → row_at l i ≡ get_or rs i (row false 0 0 0 [])
      unfolding rows_in
      row_is l e i q = entry (row_at l) (length rs) rs (row false 0 0 0 []) e i q

      same_row : (i : ℕ) → i < length rs → row_at a i ≡ row_at (row_lists rs) i
      same_row i q =
          row_is a read_rows i q ∙ sym (row_is (row_lists rs) (rows_back rs (row_lists rs) (begins_alone rs) (rows_fit rs (writable_good rs w))) i q)

      table_is : table a z call register ≡ table_in rs call register
      table_is = rw lines_are (ap table_of (entries_alike a (row_lists rs) (length rs) same_row register call (length rs) 0 (omega arith)))

      few_lines : z.lines ≤ 5461
      few_lines = omega (arith, lines_are, (holding rs (writable_good rs w)).rows, ap length t, short)

    -- so that `put_commands` may be called
    pub listed_few : (holds_rows a z.text z.tokens z.lines ≡ true) × (z.lines ≤ 5461)
    listed_few = ((rw h at (v.again (ap number_of h))).0, few_lines file.0 file.1.0 file.1.1)

    pub table_prints : (out : List ℕ) → out ≡ commands_text a z call register → PrintsTable call register s out
    table_prints out o =
        record {
          refused = λ none. absurd (none file.0 file.1.0 file.1.1);
          table = λ rs w t. o ∙ ap (λ (u : Table). table_text u (length u.rows)) (table_is rs w t);
        }
