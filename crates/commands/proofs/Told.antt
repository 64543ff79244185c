-- Each row of a table tells a call line and the bytes set for it; how long the table's lists can be.
-- A row of the lists tells its entry, along the entries; each entry is a call line's, along the lines.
use mathlib.Core.Path.{◌≡◌, refl, sym, ap, ◌∙◌}
use mathlib.Core.Bool.{true, false}
use mathlib.Core.List.{List, [], ◌∷◌, ◌++◌, map, append_assoc}
use Rattle.std.specs.Prelude.{Option, None, Some}
use Prim.Native.Nat.{ℕ, zero, suc, ◌+◌, ◌-◌, ◌*◌, ◌/◌, ◌%◌, ◌≤◌, ◌<◌}
use native.Mathlib.Nat.{not-suc-le-zero}
use native.Mathlib.Omega.{arith}
use lib.Dec.{eqb}
use lib.ListN.{length, get_or, length-append, length-map, get_or-append, get_or-map}
use lib.Seq.{take-append_seam, drop_at}
use borrow.Author.Tests.{eqb-true, eqb-false}
use Rattle.tokens.specs.Lines.{between}
use Rattle.rows.specs.Lists.{Lists}
use Rattle.rows.specs.Rows.{row_at}
use Rattle.rows.specs.declared.answer.Sizes.{Sizes}
use Rattle.lists.proofs.Tests.{split}
use Rattle.commands.specs.Calls.{calls_to}
use Rattle.commands.specs.Table.{Entry, bytes_for, entries_from, Table, bytes_in, none_mark, all_bytes, row_numbers, table_of}
use Rattle.commands.specs.Called.{byte_end, row_bytes, Source, Told, table}
use Rattle.commands.proofs.Sources.{source, no_source}
use Rattle.commands.proofs.Entries.{entry_of, entries_call, entries_other}

-- ---- a row of the lists and its entry
abbrev nothing : Entry
nothing = record { address = 0; bytes = None }

-- where the bytes of row j begin, if those of the first row begin at x
abbrev start : ℕ → List ℕ → ℕ → ℕ
start x rows zero = x
start x rows (suc j) = get_or rows j 0 / 2

record Shows (x : ℕ) (bytes rows : List ℕ) (e : Entry) (j : ℕ) : Type 0 where
  mark : get_or rows j 0 % 2 ≡ none_mark e.bytes
  part : between (start x rows j) (get_or rows j 0 / 2) bytes ≡ bytes_in e.bytes

mark_small : (o : Option (List ℕ)) → none_mark o ≤ 1
mark_small None = omega arith
mark_small (Some s) = omega arith

start_next : (x y r : ℕ) (rows : List ℕ) (j : ℕ) → r / 2 ≡ y → start x (r ∷ rows) (suc j) ≡ start y rows j
start_next x y r rows zero h = h
start_next x y r rows (suc j) h = refl

shows : (es : List Entry) (x j : ℕ) (before behind rest : List ℕ) → length before ≡ x → j < length es
    → Shows x (before ++ (all_bytes es ++ behind)) (row_numbers x es ++ rest) (get_or es j nothing) j
unfolding all_bytes row_numbers
shows [] x j before behind rest h q = absurd (not-suc-le-zero q)
shows (e ∷ es) x zero before behind rest h q =
    let s = bytes_in e.bytes in
    let y = x + length s in
    let m = mark_small e.bytes in
    let f : (2 * y + none_mark e.bytes) / 2 ≡ y = omega (arith, m) in
    let d : y - x ≡ length s = omega arith in
    record {
      mark = omega (arith, m);
      part = rw (f, d, append_assoc s (all_bytes es) behind, drop_at before (s ++ (all_bytes es ++ behind)) x h) (take-append_seam s (all_bytes es ++ behind));
    }
shows (e ∷ es) x (suc j) before behind rest h q =
    let s = bytes_in e.bytes in
    let y = x + length s in
    let r = 2 * y + none_mark e.bytes in
    let f : r / 2 ≡ y = omega (arith, mark_small e.bytes) in
    let w = shows es y j (before ++ s) behind rest (rw length-append (omega (arith, h))) (omega arith) in
    record {
      mark = w.mark;
      part = rw (start_next x y r (row_numbers y es ++ rest) j f, append_assoc s (all_bytes es) behind, ← append_assoc before s (all_bytes es ++ behind)) w.part;
    }

pub rows_count : (es : List Entry) (x : ℕ) → length (row_numbers x es) ≡ length es
unfolding row_numbers
rows_count [] x = refl
rows_count (e ∷ es) x = ap suc (rows_count es (x + length (bytes_in e.bytes)))

-- ---- an entry and its line
module _ (l : Lists) (call register : List ℕ) where
  -- entry e is that of a call line from line k on, of n lines
  record OfLine (k n : ℕ) (e : Entry) : Type 0 where
    line : ℕ
    from : k ≤ line
    within : line < k + n
    calls : calls_to call (row_at l line) ≡ true
    address : e.address ≡ (row_at l line).address
    bytes : e.bytes ≡ bytes_for l register line

  earlier : {k n : ℕ} {e : Entry} → OfLine (suc k) n e → OfLine k (suc n) e
  earlier w =
      record {
        line = w.line;
        from = omega (arith, w.from);
        within = omega (arith, w.within);
        calls = w.calls;
        address = w.address;
        bytes = w.bytes;
      }

  of_line : (n k j : ℕ) → j < length (entries_from l call register k n) → OfLine k n (get_or (entries_from l call register k n) j nothing)
  unfolding entries_from
  of_line zero k j h = absurd (not-suc-le-zero h)
  of_line (suc n) k j h =
      split (calls_to call (row_at l k)) (λ e. rw (entries_call l call register k n e) (here e (entries_from l call register (suc k) n) j (rw (entries_call l call register k n e) at h) (of_line n (suc k))))
      (λ e. rw (entries_other l call register k n e) (earlier (of_line n (suc k) j (rw (entries_other l call register k n e) at h))))
    where
      here : calls_to call (row_at l k) ≡ true → (es : List Entry) (j : ℕ) → j < suc (length es) → ((i : ℕ) → i < length es → OfLine (suc k) n (get_or es i nothing))
          → OfLine k (suc n) (get_or (entry_of l call register k ∷ es) j nothing)
      here e es zero h f = record { line = k; from = omega arith; within = omega arith; calls = e; address = refl; bytes = refl }
      here e es (suc j) h f = earlier (f j (omega arith))

  few_entries : (n k : ℕ) → length (entries_from l call register k n) ≤ n
  unfolding entries_from
  few_entries zero k = omega arith
  few_entries (suc n) k =
      split (calls_to call (row_at l k)) (λ e. rw (entries_call l call register k n e) (omega (arith, few_entries n (suc k))))
      (λ e. rw (entries_other l call register k n e) (omega (arith, few_entries n (suc k))))

-- ---- the table
module _ (l : Lists) (call register : List ℕ) where
  -- a literal that is not cut has at most 80 bytes
  pub bytes_few : (k : ℕ) → length (bytes_in (bytes_for l register k)) ≤ 80
  bytes_few k = go (bytes_for l register k) refl
    where
      go : (o : Option (List ℕ)) → bytes_for l register k ≡ o → length (bytes_in o) ≤ 80
      go None e = omega arith
      go (Some s) e = (source l register k s e).whole

  pub few_bytes : (n k : ℕ) → length (all_bytes (entries_from l call register k n)) ≤ 80 * n
  unfolding entries_from all_bytes
  few_bytes zero k = omega arith
  few_bytes (suc n) k =
      split (calls_to call (row_at l k)) (λ e. rw (entries_call l call register k n e, length-append) (omega (arith, few_bytes n (suc k), bytes_few k)))
      (λ e. rw (entries_other l call register k n e) (omega (arith, few_bytes n (suc k))))

module _ (l : Lists) (z : Sizes) (call register : List ℕ) where
  pub few : (length (table l z call register).rows ≤ z.lines) × (length (table l z call register).addresses ≤ z.lines) × (length (table l z call register).bytes ≤ 80 * z.lines)
  unfolding table_of
  few =
      let es = entries_from l call register 0 z.lines in
      let n = few_entries l call register z.lines 0 in (
        omega (arith, rows_count es 0, n),
        omega (arith, length-map es (λ (e : Entry). e.address), n),
        few_bytes l call register z.lines 0,
      )

  -- a row's bytes and mark tell whether there is a source
  tells : (k : ℕ) (s : List ℕ) (m : ℕ) (o : Option (List ℕ)) → bytes_for l register k ≡ o → s ≡ bytes_in o → m ≡ none_mark o
      → (eqb m 1 ≡ false → Source l register k s) × (eqb m 1 ≡ true → (t : List ℕ) → Source l register k t → ⊥)
  tells k s m None e p q = (λ h. absurd (eqb-false m 1 h q), λ _ t w. no_source l register k t e w)
  tells k s m (Some t) e p q = (λ _. rw p (source l register k t e), λ h. absurd (omega (arith, eqb-true m 1 h, q)))

  byte_start : (rows : List ℕ) (j : ℕ) → byte_end rows j ≡ start 0 rows j
  byte_start rows zero = refl
  byte_start rows (suc j) = refl

  -- lists that begin with the table's
  module _ (t : Table) (bs rs cs : List ℕ) (b : t.bytes ≡ (table l z call register).bytes ++ bs) (r : t.rows ≡ (table l z call register).rows ++ rs)
      (c : t.addresses ≡ (table l z call register).addresses ++ cs) where
    pub told : (j : ℕ) → j < length (table l z call register).rows → Told l z call register t j
    unfolding table_of
    told j h =
        let es = entries_from l call register 0 z.lines in
        let q : j < length es = omega (arith, h, rows_count es 0) in
        let w = of_line l call register z.lines 0 j q in
        let v = shows es 0 j [] bs rs refl q in
        let f : Entry → ℕ = λ e. e.address in
        let part : row_bytes t.bytes t.rows j ≡ bytes_in (get_or es j nothing).bytes = rw (b, r, byte_start) v.part in
        let mark : get_or t.rows j 0 % 2 ≡ none_mark (get_or es j nothing).bytes = rw r v.mark in
        let g = tells w.line (row_bytes t.bytes t.rows j) (get_or t.rows j 0 % 2) (get_or es j nothing).bytes (sym w.bytes) part mark in
        record {
          line = w.line;
          within = omega (arith, w.within);
          calls = w.calls;
          address = rw c (get_or-append (map f es) cs 0 j (omega (arith, length-map es f)) ∙ get_or-map f es j nothing ∙ w.address);
          bytes = g.0;
          dash = g.1;
        }
