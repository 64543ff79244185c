-- How long the page is at most.
-- A line has at most 528 bytes beside its text, and where lines end in order their texts lie one behind the other.
use mathlib.Core.Path.{◌≡◌}
use mathlib.Core.List.{List}
use Prim.Native.Nat.{ℕ, zero, suc, ◌+◌, ◌*◌, ◌^◌, ◌≤◌, ◌<◌}
use native.Mathlib.Nat.{add-zero}
use native.Mathlib.Omega.{arith}
use lib.ListN.{length, get_or, take, length-append, length-replicate, length-take, length-drop}
use lib.Seq.{slice}
use Rattle.text.proofs.DecimalDigits.{digits_few_3, digits_few}
use Rattle.rows.specs.Lists.{Lists}
use Rattle.page.specs.Page.{numbered, count_line, refusal, line_of, lines_end, line_bytes, lines_text, page_text}
use Rattle.page.proofs.Pieces.{address_length}

count_short : (n : ℕ) → n < 1000 → length (count_line n) ≤ 10
unfolding numbered
count_short n h = rw (length-append, length-append) (omega (arith, digits_few_3 n (omega arith) h))

pub count_long : (n : ℕ) → n < 65536 → length (count_line n) ≤ 12
unfolding numbered
count_long n h = rw (length-append, length-append) (omega (arith, digits_few n h))

pub refusal_short : (n : ℕ) → n < 1000 → length (refusal n) ≤ 10
unfolding numbered
refusal_short n h = rw (length-append, length-append) (omega (arith, digits_few_3 n (omega arith) h))

line_short : (mark address : ℕ) (s : List ℕ) → address < 2 ^ 64 → length (line_of mark address s) ≤ 528 + length s
unfolding line_of
line_short mark address s h =
    rw (length-append, length-append, length-append, length-append, address_length mark address h, length-replicate) (omega arith)

slice_short : (b e : ℕ) (text : List ℕ) → b ≤ e → length (slice b e text) + b ≤ e
slice_short b e text h = omega (arith, length-drop b (take e text), length-take e text)

module _ (l : Lists) (fits : (i : ℕ) → get_or l.addresses i 0 < 2 ^ 64) (n : ℕ)
    (rising : (i : ℕ) → i < n → lines_end l.ends l.lines i ≤ lines_end l.ends l.lines (suc i)) where
  pub lines_short : (i k : ℕ) → i + k ≤ n → length (lines_text l i k) + lines_end l.ends l.lines i ≤ 528 * k + lines_end l.ends l.lines (i + k)
  unfolding lines_text
  lines_short i zero h = rw add-zero (omega arith)
  lines_short i (suc k) h =
      let p : i + suc k ≡ suc i + k = omega arith in
      let r = rising i (omega arith) in
      let line = line_short (get_or l.marks i 0) (get_or l.addresses i 0) (line_bytes l i) (fits i) in
      let bytes = slice_short (lines_end l.ends l.lines i) (lines_end l.ends l.lines (suc i)) l.text r in
      let rest = lines_short (suc i) k (omega arith) in
      rw (p, length-append) (omega (arith, line, bytes, rest))

  pub page_short : n < 1000 → length (page_text l n) ≤ 10 + 528 * n + lines_end l.ends l.lines n
  unfolding page_text
  page_short h =
      let z : 0 + n ≡ n = omega arith in
      let lines : length (lines_text l 0 n) + 0 ≤ 528 * n + lines_end l.ends l.lines n = rw z at (lines_short 0 n (omega arith)) in
      rw length-append (omega (arith, count_short n h, lines))
