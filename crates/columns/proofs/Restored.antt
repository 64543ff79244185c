-- What the bytes are that are stored for a record that gets a yes to questions 1 to 4.
-- Its header stays where it is, so the way back reads the same sizes; bodies as columns and back are the bodies.
use mathlib.Core.Path.{◌≡◌, sym, ap, ◌∙◌}
use mathlib.Core.List.{List, ◌++◌, append_assoc}
use Prim.Native.Nat.{ℕ, ◌+◌, ◌*◌, ◌<◌}
use native.Mathlib.Nat.{mul_comm}
use native.Mathlib.Omega.{arith}
use borrow.Author.Tests.{eqb-true}
use lib.ListN.{length, take, drop, get_or, length-append, length-drop, take-append-drop, get_or-append}
use lib.Seq.{length-take-le, take_at, drop_at, take-take, drop-drop, get_or-drop}
use Rattle.record.specs.declared.header.Header.{Header}
use Rattle.record.specs.Header.{header_of}
use Rattle.record.specs.Layout.{bodies_at, entries_at, size_of}
use Rattle.record.specs.Asked.{sizes_no}
use Rattle.record.proofs.AskedLaws.{sizes_length}
use Rattle.record.proofs.SizeLaws.{header_same, sizes_same}
use Rattle.columns.specs.Columns.{transposed, rearranged}
use Rattle.columns.specs.Called.{IsRearranged}
use Rattle.columns.proofs.Transposed.{within_rows, transposed_length, transposed_at, twice}

-- question 4
pub record_long : (s : List ℕ) → sizes_no s ≡ 0 → length s ≡ size_of (header_of s)
record_long s e = eqb-true (length s) (size_of (header_of s)) (sizes_length s e)

-- the bytes around the bodies and the bodies' columns, by offsets and sizes that were read off the header
pub rearranged_is : (rows columns : Header → ℕ) (s : List ℕ) (at m n : ℕ) → at ≡ bodies_at (header_of s) → m ≡ rows (header_of s) → n ≡ columns (header_of s)
    → n * m ≡ 92 * (header_of s).instructions → take at s ++ (transposed m n (drop at s) ++ drop (at + n * m) s) ≡ rearranged rows columns s
unfolding rearranged
rearranged_is rows columns s at m n p q r all = rw (all, p, q, r)

-- a record, and its bodies as rows and columns
module _ (rows columns : Header → ℕ) (s : List ℕ) (yes : sizes_no s ≡ 0) (all : columns (header_of s) * rows (header_of s) ≡ 92 * (header_of s).instructions) where
  abbrev h : Header
  h = header_of s

  abbrev a : ℕ
  a = bodies_at h

  abbrev b : ℕ
  b = entries_at h

  -- the columns, and what is stored
  abbrev y : List ℕ
  y = transposed (rows h) (columns h) (drop a s)

  abbrev t : List ℕ
  t = take a s ++ (y ++ drop b s)

  a_long : length (take a s) ≡ a
  a_long = length-take-le a s (omega (arith, record_long s yes))

  y_long : length y ≡ 92 * h.instructions
  y_long = transposed_length (rows h) (columns h) (drop a s) ∙ all

  long : length t ≡ length s
  long = rw (length-append, length-append, length-drop) (omega (arith, a_long, y_long, record_long s yes))

  before : take a t ≡ take a s
  before = take_at (take a s) (y ++ drop b s) a a_long

  behind : drop b t ≡ drop b s
  behind = rw (← append_assoc (take a s) y (drop b s)) (drop_at (take a s ++ y) (drop b s) b (rw length-append (omega (arith, a_long, y_long))))

  moved : (i j : ℕ) → i < rows h → j < columns h → get_or (drop a t) (j * rows h + i) 0 ≡ get_or (drop a s) (i * columns h + j) 0
  moved i j p q =
      rw (drop_at (take a s) (y ++ drop b s) a a_long)
      (get_or-append y (drop b s) 0 (j * rows h + i) (omega (arith, y_long, all, within_rows j (columns h) (rows h) q))
      ∙ transposed_at (rows h) (columns h) (drop a s) i j p q)

  -- the header's bytes
  header : take 24 t ≡ take 24 s
  header = sym (take-take 24 a t (omega arith)) ∙ ap (take 24) before ∙ take-take 24 a s (omega arith)

  -- the way back, of any bytes u that have the columns and all else in place
  back : (u : List ℕ) → header_of u ≡ header_of s → take a u ≡ take a s → drop b u ≡ drop b s
      → ((i j : ℕ) → i < rows h → j < columns h → get_or (drop a u) (j * rows h + i) 0 ≡ get_or (drop a s) (i * columns h + j) 0) → rearranged columns rows u ≡ s
  unfolding rearranged
  back u e p q m =
      let n : rows h * columns h ≡ 92 * h.instructions = mul_comm (rows h) (columns h) ∙ all in
      let bodies : transposed (columns h) (rows h) (drop a u) ≡ take (92 * h.instructions) (drop a s) =
      twice (rows h) (columns h) (drop a s) (drop a u) (rw length-drop (omega (arith, record_long s yes, n))) m ∙ rw n in
      rw (e, p, q, bodies, ← drop-drop (92 * h.instructions) a s, take-append-drop, take-append-drop)

  pub is_rearranged : IsRearranged rows columns s (rearranged rows columns s)
  unfolding rearranged
  is_rearranged = record {
    long = long;
    before = before;
    behind = behind;
    moved = λ i j p q. sym (get_or-drop a t (j * rows h + i) 0) ∙ moved i j p q ∙ get_or-drop a s (i * columns h + j) 0;
    asked = sizes_same t s header long ∙ yes;
    restored = back t (header_same t s header) before behind moved;
  }
