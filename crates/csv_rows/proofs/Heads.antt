-- A row's fields before its tokens: what their writers leave, and how long they are.
-- Five writers one behind the other; the address by whether the mark has one.
use mathlib.Core.Path.{◌≡◌, refl, ◌∙◌}
use mathlib.Core.Bool.{Bool, true, false}
use mathlib.Core.List.{List}
use Prim.Native.Nat.{ℕ, ◌+◌, ◌≤◌, ◌<◌}
use native.Mathlib.Omega.{arith}
use lib.ListN.{length, set, length-append}
use borrow.Author.Tests.{le-leb, lt-leb}
use Rattle.lists.specs.Choice.{pick}
use Rattle.text.specs.NumberLaws.{hex_digits_length}
use Rattle.text.specs.Decimal.{decimal_text}
use Rattle.rows.specs.Rows.{is_addressed, indent_of}
use Rattle.csv_rows.specs.Format.{address_text}
use Rattle.csv_rows.specs.Writing.{Wrote, head_text, frame_size}
use Rattle.csv_rows.proofs.Wrote.{wrote_none, wrote_then, wrote_byte}

pub address_size : (b : Bool) (a : ℕ) → length (address_text b a) ≡ pick b 16 0
address_size true a = hex_digits_length true 16 a
address_size false a = refl

module _ (mark address : ℕ) where
  pub address_none : {at : ℕ} {e : List ℕ} → mark < 256 → Wrote at (address_text (is_addressed mark) address) e e at
  address_none h = rw (lt-leb 256 mark h) wrote_none

  pub address_length : 256 ≤ mark → length (address_text (is_addressed mark) address) ≡ 16
  address_length h = address_size (is_addressed mark) address ∙ rw (le-leb 256 mark h)

  module _ (place : ℕ) where
    pub head_length : length (head_text mark address place)
        ≡ length (address_text (is_addressed mark) address) + length (decimal_text (indent_of mark)) + length (decimal_text place) + 2
    unfolding head_text
    head_length = rw (length-append, length-append) (omega arith)

    pub head_wrote : {at p q r : ℕ} {e e₁ e₂ e₃ e₄ e₅ : List ℕ} → Wrote at (address_text (is_addressed mark) address) e e₁ p → e₂ ≡ set e₁ p 44
        → Wrote (p + 1) (decimal_text (indent_of mark)) e₂ e₃ q → e₄ ≡ set e₃ q 44 → Wrote (q + 1) (decimal_text place) e₄ e₅ r
        → Wrote at (head_text mark address place) e e₅ r
    unfolding head_text
    head_wrote a c i d p = wrote_then a (wrote_byte c (wrote_then i (wrote_byte d p)))

-- ---- the same without the address: two commas and CR LF are four bytes
module _ (mark place a b : ℕ) (p : a ≡ length (decimal_text (indent_of mark))) (q : b ≡ length (decimal_text place)) where
  pub frame_plain : mark < 256 → a + b + 4 ≡ frame_size mark place
  unfolding frame_size
  frame_plain h = rw (lt-leb 256 mark h) (omega (arith, p, q))

  pub frame_addressed : 256 ≤ mark → 16 + (a + b) + 4 ≡ frame_size mark place
  unfolding frame_size
  frame_addressed h = rw (le-leb 256 mark h) (omega (arith, p, q))
