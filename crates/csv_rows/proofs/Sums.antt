-- The loops that add up the size of a file.
-- What is added and what is left make up the whole; each addend is small.
use mathlib.Core.Path.{◌≡◌, ap, ◌∙◌}
use mathlib.Core.List.{List}
use Prim.Native.Nat.{ℕ, ◌+◌, ◌*◌, ◌≤◌, ◌<◌}
use native.Mathlib.Nat.{zero-add}
use native.Mathlib.Omega.{arith}
use lib.ListN.{length, get_or, length-append}
use Rattle.csv_rows.specs.Format.{doubled}
use Rattle.csv_rows.specs.Writing.{char_text, frames_size}
use Rattle.csv_rows.proofs.Going.{text_from, text_more, text_none, text_all}

-- ---- a byte of a text, and a text

pub record Text (s : List ℕ) (n i : ℕ) : Type 0 where
  pub within : i ≤ length s
  pub few : n ≤ 2 * i
  pub sum : n + length (text_from s i) ≡ length (doubled s)

pub text_start_lem : {s : List ℕ} → Text s 0 0
text_start_lem {s} = record { within = omega arith; few = omega arith; sum = zero-add (length (text_from s 0)) ∙ ap length (text_all s) }

module _ {s : List ℕ} {n i : ℕ} (z : Text s n i) where
  pub text_turn : {c : ℕ} → i < length s → c ≡ length (char_text (get_or s i 0)) → c ≤ 2 → Text s (n + c) (i + 1)
  text_turn {c} h q k =
      let b = char_text (get_or s i 0) in
      record {
        within = omega arith;
        few = omega (arith, z.few);
        sum = omega (arith, z.sum, q, ap length (text_more s i h), length-append b (text_from s (i + 1)));
      }

  pub text_end : length s ≤ i → (n ≡ length (doubled s)) × (n ≤ 2 * length s)
  text_end h = (omega (arith, z.sum, ap length (text_none s i h)), omega (arith, z.few, z.within))

-- ---- rows without their tokens
pub record Frames (marks places : List ℕ) (m n i : ℕ) : Type 0 where
  pub within : i ≤ m
  pub few : n ≤ 30 * i
  pub sum : n ≡ frames_size marks places i
