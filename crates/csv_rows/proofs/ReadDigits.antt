-- Numbers with one more digit that was read, and their texts.
-- The last digit is the remainder; the others are the quotient's.
use mathlib.Core.Path.{◌≡◌, sym, ap, ◌∙◌}
use mathlib.Core.Bool.{true, ◌&&◌}
use mathlib.Core.List.{List, [], ◌∷◌, ◌++◌, append_assoc}
use Prim.Native.Nat.{ℕ, ◌+◌, ◌-◌, ◌*◌, ◌/◌, ◌%◌, ◌≤◌, ◌<◌}
use native.Mathlib.Omega.{arith}
use native.Mathlib.Numerals.{add-one}
use lib.Dec.{ltb, leb}
use borrow.Author.Tests.{ltb-true, leb-true, lt-ltb, le-ltb, le-leb, lt-leb}
use Rattle.lists.specs.Every.{both_yes}
use Rattle.text.specs.Decimal.{decimal_text}
use Rattle.text.proofs.DecimalLaws.{decimal_one, decimal_more}
use Rattle.text.specs.Number.{digit, hex_digits}
use Rattle.lists.proofs.Tests.{split}
use Rattle.csv_rows.specs.Reading.{is_digit, longer, goes_on, is_hex, hex_value}

-- ---- decimal
longer_text : (x d : ℕ) → 1 ≤ x → d < 10 → x * 10 + d ≤ 65535 → decimal_text (x * 10 + d) ≡ decimal_text x ++ ((48 + d) ∷ [])
longer_text x d a b h =
    let p : (x * 10 + d) / 10 ≡ x = omega arith in
    let q : (x * 10 + d) % 10 ≡ d = omega arith in
    decimal_more (x * 10 + d) (omega arith) (omega arith) ∙ rw (p, q)

-- a digit that was read
pub record Digit (c : ℕ) : Type 0 where
  pub low : c - 48 < 10
  pub same : 48 + (c - 48) ≡ c

pub is_digit_lem : (c : ℕ) → is_digit c ≡ true → Digit c
is_digit_lem c e =
    let d = both_yes (leb 48 c) (leb c 57) e in
    let l : 48 ≤ c = leb-true 48 c d.0 in
    let u : c ≤ 57 = leb-true c 57 d.1 in
    record { low = omega arith; same = omega arith }

-- the first digit of a number, and a further one
pub first_says : (c : ℕ) (s u : List ℕ) → is_digit c ≡ true → decimal_text (c - 48) ++ s ≡ u → c ∷ s ≡ u
first_says c s u e q =
    let d = is_digit_lem c e in
    sym (ap {B = List ℕ} (λ k. k ∷ s) d.same) ∙ ap (λ (l : List ℕ). l ++ s) (sym (decimal_one (c - 48) d.low)) ∙ q

pub digit_says : (most x c : ℕ) (s u : List ℕ) → most ≤ 65535 → goes_on most x c ≡ true → decimal_text (longer x c) ++ s ≡ u → decimal_text x ++ (c ∷ s) ≡ u
digit_says most x c s u m g q =
    let f = both_yes (is_digit c && ltb 0 x) (leb (longer x c) most) g in
    let f' = both_yes (is_digit c) (ltb 0 x) f.0 in
    let d = is_digit_lem c f'.0 in
    let z = longer_text x (c - 48) (ltb-true 0 x f'.1) d.low (omega (arith, leb-true (longer x c) most f.1)) in
    sym (ap {B = List ℕ} (λ k. decimal_text x ++ (k ∷ s)) d.same) ∙ sym (append_assoc (decimal_text x) ((48 + (c - 48)) ∷ []) s) ∙ ap (λ (l : List ℕ). l ++ s) (sym z) ∙ q

-- ---- hex
hex_digit : (c : ℕ) → is_hex c ≡ true → digit true (hex_value c) ≡ c
unfolding digit
hex_digit c h =
    split (is_digit c)
    (λ e.
    let d = both_yes (leb 48 c) (leb c 57) e in
    let l : 48 ≤ c = leb-true 48 c d.0 in
    let u : c ≤ 57 = leb-true c 57 d.1 in
    let v : (c - 48) % 16 ≡ c - 48 = omega arith in
    rw (le-leb c 57 u, v, lt-ltb (c - 48) 10 (omega arith)) (omega arith))
    (λ e.
    let d = both_yes (leb 65 c) (leb c 70) (rw e at h) in
    let l : 65 ≤ c = leb-true 65 c d.0 in
    let u : c ≤ 70 = leb-true c 70 d.1 in
    let v : (c - 55) % 16 ≡ c - 55 = omega arith in
    rw (lt-leb c 57 (omega arith), v, le-ltb (c - 55) 10 (omega arith)) (omega arith))

pub hex_says : (n v c : ℕ) (s u : List ℕ) → is_hex c ≡ true → hex_digits true (n + 1) (v * 16 + hex_value c) ++ s ≡ u → hex_digits true n v ++ (c ∷ s) ≡ u
unfolding hex_digits
hex_says n v c s u h q =
    let d = hex_value c in
    let b : d < 16 = omega arith in
    let p : (v * 16 + d) / 16 ≡ v = omega arith in
    let r : (v * 16 + d) % 16 ≡ d = omega arith in
    let z : (hex_digits true n v ++ (digit true d ∷ [])) ++ s ≡ u = rw (add-one, p, r) at q in
    sym (ap {B = List ℕ} (λ k. hex_digits true n v ++ (k ∷ s)) (hex_digit c h)) ∙ sym (append_assoc (hex_digits true n v) (digit true d ∷ []) s) ∙ z
