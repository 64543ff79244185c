-- The input's two lines and what follows them: there is one way to take it apart, and the program takes it.
-- A line ends where the first LF stands.
use mathlib.Core.Path.{◌≡◌, refl, sym, ap, ◌∙◌}
use mathlib.Core.Bool.{Bool, true, false, ◌&&◌, ◌||◌, not}
use mathlib.Core.List.{List, [], ◌∷◌, ◌++◌}
use Prim.Native.Nat.{ℕ, zero, suc, ◌+◌, ◌≤◌, ◌<◌}
use native.Mathlib.Numerals.{add-one}
use native.Mathlib.Omega.{arith}
use lib.Dec.{eqb}
use native.Mathlib.Decide.{dec_le}
use lib.ListN.{length, take, drop, length-append, drop_of_length-le}
use lib.Seq.{take-append_seam}
use borrow.Author.Tests.{eqb-true, eqb-false, eq-eqb, ne_eqb}
use Rattle.std.specs.declared.option.Option.{Option}
use Rattle.std.specs.Prelude.{MatchOption}
use Rattle.std.specs.Option.{unwrap_or}
use Rattle.std.specs.List.{AllWithin, HoldsAt}
use Rattle.std.proofs.lemmas.Iterator.{index_from_first}
use Rattle.lists.specs.Every.{both_yes, neither}
use Rattle.lists.proofs.Tests.{split, never}
use Rattle.csv_rows.specs.Format.{rows_text, some}
use Rattle.page.specs.Page.{refusal}
use Rattle.keyer.specs.Output.{is_line, IsInput, named, Prints}
use Rattle.keyer.specs.Parts.{line_size, PrintsTable}

-- ---- one line
pub size_within : (s : List ℕ) → line_size s ≤ length s
unfolding line_size
size_within [] = omega arith
size_within (b ∷ s) = split (eqb b 10) (λ e. rw e (omega arith)) (λ e. rw e (omega (arith, size_within s)))

size_line : (s : List ℕ) → is_line (take (line_size s) s) ≡ true
unfolding line_size
size_line [] = refl
size_line (b ∷ s) =
    split (eqb b 10) (λ e. rw e) (λ e. let h : (not (eqb b 10) && is_line (take (line_size s) s)) ≡ true = rw e (size_line s) in rw e h)

size_lf : (s : List ℕ) → line_size s < length s → s ≡ take (line_size s) s ++ (10 ∷ drop (suc (line_size s)) s)
unfolding line_size
size_lf [] h = absurd (omega (arith, h))
size_lf (b ∷ s) h =
    split (eqb b 10) (λ e. rw (e, eqb-true b 10 e)) (λ e. rw e (ap (λ (t : List ℕ). b ∷ t) (size_lf s (omega (arith, rw e at h)))))

size_of : (c rest : List ℕ) → is_line c ≡ true → line_size (c ++ (10 ∷ rest)) ≡ length c
unfolding line_size
size_of [] rest h = refl
size_of (b ∷ c) rest h = let f = both_yes (not (eqb b 10)) (is_line c) h in split (eqb b 10) (λ e. never (rw e at f.0)) (λ e. rw e (ap suc (size_of c rest f.1)))

-- what `position` answers of LF
pub first_size : (s : List ℕ) (r : Option ℕ) → MatchOption r (AllWithin (λ x. x ≡ 10 → ⊥) s 0 (length s)) (λ i. (i < length s) × HoldsAt (λ x. x ≡ 10) s i × AllWithin (λ x. x ≡ 10 → ⊥) s 0 i)
    → line_size s ≡ unwrap_or r (length s)
unfolding line_size
first_size = index_from_first line_size (λ x. x ≡ 10) (λ x. x ≡ 10 → ⊥) refl (λ x s e. rw (eq-eqb x 10 e)) (λ x s e. rw (ne_eqb x 10 e, add-one))

some_taken : (n : ℕ) (s : List ℕ) → (n ≡ 0 → ⊥) → n ≤ length s → some (take n s) ≡ true
some_taken zero s h k = absurd (h refl)
some_taken (suc n) [] h k = absurd (omega (arith, k))
some_taken (suc n) (b ∷ s) h k = refl

behind : (c t : List ℕ) → drop (suc (length c)) (c ++ (10 ∷ t)) ≡ t
behind [] t = refl
behind (b ∷ c) t = behind c t

-- ---- as the program takes it: the first line has n bytes, the second m
module _ (s rest : List ℕ) (n m : ℕ) (e : n ≡ line_size s) (r : rest ≡ drop (n + 1) s) (f : m ≡ line_size rest) where
  -- any call name, register name and rows that make up the input are those
  record Splits (call register file : List ℕ) : Type 0 where
    first : call ≡ take n s
    second : register ≡ take m rest
    third : file ≡ drop (m + 1) rest
    both : m < length rest

  splits : (call register file : List ℕ) → IsInput s call register file → Splits call register file
  splits call register file i =
      let t = register ++ (10 ∷ file) in
      let k : n ≡ length call = e ∙ ap line_size i.text ∙ size_of call t i.call_line in
      let q : rest ≡ t = r ∙ rw (k, i.text, add-one) (behind call t) in
      let j : m ≡ length register = f ∙ ap line_size q ∙ size_of register file i.register_line in
      record {
        first = sym (rw (k, i.text) (take-append_seam call (10 ∷ t)));
        second = sym (rw (j, q) (take-append_seam register (10 ∷ file)));
        third = sym (rw (j, q, add-one) (behind register file));
        both = omega (arith, ap length q, length-append register (10 ∷ file), j);
      }

  first_lf : (m ≡ length rest → ⊥) → line_size s < length s
  unfolding line_size
  first_lf h =
      elim (dec_le (length s) (line_size s)) [
        | yes l ↦
            let k : length s ≤ n + 1 = omega (arith, l, e) in
            let q : rest ≡ [] = r ∙ drop_of_length-le s {i = n + 1} k in
            absurd (h (f ∙ rw q))
        | no l ↦ omega (arith, l)
      ]

  is_input : length s ≤ 65536 → (m ≡ length rest → ⊥) → IsInput s (take n s) (take m rest) (drop (m + 1) rest)
  is_input short h =
      let second : rest ≡ take m rest ++ (10 ∷ drop (m + 1) rest) = rw (f, add-one) (size_lf rest (omega (arith, size_within rest, f, h))) in
      let first : s ≡ take n s ++ (10 ∷ rest) = rw (r, e, add-one) (size_lf s (first_lf h)) in
      record {
        text = first ∙ ap (λ (t : List ℕ). take n s ++ (10 ∷ t)) second;
        call_line = rw e (size_line s);
        register_line = rw f (size_line rest);
        short = short;
      }

  -- ---- what is printed keeps the promise
  pub no_lines : (out : List ℕ) → m ≡ length rest → out ≡ refusal 16 → Prints s out
  no_lines out h o =
      let never : (call register file : List ℕ) → IsInput s call register file → ⊥ = λ c g l i. omega (arith, (splits c g l i).both, h) in
      record {
        others = λ _. o;
        unnamed = λ c g l i _. absurd (never c g l i);
        refused = λ c g l i _ _. absurd (never c g l i);
        table = λ c g rs i _ _. absurd (never c g (rows_text rs) i);
      }

  module _ (short : length s ≤ 65536) (lf : m ≡ length rest → ⊥) where
    named_is : (call register file : List ℕ) → IsInput s call register file → named call register ≡ named (take n s) (take m rest)
    named_is c g l i = let x = splits c g l i in rw (x.first, x.second)

    pub no_names : (out : List ℕ) → named (take n s) (take m rest) ≡ false → out ≡ refusal 19 → Prints s out
    no_names out h o =
        record {
          others = λ none. absurd (none (take n s) (take m rest) (drop (m + 1) rest) (is_input short lf));
          unnamed = λ c g l i _. o;
          refused = λ c g l i q _. never (sym h ∙ sym (named_is c g l i) ∙ q);
          table = λ c g rs i q _. never (sym h ∙ sym (named_is c g (rows_text rs) i) ∙ q);
        }

    pub rows_print : (out : List ℕ) → named (take n s) (take m rest) ≡ true → PrintsTable (take n s) (take m rest) (drop (m + 1) rest) out → Prints s out
    rows_print out h p =
        record {
          others = λ none. absurd (none (take n s) (take m rest) (drop (m + 1) rest) (is_input short lf));
          unnamed = λ c g l i q. never (sym q ∙ named_is c g l i ∙ h);
          refused = λ c g l i _ none. p.refused (λ rs w t. none rs w (t ∙ sym (splits c g l i).third));
          table = λ c g rs i _ w. let x = splits c g (rows_text rs) i in rw (x.first, x.second) (p.table rs w x.third);
        }

  -- as the program asks for empty names
  pub both_named : (eqb n 0 || eqb m 0) ≡ false → named (take n s) (take m rest) ≡ true
  both_named h =
      let q = neither (eqb n 0) (eqb m 0) h in
      rw (
        some_taken n s (eqb-false n 0 q.0) (omega (arith, e, size_within s)),
        some_taken m rest (eqb-false m 0 q.1) (omega (arith, f, size_within rest)),
      )

  pub one_unnamed : (eqb n 0 || eqb m 0) ≡ true → named (take n s) (take m rest) ≡ false
  one_unnamed h =
      split (eqb n 0) (λ q. rw (eqb-true n 0 q))
      (λ q.
      let z : eqb m 0 ≡ true = rw q at h in
      rw (eqb-true m 0 z) (and-false (some (take n s))))
    where
      and-false : (b : Bool) → (b && false) ≡ false
      and-false true = refl
      and-false false = refl

pub too_long : (s out : List ℕ) → 65536 < length s → out ≡ refusal 16 → Prints s out
too_long s out h o =
    record {
      others = λ _. o;
      unnamed = λ c g l i _. absurd (omega (arith, i.short, h));
      refused = λ c g l i _ _. absurd (omega (arith, i.short, h));
      table = λ c g rs i _ _. absurd (omega (arith, i.short, h));
    }
