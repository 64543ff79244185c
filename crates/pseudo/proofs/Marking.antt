-- The address, the mark and the place of a line are what its code tells, and a loop stores those of all lines.
-- By what the line is, a number below 9; what is left to store from here on is what there was from the start.
use mathlib.Core.Path.{◌≡◌, refl, sym, ◌∙◌}
use mathlib.Core.List.{List, map}
use Prim.Native.Nat.{ℕ, zero, suc, ◌+◌, ◌≤◌, ◌<◌}
use native.Mathlib.Numerals.{add-one}
use native.Mathlib.Omega.{arith}
use lib.ListN.{length, get_or, drop, set, drop_of_length-le}
use lib.Seq.{drop-cons}
use Rattle.lists.specs.Put.{put}
use Rattle.lists.specs.PutLaws.{put_cons, put_none}
use Rattle.record.specs.declared.header.Header.{Header}
use Rattle.record.specs.Layout.{starts_of, addresses_at, addresses_of}
use Rattle.record.specs.Blocks.{start_at}
use Rattle.record.specs.Body.{address_at}
use Rattle.structure.specs.Plan.{Line}
use Rattle.structure.specs.Reads.{what_in, instruction_in, place_in, indent_in}
use Rattle.line.specs.Lines.{what_at, line_in}
use Rattle.pseudo.specs.Listed.{address_for, line_address, mark_for, line_mark, line_place}

module _ (h : Header) (s : List ℕ) (k i : ℕ) where
  start_of : (w : ℕ) → w < 2 → address_for h s (what_at w) k i ≡ start_at (starts_of h s) k
  unfolding what_at
  start_of zero p = refl
  start_of (suc zero) p = refl
  start_of (suc (suc w)) p = absurd (omega arith)

  insn_of : (w : ℕ) → 2 ≤ w → (w ≡ 5 → ⊥) → address_for h s (what_at w) k i ≡ address_at (addresses_of h s) i
  unfolding what_at
  insn_of zero p q = absurd (omega arith)
  insn_of (suc zero) p q = absurd (omega arith)
  insn_of (suc (suc zero)) p q = refl
  insn_of (suc (suc (suc zero))) p q = refl
  insn_of (suc (suc (suc (suc zero)))) p q = refl
  insn_of (suc (suc (suc (suc (suc zero))))) p q = absurd (q refl)
  insn_of (suc (suc (suc (suc (suc (suc zero)))))) p q = refl
  insn_of (suc (suc (suc (suc (suc (suc (suc zero))))))) p q = refl
  insn_of (suc (suc (suc (suc (suc (suc (suc (suc w)))))))) p q = refl

mark_of : (d w : ℕ) → (w ≡ 5 → ⊥) → mark_for (what_at w) d ≡ d + 256
unfolding what_at
mark_of d zero q = refl
mark_of d (suc zero) q = refl
mark_of d (suc (suc zero)) q = refl
mark_of d (suc (suc (suc zero))) q = refl
mark_of d (suc (suc (suc (suc zero)))) q = refl
mark_of d (suc (suc (suc (suc (suc zero))))) q = absurd (q refl)
mark_of d (suc (suc (suc (suc (suc (suc zero)))))) q = refl
mark_of d (suc (suc (suc (suc (suc (suc (suc zero))))))) q = refl
mark_of d (suc (suc (suc (suc (suc (suc (suc (suc w)))))))) q = refl

module _ (h : Header) (s : List ℕ) (code w : ℕ) (e : w ≡ what_in code) where
  pub address_start : (f : List ℕ) (k n : ℕ) → w < 2 → f ≡ drop 24 s → k ≡ place_in code → n ≡ start_at f k → n ≡ line_address h s (line_in code)
  unfolding line_in
  address_start f k n l a b d = d ∙ rw (a, b) (sym (start_of h s (place_in code) (instruction_in code) (what_in code) (rw e at l)))

  pub address_none : w ≡ 5 → 0 ≡ line_address h s (line_in code)
  unfolding line_in what_at
  address_none l = rw (← e, l)

  pub address_insn : (f : List ℕ) (m i n : ℕ) → 2 ≤ w → (w ≡ 5 → ⊥) → m ≡ addresses_at h → f ≡ drop m s → i ≡ instruction_in code → n ≡ address_at f i → n ≡ line_address h s (line_in code)
  unfolding line_in
  address_insn f m i n l o a b d g = g ∙ rw (b, a, d) (sym (insn_of h s (place_in code) (instruction_in code) (what_in code) (rw e at l) (rw e at o)))

module _ (code w d : ℕ) (e : w ≡ what_in code) (f : d ≡ indent_in code) where
  pub mark_none : w ≡ 5 → d ≡ line_mark (line_in code)
  unfolding line_in what_at
  mark_none l = rw (← e, l) f

  pub mark_insn : (w ≡ 5 → ⊥) → d + 256 ≡ line_mark (line_in code)
  unfolding line_in
  mark_insn o = rw f (sym (mark_of (indent_in code) (what_in code) (rw e at o)))

pub place_is : (code k : ℕ) → k ≡ place_in code → k ≡ line_place (line_in code)
unfolding line_in
place_is code k e = e

-- a loop over the codes
module _ (f : Line → ℕ) where
  pub marks_turn : (l r cs : List ℕ) (i x : ℕ) → i < length cs → x ≡ f (line_in (get_or cs i 0))
      → put i (map f (map line_in (drop i cs))) l ≡ r → put (i + 1) (map f (map line_in (drop (i + 1) cs))) (set l i x) ≡ r
  marks_turn l r cs i x p a q = rw (a, add-one) (sym (put_cons i _ _ l ∙ rw add-one) ∙ rw (drop-cons cs i 0 p) at q)

  pub marks_done : (l r cs : List ℕ) (i : ℕ) → length cs ≤ i → put i (map f (map line_in (drop i cs))) l ≡ r → l ≡ r
  marks_done l r cs i p q = sym (put_none i l) ∙ rw (drop_of_length-le cs p) at q
