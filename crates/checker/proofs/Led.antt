-- Where a block leads, by what was read of it: a last direct jmp to its block, a block that does not end in a jmp or return to the next.
-- The definitions, with each reading's value in the place of what was read.
use mathlib.Core.Path.{◌≡◌, sym, ◌∙◌}
use mathlib.Core.Bool.{Bool, true, false, not, ◌&&◌, ◌||◌}
use mathlib.Core.List.{List}
use Prim.Native.Nat.{ℕ, ◌+◌, ◌≤◌, ◌<◌}
use borrow.Author.Tests.{lt-ltb, le-ltb}
use lib.Dec.{eqb, ltb}
use Rattle.lists.specs.Choice.{pick}
use Rattle.record.specs.Blocks.{start_at}
use Rattle.record.specs.Body.{operand_number}
use Rattle.cfg.specs.Graph.{count_in, ending_in, branch_to, is_block}
use Rattle.route.specs.Processor.{is_return, is_jump}
use Rattle.checker.specs.Rows.{last_of, one_edge_to, jump_led, other_led}
use Rattle.checker.specs.declared.edges.Kind.TheVariants.{Uncond, Onward}

module _ (targets kinds bodies blocks : List ℕ) (k ending place : ℕ) (pe : ending ≡ ending_in blocks k) (pp : place ≡ branch_to blocks k) where
  jump_is : jump_led targets kinds bodies blocks k
      ≡ pick (eqb ending 3 && is_block place) (one_edge_to targets kinds blocks Uncond k (operand_number (last_of bodies blocks k) 0)) true
  unfolding jump_led
  jump_is = rw (pe, pp)

  pub jump_goes : (last : List ℕ) (va : ℕ) (r : Bool) → (eqb ending 3 && is_block place) ≡ true → last ≡ last_of bodies blocks k → va ≡ operand_number last 0
      → r ≡ one_edge_to targets kinds blocks Uncond k va → r ≡ jump_led targets kinds bodies blocks k
  jump_goes last va r e pl pv pr = sym (jump_is ∙ rw (e, pr, pv, pl))

  pub jump_none : (eqb ending 3 && is_block place) ≡ false → true ≡ jump_led targets kinds bodies blocks k
  jump_none e = sym (jump_is ∙ rw e)

module _ (starts targets kinds bodies blocks : List ℕ) (B k n : ℕ) (last : List ℕ) (ends : Bool)
    (pn : n ≡ count_in blocks k) (pl : last ≡ last_of bodies blocks k) (pe : ends ≡ (is_jump last || is_return last)) where
  other_is : other_led targets kinds bodies blocks starts B k
      ≡ ((not (eqb n 0) && ends) || (ltb (k + 1) B && one_edge_to targets kinds blocks Onward k (start_at starts (k + 1))))
  unfolding other_led
  other_is = rw (pe, pl, pn)

  pub other_ends : (not (eqb n 0) && ends) ≡ true → true ≡ other_led targets kinds bodies blocks starts B k
  other_ends e = sym (other_is ∙ rw e)

  module _ (e : (not (eqb n 0) && ends) ≡ false) where
    pub other_last : B ≤ k + 1 → false ≡ other_led targets kinds bodies blocks starts B k
    other_last l = sym (other_is ∙ rw (e, le-ltb (k + 1) B l))

    pub other_next : (va : ℕ) (r : Bool) → k + 1 < B → va ≡ start_at starts (k + 1) → r ≡ one_edge_to targets kinds blocks Onward k va → r ≡ other_led targets kinds bodies blocks starts B k
    other_next va r l pv pr = sym (other_is ∙ rw (e, lt-ltb (k + 1) B l, pr, pv))
