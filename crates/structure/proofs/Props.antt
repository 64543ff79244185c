-- Demand 3 holds of the plan of every range, whatever the rows are.
-- Its five facts, each an induction over the range's tree, which is well-formed.
use mathlib.Core.Path.{refl, subst}
use mathlib.Core.List.{List, [], append-nil}
use Prim.Native.Nat.{ℕ, ◌+◌, ◌-◌}
use native.Mathlib.Nat.{le_refl}
use Rattle.structure.specs.Tree.{tree_of}
use Rattle.structure.specs.Plan.{Line, range_lines, plan_of}
use Rattle.structure.specs.Demand.{Nested, Demand3}
use Rattle.structure.proofs.Grown.{tree_fits}
use Rattle.structure.proofs.Addresses.{tree_addresses}
use Rattle.structure.proofs.Braces.{tree_flat, tree_low}
use Rattle.structure.proofs.Few.{lines_are_few}
use Rattle.structure.proofs.Rises.{plan_rises}

pub demand3 : (blocks edges shown starts targets : List ℕ) (B from to d : ℕ) → Demand3 blocks edges shown starts targets B from to d
unfolding range_lines
demand3 blocks edges shown starts targets B from to d =
    let tree = tree_of blocks edges starts targets B from to in
    let fits = tree_fits blocks edges starts targets B from to in
    record {
      addresses = tree_addresses blocks edges shown B tree from from to d fits;
      nested = subst (λ (l : List Line). Nested [] l) (append-nil (plan_of blocks edges shown starts targets B from to d)) (tree_flat blocks edges shown B tree from from to d [] [] refl);
      rising = plan_rises blocks edges shown starts targets B from to d;
      few = lines_are_few blocks edges shown starts targets B from to d;
      shallow = tree_low blocks edges shown B (d + (to - from)) tree from from to d fits (le_refl _);
    }
