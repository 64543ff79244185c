-- 2 to 5: `check_inside` meets its contract.
-- Each test that was read is the assumption, and the first that fails gives the number.
use mathlib.Core.Path.{◌≡◌}
use mathlib.Core.Bool.{not, ◌&&◌}
use mathlib.Core.List.{List}
use Prim.Native.Nat.{ℕ}
use native.Mathlib.Omega.{arith}
use lib.Dec.{eqb}
use Rattle.lists.specs.Choice.{ask, all_below}
use Rattle.record.specs.declared.header.Header.{Header}
use Rattle.record.specs.Layout.{bodies_of, edge_kinds_of}
use Rattle.record.specs.Blocks.{edge_kind_at}
use Rattle.record.specs.Body.{body_at, mnemonic_of, sets_by_condition, operand_kind}
use Rattle.flow.specs.Rows.{block_rows}
use Rattle.route.specs.Assumed.{sets_no_branch}
use Rattle.checker.specs.Rows.{turns_inside, last_marked}
use Rattle.checker.specs.Broken.{no_case, broken_inside}
use Rattle.checker.proofs.Rows.{turns_last_is, lasts_unmarked_is}
use Rattle.checker.proofs.check.check_inside.Goals as goal

-- the tests, over what was read of a record
tests : (h : Header) (s bodies blocks kinds : List ℕ) → bodies ≡ bodies_of h s → blocks ≡ block_rows h s → kinds ≡ edge_kinds_of h s
    → broken_inside h s
    ≡ ask 2 (all_below (λ k. not (turns_inside bodies blocks k)) h.blocks)
    (ask 3 (all_below (λ k. not (last_marked bodies blocks k)) h.blocks)
    (ask 4 (all_below (λ i. not (sets_by_condition (mnemonic_of (body_at bodies i)) && eqb (operand_kind (body_at bodies i) 0) 2)) h.instructions)
    (ask 5 (all_below (λ e. not (eqb (edge_kind_at kinds e) 4)) h.edges) 0)))
unfolding broken_inside sets_no_branch no_case
tests h s bodies blocks kinds pb pr pk = rw (pb, pr, pk, turns_last_is h s, lasts_unmarked_is h s)

pub returns-then-not-turns_last : goal.returns-then-not-turns_last
returns-then-not-turns_last c =
    grind (arith, tests c.args.h c.args.rec.now c.from-bodies.result.now c.args.blocks.now (edge_kinds_of c.args.h c.args.rec.now))

pub returns-then-not-lasts_unmarked : goal.returns-then-not-lasts_unmarked
returns-then-not-lasts_unmarked c =
    grind (arith, tests c.args.h c.args.rec.now c.from-bodies.result.now c.args.blocks.now (edge_kinds_of c.args.h c.args.rec.now))

pub returns-then-not-sets_no_branch : goal.returns-then-not-sets_no_branch
returns-then-not-sets_no_branch c =
    grind (arith, tests c.args.h c.args.rec.now c.from-bodies.result.now c.args.blocks.now (edge_kinds_of c.args.h c.args.rec.now))

pub returns-then-not-no_case : goal.returns-then-not-no_case
returns-then-not-no_case c =
    grind (arith, tests c.args.h c.args.rec.now c.from-bodies.result.now c.args.blocks.now c.from.result.now)

pub returns : goal.returns
returns c =
    grind (arith, tests c.args.h c.args.rec.now c.from-bodies.result.now c.args.blocks.now c.from.result.now)
