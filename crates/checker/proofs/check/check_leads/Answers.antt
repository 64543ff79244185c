-- 9 to 12: `check_leads` meets its contract.
-- Each test that was read is the assumption, and the first that fails gives the number.
use mathlib.Core.Path.{◌≡◌, refl}
use mathlib.Core.List.{List}
use Prim.Native.Nat.{ℕ}
use native.Mathlib.Omega.{arith}
use Rattle.lists.specs.Choice.{ask, all_below}
use Rattle.record.specs.declared.header.Header.{Header}
use Rattle.record.specs.Layout.{starts_of, targets_of, edge_kinds_of, bodies_of}
use Rattle.flow.specs.Rows.{block_rows}
use Rattle.route.specs.Assumed.{gotos_labelled}
use Rattle.checker.specs.Rows.{jump_led, other_led, branch_inside}
use Rattle.checker.specs.Broken.{broken_leads}
use Rattle.checker.specs.Called.{Accepted}
use Rattle.checker.proofs.Rows.{branches_inside_is, Parts, jumps_told, others_told}
use Rattle.checker.proofs.Planned.{plain, counted}
use Rattle.checker.proofs.check.check_leads.Goals as goal

-- the tests, over what was read of a record
tests : (h : Header) (s targets kinds bodies blocks starts : List ℕ) → Accepted h s
    → targets ≡ targets_of h s → kinds ≡ edge_kinds_of h s → bodies ≡ bodies_of h s → blocks ≡ block_rows h s → starts ≡ starts_of h s
    → broken_leads h s
    ≡ ask 9 (all_below (jump_led targets kinds bodies blocks) h.blocks)
    (ask 10 (all_below (other_led targets kinds bodies blocks starts h.blocks) h.blocks)
    (ask 11 (all_below (branch_inside blocks) h.blocks) (ask 12 (gotos_labelled h s) 0)))
unfolding broken_leads
tests h s targets kinds bodies blocks starts a pt pk pb pr q =
    let p : Parts h s targets kinds bodies blocks = record { targets_are = pt; kinds_are = pk; bodies_are = pb; rows_are = pr } in
    rw (jumps_told h s _ _ _ _ p (counted h s a) (plain h s a) _ refl, others_told h s _ _ _ _ p starts _ q refl, pr, branches_inside_is h s)

pub returns-then-not-jumps_led : goal.returns-then-not-jumps_led
returns-then-not-jumps_led c =
    grind (arith, tests c.args.h c.args.rec.now c.from-targets.result.now c.from-kinds.result.now c.from-bodies.result.now c.args.blocks.now (starts_of c.args.h c.args.rec.now) c.requires.accepted)

pub returns-then-not-others_led : goal.returns-then-not-others_led
returns-then-not-others_led c =
    grind (arith, tests c.args.h c.args.rec.now c.from-targets.result.now c.from-kinds.result.now c.from-bodies.result.now c.args.blocks.now c.from.result.now c.requires.accepted)

pub returns-then-not-branches_inside : goal.returns-then-not-branches_inside
returns-then-not-branches_inside c =
    grind (arith, tests c.args.h c.args.rec.now c.from-targets.result.now c.from-kinds.result.now c.from-bodies.result.now c.args.blocks.now c.from.result.now c.requires.accepted)

pub returns-then-not-gotos_labelled : goal.returns-then-not-gotos_labelled
returns-then-not-gotos_labelled c =
    grind (arith, tests c.args.h c.args.rec.now c.from-targets.result.now c.from-kinds.result.now c.from-bodies.result.now c.args.blocks.now c.from.result.now c.requires.accepted)

pub returns : goal.returns
returns c =
    grind (arith, tests c.args.h c.args.rec.now c.from-targets.result.now c.from-kinds.result.now c.from-bodies.result.now c.args.blocks.now c.from.result.now c.requires.accepted)
