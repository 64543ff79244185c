-- `Rows::codes` meets its contract.
-- The table says so.
use mathlib.Core.Path.{◌≡◌, ap, ◌∙◌}
use Prim.Native.Nat.{ℕ, ◌+◌, ◌*◌, ◌-◌}
use native.Mathlib.Omega.{arith}
use lib.ListN.{get_or, take, drop}
use Rattle.line.proofs.RowTable.{size_of, codes_in_lem, row_end}
use Rattle.line.proofs.rows.Rows.codes.Goals as goal

pub bounds-self-k : goal.bounds-self-k
bounds-self-k c = omega (arith, c.requires, size_of _ c.args.self.whole)

pub returns : goal.returns
returns c =
    let n = get_or c.args.self.bytes.now (16 * c.args.form) 0 in
    let e : 16 * c.args.form + 1 + n - (16 * c.args.form + 1) ≡ n = omega arith in
    ap (λ (k : ℕ). take k (drop (16 * c.args.form + 1) c.args.self.bytes.now)) e ∙ codes_in_lem c.args.self.bytes.now c.args.form c.args.self.whole c.requires

pub slice_bounds-result-end : goal.slice_bounds-result-end
slice_bounds-result-end c = omega (arith, row_end c.args.self.bytes.now c.args.form c.args.self.whole c.requires)
