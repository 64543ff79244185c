-- `main` is safe and ends.
-- Its list has as many bytes as `answer` asks for.
use Prim.Native.Nat.{ℕ, ◌≤◌}
use mathlib.Core.Path.{◌≡◌, sym, ◌∙◌}
use native.Mathlib.Omega.{arith}
use lib.ListN.{length-replicate}
use Rattle.to_csv.proofs.main.Goals as goal

as_long : (n m : ℕ) → n ≡ m → n ≤ m
as_long n m e = omega (arith, e)

pub slice_bounds-answer-end : goal.slice_bounds-answer-end
slice_bounds-answer-end c = sym (length-replicate {A = ℕ} 262144 0)

pub answer-m-requires : goal.answer-m-requires
answer-m-requires c = as_long _ _ (sym (length-replicate {A = ℕ} 262144 0))

pub slice_bounds-part-end-2 : goal.slice_bounds-part-end-2
slice_bounds-part-end-2 c = sym (c.answer-m.auto.out ∙ length-replicate {A = ℕ} 262144 0)
