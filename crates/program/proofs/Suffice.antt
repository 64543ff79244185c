-- "900 lines always suffice": with the program's lists the number is never 14.
-- Questions before 12 have other numbers, and an accepted record has at most 900 lines, so question 14 gets a yes.
use mathlib.Core.Path.{◌≡◌, refl, ◌∙◌}
use mathlib.Core.Bool.{◌&&◌}
use mathlib.Core.List.{List}
use Prim.Native.Nat.{ℕ, zero, suc, ◌≤◌}
use native.Mathlib.Omega.{arith}
use borrow.Author.Tests.{le-leb}
use lib.Dec.{leb}
use lib.ListN.{length, length-map}
use Rattle.lists.specs.Choice.{ask}
use Rattle.rows.specs.Lists.{room_no}
use Rattle.record.specs.Header.{header_of}
use Rattle.record.specs.Asked.{or_else, first_no}
use Rattle.flow.specs.Planned.{record_plan}
use Rattle.flow.proofs.Bounds.{record_few}
use Rattle.pseudo.specs.Listed.{line_address}
use Rattle.pseudo.specs.Called.{Accepted, sizes, call_no}
use Rattle.pseudo.proofs.Calls.{limits, counted, in_range}
use Rattle.pseudo.proofs.Promises.{ask_kept, first_kept}
use Rattle.program.specs.Output.{program_rooms, blocks, program_no, whole_lists}

module _ (s : List ℕ) where
  lines_suffice : first_no s 0 (blocks s) ≡ 0 → length (whole_lists s).addresses ≤ 900
  lines_suffice e =
      let h = header_of s in
      let to = blocks s in
      let a : Accepted s 0 to h = record { header = refl; yes = e } in
      omega (arith, record_few h s 0 to (limits s 0 to h a) (counted s 0 to h a) (in_range s 0 to h a), length-map (record_plan h s 0 to) (line_address h s))

  pub not_14 : program_no s ≡ 14 → ⊥
  unfolding call_no room_no
  not_14 = go (first_no s 0 (blocks s)) refl
    where
      go : (f : ℕ) → first_no s 0 (blocks s) ≡ f → or_else f (room_no (sizes s 0 (blocks s)) program_rooms) ≡ 14 → ⊥
      go (suc f) q = λ e. first_kept (λ (n : ℕ). n ≡ 14 → ⊥) (λ n h z. omega arith) (λ z. omega arith) s 0 (blocks s) (q ∙ e)
      go zero q =
          let z = sizes s 0 (blocks s) in
          let tokens = leb z.tokens 16384 && leb z.tokens 16384 in
          rw (le-leb z.lines 900 (lines_suffice q))
          (ask_kept (λ (n : ℕ). n ≡ 14 → ⊥) 12 (leb z.text 65536) (ask 13 tokens 0) (λ z. omega arith)
          (ask_kept (λ (n : ℕ). n ≡ 14 → ⊥) 13 tokens 0 (λ z. omega arith) (λ z. omega arith)))
