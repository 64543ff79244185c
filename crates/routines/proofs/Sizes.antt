-- How long the parts of a routine's record are.
-- A block's entry in each array by the ending's case; an array along the blocks; the record's arrays summed.
use mathlib.Core.Path.{◌≡◌, refl, ◌∙◌}
use mathlib.Core.List.{List, [], ◌∷◌}
use Prim.Native.Nat.{ℕ, suc, ◌+◌, ◌*◌, ◌≤◌}
use native.Mathlib.Omega.{arith}
use lib.ListN.{length, length-append}
use Rattle.lists.specs.Little.{little}
use Rattle.routines.specs.declared.ending.Ending.{Ending}
use Rattle.routines.specs.declared.ending.Ending.TheVariants.{Ret, Fall, Jmp, Jne}
use Rattle.routines.specs.declared.fields.Array.{Array}
use Rattle.routines.specs.declared.fields.Array.TheVariants.{Starts, Marks, Targets, Kinds, Addresses, Bodies}
use Rattle.routines.specs.Written.{Edge, edges, body_of, targets_of, kinds_of, edge_count, each, entry_of, header_bytes, record_of}

pub length_body : (e : Ending) → length (body_of e) ≡ 92
unfolding little
length_body Ret = refl
length_body Fall = refl
length_body (Jmp t) = refl
length_body (Jne t) = refl

length_targets : (es : List Edge) → length (targets_of es) ≡ 8 * length es
unfolding little
length_targets [] = refl
length_targets (e ∷ es) = omega (arith, length_targets es)

length_kinds : (es : List Edge) → length (kinds_of es) ≡ length es
unfolding little
length_kinds [] = refl
length_kinds (e ∷ es) = omega (arith, length_kinds es)

few_edges : (k : ℕ) (e : Ending) → length (edges k e) ≤ 2
few_edges k Ret = omega arith
few_edges k Fall = omega arith
few_edges k (Jmp t) = omega arith
few_edges k (Jne t) = omega arith

pub length_entry : (a : Array) (k : ℕ) (e : Ending) → length (entry_of a k e) ≤ 92
unfolding little
length_entry Starts k e = omega arith
length_entry Marks k e = omega arith
length_entry Targets k e = omega (arith, length_targets (edges k e), few_edges k e)
length_entry Kinds k e = omega (arith, length_kinds (edges k e), few_edges k e)
length_entry Addresses k e = omega arith
length_entry Bodies k e = omega (arith, length_body e)

module _ (f : ℕ → Ending → List ℕ) (n : ℕ) where
  each_block : ((k : ℕ) (e : Ending) → length (f k e) ≡ n) → (k : ℕ) (r : List Ending) → length (each f k r) ≡ n * length r
  each_block h k [] = omega arith
  each_block h k (e ∷ r) = length-append (f k e) (each f (suc k) r) ∙ omega (arith, h k e, each_block h (suc k) r)

  each_edge : ((k : ℕ) (e : Ending) → length (f k e) ≡ n * length (edges k e)) → (k : ℕ) (r : List Ending) → length (each f k r) ≡ n * edge_count k r
  each_edge h k [] = omega arith
  each_edge h k (e ∷ r) = length-append (f k e) (each f (suc k) r) ∙ omega (arith, h k e, each_edge h (suc k) r)

pub length_header : (b e : ℕ) → length (header_bytes b e) ≡ 24
unfolding little
length_header b e = refl

-- the record's parts
pub length_parts : (r : List Ending) → length (record_of r)
    ≡ 24 + length (each (entry_of Starts) 0 r) + length (each (entry_of Marks) 0 r) + length (each (entry_of Targets) 0 r) + length (each (entry_of Kinds) 0 r)
    + length (each (entry_of Addresses) 0 r) + length (each (entry_of Bodies) 0 r)
unfolding record_of little
length_parts r = simp length-append (omega arith)

pub length_record : (r : List Ending) → length (record_of r) ≡ 24 + 112 * length r + 9 * edge_count 0 r
unfolding record_of little
length_record r =
    simp length-append
    (omega (
      arith,
      each_block (entry_of Starts) 8 (λ k e. refl) 0 r,
      each_block (entry_of Marks) 4 (λ k e. refl) 0 r,
      each_edge (entry_of Targets) 8 (λ k e. length_targets (edges k e)) 0 r,
      each_edge (entry_of Kinds) 1 (λ k e. length_kinds (edges k e) ∙ omega arith) 0 r,
      each_block (entry_of Addresses) 8 (λ k e. refl) 0 r,
      each_block (entry_of Bodies) 92 (λ k e. length_body e) 0 r,
    ))
