-- One turn of each loop over rows: what was read and stored is the record's row.
-- Each premise is what a call ensures, in order; each equation is put into the next.
use Prim.Native.Nat.{ℕ, ◌+◌, ◌-◌, ◌*◌}
use mathlib.Core.List.{List, [], ◌∷◌}
use mathlib.Core.Bool.{Bool, true, false, not}
use Rattle.std.specs.Int.{from_bool}
use mathlib.Core.Path.{◌≡◌, refl, sym, ap, ◌∙◌}
use lib.Dec.{eqb, leb}
use lib.ListN.{drop, set}
use Rattle.lists.specs.Choice.{pick}
use Rattle.lists.specs.Put.{put}
use Rattle.lists.specs.PutLaws.{put_append, put_cons, put_none}
use Rattle.record.specs.declared.header.Header.{Header}
use Rattle.record.specs.Layout.{marks_of, targets_of, edge_kinds_of, bodies_of}
use Rattle.record.specs.Blocks.{instructions_in, edges_in, label_mark, first_instruction, first_edge, target_at, edge_kind_at}
use Rattle.record.specs.Body.{body_at, operand_number}
use Rattle.flow.specs.Silent.{is_silent_itself, ending_of}
use Rattle.flow.specs.Rows.{place_of, last_body, block_ending, block_branch, block_row, edge_row, shown_row}
use Rattle.flow.specs.Counted.{BlockHas, row_ending}

-- an array is the part of the record at its offset
pub array : (s p : List ℕ) (w v : ℕ) → w ≡ v → p ≡ drop w s → p ≡ drop v s
array s p w v a b = b ∙ ap (λ (k : ℕ). drop k s) a

-- the byte of a test that says no
byte_of : (b : Bool) → from_bool (not b) ≡ pick b 0 1
byte_of true = refl
byte_of false = refl

module _ (h : Header) (s : List ℕ) where
  pub shown_stored : (i : ℕ) (bodies body l l' : List ℕ) (z v : ℕ) (b : Bool) → bodies ≡ bodies_of h s → z ≡ i → body ≡ body_at bodies i
      → b ≡ not (is_silent_itself h.bits h.frame body) → v ≡ from_bool b → l' ≡ set l z v → l' ≡ put i (shown_row h s i) l
  unfolding shown_row
  shown_stored i bodies body l l' z v b a z' c d f e = e ∙ rw (f, d, byte_of, c, a, z', put_cons, put_none)

  pub edge_stored : (e : ℕ) (targets kinds l l' : List ℕ) (va to z kind : ℕ) → targets ≡ targets_of h s → kinds ≡ edge_kinds_of h s → va ≡ target_at targets e
      → to ≡ place_of h s va → z ≡ e → kind ≡ edge_kind_at kinds e → l' ≡ put (2 * z) (to ∷ kind ∷ []) l → l' ≡ put (2 * e) (edge_row h s e) l
  unfolding edge_row
  edge_stored e targets kinds l l' va to z kind p q a b c d f = f ∙ rw (d, c, b, a, p, q)

  module _ (k first n : ℕ) (b : BlockHas h s k first n) where
    last_is : (i : ℕ) (bodies last : List ℕ) → bodies ≡ bodies_of h s → i ≡ first + n - 1 → last ≡ body_at bodies i → last ≡ last_body h s k
    last_is i bodies last p q r = r ∙ rw (p, q, b.begins, b.many)

    ending_is : (last : List ℕ) (x : ℕ) → last ≡ last_body h s k → x ≡ pick (eqb n 0) 0 (ending_of last) → x ≡ block_ending h s k
    unfolding block_ending
    ending_is last x p q = q ∙ rw (p, b.many)

    branch_is : (last : List ℕ) (x y : ℕ) → last ≡ last_body h s k → x ≡ block_ending h s k → y ≡ pick (leb 2 x) (place_of h s (operand_number last 0)) 65535 → y ≡ block_branch h s k
    unfolding block_branch
    branch_is last x y p q r = r ∙ rw (p, q)

    pub ending_stored : (marks bodies last l l' : List ℕ) (label i x y z : ℕ) → marks ≡ marks_of h s → label ≡ label_mark marks k → bodies ≡ bodies_of h s
        → i ≡ first + n - 1 → last ≡ body_at bodies i → x ≡ pick (eqb n 0) 0 (ending_of last)
        → y ≡ pick (leb 2 x) (place_of h s (operand_number last 0)) 65535 → z ≡ k → l' ≡ put (8 * z + 4) (label ∷ x ∷ y ∷ 0 ∷ []) l
        → l' ≡ put (8 * k + 4) (row_ending h s k) l
    ending_stored marks bodies last l l' label i x y z p a q c d e f g r =
        let t = last_is i bodies last q c d in
        let u = ending_is last x t e in
        r ∙ rw (branch_is last x y t u f, u, a, p, g)

  pub row_stored : (k : ℕ) (marks l l₁ l₂ : List ℕ) (first n edge m z : ℕ) → marks ≡ marks_of h s → first ≡ first_instruction marks k → edge ≡ first_edge marks k
      → n ≡ instructions_in marks k → m ≡ edges_in marks k → z ≡ k → l₁ ≡ put (8 * z) (first ∷ n ∷ edge ∷ m ∷ []) l
      → l₂ ≡ put (8 * k + 4) (row_ending h s k) l₁ → l₂ ≡ put (8 * k) (block_row h s k) l
  unfolding block_row
  row_stored k marks l l₁ l₂ first n edge m z f a b c d e p q =
      q ∙ rw (p, e) (sym (put_append (8 * k) (first ∷ n ∷ edge ∷ m ∷ []) (row_ending h s k) l) ∙ rw (a, b, c, d, f))
