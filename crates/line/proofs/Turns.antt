-- A planned line's form, its tokens, and the registers written behind it.
-- The lines that are no instruction's are decoded by their number; each law takes what the callees ensure.
use mathlib.Core.Path.{◌≡◌, refl, sym, ap, ◌∙◌}
use mathlib.Core.Bool.{Bool, false}
use mathlib.Core.List.{List, map}
use Prim.Native.Nat.{ℕ, ◌+◌, ◌*◌, ◌≤◌, ◌<◌}
use lib.ListN.{get_or, get_or-map, get_or-eq_default}
use borrow.Author.Tests.{ne_eqb}
use Rattle.lists.specs.Entries.{entry}
use Rattle.record.specs.declared.header.Header.{Header}
use Rattle.record.specs.Layout.{bodies_of}
use Rattle.record.specs.Body.{body_at, mnemonic_of}
use Rattle.structure.specs.Plan.{What}
use Rattle.structure.specs.Plan.What.{insn_line}
use Rattle.structure.specs.Reads.{what_in, instruction_in, place_in}
use Rattle.flow.specs.Rows.{block_rows}
use Rattle.expressions.specs.Condition.{body_of}
use Rattle.expressions.specs.Arguments.{written_after}
use Rattle.line.specs.Forms.{form_of, row_of, insn_form, return_form, returns_value}
use Rattle.line.specs.Codes.{piece_of, form_number, codes_of, row_bytes}
use Rattle.line.specs.Lines.{whats, what_at, line_in}
use Rattle.line.specs.Print.{pieces_tokens, line_tokens, mask_after}
use Rattle.line.proofs.RowTable.{pieces_are}
use Rattle.line.proofs.PlainForms.{told}

what_late : (n : ℕ) → 8 ≤ n → what_at n ≡ insn_line
unfolding what_at
what_late n l = get_or-eq_default whats insn_line l

module _ (h : Header) (s : List ℕ) (n : ℕ) where
  pub form_early : (first i : ℕ) → n < 8 → 40 + n ≡ form_number (form_of h s (what_at n) first i)
  unfolding what_at form_number
  form_early first i l =
      let f : What → ℕ = λ w. form_number (form_of h s w first i) in
      entry (λ k. 40 + k) 8 (map f whats) (f insn_line) refl n l ∙ get_or-map f whats n insn_line

  form_late : (first i form : ℕ) (value : Bool) (bodies b : List ℕ) → 8 ≤ n → bodies ≡ bodies_of h s → value ≡ returns_value bodies first i → b ≡ body_at bodies i
      → form ≡ form_number (insn_form value b) → form ≡ form_number (form_of h s (what_at n) first i)
  form_late first i form value bodies b l p q r t = rw (what_late n l, t, q, r, p)

  -- only a ret's form asks whether a value is left
  ret_form : (value : Bool) (b : List ℕ) → mnemonic_of b ≡ 24 → return_form value ≡ insn_form value b
  unfolding insn_form
  ret_form value b e = rw e

  other_form : (value : Bool) (b : List ℕ) → (mnemonic_of b ≡ 24 → ⊥) → insn_form false b ≡ insn_form value b
  unfolding insn_form
  other_form value b e = rw (ne_eqb (mnemonic_of b) 24 e)

  pub form_ret : (first i form m : ℕ) (value : Bool) (bodies b : List ℕ) → 8 ≤ n → bodies ≡ bodies_of h s → value ≡ returns_value bodies first i → b ≡ body_at bodies i
      → m ≡ mnemonic_of b → m ≡ 24 → form ≡ form_number (return_form value) → form ≡ form_number (form_of h s (what_at n) first i)
  form_ret first i form m value bodies b l p q r t u v = form_late first i form value bodies b l p q r (v ∙ ap form_number (ret_form value b (sym t ∙ u)))

  pub form_plain : (first i m : ℕ) (bodies b t : List ℕ) → 8 ≤ n → bodies ≡ bodies_of h s → b ≡ body_at bodies i → m ≡ mnemonic_of b → m < 256 → t ≡ row_bytes
      → get_or t (768 + m) 0 < 48 → get_or t (768 + m) 0 ≡ form_number (form_of h s (what_at n) first i)
  form_plain first i m bodies b t l p r q k e o = form_late first i (get_or t (768 + m) 0) _ bodies b l p refl r (told b t m q k e _ o)

  pub form_other : (first i form m : ℕ) (bodies b : List ℕ) → 8 ≤ n → bodies ≡ bodies_of h s → b ≡ body_at bodies i
      → m ≡ mnemonic_of b → (m ≡ 24 → ⊥) → form ≡ form_number (insn_form false b) → form ≡ form_number (form_of h s (what_at n) first i)
  form_other first i form m bodies b l p r t u v = form_late first i form _ bodies b l p refl r (v ∙ ap form_number (other_form _ b (λ e. u (t ∙ e))))

  pub mask_early : (mask i : ℕ) → n < 8 → mask ≡ mask_after h s mask (what_at n) i
  unfolding what_at
  mask_early mask i l =
      let f : What → ℕ = λ w. mask_after h s mask w i in
      entry (λ k. mask) 8 (map f whats) (f insn_line) refl n l ∙ get_or-map f whats n insn_line

  pub mask_late : (mask i r : ℕ) (b : List ℕ) → 8 ≤ n → b ≡ body_of h s i → r ≡ written_after mask b → r ≡ mask_after h s mask (what_at n) i
  mask_late mask i r b l p q = rw (what_late n l, q, p)

pub line_is : (h : Header) (s blocks : List ℕ) (range mask code place k i first what form : ℕ) → blocks ≡ block_rows h s → place ≡ place_in code → i ≡ instruction_in code → k ≡ place
    → first ≡ get_or blocks (8 * k) 0 → what ≡ what_in code → form ≡ form_number (form_of h s (what_at what) first i)
    → pieces_tokens h s (record { at = i; first = first; range = range; place = place; written = mask }) (map piece_of (codes_of form)) ≡ line_tokens h s range mask (line_in code)
unfolding line_tokens line_in
line_is h s blocks range mask code place k i first what form b p q e f w g =
    let r : map piece_of (codes_of form) ≡ row_of (form_of h s (what_at what) first i) = ap (λ (n : ℕ). map piece_of (codes_of n)) g ∙ pieces_are (form_of h s (what_at what) first i) in
    rw (r, w, f, e, q, p, b)
