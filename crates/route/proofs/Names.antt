-- Names of labels: those of two blocks differ, and where no atlas entry has a block's start as its address, a goto to a block names its label.
-- A hex text is read back by its digits; a place that a search found is a block's that starts at the address sought.
use Prim.Native.Nat.{ℕ, zero, suc, ◌+◌, ◌-◌, ◌*◌, ◌/◌, ◌%◌, ◌<◌, ◌≤◌}
use native.Mathlib.Decide.{ℕ_discrete, dec_lt}
use native.Mathlib.Omega.{arith}
use mathlib.Core.Path.{◌≡◌, refl, sym, ap, ◌∙◌}
use mathlib.Core.Bool.{true, false≢true}
use mathlib.Core.List.{List, [], ◌∷◌, ◌++◌}
use mathlib.Core.Logic.{⊎_elim}
use lib.Dec.{eqb, ltb, leb}
use lib.ListN.{drop}
use borrow.Author.Tests.{lt-ltb, le-ltb, eq-eqb, ne_eqb, eqb-false, not-true}
use Rattle.lists.specs.Choice.{pick}
use Rattle.lists.specs.Below.{all_at}
use Rattle.x86.specs.Words.{same_word}
use Rattle.text.specs.Number.{digit, hex_text}
use Rattle.text.specs.NumberLaws.{hex_one, hex_more}
use Rattle.tokens.specs.Token.{symbol}
use Rattle.tokens.specs.Words.{prefixed}
use Rattle.tokens.proofs.ListingLaws.{cases}
use Rattle.record.specs.declared.header.Header.{Header}
use Rattle.std.specs.Prelude.{Option, Some, None}
use Rattle.record.specs.Header.{header_of}
use Rattle.record.specs.Layout.{starts_of, bodies_of}
use Rattle.record.specs.Blocks.{start_at, differ, start_is_new, starts_differ}
use Rattle.record.specs.Body.{body_at, operand_number}
use Rattle.record.specs.Asked.{first_no}
use Rattle.record.proofs.AskedLaws.{yes_limits}
use Rattle.record.proofs.SearchLaws.{find_kept}
use Rattle.operand.specs.Names.{entry_at, name_or_at, name_or}
use Rattle.operand.proofs.Choices.{either}
use Rattle.operand.proofs.Texts.{same_text}
use Rattle.operand.proofs.SameText.{same_self}
use Rattle.cfg.specs.Graph.{branch_to, last_in, is_block}
use Rattle.flow.specs.Rows.{place_found, place_of, last_body, block_ending, block_branch, block_rows}
use Rattle.flow.proofs.Closing.{found_is}
use Rattle.flow.proofs.Silenced.{last_is}
use Rattle.flow.proofs.Terms.{branch_to_lem}
use Rattle.flow.proofs.Totals.{limits_small}
use Rattle.route.specs.Assumed.{is_nothing, starts_unnamed}
use Rattle.route.proofs.Stating.{label_name, name_at, target_name}

-- ---- different addresses, different names
abbrev digit_value : ℕ → ℕ
digit_value x = pick (ltb x 65) (x - 48) (x - 55)

abbrev value : ℕ → List ℕ → ℕ
value v [] = v
value v (x ∷ t) = value (16 * v + digit_value x) t

value_append : (v : ℕ) (s t : List ℕ) → value v (s ++ t) ≡ value (value v s) t
value_append v [] t = refl
value_append v (x ∷ s) t = value_append (16 * v + digit_value x) s t

digit_back : (d : ℕ) → d < 16 → digit_value (digit true d) ≡ d
unfolding digit
digit_back d h =
    elim (dec_lt d 10) [
      | yes a ↦ rw (lt-ltb d 10 a, lt-ltb (48 + d) 65 (omega arith)) (omega arith)
      | no a ↦ rw (le-ltb d 10 (omega arith), le-ltb (65 + (d - 10)) 65 (omega arith)) (omega arith)
    ]

one_back : (v : ℕ) → v < 16 → value 0 (hex_text true v) ≡ v
one_back v h = rw (hex_one true v h, digit_back v h) (omega arith)

hex_back : (k v : ℕ) → v ≤ k → value 0 (hex_text true v) ≡ v
hex_back zero v h = one_back v (omega arith)
hex_back (suc k) v h =
    elim (dec_lt v 16) [
      | yes a ↦ one_back v a
      | no a ↦ rw (hex_more true v (omega arith), value_append, hex_back k (v / 16) (omega arith), digit_back (v % 16) (omega arith)) (omega arith)
    ]

label_same : (a b : ℕ) → label_name a ≡ label_name b → a ≡ b
unfolding prefixed
label_same a b e = sym (hex_back a a (omega arith)) ∙ ap (λ (t : List ℕ). value 0 (drop 4 t)) e ∙ hex_back b b (omega arith)

-- question 6: different blocks start at different addresses
earlier_differs : (starts : List ℕ) (B j k : ℕ) → starts_differ starts B ≡ true → j < k → k < B → start_at starts j ≡ start_at starts k → ⊥
unfolding starts_differ start_is_new differ
earlier_differs starts B j k d a b e =
    eqb-false (start_at starts j) (start_at starts k) (not-true _ (all_at (differ starts k) k j (all_at (start_is_new starts) B k d b) a)) e

pub label_test : (h : Header) (s : List ℕ) → starts_differ (starts_of h s) h.blocks ≡ true → (j k : ℕ) → j < h.blocks → k < h.blocks
    → same_word (name_at h s j) (name_at h s k) ≡ eqb j k
label_test h s d j k a b =
    elim (ℕ_discrete j k) [
      | yes q ↦ rw q (same_self (name_at h s k) ∙ sym (eq-eqb k k refl))
      | no q ↦ ⊎_elim (λ e. absurd (differs q (label_same _ _ (same_text (name_at h s j) (name_at h s k) e)))) (λ e. e ∙ sym (ne_eqb j k q)) (cases (same_word (name_at h s j) (name_at h s k)))
    ]
  where
    differs : (j ≡ k → ⊥) → start_at (starts_of h s) j ≡ start_at (starts_of h s) k → ⊥
    differs q e = elim (dec_lt j k) [ yes p ↦ earlier_differs (starts_of h s) h.blocks j k d p b e | no p ↦ earlier_differs (starts_of h s) h.blocks k j d (omega arith) a (sym e) ]

-- ---- a goto to a block names its label
module _ (h : Header) (s : List ℕ) where
  -- where no entry stands
  unnamed : (va : ℕ) → is_nothing (entry_at h s va) ≡ true → (name_or h s va (symbol "loc_")).bytes ≡ label_name va
  unfolding name_or
  unnamed va e = go (entry_at h s va) e
    where
      go : (f : Option ℕ) → is_nothing f ≡ true → (name_or_at h s f va (symbol "loc_")).bytes ≡ label_name va
      go (Some j) e = absurd (false≢true e)
      go None e = refl

  place_in : (va : ℕ) → is_block (place_of h s va) ≡ true → place_of h s va < h.blocks
  unfolding place_of
  place_in va =
      find_kept (starts_of h s) va (λ f. is_block (place_found f) ≡ true → place_found f < h.blocks) 0 h.blocks h.blocks (omega arith) (λ b. absurd (false≢true b)) (λ j l b. l)

  module _ (k : ℕ) (below : k < h.blocks) (block : is_block (branch_to (block_rows h s) k) ≡ true) where
    abbrev to : ℕ
    to = branch_to (block_rows h s) k

    abbrev va : ℕ
    va = operand_number (last_body h s k) 0

    place : to ≡ place_of h s va
    unfolding block_branch
    place =
        branch_to_lem h s k below
        ∙ either (λ n. is_block n ≡ true → n ≡ place_of h s va) (leb 2 (block_ending h s k)) _ _ (λ b. refl) (λ b. absurd (false≢true b)) (rw (branch_to_lem h s k below) at block)

    to_in : to < h.blocks
    to_in = rw place (place_in va (rw place at block))

    names : h.blocks < 65535 → starts_unnamed h s ≡ true → target_name h s (last_in (block_rows h s) k) ≡ name_at h s to
    unfolding place_of starts_unnamed
    names small free =
        let start : start_at (starts_of h s) to ≡ va = found_is (starts_of h s) va 0 h.blocks to (sym place) (omega (arith, to_in)) in
        ap (λ (i : ℕ). (name_or h s (operand_number (body_at (bodies_of h s) i) 0) (symbol "loc_")).bytes) (last_is h s k below)
        ∙ ap (λ (x : ℕ). (name_or h s x (symbol "loc_")).bytes) (sym start)
        ∙ unnamed (start_at (starts_of h s) to) (all_at (λ j. is_nothing (entry_at h s (start_at (starts_of h s) j))) h.blocks to free to_in)

pub targets_named : (s : List ℕ) → let h = header_of s in first_no s 0 h.blocks ≡ 0 → starts_unnamed h s ≡ true → (k : ℕ) → k < h.blocks → is_block (branch_to (block_rows h s) k) ≡ true
    → target_name h s (last_in (block_rows h s) k) ≡ name_at h s (branch_to (block_rows h s) k)
targets_named s asked free k below block =
    names (header_of s) s k below block (omega (arith, (limits_small (header_of s) (yes_limits s 0 (header_of s).blocks asked)).blocks)) free
