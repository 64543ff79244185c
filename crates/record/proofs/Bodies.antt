-- What question 8 sees to of one body, fact by fact.
-- Its tests, taken apart in their order.
use mathlib.Core.Path.{◌≡◌}
use mathlib.Core.Bool.{true, ◌&&◌}
use mathlib.Core.List.{List}
use Prim.Native.Nat.{ℕ, ◌≤◌, ◌<◌}
use borrow.Author.Tests.{leb-true}
use lib.Dec.{eqb, leb}
use Rattle.lists.specs.Choice.{pick}
use Rattle.lists.specs.Every.{both_yes}
use Rattle.lists.specs.Below.{all_at}
use Rattle.x86.specs.Registers.{register_exists}
use Rattle.record.specs.Body.{mnemonic_of, condition_of, operand_count, skip_mark, segment_of, base_of, index_of, scale_of, operand_kind, register_byte, name_of, condition_ok, scale_ok, operand_ok, fixed_ok, is_name, is_zeros, operands_ok, body_ok}

pub record Proper (b : List ℕ) : Type 0 where
  pub condition : condition_ok (mnemonic_of b) (condition_of b) ≡ true
  pub count : operand_count b ≤ 5
  pub base : register_exists (base_of b) ≡ true
  pub index : register_exists (index_of b) ≡ true
  pub operands : (i : ℕ) → i < 5 → register_exists (register_byte b i) ≡ true
  pub name : eqb (mnemonic_of b) 0 ≡ true → is_name (name_of b) ≡ true

pub proper : (b : List ℕ) → body_ok b ≡ true → Proper b
unfolding body_ok fixed_ok operands_ok operand_ok
proper b ok =
    let c = condition_ok (mnemonic_of b) (condition_of b) in
    let n = leb (operand_count b) 5 in
    let k = leb (skip_mark b) 1 in
    let s = register_exists (segment_of b) in
    let x = register_exists (base_of b) in
    let y = register_exists (index_of b) in
    let parts = both_yes (fixed_ok b && operands_ok b) (pick (eqb (mnemonic_of b) 0) (is_name (name_of b)) (is_zeros (name_of b))) ok in
    let both = both_yes (fixed_ok b) (operands_ok b) parts.0 in
    let f1 = both_yes (c && n && k && s && x && y) (scale_ok (scale_of b)) both.0 in
    let f2 = both_yes (c && n && k && s && x) y f1.0 in
    let f3 = both_yes (c && n && k && s) x f2.0 in
    let f4 = both_yes (c && n && k) s f3.0 in
    let f5 = both_yes c n (both_yes (c && n) k f4.0).0 in
    record {
      condition = f5.0;
      count = leb-true (operand_count b) 5 f5.1;
      base = f3.1;
      index = f2.1;
      operands = λ i l. (both_yes (leb (operand_kind b i) 11) (register_exists (register_byte b i)) (all_at (operand_ok b) 5 i both.1 l)).1;
      name = λ e. rw e at parts.1;
    }
