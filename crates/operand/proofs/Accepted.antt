-- A record whose questions all got a yes has atlas addresses that rise.
-- Question 9 asks it of each entry but the first.
use mathlib.Core.Path.{◌≡◌}
use mathlib.Core.Bool.{true, ◌&&◌}
use mathlib.Core.List.{List}
use Prim.Native.Nat.{ℕ}
use Rattle.lists.specs.Every.{both_yes}
use Rattle.lists.specs.Below.{all_at}
use Rattle.record.specs.declared.header.Header.{Header}
use Rattle.record.specs.Header.{header_of}
use Rattle.record.specs.Layout.{entries_of, pairs_of}
use Rattle.record.specs.Atlas.{entry_address, entry_kind, rises, entry_kind_ok, entries_ok, atlas_ok}
use Rattle.record.specs.Asked.{atlas_asked, first_no}
use Rattle.record.proofs.AskedLaws.{yes_atlas}
use Rattle.record.specs.Search.{Rises}
use Rattle.record.proofs.Rising.{tested_rise}
use Rattle.operand.specs.Lent.{Rising}

entries_rise : (entries pairs : List ℕ) (A : ℕ) → entries_ok entries pairs A ≡ true → Rises (entry_address entries) A
unfolding entries_ok
entries_rise entries pairs A h =
    tested_rise (entry_address entries) A
    (λ k l. (both_yes (rises entries k) (entry_kind_ok (entry_kind pairs k)) (all_at (λ j. rises entries j && entry_kind_ok (entry_kind pairs j)) A k h l)).0)

-- question 9 asks it
asked_rising : (h : Header) (s : List ℕ) → atlas_asked h s ≡ true → Rising h s
unfolding atlas_asked atlas_ok
asked_rising h s a = entries_rise (entries_of h s) (pairs_of h s) h.atlas (both_yes _ _ (both_yes _ _ a).0).0

pub accepted_rising : (s : List ℕ) (from to : ℕ) → first_no s from to ≡ 0 → Rising (header_of s) s
accepted_rising s from to h = asked_rising (header_of s) s (yes_atlas s from to h)
