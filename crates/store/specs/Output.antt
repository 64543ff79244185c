-- What the programs for a store of records print: the record that they are given with its bodies rearranged, or `no` and the number.
use Rattle.std.specs.Prelude.{ℕ, ◌≤◌, ◌<◌, List, ◌≡◌, length, take}
use Rattle.record.specs.declared.header.Header.{Header}
use Rattle.record.specs.Asked.{sizes_no}
use Rattle.columns.specs.Columns.{rearranged}
use Rattle.page.specs.Page.{refusal, output_for}

module _ (rows columns : Header → ℕ) where
  -- "Only questions 1 to 4 are asked of a record here, in both directions.": the programs' own lists are as long as every record
  unfoldable pub printed : List ℕ → List ℕ
  printed s = output_for (sizes_no s) (rearranged rows columns s)

-- What a program promises of the bytes that it prints for an input.
pub record Prints (rows columns : Header → ℕ) (s out : List ℕ) : Type 0 where
  pub text : out ≡ printed rows columns s
  -- "Longer input is judged by its first 65,537 bytes, so 4 refuses it at the latest."
  pub judged : (n : ℕ) → 65537 ≤ n → out ≡ printed rows columns (take n s)
  pub refused : 65536 < length s → (k : ℕ) × ((1 ≤ k) × (k ≤ 4) × (out ≡ refusal k))
  -- "The way back restores every byte.": of what one program prints of a record, the other prints the record
  pub back : sizes_no s ≡ 0 → printed columns rows out ≡ s
