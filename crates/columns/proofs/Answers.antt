-- What both calls store where no question gets a no.
-- The list then has room for what is stored, and that is its first bytes.
use mathlib.Core.Path.{◌≡◌, refl}
use mathlib.Core.List.{List}
use Prim.Native.Nat.{ℕ, ◌*◌, ◌≤◌, ◌+◌}
use native.Mathlib.Omega.{arith}
use borrow.Author.Tests.{leb-true}
use lib.Dec.{leb}
use lib.ListN.{length, take, drop}
use lib.Seq.{take_at}
use Rattle.lists.specs.Choice.{ask}
use Rattle.lists.specs.Put.{put}
use Rattle.lists.specs.PutLaws.{put_fits}
use Rattle.record.specs.declared.header.Header.{Header}
use Rattle.record.specs.Header.{header_of}
use Rattle.record.specs.Asked.{sizes_no}
use Rattle.record.proofs.AskedLaws.{later, passed}
use Rattle.columns.specs.Columns.{rearranged}
use Rattle.columns.specs.Called.{store_no, Stores}
use Rattle.std.specs.Prelude.{Ok}
use Rattle.columns.proofs.Restored.{is_rearranged}

-- what a yes to all says
pub store_yes : (s : List ℕ) (room : ℕ) → store_no s room ≡ 0 → (sizes_no s ≡ 0) × (length s ≤ room)
unfolding store_no
store_yes s room e =
    let p = later (sizes_no s) (ask 12 (leb (length s) room) 0) e in
    (p.0, leb-true (length s) room (passed 11 (leb (length s) room) 0 p.1).0)

-- what is stored
module _ (rows columns : Header → ℕ) (s out out' : List ℕ) (yes : store_no s (length out) ≡ 0) (all : columns (header_of s) * rows (header_of s) ≡ 92 * (header_of s).instructions) (p : out' ≡ put 0 (rearranged rows columns s) out) where
  pub stores : Stores rows columns s out out' (Ok (length s))
  stores =
      let y = store_yes s (length out) yes in
      let t = rearranged rows columns s in
      let r = is_rearranged rows columns s y.0 all in
      let whole : take (length s) out' ≡ t = rw (p, put_fits 0 t out (omega (arith, r.long, y.1))) (take_at t (drop (0 + length t) out) (length s) r.long) in
      record { answer = (yes, refl); list = rw yes p; stored = λ _. rw whole r }
