-- The bodies, as a coder takes them from the record.
-- They are the part that begins at their offset.
use mathlib.Core.Path.{◌≡◌, ap, ◌∙◌}
use mathlib.Core.List.{List}
use Prim.Native.Nat.{ℕ}
use lib.ListN.{drop}
use Rattle.record.specs.declared.header.Header.{Header}
use Rattle.record.specs.Layout.{bodies_at, bodies_of}

pub bodies_are : (h : Header) (s : List ℕ) {bodies : List ℕ} {n : ℕ} → bodies ≡ drop n s → n ≡ bodies_at h → bodies ≡ bodies_of h s
bodies_are h s e f = e ∙ ap (λ (k : ℕ). drop k s) f
