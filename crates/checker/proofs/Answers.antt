-- A record that breaks no assumption meets them all.
-- The number of the first that it breaks is 0.
use mathlib.Core.Path.{◌≡◌}
use mathlib.Core.List.{List}
use Prim.Native.Nat.{ℕ}
use Rattle.std.specs.Prelude.{Ok}
use Rattle.record.specs.declared.header.Header.{Header}
use Rattle.record.specs.Header.{header_of}
use Rattle.checker.specs.Broken.{first_broken}
use Rattle.checker.specs.Called.{Accepted, Checks}
use Rattle.checker.proofs.Meets.{met}

-- ---- what an accepted record breaks
module _ (h : Header) (s : List ℕ) (a : Accepted h s) where
  pub checks_follows : first_broken h s ≡ 0 → Checks s (Ok tt)
  checks_follows p =
      let none : first_broken (header_of s) s ≡ 0 = rw (← a.header) p in
      record { answer = (a.yes, none); assumed = met (header_of s) s none }
