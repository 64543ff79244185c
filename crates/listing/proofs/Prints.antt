-- The program prints a page or a number, and keeps what a program promises.
-- The fifth byte tells a page from `no 14`.
use mathlib.Core.Path.{◌≡◌, ap}
use mathlib.Core.List.{List}
use Prim.Native.Nat.{ℕ}
use native.Mathlib.Omega.{arith}
use lib.ListN.{get_or}
use Rattle.rows.specs.Lists.{Lists}
use Rattle.text.specs.Decimal.{decimal_of}
use Rattle.page.specs.Page.{numbered, refusal, page_text, page_of}
use Rattle.program.specs.Output.{whole_lists, output_text, Prints}
use Rattle.program.proofs.Prints.{prints}

abbrev fifth : List ℕ → ℕ
fifth t = get_or t 4 0

-- 115 is the `s` of `lines=`, 52 the `4` of `no 14`
no_page : (l : Lists) → page_of l ≡ refusal 14 → ⊥
unfolding page_text numbered decimal_of
no_page l e = let n : ℕ = 115 in let m : ℕ = 52 in let h : n ≡ m = ap fifth e in omega (arith, h)

pub page_prints : (s out : List ℕ) → out ≡ output_text page_of s → Prints page_of s out
page_prints s out is = prints page_of s out (λ o. no_page (whole_lists s)) is
