-- The flags after CMP and TEST, and the sixteen conditions on flags, by Intel's rules, at a width of w bits.
use Rattle.std.specs.Prelude.{ℕ, ◌+◌, ◌-◌, ◌/◌, ◌%◌, ◌^◌, Bool, true, false, not, ◌||◌, [], ◌∷◌, ltb, leb, eqb, ℤ, ◌-ℤ◌, get_or}
use Rattle.std.specs.Int.Bits.{bit_and}
use Rattle.std.specs.Int.Signed.{mag}
use Rattle.lists.specs.Signed.{half, signed}

pub record Flags : Type 0 where
  pub cf : Bool
  pub pf : Bool
  pub zf : Bool
  pub sf : Bool
  pub of : Bool

-- the signed number fits w bits: mag z is z, or -1 - z where z is negative
abbrev pub fits : ℕ → ℤ → Bool
fits w z = ltb (mag z) (half w)

-- the low eight bits hold an even count of ones
abbrev pub parity : ℕ → Bool
parity r = eqb ((r % 2 + r / 2 % 2 + r / 4 % 2 + r / 8 % 2 + r / 16 % 2 + r / 32 % 2 + r / 64 % 2 + r / 128 % 2) % 2) 0

-- a - b at w bits
abbrev pub difference : ℕ → ℕ → ℕ → ℕ
difference w a b = (a + 2 ^ w - b) % 2 ^ w

-- CMP sets the flags of a - b: the borrow, the parity, zero, the sign, and the signed overflow
abbrev pub cmp : ℕ → ℕ → ℕ → Flags
cmp w a b = record {
  cf = ltb a b;
  pf = parity (difference w a b);
  zf = eqb (difference w a b) 0;
  sf = leb (half w) (difference w a b);
  of = not (fits w (signed w a -ℤ signed w b));
}

-- TEST sets those of the AND of a and b, and clears carry and overflow
abbrev pub test : ℕ → ℕ → ℕ → Flags
test w a b = record {
  cf = false;
  pf = parity (bit_and a b);
  zf = eqb (bit_and a b) 0;
  sf = leb (half w) (bit_and a b);
  of = false;
}

abbrev pub unlike : Bool → Bool → Bool
unlike true b = not b
unlike false b = b

-- whether condition k holds: 0 none, then o no b ae e ne be a s ns p np l ge le g as 1 to 16
abbrev pub condition_holds : ℕ → Flags → Bool
condition_holds k f =
    get_or
    (false
    ∷ f.of ∷ not f.of
    ∷ f.cf ∷ not f.cf
    ∷ f.zf ∷ not f.zf
    ∷ (f.cf || f.zf) ∷ not (f.cf || f.zf)
    ∷ f.sf ∷ not f.sf
    ∷ f.pf ∷ not f.pf
    ∷ unlike f.sf f.of ∷ not (unlike f.sf f.of)
    ∷ (f.zf || unlike f.sf f.of) ∷ not (f.zf || unlike f.sf f.of)
    ∷ []) k false
