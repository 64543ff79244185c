-- Tokens behind commas: argument registers, pushed operands.
-- What is left of the registers or of the pushes is one shorter at each turn.
use mathlib.Core.Path.{◌≡◌, refl, sym, ap, ◌∙◌}
use mathlib.Core.Bool.{Bool, true, false, not, ◌&&◌, ◌||◌}
use mathlib.Core.List.{List, [], ◌∷◌, ◌++◌}
use Prim.Native.Nat.{ℕ, suc, ◌+◌, ◌-◌, ◌≤◌, ◌<◌}
use native.Mathlib.Numerals.{add-one}
use native.Mathlib.Omega.{arith}
use lib.Dec.{eqb, ltb}
use lib.ListN.{length, take, drop, get_or}
use lib.Seq.{drop-cons}
use borrow.Author.Tests.{lt-ltb, eq-eqb, ne_eqb}
use Rattle.lists.specs.Choice.{pick}
use Rattle.tokens.specs.Token.{Token}
use Rattle.x86.specs.Conventions.{argument_registers, argument_register, argument_count}
use Rattle.x86.specs.Width.{passes_registers}
use Rattle.x86.proofs.Written.{up_to}
use Rattle.record.specs.declared.header.Header.{Header}
use Rattle.record.specs.Layout.{bodies_of}
use Rattle.record.specs.Body.{body_at, mnemonic_of}
use Rattle.operand.specs.Memory.{register_token}
use Rattle.operand.specs.Operand.{op_tokens}
use Rattle.flow.specs.Silent.{is_skipped}
use Rattle.expressions.specs.Condition.{body_of}
use Rattle.expressions.specs.declared.arguments.PushPart.{PushPart}
use Rattle.expressions.specs.declared.arguments.PushPart.TheVariants.{Call, Push, Neither}
use Rattle.expressions.specs.Arguments.{comma_if, listed, register_arguments, is_unskipped, pushes_back, pushed, argument_tokens}

-- a comma belongs to what it stands before
pub comma_front : (b : Bool) (xs ys : List Token) → comma_if b (xs ++ ys) ≡ comma_if b xs ++ ys
comma_front true xs ys = refl
comma_front false xs ys = refl

-- the registers from k on, of n
abbrev pub registers_left : ℕ → ℕ → ℕ → List Token
registers_left convention n k = listed (ltb 0 k) (take (n - k) (drop k (argument_registers convention)))

module _ (convention mask n : ℕ) (e : n ≡ argument_count convention mask) where
  within : n ≤ length (argument_registers convention)
  unfolding argument_count
  within = rw e (up_to mask (argument_registers convention))

  take_next : (k : ℕ) → k < n → (rs : List ℕ) → k < length rs → take (n - k) (drop k rs) ≡ get_or rs k 0 ∷ take (n - (k + 1)) (drop (k + 1) rs)
  take_next k h rs f = let d : n - k ≡ suc (n - (k + 1)) = omega arith in rw (drop-cons rs k 0 f, d, add-one)

  pub nth_step : (k : ℕ) → k < n
      → registers_left convention n k ≡ comma_if (ltb 0 k) (register_token (argument_register convention k) ∷ []) ++ registers_left convention n (k + 1)
  unfolding listed argument_register
  nth_step k h =
      let w = within in
      let f : k < length (argument_registers convention) = omega arith in
      let t : ltb 0 (k + 1) ≡ true = lt-ltb 0 (k + 1) (omega arith) in
      let rest = take (n - (k + 1)) (drop (k + 1) (argument_registers convention)) in
      let front = comma_if (ltb 0 k) (register_token (get_or (argument_registers convention) k 0) ∷ []) in
      ap (listed (ltb 0 k)) (take_next k h (argument_registers convention) f)
      ∙ comma_front (ltb 0 k) (register_token (get_or (argument_registers convention) k 0) ∷ []) (listed true rest)
      ∙ ap (λ (b : Bool). front ++ listed b rest) (sym t)

  pub none_left : (k : ℕ) → n ≤ k → registers_left convention n k ≡ []
  unfolding listed
  none_left k h = let d : n - k ≡ 0 = omega arith in rw d

  pub all_left : registers_left convention n 0 ≡ register_arguments convention mask
  unfolding register_arguments
  all_left = let d : n - 0 ≡ n = omega arith in rw (d, e)

-- a call, a push or neither: x a call, y a push, k skipped
abbrev part_by : Bool → Bool → Bool → PushPart
part_by x y k = pick (x && not k) Call (pick (y && not k) Push Neither)

call_kept : (x y k : Bool) → x ≡ true → not k ≡ true → Call ≡ part_by x y k
call_kept x y k e f = rw (e, f)

push_kept : (x y k : Bool) → x ≡ false → (x || y) ≡ true → not k ≡ true → Push ≡ part_by x y k
push_kept x y k e f g = rw (e, ap (λ (z : Bool). z || y) (sym e) ∙ f, g)

skipped : (x y k : Bool) → not k ≡ false → Neither ≡ part_by x y k
skipped true true k f = rw f
skipped true false k f = rw f
skipped false true k f = rw f
skipped false false k f = refl

other : (x y k : Bool) → (x || y) ≡ false → Neither ≡ part_by x y k
other true y k f = ap (λ (b : Bool). pick b Neither (part_by true y k)) f
other false y k f = rw f

call_of : (c p : Bool) → Call ≡ pick c Call (pick p Push Neither) → c ≡ true
call_of true p e = refl
call_of false true e = cc
call_of false false e = cc

push_of : (c p : Bool) → Push ≡ pick c Call (pick p Push Neither) → (c ≡ false) × (p ≡ true)
push_of true p e = cc
push_of false true e = (refl, refl)
push_of false false e = cc

neither_of : (c p : Bool) → Neither ≡ pick c Call (pick p Push Neither) → (c ≡ false) × (p ≡ false)
neither_of true p e = cc
neither_of false true e = cc
neither_of false false e = (refl, refl)

-- the same of instruction i, by its body and mnemonic as they were read
module _ (bits frame : ℕ) (bodies b : List ℕ) (i m : ℕ) (p : b ≡ body_at bodies i) (q : m ≡ mnemonic_of b) where
  abbrev part : PushPart
  part = pick (is_unskipped bits frame bodies 23 i) Call (pick (is_unskipped bits frame bodies 21 i) Push Neither)

  part_is : (k : Bool) → k ≡ is_skipped bits frame (body_at bodies i) → part_by (eqb m 23) (eqb m 21) k ≡ part
  unfolding is_unskipped
  part_is k r = rw (r, q, p)

  pub part_other : (eqb m 23 || eqb m 21) ≡ false → Neither ≡ part
  part_other f = other (eqb m 23) (eqb m 21) (is_skipped bits frame (body_at bodies i)) f ∙ part_is (is_skipped bits frame (body_at bodies i)) refl

  module _ (b' : List ℕ) (k : Bool) (e : b' ≡ body_at bodies i) (r : k ≡ is_skipped bits frame b') where
    kept_is : part_by (eqb m 23) (eqb m 21) k ≡ part
    kept_is = part_is k (r ∙ ap (is_skipped bits frame) e)

    pub part_call : m ≡ 23 → not k ≡ true → Call ≡ part
    part_call f g = call_kept (eqb m 23) (eqb m 21) k (eq-eqb m 23 f) g ∙ kept_is

    pub part_push : (m ≡ 23 → ⊥) → (eqb m 23 || eqb m 21) ≡ true → not k ≡ true → Push ≡ part
    part_push f g l = push_kept (eqb m 23) (eqb m 21) k (ne_eqb m 23 f) g l ∙ kept_is

    pub part_skipped : not k ≡ false → Neither ≡ part
    part_skipped f = skipped (eqb m 23) (eqb m 21) k f ∙ kept_is

-- the pushes before instruction k
module _ (bits frame : ℕ) (bodies : List ℕ) (first k : ℕ) where
  back_step : first < k
      → pushes_back bits frame bodies first (k - first)
      ≡ pick (is_unskipped bits frame bodies 23 (k - 1)) []
      (pick (is_unskipped bits frame bodies 21 (k - 1)) ((k - 1) ∷ pushes_back bits frame bodies first (k - 1 - first)) (pushes_back bits frame bodies first (k - 1 - first)))
  unfolding pushes_back
  back_step h =
      let e : k - first ≡ suc (k - 1 - first) = omega arith in
      let f : first + (k - 1 - first) ≡ k - 1 = omega arith in
      rw (e, f)

  module _ (h : Header) (s : List ℕ) (comma : Bool) where
    pub back_none : k ≤ first → pushed h s comma (pushes_back bits frame bodies first (k - first)) ≡ []
    unfolding pushed pushes_back
    back_none l = let e : k - first ≡ 0 = omega arith in rw e

    -- what instruction k - 1 is to them
    abbrev Is : PushPart → Type 0
    Is w = w ≡ pick (is_unskipped bits frame bodies 23 (k - 1)) Call (pick (is_unskipped bits frame bodies 21 (k - 1)) Push Neither)

    pub back_stop : first < k → Is Call → pushed h s comma (pushes_back bits frame bodies first (k - first)) ≡ []
    unfolding pushed
    back_stop l p =
        let rest = pushes_back bits frame bodies first (k - 1 - first) in
        let none : pick (is_unskipped bits frame bodies 23 (k - 1)) [] (pick (is_unskipped bits frame bodies 21 (k - 1)) ((k - 1) ∷ rest) rest) ≡ [] =
        rw (call_of (is_unskipped bits frame bodies 23 (k - 1)) (is_unskipped bits frame bodies 21 (k - 1)) p) in
        ap (pushed h s comma) (back_step l ∙ none)

    pub back_over : first < k → Is Neither → pushed h s comma (pushes_back bits frame bodies first (k - first)) ≡ pushed h s comma (pushes_back bits frame bodies first (k - 1 - first))
    back_over l p =
        let q = neither_of (is_unskipped bits frame bodies 23 (k - 1)) (is_unskipped bits frame bodies 21 (k - 1)) p in
        ap (pushed h s comma) (back_step l ∙ rw (q.0, q.1))

    pub back_push : bodies ≡ bodies_of h s → first < k → Is Push → (b : List ℕ) → b ≡ body_at bodies (k - 1)
        → pushed h s comma (pushes_back bits frame bodies first (k - first)) ≡ comma_if comma (op_tokens h s b 0) ++ pushed h s true (pushes_back bits frame bodies first (k - 1 - first))
    unfolding pushed
    back_push e l p b t =
        let rest = pushes_back bits frame bodies first (k - 1 - first) in
        let q = push_of (is_unskipped bits frame bodies 23 (k - 1)) (is_unskipped bits frame bodies 21 (k - 1)) p in
        let front : pick (is_unskipped bits frame bodies 23 (k - 1)) [] (pick (is_unskipped bits frame bodies 21 (k - 1)) ((k - 1) ∷ rest) rest) ≡ (k - 1) ∷ rest = rw (q.0, q.1) in
        let body : body_of h s (k - 1) ≡ b = sym (t ∙ ap (λ (x : List ℕ). body_at x (k - 1)) e) in
        ap (pushed h s comma) (back_step l ∙ front) ∙ rw body (comma_front comma (op_tokens h s b 0) (pushed h s true rest))

-- which arguments, by the bits
module _ (h : Header) (s : List ℕ) (first i mask : ℕ) where
  pub by_pushes : passes_registers h.bits ≡ false → pushed h s false (pushes_back h.bits h.frame (bodies_of h s) first (i - first)) ≡ argument_tokens h s first i mask
  unfolding argument_tokens
  by_pushes e = rw e

  pub by_registers : passes_registers h.bits ≡ true → register_arguments h.convention mask ≡ argument_tokens h s first i mask
  unfolding argument_tokens
  by_registers e = rw e
