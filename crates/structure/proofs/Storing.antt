-- Stores of a plan's numbers, one after the other: what a writer left, and what is still to be stored.
-- Two runs, one after the other, are one; a loop's invariant is that storing what is left gives the whole.
use mathlib.Core.Path.{◌≡◌, refl, sym, ap, ◌∙◌}
use mathlib.Core.List.{List, [], ◌∷◌, ◌++◌}
use Prim.Native.Nat.{ℕ, ◌+◌}
use native.Mathlib.Omega.{arith}
use lib.ListN.{length, set, length-append}
use Rattle.lists.specs.Put.{put}
use Rattle.lists.specs.PutLaws.{put_append, put_none, put_length}
use Rattle.structure.specs.Stored.{Room, Stored}

pub stored_none : (l : List ℕ) (at : ℕ) → Stored l at [] at l
stored_none l at = record { next = omega arith; list = sym (put_none at l) }

pub stored_one : (l : List ℕ) (at v : ℕ) → Stored l at (v ∷ []) (at + 1) (set l at v)
unfolding put
stored_one l at v = record { next = refl; list = refl }

pub stored_then : {l l' l'' : List ℕ} {at r r' : ℕ} {xs ys : List ℕ} → Stored l at xs r l' → Stored l' r ys r' l'' → Stored l at (xs ++ ys) r' l''
stored_then {l} {l'} {l''} {at} {r} {r'} {xs} {ys} a b = record {
  next = simp length-append (omega arith);
  list = b.list ∙ ap (λ (k : List ℕ). put r ys k) a.list ∙ ap (λ (k : ℕ). put k ys (put at xs l)) a.next ∙ sym (put_append at xs ys l);
}

-- vs is xs and then ys. A record, so that both are seen in its type: under `++` alone antt does not find them
pub record Splits (vs xs ys : List ℕ) : Type 0 where
  pub is : vs ≡ xs ++ ys

pub record Left (l₀ : List ℕ) (at₀ : ℕ) (vs₀ l : List ℕ) (at : ℕ) (vs : List ℕ) : Type 0 where
  pub ends : at + length vs ≡ at₀ + length vs₀
  pub list : put at vs l ≡ put at₀ vs₀ l₀

pub left_all : (l : List ℕ) (at : ℕ) (vs : List ℕ) → Left l at vs l at vs
left_all l at vs = record { ends = refl; list = refl }

pub left_step : {l₀ : List ℕ} {at₀ : ℕ} {vs₀ l : List ℕ} {at : ℕ} {vs : List ℕ} {l' : List ℕ} {r : ℕ} {xs ys : List ℕ}
    → Left l₀ at₀ vs₀ l at vs → Splits vs xs ys → Stored l at xs r l' → Left l₀ at₀ vs₀ l' r ys
left_step {l₀} {at₀} {vs₀} {l} {at} {vs} {l'} {r} {xs} {ys} a e s = record {
  ends = omega (arith, a.ends, s.next, ap length e.is, length-append xs ys);
  list = ap (λ (k : List ℕ). put r ys k) s.list ∙ ap (λ (k : ℕ). put k ys (put at xs l)) s.next ∙ sym (put_append at xs ys l) ∙ ap (λ (k : List ℕ). put at k l) (sym e.is) ∙ a.list;
}

pub left_done : {l₀ : List ℕ} {at₀ : ℕ} {vs₀ l : List ℕ} {at : ℕ} {vs : List ℕ} → Left l₀ at₀ vs₀ l at vs → vs ≡ [] → Stored l₀ at₀ vs₀ at l
left_done {l₀} {at₀} {vs₀} {l} {at} {vs} a e = record {
  next = omega (arith, a.ends, ap length e);
  list = sym (put_none at l) ∙ ap (λ (k : List ℕ). put at k l) (sym e) ∙ a.list;
}

-- what is left has room, and so has its first part
pub left_part : {l₀ : List ℕ} {at₀ : ℕ} {vs₀ l : List ℕ} {at : ℕ} {vs xs ys : List ℕ} → Left l₀ at₀ vs₀ l at vs → Room at₀ vs₀ → Splits vs xs ys → Room at xs
left_part {xs = xs} {ys = ys} a h e = record { fits = omega (arith, a.ends, ap length e.is, length-append xs ys) }

pub left_length : {l₀ : List ℕ} {at₀ : ℕ} {vs₀ l : List ℕ} {at : ℕ} {vs : List ℕ} → Left l₀ at₀ vs₀ l at vs → length l ≡ length l₀
left_length {l₀} {at₀} {vs₀} {l} {at} {vs} a = sym (put_length at vs l) ∙ ap length a.list ∙ put_length at₀ vs₀ l₀

pub stored_length : {l : List ℕ} {at : ℕ} {vs : List ℕ} {r : ℕ} {l' : List ℕ} → Stored l at vs r l' → length l' ≡ length l
stored_length {l} {at} {vs} {r} {l'} s = ap length s.list ∙ put_length at vs l

-- one entry has as much room as another
pub room_one : {at v w : ℕ} → Room at (v ∷ []) → Room at (w ∷ [])
room_one h = record { fits = h.fits }

-- ---- writers of parts, one after the other

-- vs is xs, then ys, then zs
pub record Three (vs xs ys zs : List ℕ) : Type 0 where
  pub is : vs ≡ xs ++ (ys ++ zs)

module _ {vs xs ys zs : List ℕ} (e : Three vs xs ys zs) where
  lengths : length vs ≡ length xs + (length ys + length zs)
  lengths = ap length e.is ∙ simp length-append

  pub room_first : {at : ℕ} → Room at vs → Room at xs
  room_first h = record { fits = omega (arith, lengths) }

  pub room_second : {l l' : List ℕ} {at r : ℕ} → Stored l at xs r l' → Room at vs → Room r ys
  room_second a h = record { fits = omega (arith, lengths, a.next) }

  pub room_third : {l l' l'' : List ℕ} {at r r' : ℕ} → Stored l at xs r l' → Stored l' r ys r' l'' → Room at vs → Room r' zs
  room_third a b h = record { fits = omega (arith, lengths, a.next, b.next) }

  pub stored_three : {l l' l'' l''' : List ℕ} {at r r' r'' : ℕ} → Stored l at xs r l' → Stored l' r ys r' l'' → Stored l'' r' zs r'' l''' → Stored l at vs r'' l'''
  stored_three a b c = rw e.is (stored_then a (stored_then b c))
