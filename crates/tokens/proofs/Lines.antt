-- Lists that begin with the listing of some lines hold these lines, joined.
-- By induction along the tokens and along the lines; a list is known by what is left of it from an index on.
use mathlib.Core.Path.{◌≡◌, refl, sym, ap, ◌∙◌}
use mathlib.Core.List.{List, [], ◌∷◌, ◌++◌, map, append_assoc}
use Prim.Native.Nat.{ℕ, suc, ◌+◌, ◌-◌}
use native.Mathlib.Nat.{add-zero}
use native.Mathlib.Numerals.{add-one}
use native.Mathlib.Omega.{arith}
use lib.ListN.{length, take, drop, get_or, length-append}
use lib.Seq.{take_at, drop_at, take-append_seam, drop-append_seam, get_or-drop, drop-drop}
use Rattle.lists.specs.Entries.{tab}
use Rattle.lists.proofs.Tabs.{tab_append, tab_length}
use Rattle.tokens.specs.Token.{Token}
use Rattle.tokens.specs.Listing.{text_of, ends_from, kinds_of, join, all, counts_from}
use Rattle.tokens.specs.Lines.{end_at, between, token_at, line_at, lines_in}

-- ---- what is left of a list
pub first : (l : List ℕ) (j a : ℕ) (r : List ℕ) → drop j l ≡ a ∷ r → get_or l j 0 ≡ a
first l j a r h = ap (λ (k : ℕ). get_or l k 0) (sym (add-zero j)) ∙ sym (get_or-drop j l 0 0) ∙ ap (λ (s : List ℕ). get_or s 0 0) h

pub behind : (l : List ℕ) (j a : ℕ) (r : List ℕ) → drop j l ≡ a ∷ r → drop (suc j) l ≡ r
behind l j a r h = ap (λ (k : ℕ). drop k l) (sym (add-one j)) ∙ sym (drop-drop 1 j l) ∙ ap (λ (s : List ℕ). drop 1 s) h

pub further : (l : List ℕ) (x : ℕ) (s r : List ℕ) → drop x l ≡ s ++ r → drop (x + length s) l ≡ r
further l x s r h = sym (drop-drop (length s) x l) ∙ ap (drop (length s)) h ∙ drop-append_seam s r

-- ---- two lists that are equal in two parts
left_part : {A : Type 0} (s t u v : List A) → length s ≡ length u → s ++ t ≡ u ++ v → s ≡ u
left_part s t u v e q = sym (take_at s t (length u) e) ∙ ap (take (length u)) q ∙ take-append_seam u v

right_part : {A : Type 0} (s t u v : List A) → length s ≡ length u → s ++ t ≡ u ++ v → t ≡ v
right_part s t u v e q = sym (drop_at s t (length u) e) ∙ ap (drop (length u)) q ∙ drop-append_seam u v

-- ---- tokens
module _ (text ends kinds : List ℕ) where
  pub tokens_back : (ts : List Token) (j x : ℕ) (u v w : List ℕ) → end_at ends j ≡ x → drop x text ≡ text_of ts ++ u → drop j ends ≡ ends_from x ts ++ v
      → drop j kinds ≡ kinds_of ts ++ w → tab (token_at text ends kinds) j (length ts) ≡ ts
  unfolding text_of ends_from kinds_of token_at
  tokens_back [] j x u v w e p q r = refl
  tokens_back (t ∷ ts) j x u v w e p q r =
      let y = x + length t.bytes in
      let p' : drop x text ≡ t.bytes ++ (text_of ts ++ u) = p ∙ append_assoc t.bytes (text_of ts) u in
      let d : y - x ≡ length t.bytes = omega arith in
      let g : get_or ends j 0 ≡ y = first ends j y (ends_from y ts ++ v) q in
      let s : between x y text ≡ t.bytes = rw (d, p', take-append_seam t.bytes (text_of ts ++ u)) in
      let h : token_at text ends kinds j ≡ t = rw (e, g, s, first kinds j t.kind (kinds_of ts ++ w) r) in
      rw (h, tokens_back ts (suc j) y u v w g (further text x t.bytes (text_of ts ++ u) p') (behind ends j y (ends_from y ts ++ v) q) (behind kinds j t.kind (kinds_of ts ++ w) r))

-- ---- lines
module _ (text ends kinds lines : List ℕ) where
  abbrev pub token_at_lem : ℕ → Token
  token_at_lem = token_at text ends kinds

  -- the first of the tokens that are left make up the line, and the others are left behind it
  pub line_first : (ts a : List Token) (i n : ℕ) → end_at lines i ≡ n → get_or lines i 0 ≡ n + length ts → tab token_at_lem n (length (ts ++ a)) ≡ ts ++ a
      → (line_at text ends kinds lines i ≡ ts) × (tab token_at_lem (n + length ts) (length a) ≡ a)
  unfolding line_at
  line_first ts a i n e g p =
      let k = length ts in
      let q : tab token_at_lem n k ++ tab token_at_lem (n + k) (length a) ≡ ts ++ a = sym (tab_append token_at_lem n k (length a)) ∙ ap (tab token_at_lem n) (sym (length-append ts a)) ∙ p in
      let c = tab_length token_at_lem n k in
      let d : n + k - n ≡ k = omega arith in
      (rw (e, g, d, left_part (tab token_at_lem n k) (tab token_at_lem (n + k) (length a)) ts a c q), right_part (tab token_at_lem n k) (tab token_at_lem (n + k) (length a)) ts a c q)

  lines_left : (ls : List (List Token)) (i n : ℕ) (u : List ℕ) → end_at lines i ≡ n → tab token_at_lem n (length (all ls)) ≡ all ls
      → drop i lines ≡ counts_from n ls ++ u → tab (line_at text ends kinds lines) i (length ls) ≡ map join ls
  unfolding all counts_from
  lines_left [] i n u e p q = refl
  lines_left (l ∷ ls) i n u e p q =
      let k = length (join l) in
      let g : get_or lines i 0 ≡ n + k = first lines i (n + k) (counts_from (n + k) ls ++ u) q in
      let h = line_first (join l) (all ls) i n e g p in
      rw (h.0, lines_left ls (suc i) (n + k) u g h.1 (behind lines i (n + k) (counts_from (n + k) ls ++ u) q))

pub lines_back : (ls : List (List Token)) (u v w y : List ℕ)
    → lines_in (text_of (all ls) ++ u) (ends_from 0 (all ls) ++ v) (kinds_of (all ls) ++ w) (counts_from 0 ls ++ y) (length ls) ≡ map join ls
unfolding lines_in
lines_back ls u v w y =
    let ts = all ls in
    lines_left (text_of ts ++ u) (ends_from 0 ts ++ v) (kinds_of ts ++ w) (counts_from 0 ls ++ y) ls 0 0 y refl
    (tokens_back (text_of ts ++ u) (ends_from 0 ts ++ v) (kinds_of ts ++ w) ts 0 0 u v w refl refl refl refl) refl
