-- Lists that hold rows are the lists of these rows.
-- Ends that rise cut the text into tokens and the tokens into rows; each list by induction on how many entries there are.
use mathlib.Core.Path.{◌≡◌, refl, sym, ap, ◌∙◌}
use mathlib.Core.Bool.{true, ◌&&◌, ◌||◌}
use mathlib.Core.List.{List, ◌∷◌, ◌++◌, map}
use mathlib.Core.Logic.{⊎_elim}
use Prim.Native.Nat.{ℕ, zero, suc, ◌+◌, ◌-◌, ◌≤◌, ◌<◌}
use native.Mathlib.Nat.{add-zero, zero-add}
use native.Mathlib.Omega.{arith}
use lib.Dec.{eqb, ltb, leb}
use lib.ListN.{length, take, drop, get_or, length-take, length-drop}
use lib.Seq.{drop-cons, drop-drop, take-add}
use borrow.Author.Tests.{eqb-true, ltb-true, leb-true, leb-false}
use Rattle.lists.specs.Choice.{pick, all_below}
use Rattle.lists.specs.Every.{both_yes}
use Rattle.lists.specs.Below.{all_at}
use Rattle.lists.specs.Entries.{tab}
use Rattle.tokens.specs.Token.{Token}
use Rattle.tokens.specs.Listing.{text_of, ends_from, kinds_of}
use Rattle.tokens.specs.Lines.{end_at, between, token_at, tokens_between, line_at}
use Rattle.lists.proofs.Tabs.{tab_append, tab_length}
use Rattle.tokens.proofs.ListingLaws.{cases}
use Rattle.rows.specs.Lists.{Lists, lists_of}
use Rattle.rows.specs.Rows.{Row, is_addressed, indent_of, row_at, rows_in, all_tokens, token_counts, mark_of, row_lists, token_held, row_held, sizes_within, holds_rows}

-- what `sizesWithin` and `holdsRows` say
pub record Within (l : Lists) (x n m : ℕ) : Type 0 where
  pub text : x ≤ length l.text
  pub ends : n ≤ length l.ends
  pub kinds : n ≤ length l.kinds
  pub addresses : m ≤ length l.addresses
  pub marks : m ≤ length l.marks
  pub places : m ≤ length l.places
  pub lines : m ≤ length l.lines

pub record Held (l : Lists) (x n m : ℕ) : Type 0 where
  pub room : Within l x n m
  pub text_end : end_at l.ends n ≡ x
  pub token_end : end_at l.lines m ≡ n
  pub tokens : (j : ℕ) → j < n → token_held l j ≡ true
  pub rows : (i : ℕ) → i < m → row_held l i ≡ true

pub within : (l : Lists) (x n m : ℕ) → sizes_within l x n m ≡ true → Within l x n m
unfolding sizes_within
within l x n m h =
    let a = leb x (length l.text) in
    let b = leb n (length l.ends) in
    let c = leb n (length l.kinds) in
    let d = leb m (length l.addresses) in
    let e = leb m (length l.marks) in
    let f = leb m (length l.places) in
    let g = leb m (length l.lines) in
    let h1 = both_yes (a && b && c && d && e && f) g h in
    let h2 = both_yes (a && b && c && d && e) f h1.0 in
    let h3 = both_yes (a && b && c && d) e h2.0 in
    let h4 = both_yes (a && b && c) d h3.0 in
    let h5 = both_yes (a && b) c h4.0 in
    let h6 = both_yes a b h5.0 in
    record {
      text = leb-true x (length l.text) h6.0;
      ends = leb-true n (length l.ends) h6.1;
      kinds = leb-true n (length l.kinds) h5.1;
      addresses = leb-true m (length l.addresses) h4.1;
      marks = leb-true m (length l.marks) h3.1;
      places = leb-true m (length l.places) h2.1;
      lines = leb-true m (length l.lines) h1.1;
    }

pub held : (l : Lists) (x n m : ℕ) → holds_rows l x n m ≡ true → Held l x n m
unfolding holds_rows
held l x n m h =
    let a = sizes_within l x n m in
    let b = eqb (end_at l.ends n) x in
    let c = eqb (end_at l.lines m) n in
    let d = all_below (token_held l) n in
    let h1 = both_yes (a && b && c && d) (all_below (row_held l) m) h in
    let h2 = both_yes (a && b && c) d h1.0 in
    let h3 = both_yes (a && b) c h2.0 in
    let h4 = both_yes a b h3.0 in
    record {
      room = within l x n m h4.0;
      text_end = eqb-true (end_at l.ends n) x h4.1;
      token_end = eqb-true (end_at l.lines m) n h3.1;
      tokens = λ j k. all_at (token_held l) n j h2.1 k;
      rows = λ i k. all_at (row_held l) m i h1.1 k;
    }

-- ends that rise, over some steps
climb : (es : List ℕ) (n k j : ℕ) → ((i : ℕ) → i < n → end_at es i < end_at es (suc i)) → j + k ≤ n → end_at es j + k ≤ end_at es (j + k)
climb es n zero j r h = rw (add-zero j) (omega arith)
climb es n (suc k) j r h =
    let e : suc j + k ≡ j + suc k = omega arith in
    omega (arith, r j (omega arith), rw e at (climb es n k (suc j) r (omega arith)))

-- ---- parts of a list
pub between_length : (s : List ℕ) (x y : ℕ) → x ≤ y → y ≤ length s → length (between x y s) ≡ y - x
between_length s x y a b = rw (length-take, length-drop) (omega arith)

between_both : (s : List ℕ) (x y z : ℕ) → x ≤ y → y ≤ z → between x y s ++ between y z s ≡ between x z s
between_both s x y z a b =
    let d : z - x ≡ (y - x) + (z - y) = omega arith in
    let e : x + (y - x) ≡ y = omega arith in
    rw (d, take-add (y - x) (z - y) (drop x s), drop-drop (y - x) x s, e)

-- a number of each entry, where it is an entry of a list
map_tab : {A : Type 0} (g : A → ℕ) (f : ℕ → A) (s : List ℕ) (k i : ℕ) → i + k ≤ length s → ((j : ℕ) → j < i + k → g (f j) ≡ get_or s j 0)
    → map g (tab f i k) ≡ take k (drop i s)
map_tab g f s zero i h e = refl
map_tab g f s (suc k) i h e =
    rw (e i (omega arith), drop-cons s i 0 (omega arith)) (ap (λ (t : List ℕ). get_or s i 0 ∷ t) (map_tab g f s k (suc i) (omega arith) (λ j q. e j (omega arith))))

-- a mark below 512 is that of its address bit and its indent
mark_again : (mark : ℕ) → mark < 512 → pick (is_addressed mark) (indent_of mark + 256) (indent_of mark) ≡ mark
mark_again mark h =
    ⊎_elim (λ e. let p = leb-true 256 mark e in rw e (omega arith)) (λ e. let p = leb-false 256 mark e in rw e (omega arith)) (cases (leb 256 mark))

-- what `rowHeld` says
pub record RowHeld (l : Lists) (i : ℕ) : Type 0 where
  pub rise : end_at l.lines i < end_at l.lines (suc i)
  pub mark : get_or l.marks i 0 < 512
  pub indent : indent_of (get_or l.marks i 0) ≤ 254
  pub address : (is_addressed (get_or l.marks i 0) || eqb (get_or l.addresses i 0) 0) ≡ true

module _ (l : Lists) (x n m : ℕ) (h : Held l x n m) where
  pub row_held_lem : (i : ℕ) → i < m → RowHeld l i
  unfolding row_held
  row_held_lem i k =
      let mark = get_or l.marks i 0 in
      let a = ltb (end_at l.lines i) (end_at l.lines (suc i)) in
      let d = is_addressed mark || eqb (get_or l.addresses i 0) 0 in
      let h1 = both_yes (a && ltb mark 512 && leb (indent_of mark) 254) d (h.rows i k) in
      let h2 = both_yes (a && ltb mark 512) (leb (indent_of mark) 254) h1.0 in
      let h3 = both_yes a (ltb mark 512) h2.0 in
      record {
        rise = ltb-true (end_at l.lines i) (end_at l.lines (suc i)) h3.0;
        mark = ltb-true mark 512 h3.1;
        indent = leb-true (indent_of mark) 254 h2.1;
        address = h1.1;
      }

  pub kind_held : (j : ℕ) → j < n → ltb (get_or l.kinds j 0) 8 ≡ true
  unfolding token_held
  kind_held j k = (both_yes (ltb (end_at l.ends j) (end_at l.ends (suc j))) (ltb (get_or l.kinds j 0) 8) (h.tokens j k)).1

  pub token_rise : (j : ℕ) → j < n → end_at l.ends j < end_at l.ends (suc j)
  unfolding token_held
  token_rise j k =
      ltb-true (end_at l.ends j) (end_at l.ends (suc j)) (both_yes (ltb (end_at l.ends j) (end_at l.ends (suc j))) (ltb (get_or l.kinds j 0) 8) (h.tokens j k)).0

  row_rise : (i : ℕ) → i < m → end_at l.lines i < end_at l.lines (suc i)
  row_rise i k = (row_held_lem i k).rise

  -- no token ends past the text, no row past the tokens, and each row has a token
  pub token_inside : (j : ℕ) → j ≤ n → end_at l.ends j ≤ length l.text
  token_inside j k =
      let e : j + (n - j) ≡ n = omega arith in
      omega (arith, rw e at (climb l.ends n (n - j) j token_rise (omega arith)), h.text_end, h.room.text)

  pub row_inside : (i : ℕ) → i ≤ m → end_at l.lines i ≤ n
  row_inside i k = let e : i + (m - i) ≡ m = omega arith in omega (arith, rw e at (climb l.lines m (m - i) i row_rise (omega arith)), h.token_end)

  pub few_rows : m ≤ n
  few_rows = omega (arith, rw zero-add at (climb l.lines m m 0 row_rise (omega arith)), h.token_end)

  pub few_tokens : n ≤ x
  few_tokens = omega (arith, rw zero-add at (climb l.ends n n 0 token_rise (omega arith)), h.text_end)

  -- no row's text ends before the row above
  pub text_rise : (i : ℕ) → i < m → end_at l.ends (end_at l.lines i) ≤ end_at l.ends (end_at l.lines (suc i))
  text_rise i k =
      let a = end_at l.lines i in
      let b = end_at l.lines (suc i) in
      let r : a < b = row_rise i k in
      let e : a + (b - a) ≡ b = omega arith in
      omega (arith, rw e at (climb l.ends n (b - a) a token_rise (omega (arith, row_inside (suc i) k))))

  -- ---- tokens
  abbrev token_at_lem : ℕ → Token
  token_at_lem = token_at l.text l.ends l.kinds

  text_tab : (k j : ℕ) → j + k ≤ n → text_of (tab token_at_lem j k) ≡ between (end_at l.ends j) (end_at l.ends (j + k)) l.text
  unfolding text_of token_at
  text_tab zero j q = let e : end_at l.ends j - end_at l.ends j ≡ 0 = omega arith in rw (add-zero, e)
  text_tab (suc k) j q =
      let e : suc j + k ≡ j + suc k = omega arith in
      rw (text_tab k (suc j) (omega arith), e)
      (between_both l.text (end_at l.ends j) (end_at l.ends (suc j)) (end_at l.ends (j + suc k)) (omega (arith, token_rise j (omega arith)))
      (omega (arith, rw e at (climb l.ends n k (suc j) token_rise (omega arith)))))

  ends_tab : (k j : ℕ) → j + k ≤ n → ends_from (end_at l.ends j) (tab token_at_lem j k) ≡ take k (drop j l.ends)
  unfolding ends_from token_at
  ends_tab zero j q = refl
  ends_tab (suc k) j q =
      let a = end_at l.ends j in
      let r = token_rise j (omega arith) in
      let e : a + length (between a (get_or l.ends j 0) l.text) ≡ get_or l.ends j 0 =
      omega (arith, r, between_length l.text a (get_or l.ends j 0) (omega (arith, r)) (token_inside (suc j) (omega arith))) in
      rw (e, drop-cons l.ends j 0 (omega (arith, h.room.ends)), ends_tab k (suc j) (omega arith))

  kinds_tab : (k j : ℕ) → j + k ≤ n → kinds_of (tab token_at_lem j k) ≡ take k (drop j l.kinds)
  unfolding kinds_of token_at
  kinds_tab zero j q = refl
  kinds_tab (suc k) j q = rw (drop-cons l.kinds j 0 (omega (arith, h.room.kinds)), kinds_tab k (suc j) (omega arith))

  -- ---- rows
  tokens_tab : (k i : ℕ) → i + k ≤ m → all_tokens (tab (row_at l) i k) ≡ tokens_between l.text l.ends l.kinds (end_at l.lines i) (end_at l.lines (i + k))
  unfolding all_tokens row_at line_at
  tokens_tab zero i q = let e : end_at l.lines i - end_at l.lines i ≡ 0 = omega arith in rw (add-zero, e)
  tokens_tab (suc k) i q =
      let e : suc i + k ≡ i + suc k = omega arith in
      let a = end_at l.lines i in
      let b = end_at l.lines (suc i) in
      let c = end_at l.lines (i + suc k) in
      let ab : a < b = row_rise i (omega arith) in
      let bc : b ≤ c = omega (arith, rw e at (climb l.lines m k (suc i) row_rise (omega arith))) in
      let d : c - a ≡ (b - a) + (c - b) = omega arith in
      let g : a + (b - a) ≡ b = omega arith in
      rw (tokens_tab k (suc i) (omega arith), e) (sym (ap (tab token_at_lem a) d ∙ tab_append token_at_lem a (b - a) (c - b) ∙ rw g))

  counts_tab : (k i : ℕ) → i + k ≤ m → token_counts (end_at l.lines i) (tab (row_at l) i k) ≡ take k (drop i l.lines)
  unfolding token_counts row_at line_at
  counts_tab zero i q = refl
  counts_tab (suc k) i q =
      let a = end_at l.lines i in
      let b = get_or l.lines i 0 in
      let e : a + length (tab token_at_lem a (b - a)) ≡ b = omega (arith, tab_length token_at_lem a (b - a), row_rise i (omega arith)) in
      rw (e, drop-cons l.lines i 0 (omega (arith, h.room.lines)), counts_tab k (suc i) (omega arith))

  -- the tokens of all rows, and their text
  pub tokens_held : all_tokens (rows_in l m) ≡ tab token_at_lem 0 n
  unfolding rows_in
  tokens_held = let d : n - 0 ≡ n = omega arith in tokens_tab m 0 (omega arith) ∙ rw (zero-add, h.token_end, d)

  pub text_held : text_of (all_tokens (rows_in l m)) ≡ take x l.text
  text_held = let d : x - 0 ≡ x = omega arith in rw tokens_held (text_tab n 0 (omega arith) ∙ rw (zero-add, h.text_end, d))

  marks_tab : map mark_of (rows_in l m) ≡ take m l.marks
  unfolding rows_in row_at
  marks_tab = map_tab mark_of (row_at l) l.marks m 0 (omega (arith, h.room.marks)) (λ j q. mark_again (get_or l.marks j 0) (row_held_lem j (omega arith)).mark)

  addresses_tab : map (λ (r : Row). r.address) (rows_in l m) ≡ take m l.addresses
  unfolding rows_in row_at
  addresses_tab = map_tab (λ (r : Row). r.address) (row_at l) l.addresses m 0 (omega (arith, h.room.addresses)) (λ j q. refl)

  places_tab : map (λ (r : Row). r.place) (rows_in l m) ≡ take m l.places
  unfolding rows_in row_at
  places_tab = map_tab (λ (r : Row). r.place) (row_at l) l.places m 0 (omega (arith, h.room.places)) (λ j q. refl)

  ends_held : ends_from 0 (all_tokens (rows_in l m)) ≡ take n l.ends
  ends_held = rw tokens_held (ends_tab n 0 (omega arith))

  kinds_held : kinds_of (all_tokens (rows_in l m)) ≡ take n l.kinds
  kinds_held = rw tokens_held (kinds_tab n 0 (omega arith))

  lines_held : token_counts 0 (rows_in l m) ≡ take m l.lines
  unfolding rows_in
  lines_held = counts_tab m 0 (omega arith)

  -- the lists of the rows that are held are the lists' first entries
  pub lists_held : row_lists (rows_in l m)
      ≡ lists_of (take x l.text) (take n l.ends) (take n l.kinds) (take m l.addresses) (take m l.marks) (take m l.places) (take m l.lines)
  unfolding row_lists
  lists_held = rw (text_held, ends_held, kinds_held, addresses_tab, marks_tab, places_tab, lines_held)
