-- What `piece_tokens` answers and leaves is what its definition says.
-- By what is asked for, whether the record and the instruction are accepted, and whether the lists have room; a piece has few tokens.
use mathlib.Core.Path.{◌≡◌, sym, ap, subst, ◌∙◌}
use mathlib.Core.Bool.{Bool, true, false, ◌&&◌}
use mathlib.Core.List.{List, [], ◌∷◌}
use Prim.Native.Nat.{ℕ, ◌+◌, ◌-◌, ◌*◌, ◌^◌, ◌≤◌, ◌<◌}
use native.Mathlib.Omega.{arith}
use borrow.Author.Tests.{le-leb, lt-leb, lt-ltb, le-ltb, eqb-true, leb-true}
use lib.Dec.{eqb, leb, ltb}
use lib.IntN.{nat_abs}
use lib.ListN.{length, take}
use Rattle.lists.specs.Choice.{pick}
use Rattle.lists.specs.Every.{both_yes}
use Rattle.tokens.specs.Token.{Token}
use Rattle.tokens.specs.Listing.{all, listing, bytes_of, pushes_of}
use Rattle.tokens.proofs.ListingLaws.{all_bytes, all_count, ends_length, kinds_as_ends, lines_length}
use Rattle.codes.specs.Code.{all_in_table, decode}
use Rattle.codes.specs.Coded.{bytes_in, tokens_in, count_in, codes_in, Coded, Started, Ended}
use Rattle.codes.proofs.CodedLines.{line_coded, count_few, read_back, within_back, started_line}
use Rattle.writer.specs.Written.{page, start, Listed, Ready}
use Rattle.writer.specs.declared.write.Cursor.{Cursor}
use Rattle.record.specs.declared.header.Header.{Header}
use Rattle.record.specs.Header.{header_of}
use Rattle.operand.proofs.Accepted.{accepted_rising}
use Rattle.operand.proofs.Bounds.{AllBytes, Within, more, mem_within}
use Rattle.operand.proofs.Choices.{either}
use Rattle.operand.specs.Lent.{Rising}
use Rattle.operand.specs.Memory.{mem_tokens}
use Rattle.operand.specs.Operand.{op_tokens}
use Rattle.expressions.specs.Condition.{body_of, condition_tokens}
use Rattle.expressions.proofs.Bounds.{body_bytes, operand_within, condition_within}
use Rattle.comparison.specs.Pieces.{Answer, answer, chosen_tokens, line_answer, has_room, is_listed, exported, LineCoded}

module _ (h : Header) (s : List ℕ) (first i what : ℕ) where
  pub chosen_condition : 16 ≤ what → condition_tokens h s first i (what - 16) ≡ chosen_tokens h s first i what
  unfolding chosen_tokens
  chosen_condition l = rw (le-leb 16 what l)

  module _ (b : List ℕ) (q : b ≡ body_of h s i) (n : what < 16) where
    pub chosen_operand : what < 5 → op_tokens h s b what ≡ chosen_tokens h s first i what
    unfolding chosen_tokens
    chosen_operand l = rw (lt-leb 16 what n, lt-ltb what 5 l, ← q)

    pub chosen_memory : 5 ≤ what → mem_tokens h s (eqb what 5) b ≡ chosen_tokens h s first i what
    unfolding chosen_tokens
    chosen_memory l = rw (lt-leb 16 what n, le-ltb what 5 l, ← q)

pub chosen_within : (h : Header) (s : List ℕ) → AllBytes s → nat_abs h.shift ≤ 2 ^ 31 → (first i what : ℕ) → Within 40 1002 (chosen_tokens h s first i what)
unfolding chosen_tokens
chosen_within h s ss shift first i what =
    either (Within 40 1002) (leb 16 what) _ _ (condition_within h s ss shift first i (what - 16))
    (either (Within 40 1002) (ltb what 5) _ _ (more 40 1002 (operand_within h s ss shift i what) (omega arith) (omega arith))
    (more 40 1002 (mem_within h s (body_of h s i) ss (body_bytes h s ss i) shift (eqb what 5)) (omega arith) (omega arith)))

pub piece_coded : (t s c c₁ c₂ : List ℕ) (ts : List Token) → Started c → Coded t s c c₁ ts → Ended c₁ c₂ → length c₂ ≡ length c → 86 ≤ length c → Within 40 1002 ts
    → LineCoded t s c₂ ts
unfolding listing bytes_of pushes_of
piece_coded t s c c₁ c₂ ts a f e same room w =
    let ls = ts ∷ [] in
    let L = line_coded t s (started_line a) f e in
    let n = count_few t s c c₂ ls a L (omega (arith, w.few)) in
    let x = all_bytes ls in
    let y = ends_length 0 (all ls) in
    let z = all_count ls in
    let fits : 5 + count_in c₂ ≤ length c = omega (arith, n, w.few, room) in
    record {
      bytes = omega (arith, L.bytes, a.no_bytes, x, w.short);
      tokens = omega (arith, L.tokens, a.no_tokens, y, z, w.few);
      short = omega (arith, L.bytes, a.no_bytes, w.short);
      few = omega (arith, L.tokens, a.no_tokens, z, w.few);
      room = omega (arith, n, w.few, room, same);
      codes = read_back t s c c₂ ls a L (omega (arith, w.few)) fits;
      within = within_back t s c c₂ ls a L (omega (arith, w.few)) fits;
    }

-- the lists x, e and k, and what the codes tell of the tokens
module _ (t s c : List ℕ) (ts : List Token) (x e k : List ℕ) (p : LineCoded t s c ts) where
  asked : (leb (bytes_in c) (length x) && leb (tokens_in c) (length e) && leb (tokens_in c) (length k)) ≡ has_room ts x e k
  unfolding has_room
  asked = rw (p.bytes, p.tokens)

  pub no_room : (leb (bytes_in c) (length x) && leb (tokens_in c) (length e) && leb (tokens_in c) (length k)) ≡ false
      → answer x e k 0 ≡ pick (has_room ts x e k) (line_answer ts x e k) (answer x e k 0)
  no_room h = rw (sym asked ∙ h)

  module _ (h : (leb (bytes_in c) (length x) && leb (tokens_in c) (length e) && leb (tokens_in c) (length k)) ≡ true) where
    pub piece_ready : (d : List ℕ) (n : ℕ) → d ≡ take (count_in c) (codes_in c) → 1 ≤ n → Ready t s d (length x) (length e) (length k) n
    piece_ready d n q one =
        let X = leb (bytes_in c) (length x) in
        let E = leb (tokens_in c) (length e) in
        let K = leb (tokens_in c) (length k) in
        let u = both_yes (X && E) K h in
        let v = both_yes X E u.0 in
        let kinds = kinds_as_ends (ts ∷ []) in
        let lines = lines_length (ts ∷ []) in
        record {
          of = ts ∷ [];
          codes = ap (decode t s) q ∙ p.codes;
          within = ap (all_in_table (length t)) q ∙ p.within;
          text = omega (arith, leb-true (bytes_in c) (length x) v.0, p.bytes);
          ends = omega (arith, leb-true (tokens_in c) (length e) v.1, p.tokens);
          kinds = omega (arith, leb-true (tokens_in c) (length k) u.1, p.tokens, kinds);
          lines = omega (arith, lines, one);
          small_text = omega (arith, p.bytes, p.short);
          small_tokens = omega (arith, p.tokens, p.few);
        }

    pub piece_written : (x' e' k' l l' : List ℕ) (r : Cursor) → Listed (ts ∷ []) (page x e k l start) (page x' e' k' l' r)
        → answer x' e' k' (bytes_in c * 4294967296 + tokens_in c) ≡ pick (has_room ts x e k) (line_answer ts x e k) (answer x e k 0)
    unfolding line_answer
    piece_written x' e' k' l l' r w = rw (sym asked ∙ h, w.text, w.ends, w.kinds, p.bytes, p.tokens)

module _ (h : Header) (s : List ℕ) (i : ℕ) (a : h ≡ header_of s) (b : Bool) (q : b ≡ is_listed s i) where
  pub listed_rising : b ≡ true → Rising h s
  unfolding is_listed
  listed_rising e = rw a (accepted_rising s 0 (header_of s).blocks (eqb-true _ _ (both_yes _ _ (sym q ∙ e)).0))

  module _ (t e k : List ℕ) (first what : ℕ) where
    pub written : (A : Answer) → b ≡ true
        → A ≡ pick (has_room (chosen_tokens h s first i what) t e k) (line_answer (chosen_tokens h s first i what) t e k) (answer t e k 0)
        → A ≡ exported s first i what t e k
    unfolding exported
    written A y x = rw (sym q ∙ y, ← a) x

    pub refused : b ≡ false → answer t e k 0 ≡ exported s first i what t e k
    unfolding exported
    refused y = rw (sym q ∙ y)

-- coded by a table, and by the same table
pub by_table : {t u s c : List ℕ} {ts : List Token} → t ≡ u → LineCoded u s c ts → LineCoded t s c ts
by_table {s = s} {c = c} {ts = ts} e p = subst (λ (t : List ℕ). LineCoded t s c ts) (sym e) p
