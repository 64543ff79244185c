-- The call `write_rows`: a refusal with 16 or 12, and the file.
-- By the questions in turn; what is stored from the start on, where it fits, is the file and what lay past it.
use mathlib.Core.Path.{◌≡◌, sym, ap, subst, ◌∙◌}
use mathlib.Core.Bool.{true, false, false≢true}
use mathlib.Core.List.{List}
use Prim.Native.Nat.{ℕ, zero, suc, ◌-◌, ◌^◌, ◌≤◌, ◌<◌}
use native.Mathlib.Nat.{zero-add}
use native.Mathlib.Omega.{arith}
use lib.ListN.{length, get_or, drop, length-take}
use lib.Seq.{take-append_seam}
use borrow.Author.Tests.{le-leb, lt-leb}
use Rattle.lists.specs.Put.{put}
use Rattle.lists.specs.PutLaws.{put_fits}
use Rattle.tokens.specs.Listing.{text_of}
use Rattle.tokens.specs.Lines.{end_at, token_at}
use Rattle.lists.proofs.Tabs.{tab_length}
use Rattle.rows.specs.Lists.{Lists, cut, NumbersFit, over, sizes_of, rooms_of, room_no, Leaves}
use Rattle.rows.specs.Rows.{rows_in, all_tokens, holds_rows}
use Rattle.rows.specs.declared.answer.Sizes.{Sizes}
use Rattle.rows.proofs.Held.{Held, held, few_rows, tokens_held, text_held, lists_held}
use Rattle.csv_rows.specs.Format.{rows_text}
use Rattle.csv_rows.specs.Called.{writable, Reads, file, write_no, Writes}
use Rattle.csv_rows.specs.Writing.{file_size, rows_from}
use Rattle.std.specs.Prelude.{Ok, Err}
use Rattle.std.specs.declared.result.Result.{Result}
use Rattle.lists.specs.declared.question.Question.{Question}
use Rattle.lists.specs.declared.question.Question.TheVariants.{TextRoom, Rows}
use Rattle.csv_rows.proofs.FileSize.{file_size_lem}
use Rattle.csv_rows.proofs.FileBound.{file_bound}
use Rattle.csv_rows.proofs.Good.{rows_good}

-- an entry of 32 bits, or 0 before the first
end_small : (es : List ℕ) (j : ℕ) → ((i : ℕ) → get_or es i 0 < 2 ^ 32) → end_at es j < 2 ^ 32
end_small es zero h = omega arith
end_small es (suc j) h = h j

rows_from_start : (l : Lists) (m : ℕ) → rows_from l m 0 ≡ rows_text (rows_in l m)
unfolding rows_from rows_in
rows_from_start l m = let d : m - 0 ≡ m = omega arith in rw d

module _ (l : Lists) (z : Sizes) (out : List ℕ) where
  no_rows : false ≡ holds_rows l z.text z.tokens z.lines → write_no l z (length out) ≡ 16
  unfolding write_no
  no_rows h = rw (← h)

  pub refused : false ≡ holds_rows l z.text z.tokens z.lines → Writes l z out out (Err Rows)
  refused h =
      let e = no_rows h in
      record { answer = e; bytes = rw e; rows = λ q. absurd (omega arith); same = λ q. absurd (omega arith); back = λ q. absurd (omega arith); short = λ q. absurd (false≢true (h ∙ q)) }

  module _ (h : true ≡ holds_rows l z.text z.tokens z.lines) where
    is_held : Held l z.text z.tokens z.lines
    is_held = held l z.text z.tokens z.lines (sym h)

    -- text, tokens and rows are counted in 32 bits
    pub few : NumbersFit l → (z.text < 2 ^ 32) × (z.tokens < 2 ^ 32) × (z.lines < 2 ^ 32)
    few w =
        let a : end_at l.ends z.tokens < 2 ^ 32 = end_small l.ends z.tokens w.ends in
        let b : end_at l.lines z.lines < 2 ^ 32 = end_small l.lines z.lines w.lines in
        let c = is_held.text_end in
        let d = is_held.token_end in
        let f = few_rows l z.text z.tokens z.lines is_held in
        (omega (arith, a, c), omega (arith, b, d), omega (arith, b, d, f))

    -- the rows are such as reading accepts
    module _ (w : NumbersFit l) where
      text_few : length (text_of (all_tokens (rows_in l z.lines))) ≤ 4294967295
      text_few = omega (arith, ap length (text_held l z.text z.tokens z.lines is_held), length-take z.text l.text, (few w).0)

      tokens_few : length (all_tokens (rows_in l z.lines)) ≤ 4294967295
      tokens_few =
          omega (
            arith,
            ap length (tokens_held l z.text z.tokens z.lines is_held),
            tab_length (token_at l.text l.ends l.kinds) 0 z.tokens,
            (few w).1,
          )

      rows_writable : writable (rows_in l z.lines) ≡ true
      unfolding writable
      rows_writable =
          rw (rows_good l z.text z.tokens z.lines is_held w.addresses w.places, le-leb _ 4294967295 text_few, le-leb _ 4294967295 tokens_few)

    -- who reads the file is left the lists
    read_again : writable (rows_in l z.lines) ≡ true → {s : List ℕ} → s ≡ file l z → (b a : Lists) (g : Result Sizes Question) → Reads s b a g
        → Leaves (room_no (sizes_of (cut l z)) (rooms_of b)) (cut l z) b a g
    read_again w e b a g v =
        subst (λ (x : Lists). Leaves (room_no (sizes_of x) (rooms_of b)) x b a g) (lists_held l z.text z.tokens z.lines is_held)
        (v.rows (rows_in l z.lines) w (sym e))

    module _ {n : ℕ} (p : n ≡ file_size l.text l.marks l.places z.text z.tokens z.lines) where
      size : n ≡ length (file l z)
      size = p ∙ sym (file_size_lem l z.text z.tokens z.lines is_held)

      no_room : length out < n → write_no l z (length out) ≡ 12
      unfolding write_no
      no_room q = rw (← h, lt-leb (length (file l z)) (length out) (omega (arith, size)))

      pub short : length out < n → NumbersFit l → Writes l z out out (Err TextRoom)
      short q w =
          let e = no_room q in
          record {
            answer = e;
            bytes = rw e;
            rows = λ q. absurd (omega arith);
            same = λ q. absurd (omega arith);
            back = λ q. absurd (omega arith);
            short = λ q. file_bound l z.text z.tokens z.lines is_held w.places;
          }

      all_asked : n ≤ length out → write_no l z (length out) ≡ 0
      unfolding write_no
      all_asked q = rw (← h, le-leb (length (file l z)) (length out) (omega (arith, size)))

      pub room : n ≤ length out → length (rows_from l z.lines 0) ≤ length out
      room q = omega (arith, size, ap length (rows_from_start l z.lines))

      pub wrote : {out' : List ℕ} → n ≤ length out → out' ≡ put 0 (rows_from l z.lines 0) out → NumbersFit l → Writes l z out out' (Ok n)
      wrote {out'} q r w =
          let e = all_asked q in
          let t : out' ≡ over (file l z) out = r ∙ rw (rows_from_start l z.lines, put_fits 0 (file l z) out (omega (arith, size)), zero-add) in
          record {
            answer = (e, size);
            bytes = rw e t;
            rows = λ q. rows_writable w;
            same = λ q. lists_held l z.text z.tokens z.lines is_held;
            back = λ q. read_again (rows_writable w) (rw (t, size) (take-append_seam (file l z) (drop (length (file l z)) out)));
            short = λ q. file_bound l z.text z.tokens z.lines is_held w.places;
          }
