-- `name_or`: what stands for an address. "A string gives one Address token .. A name is copied without escaping. No entry: prefix
-- and upper hex."
use Rattle.std.specs.Prelude.{ℕ, Bool, false, not, ◌&&◌, List, eqb, leb}
use Rattle.lists.specs.Choice.{pick, any_below}
use Rattle.text.specs.Literal.{literal_text}
use Rattle.tokens.specs.Token.{Token, token, symbol}
use Rattle.tokens.specs.Words.{prefixed}
use Rattle.record.specs.declared.header.Header.{Header}
use Rattle.record.specs.Layout.{entries_of, pairs_of, texts_of, spans_of}
use Rattle.record.specs.Atlas.{entry_kind, entry_text, span_first, span_last}
use Rattle.record.specs.Search.{find_from}
use Rattle.std.specs.Prelude.{Option, Some, None}

module _ (h : Header) (s : List ℕ) where
  -- the first entry that stands at the address: rising addresses make it the only one
  unfoldable pub entry_at : ℕ → Option ℕ
  entry_at va = find_from (entries_of h s) va 0 h.atlas

  -- the token of entry k: kind 1 string, 2 wide string, 3 name
  unfoldable pub entry_token : ℕ → Token
  entry_token k =
      let kind = entry_kind (pairs_of h s) k in
      let t = entry_text (pairs_of h s) (texts_of h s) k in
      pick (eqb kind 3) (token 4 t) (token 5 (literal_text (eqb kind 2) t))

  abbrev pub name_or_at : Option ℕ → ℕ → Token → Token
  name_or_at (Some k) va prefix = entry_token k
  name_or_at None va prefix = prefixed prefix va

  -- the token for an address, with a prefix where no entry has it
  unfoldable pub name_or : ℕ → Token → Token
  name_or va prefix = name_or_at (entry_at va) va prefix

  -- whether a literal stands for the address
  abbrev pub is_literal : ℕ → Bool
  is_literal va = eqb (name_or va (symbol "unk_")).kind 5

  -- the same of what a search found: an entry that is no name
  abbrev pub literal_at : Option ℕ → Bool
  literal_at (Some k) = not (eqb (entry_kind (pairs_of h s) k) 3)
  literal_at None = false

  -- the address lies in a span, "both included"
  unfoldable pub in_span : ℕ → Bool
  in_span va = any_below (λ k. leb (span_first (spans_of h s) k) va && leb va (span_last (spans_of h s) k)) h.spans
