-- What a code more is, by what its text is made of: one law for each.
-- Its text is read back whatever codes come behind.
use Rattle.std.proofs.Common.{◌≡◌, ℕ, ◌+◌, ◌<◌, ◌≤◌, Bool, true, false, List, [], ◌∷◌, ◌++◌, length, take, drop, refl, arith, length-drop, length-take}
use Rattle.lists.specs.Bytes.{u8_at}
use Rattle.lists.specs.Choice.{pick}
use Rattle.text.specs.Number.{hex_text, num_text}
use Rattle.text.specs.Literal.{literal_text}
use Rattle.tokens.specs.Token.{Token, token}
use Rattle.x86.specs.Table.{text_at}
use Rattle.codes.specs.Code.{word_at}
use Rattle.codes.specs.Coded.{is_plain, last_in, kind_on, joins_last, Coded, Added}
use Rattle.codes.proofs.Fields.{of_table_lem, of_record_lem, of_number, of_prefixed_lem, of_string_lem, reads_one, reads_two, in_one, in_two}
use Rattle.codes.proofs.OneToken.{coded_added}

small : (p : Bool) (k : ℕ) → k < 8 → pick p 0 k < 8
small true k h = omega arith
small false k h = h

module _ (t s c c' : List ℕ) (k : ℕ) (hk : k < 8) where
  abbrev K : ℕ
  K = kind_on c k

  abbrev J : Bool
  J = joins_last (last_in c) K

  sk : K < 8
  sk = small (is_plain c) k hk

  module _ (n at b : ℕ) (hn : n < 65536) where
    pub table_coded : Added c c' k 0 n at b [] → b ≡ length (take n (drop at t)) → at + n ≤ length t → Coded t s c c' (token k (take n (drop at t)) ∷ [])
    table_coded a e l =
        coded_added t s c c' k 0 n at b [] _ (omega arith) a e (reads_one t s K J 0 n at sk (omega arith) hn _ refl (of_table_lem t s K J n at sk hn))
        (in_one (length t) K J 0 n at sk (omega arith) hn (λ _. l) refl)

    pub record_coded : Added c c' k 1 n at b [] → b ≡ length (take n (drop at s)) → Coded t s c c' (token k (take n (drop at s)) ∷ [])
    record_coded a e =
        coded_added t s c c' k 1 n at b [] _ (omega arith) a e (reads_one t s K J 1 n at sk (omega arith) hn _ refl (of_record_lem t s K J n at sk hn))
        (in_one (length t) K J 1 n at sk (omega arith) hn (λ e. absurd (omega (arith, e))) refl)

    pub string_coded : (wide : Bool) → Added c c' k (pick wide 6 5) n at b [] → b ≡ length (literal_text wide (take n (drop at s)))
        → Coded t s c c' (token k (literal_text wide (take n (drop at s))) ∷ [])
    string_coded true a e =
        coded_added t s c c' k 6 n at b [] _ (omega arith) a e (reads_one t s K J 6 n at sk (omega arith) hn _ refl (λ v. of_string_lem t s K J n at sk hn v true))
        (in_one (length t) K J 6 n at sk (omega arith) hn (λ e. absurd (omega (arith, e))) refl)
    string_coded false a e =
        coded_added t s c c' k 5 n at b [] _ (omega arith) a e (reads_one t s K J 5 n at sk (omega arith) hn _ refl (λ v. of_string_lem t s K J n at sk hn v false))
        (in_one (length t) K J 5 n at sk (omega arith) hn (λ e. absurd (omega (arith, e))) refl)

  module _ (at b v : ℕ) where
    pub number_coded : (negative : Bool) → Added c c' k (pick negative 3 2) 0 at b (v ∷ []) → b ≡ length (num_text negative v)
        → Coded t s c c' (token k (num_text negative v) ∷ [])
    number_coded true a e =
        coded_added t s c c' k 3 0 at b (v ∷ []) _ (omega arith) a e (reads_two t s K J 3 0 at sk (omega arith) (omega arith) _ v refl (of_number t s K J 0 at sk (omega arith) v true))
        (in_two (length t) K J 3 0 at sk (omega arith) (omega arith) (λ e. absurd (omega (arith, e))) refl v)
    number_coded false a e =
        coded_added t s c c' k 2 0 at b (v ∷ []) _ (omega arith) a e (reads_two t s K J 2 0 at sk (omega arith) (omega arith) _ v refl (of_number t s K J 0 at sk (omega arith) v false))
        (in_two (length t) K J 2 0 at sk (omega arith) (omega arith) (λ e. absurd (omega (arith, e))) refl v)

    pub prefixed_coded : Added c c' k 4 0 at b (v ∷ []) → b ≡ length (word_at t at ++ hex_text true v) → Coded t s c c' (token k (word_at t at ++ hex_text true v) ∷ [])
    prefixed_coded a e =
        coded_added t s c c' k 4 0 at b (v ∷ []) _ (omega arith) a e (reads_two t s K J 4 0 at sk (omega arith) (omega arith) _ v refl (of_prefixed_lem t s K J 0 at sk (omega arith) v))
        (in_two (length t) K J 4 0 at sk (omega arith) (omega arith) (λ e. absurd (omega (arith, e))) refl v)

  -- a text of the table whose length stands before it, and no text
  pub text_coded : (n at : ℕ) → n < 256 → at < length t → n ≡ u8_at t at → u8_at t at ≡ length (text_at t at) → Added c c' k 0 n (at + 1) n []
      → Coded t s c c' (token k (text_at t at) ∷ [])
  text_coded n at h i e f a =
      let g : n ≡ length (take n (drop (at + 1) t)) = rw (← e) at f in
      rw (← e) (table_coded n (at + 1) n (omega arith) a g (omega (arith, g, length-take n (drop (at + 1) t), length-drop (at + 1) t)))

  pub none_coded : Added c c' k 0 0 0 0 [] → Coded t s c c' (token k [] ∷ [])
  none_coded a = table_coded 0 0 0 (omega arith) a refl (omega arith)

-- a token that is another one
pub as_token : {t s c c' : List ℕ} (u v : Token) → u ≡ v → Coded t s c c' (u ∷ []) → Coded t s c c' (v ∷ [])
as_token u v e x = rw (← e) x
