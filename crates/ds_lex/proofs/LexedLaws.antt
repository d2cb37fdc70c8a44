-- What is lexed is just what the grammar of tokens says.
use Rattle.std.proofs.Common.{◌≡◌, ◌<◌, ◌≤◌, ◌+◌, inl, inr, ℕ, zero, suc, List, [], ◌∷◌, ◌++◌, length, drop, Option, Some, None, Bool, true, false, eqb, refl, sym, ap, ◌∙◌, arith, subst, length-append, length-drop, lit≤}
use Rattle.std.specs.Prelude.{codes}
use Rattle.std.specs.List.{list_all, AllByRecursion}
use Rattle.std.specs.Cmp.{first_so}
use Rattle.std.proofs.lemmas.List.{append-nil}
use Rattle.std.proofs.lemmas.Bool.{true≢false, eqb-false}
use Rattle.std.proofs.lemmas.Bool.Decides.{nat_tests}
use Rattle.ds_lex.specs.declared.token.Mode.{Mode}
use Rattle.ds_lex.specs.declared.token.Mode.TheVariants.{Osh, Inner}
use Rattle.ds_lex.specs.declared.token.Sort.{Sort}
use Rattle.ds_lex.specs.declared.token.Sort.TheVariants as sort
use Rattle.ds_lex.specs.declared.token.Token.{Token}
use Rattle.ds_lex.specs.declared.token.Piece.{Piece}
use Rattle.ds_lex.specs.declared.token.Piece.TheVariants.{Gap, Part}
use Rattle.ds_lex.specs.Pieces.{comment_len, gap_of, opens_comment, opens_word, opens_quoted, is_digit, piece_at, size_of}
use Rattle.ds_lex.specs.Lexed.{Lexed, lexed_from, lexed, with_token}
use Rattle.ds_lex.specs.Tokens.{IsSeparator, AreDigits, signs, IsToken, IsPiece, Stands, IsCut, tokens_from, place_behind, EndsAt, IsLexed}
use Rattle.ds_lex.specs.LexLaws.{AreInOrder, last_place, LiesInText}
use Rattle.ds_lex.proofs.Lexing.{none_step, gap_step, part_step}
use Rattle.ds_lex.proofs.TokensFound.{Found, found}
use Rattle.ds_lex.proofs.TokensWhole.{NoComment, piece_whole, comment_byte, bytes_among}

pub found_at_front : (mode : Mode) (text : List ℕ) (p : Piece) → piece_at mode text ≡ Some p → Found mode p text
found_at_front mode [] p h = absurd cc
found_at_front mode (b ∷ bs) p h = found mode b bs p h

piece_size : (mode : Mode) (p : Piece) (bytes : List ℕ) → IsPiece mode p bytes → length bytes ≡ size_of p
piece_size mode (Gap n) bytes h = h.0
piece_size mode (Part kind n) bytes h = h.0

-- ---- tokens where a comment is opened

SlashAlone : List ℕ → Type 0
SlashAlone bytes = (after more : List ℕ) → bytes ++ after ≡ 47 ∷ more → length bytes ≤ 1

head_of : List ℕ → ℕ
head_of [] = 0
head_of (b ∷ bytes) = b

other_first : (b : ℕ) (bytes : List ℕ) → eqb b 47 ≡ false → SlashAlone (b ∷ bytes)
unfolding SlashAlone head_of
other_first b bytes e after more h = absurd (eqb-false b 47 e (ap head_of h))

alone : (b : ℕ) → SlashAlone (b ∷ [])
unfolding SlashAlone
alone b after more h = lit≤ tt

signs_alone : AllByRecursion SlashAlone signs
signs_alone = (
  other_first 61 (61 ∷ []) refl,
  (
    other_first 33 (61 ∷ []) refl,
    (
      other_first 60 (61 ∷ []) refl,
      (
        other_first 62 (61 ∷ []) refl,
        (
          other_first 38 (38 ∷ []) refl,
          (
            other_first 124 (124 ∷ []) refl,
            (alone 40, (alone 41, (alone 91, (alone 93, (alone 123, (alone 125, (alone 44, (alone 59, (alone 58, (alone 124, (alone 60, (alone 62, (alone 61, (alone 43, (alone 45, (alone 42, (alone 47, (alone 37, (alone 33, tt))))))))))))))))))),
          ),
        ),
      ),
    ),
  ),
)

word_other : (b : ℕ) → opens_word b ≡ true → eqb b 47 ≡ false
word_other b h = grind (arith, nat_tests)

digit_other : (b : ℕ) → is_digit b ≡ true → eqb b 47 ≡ false
digit_other b h = grind (arith, nat_tests)

quote_other : (b : ℕ) → opens_quoted b ≡ true → eqb b 47 ≡ false
quote_other b h = grind (arith, nat_tests)

digits_alone : (bytes more : List ℕ) → AreDigits bytes → SlashAlone (bytes ++ more)
digits_alone [] more h = absurd (omega (arith, h.0))
digits_alone (b ∷ bytes) more h = other_first b (bytes ++ more) (digit_other b (first_so (is_digit b) (list_all is_digit bytes) h.1))

token_alone : (mode : Mode) (kind : Sort) (bytes : List ℕ) → IsToken mode kind bytes → SlashAlone bytes
token_alone mode sort.Word [] h = absurd h
token_alone mode sort.Word (b ∷ bytes) h = other_first b bytes (word_other b h.0)
token_alone Osh sort.Opt [] h = absurd h
token_alone Osh sort.Opt (b ∷ []) h = absurd h
token_alone Osh sort.Opt (b ∷ c ∷ bytes) h = other_first b (c ∷ bytes) (ap (λ x. eqb x 47) h.0)
token_alone Inner sort.Opt bytes h = absurd h
token_alone mode sort.Number bytes h =
    elim h [
      | inl a ↦ subst SlashAlone (append-nil bytes) (digits_alone bytes [] a)
      | inr b ↦ subst SlashAlone (sym b.2) (digits_alone b.0 (46 ∷ b.1) b.3)
    ]
token_alone mode sort.Quoted bytes h = subst SlashAlone (sym h.parts) (other_first h.quote (h.inside ++ h.quote ∷ []) (quote_other h.quote h.opens))
token_alone mode sort.Sign bytes h = bytes_among SlashAlone bytes signs h signs_alone

-- ---- pieces

-- no piece at the front is longer than the one that is found
longest_by : (mode : Mode) (p q : Piece) (text more after : List ℕ) → piece_at mode text ≡ Some p → text ≡ more ++ after → IsPiece mode q more → NoComment more after → length more ≤ size_of p
longest_by mode p q text more after e t h c =
    let r = piece_whole mode q more after h c in
    let same : r.0 ≡ p = (let k : Some r.0 ≡ Some p = sym r.1 ∙ (ap (piece_at mode) (sym t) ∙ e) in cc) in
    elim r.2 [
      | inl is ↦ (let q-is : p ≡ q = sym same ∙ is in omega (arith, piece_size mode q more h, ap size_of q-is))
      | inr lt ↦ omega (arith, lt, ap size_of same)
    ]

comment_gap : (mode : Mode) (bytes after : List ℕ) (p : Piece) (o : Option ℕ) → gap_of 2 o ≡ Some p → IsPiece mode p bytes → IsSeparator bytes
comment_gap mode bytes after p None e h = absurd cc
comment_gap mode bytes after (Gap n) (Some m) e h = h.1
comment_gap mode bytes after (Part kind n) (Some m) e h = absurd cc

abbrev opens_text : List ℕ → Bool
opens_text [] = false
opens_text (b ∷ bytes) = opens_comment b bytes

opened : (text : List ℕ) → opens_text text ≡ true → (after : List ℕ) × (text ≡ codes "/*" ++ after)
opened [] h = absurd cc
opened (b ∷ bytes) h = comment_byte b bytes h

token_longest : (mode : Mode) (kind : Sort) (n : ℕ) (p : Piece) (text more after : List ℕ) (b : Bool) → opens_text (more ++ after) ≡ b → piece_at mode text ≡ Some p → 0 < size_of p → text ≡ more ++ after → IsPiece mode (Part kind n) more → length more ≤ size_of p
unfolding SlashAlone
token_longest mode kind n p text more after true o e some t h =
    let c = opened (more ++ after) o in
    omega (arith, some, token_alone mode kind more h.1 after (42 ∷ c.0) c.1)
token_longest mode kind n p text more after false o e some t h =
    longest_by mode p (Part kind n) text more after e t h (λ back k. let yes : opens_text (more ++ after) ≡ true = ap opens_text k in absurd (true≢false (sym yes ∙ o)))

longest : (mode : Mode) (p q : Piece) (text more after : List ℕ) → piece_at mode text ≡ Some p → 0 < size_of p → text ≡ more ++ after → IsPiece mode q more → length more ≤ size_of p
longest mode p (Gap n) text more after e some t h = longest_by mode p (Gap n) text more after e t h (λ back k. h.1)
longest mode p (Part kind n) text more after e some t h = token_longest mode kind n p text more after (opens_text (more ++ after)) refl e some t h

-- ---- no piece is empty

SomeBytes : List ℕ → Type 0
SomeBytes bytes = 0 < length bytes

some_byte : (b : ℕ) (bytes : List ℕ) → SomeBytes (b ∷ bytes)
unfolding SomeBytes
some_byte b bytes = omega arith

signs_some : AllByRecursion SomeBytes signs
signs_some = (
  some_byte _ _,
  (
    some_byte _ _,
    (
      some_byte _ _,
      (
        some_byte _ _,
        (
          some_byte _ _,
          (
            some_byte _ _,
            (some_byte _ _, (some_byte _ _, (some_byte _ _, (some_byte _ _, (some_byte _ _, (some_byte _ _, (some_byte _ _, (some_byte _ _, (some_byte _ _, (some_byte _ _, (some_byte _ _, (some_byte _ _, (some_byte _ _, (some_byte _ _, (some_byte _ _, (some_byte _ _, (some_byte _ _, (some_byte _ _, (some_byte _ _, tt))))))))))))))))))),
          ),
        ),
      ),
    ),
  ),
)

token_some : (mode : Mode) (kind : Sort) (bytes : List ℕ) → IsToken mode kind bytes → 0 < length bytes
unfolding SomeBytes
token_some mode sort.Word [] h = absurd h
token_some mode sort.Word (b ∷ bytes) h = omega arith
token_some Osh sort.Opt [] h = absurd h
token_some Osh sort.Opt (b ∷ bytes) h = omega arith
token_some Inner sort.Opt bytes h = absurd h
token_some mode sort.Number bytes h =
    elim h [
      | inl a ↦ a.0
      | inr b ↦ omega (arith, ap (λ (xs : List ℕ). length xs) b.2, length-append b.0 (46 ∷ b.1))
    ]
token_some mode sort.Quoted bytes h = omega (arith, ap (λ (xs : List ℕ). length xs) h.parts)
token_some mode sort.Sign bytes h = bytes_among SomeBytes bytes signs h signs_some

separator_some : (bytes : List ℕ) → IsSeparator bytes → 0 < length bytes
separator_some [] h =
    elim h [
      | inl a ↦ absurd a
      | inr a ↦ elim a [
        | inl l ↦ absurd l
        | inr c ↦ (let size = ap (λ (xs : List ℕ). length xs) c.parts in omega (arith, size, length-append c.inside (codes "*/")))
      ]
    ]
separator_some (b ∷ bytes) h = omega arith

piece_some : (mode : Mode) (p : Piece) (bytes : List ℕ) → IsPiece mode p bytes → 0 < size_of p
piece_some mode (Gap n) bytes h = omega (arith, h.0, separator_some bytes h.1)
piece_some mode (Part kind n) bytes h = omega (arith, h.0, token_some mode kind bytes h.1)

-- ---- what stands at the front

comment_text : (mode : Mode) (text after bytes : List ℕ) (p : Piece) → piece_at mode text ≡ Some p → text ≡ codes "/*" ++ after → IsPiece mode p bytes → IsSeparator bytes
comment_text mode text after bytes p e t h = comment_gap mode bytes after p (comment_len after) (ap (piece_at mode) (sym t) ∙ e) h

pub stands_found : (mode : Mode) (text : List ℕ) (p : Piece) → piece_at mode text ≡ Some p → Stands mode p text
stands_found mode text p e =
    let f = found_at_front mode text p e in
    let some = piece_some mode p f.bytes f.piece in
    record {
      bytes = f.bytes;
      rest = f.rest;
      parts = f.parts;
      piece = f.piece;
      longest = λ q more after t h. omega (arith, longest mode p q text more after e some t h, piece_size mode p f.bytes f.piece);
      comment = λ after t. comment_text mode text after f.bytes p e t f.piece;
    }

pub found_stands : (mode : Mode) (text : List ℕ) (p : Piece) → Stands mode p text → piece_at mode text ≡ Some p
found_stands mode text p s =
    let r = piece_whole mode p s.bytes s.rest s.piece (λ after e. s.comment after (s.parts ∙ e)) in
    let e : piece_at mode text ≡ Some r.0 = ap (piece_at mode) s.parts ∙ r.1 in
    elim r.2 [
      | inl is ↦ e ∙ ap (λ x. Some x) is
      | inr lt ↦ (let f = found_at_front mode text r.0 e in absurd (omega (arith, lt, s.longest r.0 f.bytes f.rest f.parts f.piece, piece_size mode r.0 f.bytes f.piece)))
    ]

-- ---- whole texts

abbrev lexed_to : ℕ → Mode → List ℕ → Lexed → Type 0
lexed_to at mode text l = (pieces : List Piece) × (rest : List ℕ) × IsCut mode text pieces rest × (l.tokens ≡ tokens_from at pieces) × EndsAt mode (place_behind at pieces) rest l.bad

not_stands : (mode : Mode) (text : List ℕ) → piece_at mode text ≡ None → (p : Piece) → Stands mode p text → ⊥
not_stands mode text e p s = let k = found_stands mode text p s in (let no : None ≡ Some p = sym e ∙ k in absurd cc)

cut_by : (mode : Mode) (at n b : ℕ) (bs : List ℕ) (o : Option Piece) → piece_at mode (b ∷ bs) ≡ o → ((at : ℕ) (text : List ℕ) → length text ≤ n → lexed_to at mode text (lexed_from mode at 0 text)) → length bs ≤ n → lexed_to at mode (b ∷ bs) (lexed_from mode at 0 (b ∷ bs))
cut_by mode at n b bs None e more h =
    rw (none_step mode at (b ∷ bs) (omega arith) e) ([], b ∷ bs, refl, refl, (refl, not_stands mode (b ∷ bs) e))
cut_by mode at n b bs (Some (Gap k)) e more h =
    let s = stands_found mode (b ∷ bs) (Gap k) e in
    let some : 0 < k = piece_some mode (Gap k) s.bytes s.piece in
    let r = more (at + k) (drop k (b ∷ bs)) (omega (arith, length-drop k (b ∷ bs))) in
    rw (gap_step mode at k (b ∷ bs) some e) (Gap k ∷ r.0, r.1, (s, r.2), r.3, r.4)
cut_by mode at n b bs (Some (Part kind k)) e more h =
    let s = stands_found mode (b ∷ bs) (Part kind k) e in
    let some : 0 < k = piece_some mode (Part kind k) s.bytes s.piece in
    let r = more (at + k) (drop k (b ∷ bs)) (omega (arith, length-drop k (b ∷ bs))) in
    rw (part_step mode at k kind (b ∷ bs) some e) (Part kind k ∷ r.0, r.1, (s, r.2), ap (λ (ts : List Token). record { sort = kind; from = at; to = at + k } ∷ ts) r.3, r.4)

cut_from : (mode : Mode) (n at : ℕ) (text : List ℕ) → length text ≤ n → lexed_to at mode text (lexed_from mode at 0 text)
cut_from mode n at [] h = ([], [], refl, refl, refl)
cut_from mode zero at (b ∷ bs) h = absurd (omega arith)
cut_from mode (suc n) at (b ∷ bs) h = cut_by mode at n b bs (piece_at mode (b ∷ bs)) refl (cut_from mode n) (omega arith)

pub lexed_is : (mode : Mode) (text : List ℕ) → IsLexed mode text (lexed mode text)
lexed_is mode text = let c = cut_from mode (length text) 0 text (omega arith) in record { pieces = c.0; rest = c.1; cut = c.2; tokens = c.3; ends = c.4 }

none_at : (mode : Mode) (text : List ℕ) (o : Option Piece) → piece_at mode text ≡ o → ((p : Piece) → Stands mode p text → ⊥) → piece_at mode text ≡ None
none_at mode text None e h = e
none_at mode text (Some p) e h = absurd (h p (stands_found mode text p e))

only_end : (mode : Mode) (at : ℕ) (rest : List ℕ) (bad : Option ℕ) → EndsAt mode at rest bad → lexed_from mode at 0 rest ≡ record { tokens = []; bad = bad }
only_end mode at [] bad h = ap (λ o. let l : Lexed = record { tokens = []; bad = o } in l) (sym h)
only_end mode at (b ∷ bs) bad h = none_step mode at (b ∷ bs) (omega arith) (none_at mode (b ∷ bs) (piece_at mode (b ∷ bs)) refl h.1) ∙ ap (λ o. let l : Lexed = record { tokens = []; bad = o } in l) (sym h.0)

only_from : (mode : Mode) (at : ℕ) (text : List ℕ) (pieces : List Piece) (rest : List ℕ) (bad : Option ℕ) → IsCut mode text pieces rest → EndsAt mode (place_behind at pieces) rest bad → lexed_from mode at 0 text ≡ record { tokens = tokens_from at pieces; bad = bad }
only_from mode at text [] rest bad c e = ap (lexed_from mode at 0) c ∙ only_end mode at rest bad e
only_from mode at text (Gap k ∷ pieces) rest bad c e =
    gap_step mode at k text (piece_some mode (Gap k) c.0.bytes c.0.piece) (found_stands mode text (Gap k) c.0) ∙ only_from mode (at + k) (drop k text) pieces rest bad c.1 e
only_from mode at text (Part kind k ∷ pieces) rest bad c e =
    part_step mode at k kind text (piece_some mode (Part kind k) c.0.bytes c.0.piece) (found_stands mode text (Part kind k) c.0)
    ∙ ap (with_token (record { sort = kind; from = at; to = at + k })) (only_from mode (at + k) (drop k text) pieces rest bad c.1 e)

pub only_lexed : (mode : Mode) (text : List ℕ) (l : Lexed) → IsLexed mode text l → l ≡ lexed mode text
only_lexed mode text l h = ap (λ (ts : List Token). let k : Lexed = record { tokens = ts; bad = l.bad } in k) h.tokens ∙ sym (only_from mode 0 text h.pieces h.rest l.bad h.cut h.ends)

-- ---- places

stands_within : (mode : Mode) (text : List ℕ) (p : Piece) → Stands mode p text → (0 < size_of p) × (size_of p ≤ length text)
stands_within mode text p s = (piece_some mode p s.bytes s.piece, omega (arith, piece_size mode p s.bytes s.piece, ap (λ (xs : List ℕ). length xs) s.parts, length-append s.bytes s.rest))

earlier : (at next : ℕ) (ts : List Token) (end : ℕ) → at ≤ next → AreInOrder next ts end → AreInOrder at ts end
earlier at next [] end h o = omega (arith, h, o)
earlier at next (t ∷ ts) end h o = (omega (arith, h, o.0), o.1, o.2)

ordered_from : (mode : Mode) (at : ℕ) (text : List ℕ) (pieces : List Piece) (rest : List ℕ) → IsCut mode text pieces rest → AreInOrder at (tokens_from at pieces) (place_behind at pieces) × (place_behind at pieces + length rest ≡ at + length text)
ordered_from mode at text [] rest c = ((let e : at ≤ at = omega arith in e), omega (arith, ap (λ (xs : List ℕ). length xs) c))
ordered_from mode at text (Gap k ∷ pieces) rest c =
    let w = stands_within mode text (Gap k) c.0 in
    let o = ordered_from mode (at + k) (drop k text) pieces rest c.1 in
    (earlier at (at + k) (tokens_from (at + k) pieces) (place_behind (at + k) pieces) (omega arith) o.0, omega (arith, o.1, w.1, length-drop k text))
ordered_from mode at text (Part kind k ∷ pieces) rest c =
    let w = stands_within mode text (Part kind k) c.0 in
    let o = ordered_from mode (at + k) (drop k text) pieces rest c.1 in
    (((let e : at ≤ at = omega arith in e), omega (arith, w.0), o.0), omega (arith, o.1, w.1, length-drop k text))

end_by : (mode : Mode) (text rest : List ℕ) (bad : Option ℕ) (end : ℕ) → EndsAt mode end rest bad → end + length rest ≡ length text → (last_place (length text) bad ≡ end) × (end ≤ length text)
end_by mode text [] bad end h e = (ap (last_place (length text)) h ∙ (let k : length text ≡ end = omega (arith, e) in k), omega (arith, e))
end_by mode text (b ∷ rest) bad end h e = (ap (last_place (length text)) h.0, omega (arith, e))

pub lexed_lies : (mode : Mode) (text : List ℕ) → LiesInText text (lexed mode text)
lexed_lies mode text =
    let h = lexed_is mode text in
    let o = ordered_from mode 0 text h.pieces h.rest h.cut in
    let e = end_by mode text h.rest (lexed mode text).bad (place_behind 0 h.pieces) h.ends (omega (arith, o.1)) in
    record { ordered = rw (h.tokens, e.0) o.0; inside = omega (arith, e.0, e.1) }
