-- The bytes from the first token of a text to the end of its last are lexed as the same tokens, at other places.
use Rattle.std.proofs.Common.{◌≡◌, ◌<◌, ◌+◌, ◌-◌, inl, inr, ℕ, List, [], ◌∷◌, ◌++◌, length, drop, map, Option, Some, None, refl, sym, ap, ◌∙◌, subst, append_assoc, arith, length-append}
use Rattle.std.proofs.Math.Seq.{drop-append_seam, take-append_seam}
use Rattle.ds_lex.specs.declared.token.Mode.{Mode}
use Rattle.ds_lex.specs.declared.token.Mode.TheVariants.{Osh, Inner}
use Rattle.ds_lex.specs.declared.token.Sort.{Sort}
use Rattle.ds_lex.specs.declared.token.Sort.TheVariants as sort
use Rattle.ds_lex.specs.declared.token.Token.{Token}
use Rattle.ds_lex.specs.declared.token.Piece.{Piece}
use Rattle.ds_lex.specs.declared.token.Piece.TheVariants.{Gap, Part}
use Rattle.ds_lex.specs.Pieces.{piece_at}
use Rattle.ds_lex.specs.Lexed.{Lexed, lexed_from, lexed}
use Rattle.ds_lex.specs.Lexemes.{Lexeme, lexeme_of, part, lexed_text}
use Rattle.ds_lex.specs.Tokens.{IsSeparator, IsToken, Stands, IsCut, tokens_from, place_behind, EndsAt}
use Rattle.ds_lex.proofs.Lexing.{gap_step}
use Rattle.ds_lex.proofs.LexedLaws.{found_stands, lexed_is}
use Rattle.ds_lex.proofs.Printed.{Lexes, lexes_end, lexes_token}

-- ---- tokens at other places

-- the same token, where the place d has become e
abbrev pub Shifts : ℕ → ℕ → Lexeme → Lexeme → Type 0
Shifts d e t u = (t.sort ≡ u.sort) × (t.bytes ≡ u.bytes) × (t.at + e ≡ u.at + d)

abbrev pub Shifted : ℕ → ℕ → List Lexeme → List Lexeme → Type 0
Shifted d e [] [] = Unit {0}
Shifted d e [] (u ∷ us) = ⊥
Shifted d e (t ∷ ts) [] = ⊥
Shifted d e (t ∷ ts) (u ∷ us) = Shifts d e t u × Shifted d e ts us

-- the end of the last of these tokens
abbrev pub end_of : ℕ → List Lexeme → ℕ
end_of at [] = at
end_of at (t ∷ ts) = end_of (t.at + length t.bytes) ts

pub shifted_end : (d e at place : ℕ) (ts us : List Lexeme) → at + e ≡ place + d → Shifted d e ts us → end_of at ts + e ≡ end_of place us + d
shifted_end d e at place [] [] h s = h
shifted_end d e at place [] (u ∷ us) h s = absurd s
shifted_end d e at place (t ∷ ts) [] h s = absurd s
shifted_end d e at place (t ∷ ts) (u ∷ us) h s = shifted_end d e (t.at + length t.bytes) (u.at + length u.bytes) ts us (let n : length t.bytes ≡ length u.bytes = ap (λ (xs : List ℕ). length xs) s.0.1 in let m = s.0.2 in omega arith) s.1

-- ---- pieces have bytes

token_some : (mode : Mode) (kind : Sort) (bytes : List ℕ) → IsToken mode kind bytes → 0 < length bytes
token_some mode kind (b ∷ bytes) h = omega arith
token_some mode sort.Word [] h = absurd h
token_some Osh sort.Opt [] h = absurd h
token_some Inner sort.Opt [] h = absurd h
token_some mode sort.Number [] h =
    elim h [
      | inl a ↦ a.0
      | inr b ↦ omega (arith, ap (λ (xs : List ℕ). length xs) b.2, length-append b.0 (46 ∷ b.1))
    ]
token_some mode sort.Quoted [] h = omega (arith, ap (λ (xs : List ℕ). length xs) h.parts)
token_some mode sort.Sign [] h = absurd cc

separator_some : (bytes : List ℕ) → IsSeparator bytes → 0 < length bytes
separator_some (b ∷ bytes) h = omega arith
separator_some [] h =
    elim h [
      | inl a ↦ absurd a
      | inr a ↦ elim a [
        | inl l ↦ absurd l
        | inr c ↦ (let size = ap (λ (xs : List ℕ). length xs) c.parts in omega (arith, size))
      ]
    ]

-- ---- a piece stands where the text breaks off behind it

stands_cut : (mode : Mode) (p : Piece) (text xs behind : List ℕ) (s : Stands mode p text) → s.rest ≡ xs ++ behind → Stands mode p (s.bytes ++ xs)
stands_cut mode p text xs behind s e =
    let whole : text ≡ (s.bytes ++ xs) ++ behind = s.parts ∙ (ap (λ (ys : List ℕ). s.bytes ++ ys) e ∙ sym (append_assoc s.bytes xs behind)) in
    record {
      bytes = s.bytes;
      rest = xs;
      parts = refl;
      piece = s.piece;
      longest = λ q more after t h. s.longest q more (after ++ behind) (whole ∙ (ap (λ (ys : List ℕ). ys ++ behind) t ∙ append_assoc more after behind)) h;
      comment = λ after t. s.comment (after ++ behind) (whole ∙ ap (λ (ys : List ℕ). ys ++ behind) t);
    }

-- ---- lexing behind a separator

abbrev behind_from : Mode → List ℕ → ℕ → List ℕ → List Lexeme
behind_from mode text at rest = map (lexeme_of text) (lexed_from mode at 0 rest).tokens

same_behind : (mode : Mode) (text more : List ℕ) (at place : ℕ) (rest after : List ℕ) → text ≡ more → at ≡ place → rest ≡ after → behind_from mode text at rest ≡ behind_from mode more place after
same_behind mode text more at place rest after t p r = ap (λ (xs : List ℕ). behind_from mode xs at rest) t ∙ (ap (λ n. behind_from mode more n rest) p ∙ ap (behind_from mode more place) r)

dropped : (n : ℕ) (x rest : List ℕ) → length x ≡ n → drop n (x ++ rest) ≡ rest
dropped n x rest h = ap (λ k. drop k (x ++ rest)) (sym h) ∙ drop-append_seam x rest

lexes_separator : (mode : Mode) (front x rest : List ℕ) (n : ℕ) (ts : List Lexeme) → 0 < n → length x ≡ n → piece_at mode (x ++ rest) ≡ Some (Gap n) → Lexes mode (front ++ x) rest ts → Lexes mode front (x ++ rest) ts
lexes_separator mode front x rest n ts some size e l =
    let step = gap_step mode (length front) n (x ++ rest) some e in
    let place : length front + n ≡ length (front ++ x) = omega (arith, size, length-append front x) in
    let text : front ++ (x ++ rest) ≡ (front ++ x) ++ rest = sym (append_assoc front x rest) in
    let after : drop n (x ++ rest) ≡ rest = dropped n x rest size in
    record {
      tokens = ap (λ (k : Lexed). map (lexeme_of (front ++ (x ++ rest))) k.tokens) step ∙ (same_behind mode (front ++ (x ++ rest)) ((front ++ x) ++ rest) (length front + n) (length (front ++ x)) (drop n (x ++ rest)) rest text place after ∙ l.tokens);
      whole = ap (λ (k : Lexed). k.bad) step ∙ (ap (λ k. (lexed_from mode k 0 (drop n (x ++ rest))).bad) place ∙ (ap (λ (bs : List ℕ). (lexed_from mode (length (front ++ x)) 0 bs).bad) after ∙ l.whole));
    }

-- the bytes of a token in the middle of a text
middle : (whole pre x rest : List ℕ) (at n : ℕ) → whole ≡ pre ++ (x ++ rest) → at ≡ length pre → length x ≡ n → part whole at (at + n) ≡ x
middle whole pre x rest at n w a l =
    let m : at + n - at ≡ length x = omega arith in
    rw (m, w, a, drop-append_seam pre (x ++ rest)) (take-append_seam x rest)

-- ---- without what stands behind the last token

pub record Trimmed (mode : Mode) (d e : ℕ) (front text : List ℕ) (old : List Lexeme) : Type 0 where
  pub kept : List ℕ
  pub behind : List ℕ
  pub parts : text ≡ kept ++ behind
  pub tokens : List Lexeme
  pub lexes : Lexes mode front kept tokens
  pub same : Shifted d e old tokens
  pub end : end_of (length front) tokens ≡ length front + length kept

gap_by : (mode : Mode) (d e n : ℕ) (front text : List ℕ) (old : List Lexeme) (s : Stands mode (Gap n) text) (r : Trimmed mode d e (front ++ s.bytes) s.rest old) (us : List Lexeme) → r.tokens ≡ us → Trimmed mode d e front text old
gap_by mode d e n front text old s r [] h =
    record { kept = []; behind = text; parts = refl; tokens = []; lexes = lexes_end mode front; same = subst (Shifted d e old) h r.same; end = (let k : length front ≡ length front + 0 = omega arith in k) }
gap_by mode d e n front text old s r (u ∷ us) h =
    let size = s.piece.0 in
    let cut = stands_cut mode (Gap n) text r.kept r.behind s r.parts in
    let some : 0 < n = (let k = separator_some s.bytes s.piece.1 in omega arith) in
    record {
      kept = s.bytes ++ r.kept;
      behind = r.behind;
      parts = s.parts ∙ (ap (λ (xs : List ℕ). s.bytes ++ xs) r.parts ∙ sym (append_assoc s.bytes r.kept r.behind));
      tokens = r.tokens;
      lexes = lexes_separator mode front s.bytes r.kept n r.tokens some size (found_stands mode (s.bytes ++ r.kept) (Gap n) cut) r.lexes;
      same = r.same;
      end =
          (let l = length-append s.bytes r.kept in let m = length-append front s.bytes in let k = r.end in
          let first : end_of (length front) r.tokens ≡ end_of (length (front ++ s.bytes)) r.tokens = ap (end_of (length front)) h ∙ sym (ap (end_of (length (front ++ s.bytes))) h) in
          omega arith);
    }

part_by : (mode : Mode) (d e n at : ℕ) (kind : Sort) (whole pre front text : List ℕ) (old : List Lexeme) (s : Stands mode (Part kind n) text) → whole ≡ pre ++ text → at ≡ length pre → at + e ≡ length front + d → Trimmed mode d e (front ++ s.bytes) s.rest old
    → Trimmed mode d e front text (lexeme_of whole (record { sort = kind; from = at; to = at + n }) ∷ old)
part_by mode d e n at kind whole pre front text old s w a p r =
    let size = s.piece.0 in
    let cut = stands_cut mode (Part kind n) text r.kept r.behind s r.parts in
    let some : 0 < length s.bytes = token_some mode kind s.bytes s.piece.1 in
    let piece : piece_at mode (s.bytes ++ r.kept) ≡ Some (Part kind (length s.bytes)) = found_stands mode (s.bytes ++ r.kept) (Part kind n) cut ∙ ap (λ k. Some (Part kind k)) (sym size) in
    record {
      kept = s.bytes ++ r.kept;
      behind = r.behind;
      parts = s.parts ∙ (ap (λ (xs : List ℕ). s.bytes ++ xs) r.parts ∙ sym (append_assoc s.bytes r.kept r.behind));
      tokens = record { at = length front; sort = kind; bytes = s.bytes } ∷ r.tokens;
      lexes = lexes_token mode kind front s.bytes r.kept r.tokens some piece r.lexes;
      same = ((refl, middle whole pre s.bytes s.rest at n (w ∙ ap (λ (xs : List ℕ). pre ++ xs) s.parts) a size, p), r.same);
      end =
          (let l = length-append s.bytes r.kept in let m = length-append front s.bytes in let k = r.end in
          let first : end_of (length front + length s.bytes) r.tokens ≡ end_of (length (front ++ s.bytes)) r.tokens = ap (λ n. end_of n r.tokens) (sym m) in
          omega arith);
    }

trim : (mode : Mode) (d e at : ℕ) (whole pre front text : List ℕ) (ps : List Piece) → whole ≡ pre ++ text → at ≡ length pre → at + e ≡ length front + d → IsCut mode text ps [] → Trimmed mode d e front text (map (lexeme_of whole) (tokens_from at ps))
trim mode d e at whole pre front text [] w a p c =
    record { kept = []; behind = []; parts = c; tokens = []; lexes = lexes_end mode front; same = tt; end = (let k : length front ≡ length front + 0 = omega arith in k) }
trim mode d e at whole pre front text (Gap n ∷ ps) w a p c =
    let s = c.0 in
    let size = s.piece.0 in
    let rest : drop n text ≡ s.rest = ap (drop n) s.parts ∙ dropped n s.bytes s.rest size in
    let old = map (lexeme_of whole) (tokens_from (at + n) ps) in
    let r = trim mode d e (at + n) whole (pre ++ s.bytes) (front ++ s.bytes) s.rest ps (w ∙ (ap (λ (xs : List ℕ). pre ++ xs) s.parts ∙ sym (append_assoc pre s.bytes s.rest))) (omega (arith, length-append pre s.bytes)) (omega (arith, length-append front s.bytes)) (subst (λ (xs : List ℕ). IsCut mode xs ps []) rest c.1) in
    gap_by mode d e n front text old s r r.tokens refl
trim mode d e at whole pre front text (Part kind n ∷ ps) w a p c =
    let s = c.0 in
    let size = s.piece.0 in
    let rest : drop n text ≡ s.rest = ap (drop n) s.parts ∙ dropped n s.bytes s.rest size in
    let old = map (lexeme_of whole) (tokens_from (at + n) ps) in
    let r = trim mode d e (at + n) whole (pre ++ s.bytes) (front ++ s.bytes) s.rest ps (w ∙ (ap (λ (xs : List ℕ). pre ++ xs) s.parts ∙ sym (append_assoc pre s.bytes s.rest))) (omega (arith, length-append pre s.bytes)) (omega (arith, length-append front s.bytes)) (subst (λ (xs : List ℕ). IsCut mode xs ps []) rest c.1) in
    part_by mode d e n at kind whole pre front text old s w a p r

-- ---- without what stands before a token

pub record Begun (mode : Mode) (whole : List ℕ) (t : Lexeme) (ts : List Lexeme) : Type 0 where
  pub pre : List ℕ
  pub text : List ℕ
  pub pieces : List Piece
  pub parts : whole ≡ pre ++ text
  pub place : t.at ≡ length pre
  pub cut : IsCut mode text pieces []
  pub tokens : map (lexeme_of whole) (tokens_from (length pre) pieces) ≡ t ∷ ts

pub head_at : ℕ → List Lexeme → ℕ
head_at n [] = n
head_at n (t ∷ ts) = t.at

-- the pieces from the place of some token on
begun_from : (mode : Mode) (at : ℕ) (whole pre text : List ℕ) (ps : List Piece) (front : List Lexeme) (t : Lexeme) (ts : List Lexeme) → whole ≡ pre ++ text → at ≡ length pre → IsCut mode text ps [] → map (lexeme_of whole) (tokens_from at ps) ≡ front ++ t ∷ ts → Begun mode whole t ts
unfolding head_at
begun_from mode at whole pre text [] [] t ts w a c h = absurd cc
begun_from mode at whole pre text [] (f ∷ front) t ts w a c h = absurd cc
begun_from mode at whole pre text (Gap n ∷ ps) front t ts w a c h =
    let s = c.0 in
    let rest : drop n text ≡ s.rest = ap (drop n) s.parts ∙ dropped n s.bytes s.rest s.piece.0 in
    let size = s.piece.0 in
    begun_from mode (at + n) whole (pre ++ s.bytes) s.rest ps front t ts (w ∙ (ap (λ (xs : List ℕ). pre ++ xs) s.parts ∙ sym (append_assoc pre s.bytes s.rest))) (omega (arith, length-append pre s.bytes)) (subst (λ (xs : List ℕ). IsCut mode xs ps []) rest c.1) h
begun_from mode at whole pre text (Part kind n ∷ ps) [] t ts w a c h =
    record { pre = pre; text = text; pieces = Part kind n ∷ ps; parts = w; place = sym (ap (head_at 0) h) ∙ a; cut = c; tokens = subst (λ k. map (lexeme_of whole) (tokens_from k (Part kind n ∷ ps)) ≡ t ∷ ts) a h }
begun_from mode at whole pre text (Part kind n ∷ ps) (f ∷ front) t ts w a c h =
    let s = c.0 in
    let rest : drop n text ≡ s.rest = ap (drop n) s.parts ∙ dropped n s.bytes s.rest s.piece.0 in
    let size = s.piece.0 in
    begun_from mode (at + n) whole (pre ++ s.bytes) s.rest ps front t ts (w ∙ (ap (λ (xs : List ℕ). pre ++ xs) s.parts ∙ sym (append_assoc pre s.bytes s.rest))) (omega (arith, length-append pre s.bytes)) (subst (λ (xs : List ℕ). IsCut mode xs ps []) rest c.1) (ap (λ (xs : List Lexeme). drop 1 xs) h)

-- ---- from a token to the end of the last

-- the bytes from the token t to the end of the last, behind other bytes
pub record Keeps (mode : Mode) (bytes front : List ℕ) (t : Lexeme) (ts : List Lexeme) : Type 0 where
  pub tokens : List Lexeme
  pub lexes : Lexes mode front (part bytes t.at (end_of t.at (t ∷ ts))) tokens
  pub same : Shifted t.at (length front) (t ∷ ts) tokens
  pub end : end_of (length front) tokens ≡ length front + length (part bytes t.at (end_of t.at (t ∷ ts)))

rest_none : (mode : Mode) (at : ℕ) (rest : List ℕ) (bad : Option ℕ) → bad ≡ None → EndsAt mode at rest bad → rest ≡ []
rest_none mode at [] bad e h = refl
rest_none mode at (b ∷ rest) bad e h = absurd (let k : Some at ≡ None = sym h.0 ∙ e in cc)

kept_by : (mode : Mode) (bytes front : List ℕ) (t : Lexeme) (ts : List Lexeme) (b : Begun mode bytes t ts) → Trimmed mode t.at (length front) front b.text (t ∷ ts) → Keeps mode bytes front t ts
kept_by mode bytes front t ts b r =
    let end = shifted_end t.at (length front) t.at (length front) (t ∷ ts) r.tokens (omega arith) r.same in
    let size : end_of t.at (t ∷ ts) - t.at ≡ length r.kept = (let k = r.end in omega arith) in
    let is : part bytes t.at (end_of t.at (t ∷ ts)) ≡ r.kept = rw (size, b.parts, b.place, drop-append_seam b.pre b.text, r.parts) (take-append_seam r.kept r.behind) in
    record {
      tokens = r.tokens;
      lexes = subst (λ (xs : List ℕ). Lexes mode front xs r.tokens) (sym is) r.lexes;
      same = r.same;
      end = r.end ∙ ap (λ (xs : List ℕ). length front + length xs) (sym is);
    }

pub keeps : (mode : Mode) (bytes front : List ℕ) (before : List Lexeme) (t : Lexeme) (ts : List Lexeme) → (lexed_text mode bytes).bad ≡ None → (lexed_text mode bytes).lexemes ≡ before ++ t ∷ ts → Keeps mode bytes front t ts
keeps mode bytes front before t ts bad e =
    let l = lexed_is mode bytes in
    let none = rest_none mode (place_behind 0 l.pieces) l.rest (lexed mode bytes).bad bad l.ends in
    let cut : IsCut mode bytes l.pieces [] = subst (IsCut mode bytes l.pieces) none l.cut in
    let b = begun_from mode 0 bytes [] bytes l.pieces before t ts refl refl cut (ap (λ (xs : List Token). map (lexeme_of bytes) xs) (sym l.tokens) ∙ e) in
    kept_by mode bytes front t ts b (subst (Trimmed mode t.at (length front) front b.text) b.tokens (trim mode t.at (length front) (length b.pre) bytes b.pre front b.text b.pieces b.parts refl (let p = b.place in omega arith) b.cut))
