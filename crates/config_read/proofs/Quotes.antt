-- A QUOTED of a text begins with a quote.
use Rattle.std.proofs.Common.{◌≡◌, ◌+◌, ◌-◌, ℕ, zero, suc, List, [], ◌∷◌, ◌++◌, length, map, drop, Option, Some, None, true, refl, sym, ap, subst, ◌∙◌, arith}
use Rattle.std.specs.List.{AllByRecursion}
use Rattle.std.proofs.lemmas.List.{drop-drop}
use Rattle.std.proofs.Math.Seq.{take-append_seam}
use Rattle.ds_lex.specs.declared.token.Mode.{Mode}
use Rattle.ds_lex.specs.declared.token.Sort.{Sort}
use Rattle.ds_lex.specs.declared.token.Sort.TheVariants as sort
use Rattle.ds_lex.specs.declared.token.Piece.{Piece}
use Rattle.ds_lex.specs.declared.token.Piece.TheVariants.{Gap, Part}
use Rattle.ds_lex.specs.Pieces.{begins_with, opens_quoted, piece_from}
use Rattle.ds_lex.specs.Lexed.{Lexed, after_piece, lexed_from}
use Rattle.ds_lex.specs.Lexemes.{lexeme_of, lexemes_of, part}
use Rattle.ds_lex.specs.Tokens.{IsToken as IsTokenOf, IsQuoted as HasQuotes}
use Rattle.ds_lex.proofs.LexedLaws.{stands_found}
use Rattle.config_read.proofs.Giving.{IsToken}

opens_by : (bytes : List ℕ) → HasQuotes bytes → begins_with opens_quoted bytes ≡ true
opens_by bytes h = rw h.parts h.opens

quoted_by : (mode : Mode) (kind : Sort) (at : ℕ) (bytes : List ℕ) → IsTokenOf mode kind bytes → IsToken (record { at = at; sort = kind; bytes = bytes })
quoted_by mode sort.Word at bytes h = λ e. absurd cc
quoted_by mode sort.Opt at bytes h = λ e. absurd cc
quoted_by mode sort.Number at bytes h = λ e. absurd cc
quoted_by mode sort.Sign at bytes h = λ e. absurd cc
quoted_by mode sort.Quoted at bytes h = λ e. opens_by bytes h

-- the bytes of a token are those that stand there
part_is : (text x rest : List ℕ) (at n : ℕ) → drop at text ≡ x ++ rest → length x ≡ n → part text at (at + n) ≡ x
part_is text x rest at n d e =
    let k : at + n - at ≡ length x = omega (arith, e) in
    rw (k, d) (take-append_seam x rest)

first_is : (mode : Mode) (text : List ℕ) (at b : ℕ) (bs : List ℕ) (kind : Sort) (n : ℕ) → drop at text ≡ b ∷ bs → piece_from mode b bs ≡ Some (Part kind n) → IsToken (lexeme_of text (record { sort = kind; from = at; to = at + n }))
first_is mode text at b bs kind n d e =
    let s = stands_found mode (b ∷ bs) (Part kind n) e in
    let same = part_is text s.bytes s.rest at n (d ∙ s.parts) s.piece.0 in
    subst (λ (xs : List ℕ). IsToken (record { at = at; sort = kind; bytes = xs })) (sym same) (quoted_by mode kind at s.bytes s.piece.1)

abbrev Are : List ℕ → Lexed → Type 0
Are text l = AllByRecursion IsToken (map (lexeme_of text) l.tokens)

are_by : (mode : Mode) (text : List ℕ) (at b : ℕ) (bs : List ℕ) (p : Option Piece) → drop at text ≡ b ∷ bs → piece_from mode b bs ≡ p → ((more : ℕ) → Are text (lexed_from mode (at + 1) more bs)) → Are text (after_piece at p (λ more. lexed_from mode (at + 1) more bs))
are_by mode text at b bs None d e more = tt
are_by mode text at b bs (Some (Gap n)) d e more = more (n - 1)
are_by mode text at b bs (Some (Part kind n)) d e more = (first_is mode text at b bs kind n d e, more (n - 1))

next : (text : List ℕ) (at b : ℕ) (bs : List ℕ) → drop at text ≡ b ∷ bs → drop (at + 1) text ≡ bs
next text at b bs d = sym (drop-drop 1 at text) ∙ ap (drop 1) d

are : (mode : Mode) (text : List ℕ) (at more : ℕ) (bs : List ℕ) → drop at text ≡ bs → Are text (lexed_from mode at more bs)
are mode text at more [] d = tt
are mode text at (suc more) (b ∷ bs) d = are mode text (at + 1) more bs (next text at b bs d)
are mode text at zero (b ∷ bs) d = are_by mode text at b bs (piece_from mode b bs) d refl (λ more. are mode text (at + 1) more bs (next text at b bs d))

pub lexemes_quoted : (mode : Mode) (text : List ℕ) → AllByRecursion IsToken (lexemes_of mode text)
lexemes_quoted mode text = are mode text 0 0 text refl
