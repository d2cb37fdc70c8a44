-- The tokens of a text, and the first place where neither a separator nor a token begins.
use Rattle.std.specs.Prelude.{ℕ, ◌+◌, ◌-◌, suc, zero, List, [], ◌∷◌, Option, Some, None}
use Rattle.ds_lex.specs.declared.token.Mode.{Mode}
use Rattle.ds_lex.specs.declared.token.Token.{Token}
use Rattle.ds_lex.specs.declared.token.Piece.{Piece}
use Rattle.ds_lex.specs.declared.token.Piece.TheVariants.{Gap, Part}
use Rattle.ds_lex.specs.Pieces.{piece_from}

-- the tokens up to the end of the text, or to the first place where none begins
pub record Lexed : Type 0 where
  pub tokens : List Token
  pub bad : Option ℕ

abbrev pub with_token : Token → Lexed → Lexed
with_token t rest = record { tokens = t ∷ rest.tokens; bad = rest.bad }

-- A piece stands at `at`, and `rest more` is what is lexed of the bytes behind its first, of which `more` are still its own.
abbrev pub after_piece : ℕ → Option Piece → (ℕ → Lexed) → Lexed
after_piece at None rest = record { tokens = []; bad = Some at }
after_piece at (Some (Gap n)) rest = rest (n - 1)
after_piece at (Some (Part sort n)) rest = with_token (record { sort = sort; from = at; to = at + n }) (rest (n - 1))

-- `more` bytes of the piece before are passed over first
abbrev pub lexed_from : Mode → ℕ → ℕ → List ℕ → Lexed
lexed_from mode at more [] = record { tokens = []; bad = None }
lexed_from mode at (suc more) (b ∷ bs) = lexed_from mode (at + 1) more bs
lexed_from mode at zero (b ∷ bs) = after_piece at (piece_from mode b bs) (λ more. lexed_from mode (at + 1) more bs)

abbrev pub lexed : Mode → List ℕ → Lexed
lexed mode text = lexed_from mode 0 0 text
