-- The tokens of a text with their places and bytes, and what stands behind the last of them.
use Rattle.std.specs.Prelude.{ℕ, ◌-◌, nat_lt, List, length, map, take, drop, Option, Some, None, if◌then◌else◌}
use Rattle.ds_lex.specs.declared.token.Mode.{Mode}
use Rattle.ds_lex.specs.declared.token.Sort.{Sort}
use Rattle.ds_lex.specs.declared.token.Token.{Token}
use Rattle.ds_lex.specs.declared.lexeme.Lexeme.{Lexeme as Borrowed}
use Rattle.ds_lex.specs.declared.lexeme.LexedText.{LexedText as BorrowedText}
use Rattle.ds_lex.specs.declared.lexeme.LimitedText.{LimitedText as BorrowedLimited}
use Rattle.ds_lex.specs.declared.lexeme.End.{End}
use Rattle.ds_lex.specs.declared.lexeme.End.TheVariants as end
use Rattle.ds_lex.specs.Lexed.{lexed}

-- a token with its place and its bytes
pub record Lexeme : Type 0 where
  pub at : ℕ
  pub sort : Sort
  pub bytes : List ℕ

-- the same without where the bytes lie in memory
abbrev pub lexeme : Borrowed → Lexeme
lexeme t = record { at = t.at; sort = t.sort; bytes = t.bytes.now }

abbrev pub lexemes : List Borrowed → List Lexeme
lexemes ts = map lexeme ts

-- the bytes from one place up to another
abbrev pub part : List ℕ → ℕ → ℕ → List ℕ
part text from to = take (to - from) (drop from text)

abbrev pub lexeme_of : List ℕ → Token → Lexeme
lexeme_of text t = record { at = t.from; sort = t.sort; bytes = part text t.from t.to }

-- the tokens of a text up to its end, or to the first place where none begins
pub record LexedText : Type 0 where
  pub lexemes : List Lexeme
  pub bad : Option ℕ

abbrev pub seen_text : BorrowedText → LexedText
seen_text t = record { lexemes = lexemes t.lexemes.items; bad = t.bad }

abbrev pub lexemes_of : Mode → List ℕ → List Lexeme
lexemes_of mode text = map (lexeme_of text) (lexed mode text).tokens

abbrev pub lexed_text : Mode → List ℕ → LexedText
lexed_text mode text = record { lexemes = lexemes_of mode text; bad = (lexed mode text).bad }

-- the tokens of a text's first bytes, and what stands behind them
pub record LimitedText : Type 0 where
  pub lexemes : List Lexeme
  pub end : End

abbrev pub seen_limited : BorrowedLimited → LimitedText
seen_limited t = record { lexemes = lexemes t.lexemes.items; end = t.end }

abbrev pub place_of : End → ℕ
place_of (end.Text at) = at
place_of (end.NoToken at) = at
place_of (end.Limit at) = at

-- a place where no token begins, else the limit where the text goes on behind it, else the end of the text
abbrev pub end_of : ℕ → ℕ → Option ℕ → End
end_of limit len (Some at) = end.NoToken at
end_of limit len None = if nat_lt limit len then end.Limit limit else end.Text len

abbrev pub front_text : Mode → ℕ → List ℕ → LimitedText
front_text mode limit text =
    let front = lexed_text mode (take limit text) in
    record { lexemes = front.lexemes; end = end_of limit (length text) front.bad }

-- of a long text only the first bytes are made into tokens
unfoldable pub limited_text : Mode → List ℕ → LimitedText
limited_text mode text = front_text mode 1_048_576 text
