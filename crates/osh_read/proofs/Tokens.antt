-- Passing over a token.
use Rattle.std.proofs.Common.{◌≡◌, ◌∷◌, [], List, Result, Ok, Err, drop, OnErr, ap}
use Rattle.ds_lex.specs.declared.lexeme.Lexeme.{Lexeme as Borrowed}
use Rattle.ds_lex.specs.declared.refusal.Refusal.{Refusal}
use Rattle.ds_lex.specs.Lexemes.{Lexeme}
use Rattle.ds_lex.specs.Reading.{moved_token, token_at}
use Rattle.osh_read.specs.declared.fault.OshWhy.{OshWhy}

behind : Result (Lexeme × List Lexeme) (Refusal OshWhy) → List Lexeme
behind (Ok p) = p.1
behind (Err e) = []

behind_token : (r : Result Borrowed (Refusal OshWhy)) (t : Lexeme) (ts rest : List Lexeme) → moved_token r rest ≡ Ok (t, ts) → rest ≡ ts
unfolding behind
behind_token (Ok u) t ts rest e = ap behind e
behind_token (Err s) t ts rest e = cc

pub passed : (r : Result Borrowed (Refusal OshWhy)) (ts rest : List Lexeme) → moved_token r rest ≡ token_at OshWhy ts → OnErr r (rest ≡ ts) → rest ≡ drop 1 ts
unfolding token_at
passed (Ok t) [] rest e u = cc
passed (Ok t) (x ∷ ts) rest e u = behind_token (Ok t) x ts rest e
passed (Err s) [] rest e u = u
passed (Err s) (x ∷ ts) rest e u = cc
