-- What the calls answer, as what is lexed.
use Rattle.std.specs.Prelude.{◌≡◌, Some}
use Rattle.ds_lex.specs.declared.scanning.Scanned.{Scanned}
use Rattle.ds_lex.specs.declared.token.LexFault.{LexFault}
use Rattle.ds_lex.specs.declared.token.LexFault.TheVariants.{BadToken, Memory}
use Rattle.ds_lex.specs.Lexed.{Lexed}

abbrev pub seen : Scanned → Lexed
seen s = record { tokens = s.tokens.items; bad = s.bad }

-- a fault tells the first place where no token begins
abbrev pub Refuses : LexFault → Lexed → Type 0
Refuses (BadToken at) l = l.bad ≡ Some at
Refuses Memory l = Unit {0}
