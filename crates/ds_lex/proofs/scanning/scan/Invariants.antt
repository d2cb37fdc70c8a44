use Rattle.std.proofs.Common.{◌≡◌, ◌-◌, ◌≤◌, drop, length}
use Rattle.ds_lex.specs.Lexed.{lexed_from, lexed}
use Rattle.ds_lex.proofs.Lexing.{with_front}
use Rattle.ds_lex.proofs.scanning.scan.Given as goal

-- the tokens so far and those of what is left are those of all
abbrev pub invariant-loop-at : goal.invariant-loop-at
invariant-loop-at l = record {
  within : l.at ≤ length l.text;
  rest : with_front l.tokens.items (lexed_from l.mode l.at 0 (drop l.at l.text)) ≡ lexed l.mode l.text;
}

abbrev pub decreases-loop-at : goal.decreases-loop-at
decreases-loop-at l = length l.text - l.at
