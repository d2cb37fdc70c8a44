use Rattle.std.proofs.Common.{◌≡◌, ◌+◌, length}
use Rattle.ds_lex.specs.Pieces.{comment_len, added}
use Rattle.ds_lex.proofs.piece.comment_len.Given as goal

abbrev pub invariant-loop-rest : goal.invariant-loop-rest
invariant-loop-rest l = record {
  rest : comment_len l.bytes ≡ added l.passed (comment_len l.rest);
  place : l.passed + length l.rest ≡ length l.bytes;
}

abbrev pub decreases-loop-rest : goal.decreases-loop-rest
decreases-loop-rest l = length l.rest
