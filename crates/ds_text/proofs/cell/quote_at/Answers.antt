use Rattle.ds_text.proofs.Unquoting.{piece_found, piece_none}
use Rattle.ds_text.proofs.cell.quote_at.Goals as goal

pub returns-clause-piece : goal.returns-clause-piece
returns-clause-piece c = piece_found c.args.bytes.now c.memchr.result c.memchr.ensures

pub returns-clause-none : goal.returns-clause-none
returns-clause-none c = piece_none c.args.bytes.now c.memchr.result c.memchr.ensures
