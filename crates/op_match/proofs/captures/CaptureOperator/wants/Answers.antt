use Rattle.std.proofs.Common.{sym, subst}
use Rattle.op_base.specs.Standing.{Answers}
use Rattle.op_match.specs.Capturing.{capture_rule}
use Rattle.op_match.specs.Waiting.{sides_stream}
use Rattle.op_match.proofs.Standing.{answers}
use Rattle.op_match.proofs.captures.CaptureOperator.wants.Goals as goal

pub returns : goal.returns
returns c = λ feeds stands.
    subst (λ w. Answers w (sides_stream c.args.self.now.sides.list.items (capture_rule c.args.self.now)) feeds) (sym c.wants.ensures) (answers c.args.self.now.sides.list.items (capture_rule c.args.self.now) feeds stands c.args.self.now.sides.some)
