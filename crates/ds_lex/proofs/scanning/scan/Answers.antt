use Rattle.std.proofs.Common.{sym}
use Rattle.ds_lex.proofs.Lexing.{within_more, gap_more, part_more}
use Rattle.ds_lex.proofs.scanning.scan.Goals as goal

pub loop-at-preserved-in-Some-Gap : goal.loop-at-preserved-in-Some-Gap
loop-at-preserved-in-Some-Gap c =
    let value = rw c.in-Some-Gap.field-0-is at c.in-Some-Gap.ensures.value in
    let size = rw c.in-Some-Gap.field-0-is at c.in-Some-Gap.ensures.within in
    record {
      within = within_more c.loop-at.at c.in-Some-Gap.n c.args.text.now c.loop-at.invariant.within size.1;
      rest = gap_more c.args.mode c.loop-at.at c.in-Some-Gap.n c.args.text.now c.loop-at.tokens.items c.loop-at.invariant.within size.0 (sym value) c.loop-at.invariant.rest;
    }

pub loop-at-preserved : goal.loop-at-preserved
loop-at-preserved c =
    let value = rw c.in-Some-Part.field-0-is at c.in-Some-Part.ensures.value in
    let size = rw c.in-Some-Part.field-0-is at c.in-Some-Part.ensures.within in
    record {
      within = within_more c.loop-at.at c.in-Some-Part.n c.args.text.now c.loop-at.invariant.within size.1;
      rest = rw c.in_ok-push-in-Some-Part.ensures.items (part_more c.args.mode c.loop-at.at c.in-Some-Part.n c.in-Some-Part.sort c.args.text.now c.loop-at.tokens.items c.loop-at.invariant.within size.0 (sym value) c.loop-at.invariant.rest);
    }
