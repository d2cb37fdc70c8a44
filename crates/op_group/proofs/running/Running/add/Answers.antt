use Rattle.op_group.proofs.RunningLaws.{follows_min, follows_max, follows_last}
use Rattle.op_group.proofs.running.Running.add.Goals as goal

pub returns-in_ok-keep_least-in-Min : goal.returns-in_ok-keep_least-in-Min
returns-in_ok-keep_least-in-Min c =
    follows_min c.args.before c.args.row.now _ c.args.self.now c.in-Min.kept c.keep_least.new.self c.index-values-kept.result c.requires.suits c.as_slice-values.ensures c.index-values-kept.is
    c.in_ok-keep_least-in-Min.ensures.col c.in-Min.is c.in_ok-keep_least-in-Min.ensures.value

pub returns-in_ok-keep_greatest-in-Max : goal.returns-in_ok-keep_greatest-in-Max
returns-in_ok-keep_greatest-in-Max c =
    follows_max c.args.before c.args.row.now _ c.args.self.now c.in-Max.kept c.keep_greatest.new.self c.index-values-kept-in-Max.result c.requires.suits c.as_slice-values.ensures c.index-values-kept-in-Max.is
    c.in_ok-keep_greatest-in-Max.ensures.col c.in-Max.is c.in_ok-keep_greatest-in-Max.ensures.value

pub returns-in_ok-keep-in-Last : goal.returns-in_ok-keep-in-Last
returns-in_ok-keep-in-Last c =
    follows_last c.args.before c.args.row.now _ c.args.self.now c.in-Last.kept c.keep-in-Last.new.self c.index-values-kept-in-Last.result c.requires.suits c.as_slice-values.ensures c.index-values-kept-in-Last.is
    c.in_ok-keep-in-Last.ensures.col c.in-Last.is c.in_ok-keep-in-Last.ensures.value
