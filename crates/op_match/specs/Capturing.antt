-- The rule by which the operator of changecapture works.
use Rattle.std.specs.Prelude.{List}
use Rattle.ds_schema.specs.declared.key.Key.{Key}
use Rattle.op_base.specs.Keyed.{get_keys}
use Rattle.op_runs.specs.KeyedStreams.{KeyRule}
use Rattle.op_match.specs.declared.captures.Capture.{Capture}
use Rattle.op_match.specs.declared.side.Side.{Side}
use Rattle.op_match.specs.Captures.{capture_outs}
use Rattle.op_match.specs.Waiting.{keys_in}

abbrev pub first_keys : List Side → List Key
first_keys sides = get_keys (keys_in sides) 0

abbrev pub capture_rule : Capture → KeyRule
capture_rule s = capture_outs (first_keys s.sides.list.items) s.changes.values.items s.changes.keep
