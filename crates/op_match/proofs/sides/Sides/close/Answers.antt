use Rattle.std.proofs.Common.{◌≡◌, ◌<◌, ◌∙◌, true, refl, List, sym, subst, ap, length, get_or}
use Rattle.op_match.specs.declared.side.Side.{Side}
use Rattle.op_match.specs.Waiting.{side_rows, IsReady}
use Rattle.op_match.proofs.Pieces.{all_there}
use Rattle.op_match.proofs.Taking.{end_set, keys_set, may_length, rows_set, sound_set}
use Rattle.op_match.proofs.sides.Sides.close.Goals as goal

pub index_mut-requires : goal.index_mut-requires
index_mut-requires c = subst (λ n. c.args.port < n) (sym c.args.self.now.list.ok.0) (may_length c.args.self.now.list.items c.args.port c.requires.wanted)

pub returns-clause-sound : goal.returns-clause-sound
returns-clause-sound c =
    let L : List Side = c.args.self.now.list.items in
    let d : Side = c.index_mut.result.now in
    let is : d ≡ get_or L c.args.port d = c.index_mut.ensures.value in
    let lt : c.args.port < length L = may_length L c.args.port c.requires.wanted in
    sound_set L c.args.port d (record { keys = c.index_mut.result.now.keys; run = c.index_mut.result.now.run; next = c.index_mut.result.now.next; over = true }) lt (ap (λ (s : Side). s.keys) is) (subst IsReady (sym is) (all_there IsReady L c.args.port d lt c.requires.sound.ready)) c.requires.sound

pub returns-clause-keys : goal.returns-clause-keys
returns-clause-keys c =
    let L : List Side = c.args.self.now.list.items in
    let d : Side = c.index_mut.result.now in
    let is : d ≡ get_or L c.args.port d = c.index_mut.ensures.value in
    let lt : c.args.port < length L = may_length L c.args.port c.requires.wanted in
    keys_set L c.args.port d (record { keys = c.index_mut.result.now.keys; run = c.index_mut.result.now.run; next = c.index_mut.result.now.next; over = true }) lt (ap (λ (s : Side). s.keys) is)

pub returns-clause-ends : goal.returns-clause-ends
returns-clause-ends c =
    let L : List Side = c.args.self.now.list.items in
    let d : Side = c.index_mut.result.now in
    let is : d ≡ get_or L c.args.port d = c.index_mut.ensures.value in
    let lt : c.args.port < length L = may_length L c.args.port c.requires.wanted in
    end_set L c.args.port (record { keys = c.index_mut.result.now.keys; run = c.index_mut.result.now.run; next = c.index_mut.result.now.next; over = true }) lt refl

pub returns-clause-rows : goal.returns-clause-rows
returns-clause-rows c =
    let L : List Side = c.args.self.now.list.items in
    let d : Side = c.index_mut.result.now in
    let is : d ≡ get_or L c.args.port d = c.index_mut.ensures.value in
    let lt : c.args.port < length L = may_length L c.args.port c.requires.wanted in
    rows_set L c.args.port d (record { keys = c.index_mut.result.now.keys; run = c.index_mut.result.now.run; next = c.index_mut.result.now.next; over = true }) lt (ap side_rows is)
