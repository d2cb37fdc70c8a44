use Rattle.std.proofs.Common.{◌≡◌, ◌<◌, ◌∙◌, List, [], ◌∷◌, ◌++◌, sym, subst, ap, length, get_or}
use Rattle.op_match.specs.declared.side.Side.{Side}
use Rattle.op_match.specs.Waiting.{is_complete, side_rows, IsReady}
use Rattle.op_match.proofs.Pieces.{all_there, open_next}
use Rattle.op_match.proofs.Taking.{ends_set, fed_set, keys_set, may_length, may_open, sound_set}
use Rattle.op_match.proofs.sides.Sides.add.Goals as goal

pub index_mut-requires : goal.index_mut-requires
index_mut-requires c = subst (λ n. c.args.port < n) (sym c.args.self.now.list.ok.0) (may_length c.args.self.now.list.items c.args.port c.requires.wanted)

pub add-requires-clause-open : goal.add-requires-clause-open
add-requires-clause-open c =
    let d : Side = c.index_mut.result.now in
    open_next d (ap is_complete c.index_mut.ensures.value ∙ may_open c.args.self.now.list.items c.args.port d c.requires.wanted)

pub add-requires-clause-ready : goal.add-requires-clause-ready
add-requires-clause-ready c =
    let L : List Side = c.args.self.now.list.items in
    let d : Side = c.index_mut.result.now in
    let is : d ≡ get_or L c.args.port d = c.index_mut.ensures.value in
    let lt : c.args.port < length L = may_length L c.args.port c.requires.wanted in
    subst IsReady (sym is) (all_there IsReady L c.args.port d lt c.requires.sound.ready)

pub returns-clause-sound : goal.returns-clause-sound
returns-clause-sound c =
    let L : List Side = c.args.self.now.list.items in
    let d : Side = c.index_mut.result.now in
    let is : d ≡ get_or L c.args.port d = c.index_mut.ensures.value in
    let lt : c.args.port < length L = may_length L c.args.port c.requires.wanted in
    sound_set L c.args.port d c.add.new.self lt (c.in_ok-add.ensures.keys ∙ ap (λ (s : Side). s.keys) is) c.in_ok-add.ensures.ready c.requires.sound

pub returns-clause-keys : goal.returns-clause-keys
returns-clause-keys c =
    let L : List Side = c.args.self.now.list.items in
    let d : Side = c.index_mut.result.now in
    let is : d ≡ get_or L c.args.port d = c.index_mut.ensures.value in
    let lt : c.args.port < length L = may_length L c.args.port c.requires.wanted in
    keys_set L c.args.port d c.add.new.self lt (c.in_ok-add.ensures.keys ∙ ap (λ (s : Side). s.keys) is)

pub returns-clause-ends : goal.returns-clause-ends
returns-clause-ends c =
    let L : List Side = c.args.self.now.list.items in
    let d : Side = c.index_mut.result.now in
    let is : d ≡ get_or L c.args.port d = c.index_mut.ensures.value in
    let lt : c.args.port < length L = may_length L c.args.port c.requires.wanted in
    ends_set L c.args.port d c.add.new.self lt (c.in_ok-add.ensures.over ∙ ap (λ (s : Side). s.over) is)

pub returns-clause-rows : goal.returns-clause-rows
returns-clause-rows c =
    let L : List Side = c.args.self.now.list.items in
    let d : Side = c.index_mut.result.now in
    let is : d ≡ get_or L c.args.port d = c.index_mut.ensures.value in
    let lt : c.args.port < length L = may_length L c.args.port c.requires.wanted in
    fed_set L c.args.port d c.add.new.self c.args.row lt (c.in_ok-add.ensures.rows ∙ ap (λ (s : Side). side_rows s ++ c.args.row ∷ []) is)
