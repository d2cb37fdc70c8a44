use Rattle.std.proofs.Common.{ℕ, Bool, refl, sym, ap, ◌∙◌}
use Rattle.std.specs.Global.{Vec}
use Rattle.std.specs.Str.{bytes_eq}
use Rattle.indexmap.specs.IndexMap.{insert_entry}
use Rattle.indexmap.proofs.CallerLemmas.{insert_entry-new}
use Rattle.ds_schema.specs.Rows.{cols, val, sub}
use Rattle.op_group.proofs.GiveLaws.{keys_there, aggs_there, keys_short}
use Rattle.op_group.proofs.Told.{all_told}
use Rattle.op_group.proofs.TableLaws.{found, row_joins, row_begins}
use Rattle.op_group.proofs.table.add_row.Goals as goal

pub key_of-requires-clause-columns : goal.key_of-requires-clause-columns
key_of-requires-clause-columns c = keys_there c.args.keys.now c.args.aggs.now c.args.row.now c.requires.suits

pub add-requires : goal.add-requires
add-requires c =
    let keys = c.args.keys.now in
    let aggs = c.args.aggs.now in
    let row = c.args.row.now in
    let told = all_told (val (cols keys) row) (keys_short keys aggs row c.requires.suits) c.in_ok-key.ensures.held in
    let f = found keys aggs c.requires.groups.0 row c.in_ok-key.key.items _ c.in_ok-key.ensures.bytes told (λ k. refl) c.args.table.now.entries c.in-Some.group.now c.requires.groups.1.each (sym c.in-Some.ensures.value) in
    (aggs, sub (cols keys) c.in-Some.group.now.values c.requires.groups.0, f.1.tally, aggs_there keys aggs row c.requires.suits)

pub returns-in-Some : goal.returns-in-Some
returns-in-Some c = λ rows groups.
    let keys = c.args.keys.now in
    let aggs = c.args.aggs.now in
    let row = c.args.row.now in
    let told = all_told (val (cols keys) row) (keys_short keys aggs row c.requires.suits) c.in_ok-key.ensures.held in
    row_joins keys aggs rows row c.in_ok-key.key.items _ c.in_ok-key.ensures.bytes told (λ k. refl) c.in-Some.group.now (record { values = c.in-Some.group.now.values; tally = c.add.new.self }) refl
    (λ stands. c.in_ok-add.ensures aggs (sub (cols keys) c.in-Some.group.now.values rows) stands) c.args.table.now.entries _ groups (sym c.in-Some.ensures.value) (c.get_mut.follows.holds _).0

pub returns : goal.returns
returns c = λ rows groups.
    let keys = c.args.keys.now in
    let aggs = c.args.aggs.now in
    let row = c.args.row.now in
    let told = all_told (val (cols keys) row) (keys_short keys aggs row c.requires.suits) c.in_ok-key.ensures.held in
    let table = c.args.table.now in
    let key = c.in_ok-key.key in
    let group = c.in_ok-group.group in
    let same : Vec ℕ → Vec ℕ → Bool = λ k m. bytes_eq k.items m.items in
    row_begins keys aggs rows row key.items _ c.in_ok-key.ensures.bytes told (λ k. refl) table.entries _ key group groups (sym c.in_default.ensures.value) refl c.in_ok-group.ensures.values c.in_ok-group.ensures.tally
    (c.in_ok-insert.ensures.entries ∙ ap (λ m. insert_entry same m.entries key group) c.get_mut.follows.holds-at-none ∙ insert_entry-new same table key group (sym c.in_default.ensures.value))
