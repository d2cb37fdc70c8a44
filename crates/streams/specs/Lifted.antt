-- An operator over one kind of items as an operator over items of several kinds, as rows among lines: it passes over the others.
use Rattle.std.specs.Prelude.{◌≡◌, ℕ, List, [], ◌∷◌, map, option_map, Option, Some}
use Rattle.std.specs.List.{filter_map}
use Rattle.streams.specs.Streams.{Item, row, end, Feed, Out, sends, fails, Stream, emits_after, Gives, IsStream, IsSingle}

-- an item of the kind, or End
abbrev pub picked_item : {X Y : Type 0} → (X → Option Y) → Item X → Option (Item Y)
picked_item pick (row x) = option_map row (pick x)
picked_item pick end = Some end

abbrev pub picked_feed : {X Y : Type 0} → (X → Option Y) → Feed X → Option (Feed Y)
picked_feed pick f = option_map (λ item. record { port = f.port; item = item }) (picked_item pick f.item)

abbrev pub picked : {X Y : Type 0} → (X → Option Y) → List (Feed X) → List (Feed Y)
picked pick feeds = filter_map (picked_feed pick) feeds

abbrev pub with_rows : {X Y F : Type 0} → (Y → X) → Out Y F → Out X F
with_rows as_item (sends port y) = sends port (as_item y)
with_rows as_item (fails fault) = fails fault

abbrev pub lifted : {X Y F : Type 0} → (X → Option Y) → (Y → X) → Stream Y F → Stream X F
lifted pick as_item operator = record {
  ports = operator.ports;
  wants = λ feeds. operator.wants (picked pick feeds);
  gives = λ done f. map (with_rows as_item) (emits_after operator (picked pick done) (picked pick (f ∷ [])));
}

-- what is lifted is an operator, and emits what the operator emits of the items of its kind
abbrev pub LiftedFits : Type 0 → Type 0 → Type 0 → Type 0
LiftedFits X Y F = (pick : X → Option Y) (as_item : Y → X) (operator : Stream Y F) → IsStream operator → IsStream (lifted pick as_item operator)
    × (IsSingle operator → IsSingle (lifted pick as_item operator))
    × ((lists : ℕ → List X) (outs : List (Out X F)) → Gives (lifted pick as_item operator) lists outs → (inner : List (Out Y F)) × Gives operator (λ i. filter_map pick (lists i)) inner × (outs ≡ map (with_rows as_item) inner))
