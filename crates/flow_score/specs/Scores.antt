-- The score of a flow: its operators with their degrees, its links with what was chosen for them, and its players.
use Rattle.std.specs.Prelude.{◌≡◌, ◌<◌, ◌==◌, ◌&&◌, not, ℕ, ◌+◌, Bool, true, false, List, [], ◌∷◌, ◌++◌, length, get_or, codes, Option, Some, None}
use Rattle.std.specs.List.{flat_map, range_with_len, sum_by}
use Rattle.std.specs.Fmt.{decimal}
use Rattle.ds_schema.specs.declared.key.Key.{Key}
use Rattle.ds_schema.specs.declared.schema.Field.{Field}
use Rattle.flow_graph.specs.declared.flow.LinkSpec.{LinkSpec}
use Rattle.flow_graph.specs.declared.flow.OpSpec.{OpSpec}
use Rattle.flow_graph.specs.declared.flow.Mark.{Mark}
use Rattle.flow_graph.specs.declared.flow.Mark.TheVariants as mark
use Rattle.flow_graph.specs.declared.op_kind.OpKind.{OpKind}
use Rattle.flow_graph.specs.declared.op_kind.OpKind.TheVariants as kind
use Rattle.flow_graph.specs.declared.parts.Stored.{Stored}
use Rattle.flow_graph.specs.declared.route.Route.{Route}
use Rattle.flow_graph.specs.declared.route.Route.TheVariants as route
use Rattle.flow_graph.specs.declared.route.Choice.{Choice}
use Rattle.flow_graph.specs.Charts.{Chart, op_at, link_at}
use Rattle.flow_score.specs.VerdictText.{fields_at}
use Rattle.flow_score.specs.Texts.{route_text, keys_text, bracketed}

abbrev pub kind_name : OpKind → List ℕ
kind_name (kind.Import file schema delim fixed reject) = codes "import"
kind_name (kind.Export file delim fixed) = codes "export"
kind_name (kind.Dsread ds) = codes "dsread"
kind_name (kind.Dswrite ds) = codes "dswrite"
kind_name kind.Copy = codes "copy"
kind_name (kind.Filter test reject) = codes "filter"
kind_name (kind.Transform set reject) = codes "transform"
kind_name (kind.Modify keep drop rename) = codes "modify"
kind_name (kind.Switch on cases reject) = codes "switch"
kind_name (kind.Tsort key) = codes "tsort"
kind_name (kind.Remdup key last) = codes "remdup"
kind_name (kind.Group key hash results) = codes "group"
kind_name (kind.InnerJoin key) = codes "innerjoin"
kind_name (kind.LeftOuterJoin key) = codes "leftouterjoin"
kind_name (kind.RightOuterJoin key) = codes "rightouterjoin"
kind_name (kind.FullOuterJoin key) = codes "fullouterjoin"
kind_name (kind.Merge key keepbad reject) = codes "merge"
kind_name (kind.Lookup key missing) = codes "lookup"
kind_name (kind.Changecapture key values keepcopy) = codes "changecapture"
kind_name (kind.Funnel sequence sort) = codes "funnel"

-- a data set has as many partitions as were stored
abbrev pub stored_degree : Option Stored → ℕ
stored_degree None = 0
stored_degree (Some s) = s.partitions

-- the number of partitions of an operator, with so many nodes in the default pool
abbrev pub degree : ℕ → Mark → Option Stored → ℕ
degree nodes mark.Seq stored = 1
degree nodes mark.Par stored = nodes
degree nodes mark.Stored stored = stored_degree stored

abbrev pub degree_at : Chart → ℕ → ℕ → ℕ
degree_at c nodes o = degree nodes (op_at c o).mark (get_or c.stored o None)

abbrev pub mark_name : Mark → List ℕ
mark_name mark.Seq = codes "seq"
mark_name mark.Par = codes "par"
mark_name mark.Stored = codes "set"

abbrev pub op_line : ℕ → OpSpec → ℕ → List ℕ
op_line number op degree =
    codes "op " ++ (decimal number ++ (codes " " ++ (kind_name op.kind ++ (codes " " ++ (mark_name op.mark ++ (codes " " ++ (decimal degree ++ codes "\n")))))))

-- an end of a link: an operator and a port of it
abbrev pub end_text : ℕ → ℕ → List ℕ
end_text op port = decimal op ++ (codes "." ++ (decimal port ++ codes " "))

abbrev pub sort_text : List Field → Option (List Key) → List ℕ
sort_text fields None = []
sort_text fields (Some keys) = codes " " ++ bracketed (codes "tsort") (keys_text fields keys)

-- a link's number and its ends
abbrev pub ends_text : ℕ → LinkSpec → List ℕ
ends_text number link = codes "link " ++ (decimal number ++ (codes " " ++ (end_text link.from link.out ++ end_text link.to link.port)))

abbrev pub link_line : ℕ → LinkSpec → List Field → Choice → List ℕ
link_line number link fields choice = ends_text number link ++ (route_text fields choice.method ++ (sort_text fields choice.sort ++ codes "\n"))

abbrev pub no_choice : Choice
no_choice = record { method = route.Same; sort = None }

abbrev pub choice_of : List Choice → ℕ → Choice
choice_of choices l = get_or choices l no_choice

-- a sort before a consumer runs on as many partitions as the consumer
abbrev pub sort_degree : ℕ → Option (List Key) → ℕ
sort_degree degree None = 0
sort_degree degree (Some keys) = degree

-- the players of the operators, and those of the inserted sorts
abbrev pub op_players : Chart → ℕ → ℕ → ℕ
op_players c nodes n = sum_by (degree_at c nodes) (range_with_len 0 n)

abbrev pub sort_players_at : Chart → List Choice → ℕ → ℕ → ℕ
sort_players_at c choices nodes l = sort_degree (degree_at c nodes (link_at c l).to) (choice_of choices l).sort

abbrev pub sort_players : Chart → List Choice → ℕ → ℕ → ℕ
sort_players c choices nodes n = sum_by (sort_players_at c choices nodes) (range_with_len 0 n)

abbrev pub players : Chart → List Choice → ℕ → ℕ
players c choices nodes = op_players c nodes (length c.flow.ops) + sort_players c choices nodes (length c.flow.links)

abbrev pub is_same : Route → Bool
is_same route.Same = true
is_same r = false

-- `same` leads from one number of partitions to another
abbrev pub joins_unequal : Chart → List Choice → ℕ → ℕ → Bool
joins_unequal c choices nodes l = is_same (choice_of choices l).method && not (degree_at c nodes (link_at c l).from == degree_at c nodes (link_at c l).to)

-- the least link whose `same` joins unequal degrees
pub record IsMismatch (c : Chart) (choices : List Choice) (nodes link from to : ℕ) : Type 0 where
  pub in_range : link < length c.flow.links
  pub unequal : joins_unequal c choices nodes link ≡ true
  pub before : (l : ℕ) → l < link → joins_unequal c choices nodes l ≡ false
  pub from_is : from ≡ degree_at c nodes (link_at c link).from
  pub to_is : to ≡ degree_at c nodes (link_at c link).to

abbrev pub JoinsEqual : Chart → List Choice → ℕ → Type 0
JoinsEqual c choices nodes = (l : ℕ) → l < length c.flow.links → joins_unequal c choices nodes l ≡ false

unfoldable pub op_of : Chart → ℕ → ℕ → List ℕ
op_of c nodes o = op_line o (op_at c o) (degree_at c nodes o)

unfoldable pub link_of : Chart → List Choice → ℕ → List ℕ
link_of c choices l = link_line l (link_at c l) (fields_at c l) (choice_of choices l)

abbrev pub op_lines : Chart → ℕ → List ℕ
op_lines c nodes = flat_map (op_of c nodes) (range_with_len 0 (length c.flow.ops))

abbrev pub link_lines : Chart → List Choice → List ℕ
link_lines c choices = flat_map (link_of c choices) (range_with_len 0 (length c.flow.links))

abbrev pub nodes_line : ℕ → List ℕ
nodes_line nodes = codes "score nodes " ++ (decimal nodes ++ codes "\n")

abbrev pub players_line : ℕ → List ℕ
players_line n = codes "players " ++ (decimal n ++ codes "\n")

abbrev pub score_text : Chart → List Choice → ℕ → List ℕ
score_text c choices nodes = nodes_line nodes ++ (op_lines c nodes ++ (link_lines c choices ++ players_line (players c choices nodes)))
