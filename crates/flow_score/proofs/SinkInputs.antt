-- The link into a sink is a link of the flow.
use Rattle.std.proofs.Common.{Bool, true, false, List, [], ◌∷◌, ap, filter, get_or, length, refl, sym, subst, ℕ, zero, suc, ◌+◌, ◌<◌, ◌==◌, ◌≡◌, ◌∙◌, arith, Option, None}
use Rattle.std.specs.List.{range_with_len, AllByRecursion}
use Rattle.ds_schema.specs.declared.key.Key.{Key}
use Rattle.flow_graph.specs.declared.op_kind.OpKind.{OpKind}
use Rattle.flow_graph.specs.declared.op_kind.OpKind.TheVariants as kind
use Rattle.flow_graph.specs.declared.parts.Stored.{Stored}
use Rattle.flow_graph.specs.Charts.{Chart, kind_form, op_at, link_at, links_into, keys_at, cols_at, first_width}
use Rattle.flow_graph.specs.FlowShape.{IsShape, FormPorts}
use Rattle.flow_derive.proofs.Fills.{marked}
use Rattle.flow_score.specs.VerdictText.{is_sink, links_to}

-- a sink has one input
one_input : (k : OpKind) (keys : List (List Key)) (cols : List ℕ) (stored : Option Stored) (width n : ℕ) → is_sink k ≡ true → FormPorts (kind_form k keys cols stored width) n → n ≡ 1
one_input (kind.Export file delim fixed) keys cols stored width n e h = h
one_input (kind.Dswrite ds) keys cols stored width n e h = h
one_input (kind.Import file schema delim fixed reject) keys cols stored width n e h = absurd (grind (arith, e))
one_input (kind.Dsread ds) keys cols stored width n e h = absurd (grind (arith, e))
one_input kind.Copy keys cols stored width n e h = absurd (grind (arith, e))
one_input (kind.Filter test reject) keys cols stored width n e h = absurd (grind (arith, e))
one_input (kind.Transform set reject) keys cols stored width n e h = absurd (grind (arith, e))
one_input (kind.Modify keep drop rename) keys cols stored width n e h = absurd (grind (arith, e))
one_input (kind.Switch on cases reject) keys cols stored width n e h = absurd (grind (arith, e))
one_input (kind.Tsort key) keys cols stored width n e h = absurd (grind (arith, e))
one_input (kind.Remdup key last) keys cols stored width n e h = absurd (grind (arith, e))
one_input (kind.Group key hash results) keys cols stored width n e h = absurd (grind (arith, e))
one_input (kind.InnerJoin key) keys cols stored width n e h = absurd (grind (arith, e))
one_input (kind.LeftOuterJoin key) keys cols stored width n e h = absurd (grind (arith, e))
one_input (kind.RightOuterJoin key) keys cols stored width n e h = absurd (grind (arith, e))
one_input (kind.FullOuterJoin key) keys cols stored width n e h = absurd (grind (arith, e))
one_input (kind.Merge key keepbad reject) keys cols stored width n e h = absurd (grind (arith, e))
one_input (kind.Lookup key missing) keys cols stored width n e h = absurd (grind (arith, e))
one_input (kind.Changecapture key values keepcopy) keys cols stored width n e h = absurd (grind (arith, e))
one_input (kind.Funnel sequence sort) keys cols stored width n e h = absurd (grind (arith, e))

first_below : (m : ℕ) (f : ℕ → ℕ) (o : ℕ) (ls : List ℕ) → AllByRecursion (λ l. (f l ≡ o) × (l < 0 + m)) ls → length ls ≡ 1 → get_or ls 0 0 < m
first_below m f o [] h e = absurd (grind (arith, e))
first_below m f o (l ∷ ls) h e = let k = h.0.1 in omega arith

pub sink_input : (c : Chart) (o : ℕ) → IsShape c → o < length c.flow.ops → is_sink (op_at c o).kind ≡ true → get_or (links_to c.flow.links o) 0 0 < length c.flow.links
sink_input c o shape below sink =
    first_below (length c.flow.links) (λ l. (link_at c l).to) o (links_into c o)
    (marked (λ l. (link_at c l).to) o 0 (length c.flow.links))
    (one_input (op_at c o).kind (keys_at c o) (cols_at c o) (get_or c.stored o None) (first_width c o) (length (links_into c o)) sink (shape.ops o below).inputs)
