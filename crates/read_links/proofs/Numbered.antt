-- The links of a flow that is read are numbered by the outputs of its operators.
use Rattle.std.proofs.Common.{◌≡◌, ◌<◌, ◌==◌, [], ℕ, refl, sym, ap, subst, ◌∙◌, length, get_or}
use Rattle.std.specs.List.{filter, range_with_len}
use Rattle.std.proofs.lemmas.List.Sums.{length-filter}
use Rattle.flow_graph.specs.declared.flow.Flow.{Flow}
use Rattle.flow_graph.specs.declared.flow.LinkSpec.{LinkSpec}
use Rattle.flow_graph.specs.Charts.{no_link, links_from}
use Rattle.flow_shape.specs.Refusals.{chart_of}
use Rattle.flow_links.specs.Outputs.{links_by, NumbersOutputs}
use Rattle.flow_links.proofs.Linking.{shaped_is_linked}
use Rattle.flow_links.proofs.Numbering.{counted, filter_both, from_count}
use Rattle.osh_print.specs.LinkText.{leaves}
use Rattle.osh_back.specs.Spelled.{HasOutputs}
use Rattle.osh_back.proofs.LinesPrinted.{leaving}
use Rattle.osh_back.proofs.OutputsBack.{all_leave}
use Rattle.osh_back.proofs.ReadFlows.{read_spelled}
use Rattle.read_links.specs.ReadOutputs.{ReadLinksOutputs, ReadNumbersOutputs}

leaving_count : (flow : Flow) (o : ℕ) → length (links_from (chart_of flow []) o) ≡ leaving o flow.links
leaving_count flow o = from_count flow o ∙ sym (length-filter (λ (l : LinkSpec). l.from == o) flow.links)

output_count : (flow : Flow) (o out : ℕ) → length (links_by (chart_of flow []) o out) ≡ length (filter (leaves o out) flow.links)
output_count flow o out =
    ap length (filter_both (λ l. (get_or flow.links l no_link).from == o) (λ l. (get_or flow.links l no_link).out == out) (range_with_len 0 (length flow.links)))
    ∙ (counted (leaves o out) flow.links ∙ sym (length-filter (leaves o out) flow.links))

numbered : (flow : Flow) → ((from : ℕ) → HasOutputs flow.links from) → NumbersOutputs (chart_of flow [])
numbered flow h = record {
  each = λ o out less. output_count flow o out ∙ (all_leave flow.links o (h o)).each out (subst (λ n. out < n) (leaving_count flow o) less);
  below = λ l less.
      let o = (get_or flow.links l no_link).from in
      subst (λ n. (get_or flow.links l no_link).out < n) (sym (leaving_count flow o)) ((all_leave flow.links o (h o)).below l less refl);
}

pub read_numbers_outputs : ReadNumbersOutputs
read_numbers_outputs bytes flow h = numbered flow (read_spelled bytes flow h).links.outputs

pub read_links_outputs : ReadLinksOutputs
read_links_outputs bytes flow dict c h shape = shaped_is_linked flow dict c (read_spelled bytes flow h).links.within (read_numbers_outputs bytes flow h) shape
