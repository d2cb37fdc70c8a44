-- A step of the loop over a group's results.
use Rattle.std.proofs.Common.{◌≡◌, ◌<◌, ◌+◌, ◌++◌, ◌∷◌, [], ℕ, List, length, take, get_or, sym, ap, ◌∙◌}
use Rattle.std.proofs.lemmas.List.{take_more}
use Rattle.std.proofs.lemmas.List.Elements.{filter_map-append}
use Rattle.flow_graph.specs.declared.op_kind.AggSpec.{AggSpec}
use Rattle.osh_value.specs.declared.setting.Setting.{Setting}
use Rattle.osh_value.specs.Kinds.{result_in, results_of}

pub results_more : (ss : List Setting) (i : ℕ) (s : Setting) (found more : List AggSpec) → i < length ss → s ≡ get_or ss i s → found ≡ results_of (take i ss) → more ≡ found ++ results_of (s ∷ []) → more ≡ results_of (take (i + 1) ss)
results_more ss i s found more h e f g =
    g ∙ (ap (λ x. x ++ results_of (s ∷ [])) f ∙ (sym (filter_map-append (λ (t : Setting). result_in t.value) (take i ss) (s ∷ [])) ∙ ap results_of (ap (λ y. take i ss ++ y ∷ []) e ∙ sym (take_more ss i s h))))
