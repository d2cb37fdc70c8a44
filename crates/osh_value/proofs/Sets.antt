-- A step of the loop over the columns that a transform sets.
use Rattle.std.proofs.Common.{◌≡◌, ◌<◌, ◌+◌, ◌++◌, ◌∷◌, [], ℕ, List, length, take, get_or, sym, ap, ◌∙◌}
use Rattle.std.proofs.lemmas.List.{take_more}
use Rattle.std.proofs.lemmas.List.Elements.{filter_map-append}
use Rattle.flow_graph.specs.declared.op_kind.SetSpec.{SetSpec}
use Rattle.osh_value.specs.declared.setting.Setting.{Setting}
use Rattle.osh_value.specs.Kinds.{set_in, sets_of}

pub sets_more : (ss : List Setting) (i : ℕ) (s : Setting) (found more : List SetSpec) → i < length ss → s ≡ get_or ss i s → found ≡ sets_of (take i ss) → more ≡ found ++ sets_of (s ∷ []) → more ≡ sets_of (take (i + 1) ss)
sets_more ss i s found more h e f g =
    g ∙ (ap (λ x. x ++ sets_of (s ∷ [])) f ∙ (sym (filter_map-append (λ (t : Setting). set_in t.value) (take i ss) (s ∷ [])) ∙ ap sets_of (ap (λ y. take i ss ++ y ∷ []) e ∙ sym (take_more ss i s h))))
