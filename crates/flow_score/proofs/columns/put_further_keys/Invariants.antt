use Rattle.std.proofs.Common.{◌≡◌, ◌++◌, codes, take}
use Rattle.std.specs.List.{flat_map}
use Rattle.flow_score.specs.Texts.{key_text}
use Rattle.flow_score.proofs.columns.put_further_keys.Given as goal

abbrev pub invariant-loop-key : goal.invariant-loop-key
invariant-loop-key l = l.text ≡ l.fn.text ++ flat_map (λ k. codes "," ++ key_text l.fields k) (take l.key-index l.keys)
