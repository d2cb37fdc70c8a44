use Rattle.std.proofs.Common.{◌≡◌, ℕ, zero, suc, ◌≤◌, ◌∙◌, [], ◌∷◌, List, length, get_or, refl, ap, arith}
use Rattle.std.proofs.lemmas.Result.{IfOk-weaker}
use Rattle.ds_schema.specs.declared.key.Key.{Key}
use Rattle.op_base.specs.Keyed.{get_keys}
use Rattle.op_any.proofs.parts.keys_of.Goals as goal

keys_at : (keys : List (List Key)) (i : ℕ) → get_or keys i [] ≡ get_keys keys i
keys_at [] i = refl
keys_at (K ∷ keys) zero = refl
keys_at (K ∷ keys) (suc i) = keys_at keys i

past : (keys : List (List Key)) (i : ℕ) → length keys ≤ i → [] ≡ get_keys keys i
past [] i l = refl
past (K ∷ keys) zero l = absurd (omega (arith, l))
past (K ∷ keys) (suc i) l = past keys i (omega (arith, l))

pub returns-in-Some : goal.returns-in-Some
returns-in-Some c =
    let same : c.in-Some.keys.now ≡ get_keys c.args.parts.now.keys c.args.input = c.in-Some.ensures.lookup.3.1 [] ∙ ap (λ (ks : List (List Key)). get_or ks c.args.input []) c.as_slice.ensures ∙ keys_at c.args.parts.now.keys c.args.input in
    IfOk-weaker c.copied.result (λ (copy : List Key). copy ≡ c.in-Some.keys.now) (λ (copy : List Key). copy ≡ get_keys c.args.parts.now.keys c.args.input) (λ copy e. e ∙ same) c.copied.ensures

pub returns-in-None : goal.returns-in-None
returns-in-None c =
    c.from_vec.ensures ∙ c.new.ensures.items ∙ past c.as_slice.result.now c.args.input c.in-None.ensures.lookup.3 ∙ ap (λ (ks : List (List Key)). get_keys ks c.args.input) c.as_slice.ensures
