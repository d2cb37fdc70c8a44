-- A step of printing outputs.
use Rattle.std.proofs.Common.{◌≡◌, ◌≢◌, ◌+◌, ◌-◌, ◌++◌, ℕ, zero, suc, List, refl, sym, ap, ◌∙◌, arith, append_assoc}
use Rattle.std.specs.Prelude.{position}
use Rattle.flow_graph.specs.declared.flow.LinkSpec.{LinkSpec}
use Rattle.osh_print.specs.LinkText.{leaves, output_text, outputs_from}

unfold_one : (links : List LinkSpec) (from n out : ℕ) → n ≢ 0 → outputs_from links from n out ≡ output_text (position (leaves from out) links) ++ outputs_from links from (n - 1) (out + 1)
unfold_one links from zero out h = absurd (h refl)
unfold_one links from (suc n) out h = let e : suc n - 1 ≡ n = omega arith in rw e refl

pub outputs_more : (links : List LinkSpec) (from n out : ℕ) (text more all : List ℕ) → n ≢ 0 → text ++ outputs_from links from n out ≡ all → more ≡ text ++ output_text (position (leaves from out) links) → more ++ outputs_from links from (n - 1) (out + 1) ≡ all
outputs_more links from n out text more all h a e =
    ap (λ x. x ++ outputs_from links from (n - 1) (out + 1)) e
    ∙ (append_assoc text (output_text (position (leaves from out) links)) (outputs_from links from (n - 1) (out + 1))
    ∙ (ap (λ x. text ++ x) (sym (unfold_one links from n out h)) ∙ a))
