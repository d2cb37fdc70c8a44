-- Whether each link is routed, link by link.
use Rattle.std.proofs.Common.{arith, false, inl, inr, length, subst, sym, true, ℕ, ◌+◌, ◌<◌, ◌≤◌, ◌≡◌, ◌⊎◌}
use Rattle.flow_graph.specs.Charts.{Chart}
use Rattle.flow_rules.specs.Verdicts.{IsRouted, routed_at}
use Rattle.flow_rules.proofs.Refusals.{split}

pub record RoutedBelow (c : Chart) (n : ℕ) : Type 0 where
  pub each : (l : ℕ) → l < n → routed_at c l ≡ true

pub none_routed : (c : Chart) → RoutedBelow c 0
none_routed c = record { each = λ l m. absurd (omega arith) }

pub more_routed : (c : Chart) (n : ℕ) → RoutedBelow c n → true ≡ routed_at c n → RoutedBelow c (n + 1)
more_routed c n h e = record { each = λ l m. go l (split l n m) }
  where
    go : (l : ℕ) → ((l < n) ⊎ (l ≡ n)) → routed_at c l ≡ true
    go l (inl a) = h.each l a
    go l (inr a) = subst (λ k. routed_at c k ≡ true) (sym a) (sym e)

pub all_routed : (c : Chart) (n : ℕ) → RoutedBelow c n → length c.flow.links ≤ n → IsRouted c
all_routed c n h e l m = h.each l (omega arith)

pub not_routed : (c : Chart) (n : ℕ) → n < length c.flow.links → false ≡ routed_at c n → IsRouted c → ⊥
not_routed c n l e h = let f : routed_at c n ≡ true = h n l in cc
