-- Texts of configurations, computed: two that are read, faults with their places, and a wrong answer.
use Rattle.std.proofs.Common.{◌≡◌, ℕ, List, [], ◌∷◌, map, Result, Ok, Err, refl}
use Rattle.std.specs.Prelude.{codes}
use Rattle.ds_lex.specs.Lexemes.{limited_text}
use Rattle.ds_lex.specs.Reading.{token_at, expect_at, sort_at, accept_at, finish_at}
use Rattle.config_read.specs.declared.fault.ConfigWhy.{ConfigWhy}
use Rattle.config_read.specs.declared.fault.ConfigWhy.TheVariants as causes
use Rattle.config_read.specs.declared.config.Node.{Node}
use Rattle.config_read.specs.declared.config.Config.{Config}
use Rattle.config_read.specs.Reading.{Fault, named, pools_at, unused_at, braces_at, resource_at, fastname_at, entry_at, until_closed, node_at, further_node_at, text_at, config_of}

abbrev node : List ℕ → List (List ℕ) → List (List ℕ) → Node
node name pools scratch = record { name = name; pools = pools; scratch = scratch }

abbrev fault : ℕ → ConfigWhy → Result Config Fault
fault at w = Err (record { at = at; why = w })

read : map config_of (
    codes "{ node 'n1' { fastname 'h' pools '' resource disk 'd' {pools ''} resource scratchdisk 's' {pools ''} } }"
    ∷ codes "{ node 'n1' { } node 'n2' { pools 'x' 'y' pools '' } } # two"
    ∷ []) ≡ (
    Ok (record { nodes = node (codes "n1") ([] ∷ []) (codes "s" ∷ []) ∷ [] })
    ∷ Ok (record { nodes = node (codes "n1") [] [] ∷ node (codes "n2") (codes "x" ∷ codes "y" ∷ [] ∷ []) [] ∷ [] })
    ∷ [])
unfolding config_of limited_text text_at further_node_at node_at until_closed entry_at fastname_at resource_at braces_at unused_at pools_at named token_at expect_at sort_at accept_at finish_at
read = refl

faulty : map config_of (
    []
    ∷ codes "{ }"
    ∷ codes "{ node 'n1' { rack 'r' } }"
    ∷ codes "{ node 'n1' { } } $"
    ∷ codes "{ node 'n1"
    ∷ codes "{ node '' { } }"
    ∷ codes "{ node 'n1' { } node 'n1' { } }"
    ∷ codes "{ node 'n1' { fastname 'h' pools 'x' } }"
    ∷ []) ≡ (
    fault 0 causes.Syntax
    ∷ fault 2 causes.Syntax
    ∷ fault 14 causes.Syntax
    ∷ fault 18 causes.Token
    ∷ fault 7 causes.Token
    ∷ fault 7 causes.Name
    ∷ fault 21 causes.DoubleNode
    ∷ fault 40 causes.NoDefault
    ∷ [])
unfolding config_of limited_text text_at further_node_at node_at until_closed entry_at fastname_at resource_at braces_at unused_at pools_at named token_at expect_at sort_at accept_at finish_at
faulty = refl

-- a node outside the default pool alone makes no configuration
none_in_default : config_of (codes "{ node 'n1' { pools 'x' } }") ≡ Ok (record { nodes = node (codes "n1") (codes "x" ∷ []) [] ∷ [] }) → ⊥
unfolding config_of limited_text text_at further_node_at node_at until_closed entry_at fastname_at resource_at braces_at unused_at pools_at named token_at expect_at sort_at accept_at finish_at
none_in_default h = cc
