-- What is a name, as a test and as a fact.
use Rattle.std.proofs.Common.{◌≡◌, ℕ, List, Ok, true, false, refl}
use Rattle.std.proofs.lemmas.List.Sums.{AllPass-from_list_all, list_all-from_AllPass}
use Rattle.std.proofs.lemmas.Bool.{leb-true, le-leb, and_parts, and_from, false_from_ne_true}
use Rattle.ds_value.specs.Names.{IsName, IsName0, is_name_byte}
use Rattle.ds_lex.specs.Lexemes.{Lexeme}
use Rattle.ds_lex.specs.Reading.{refuse}
use Rattle.config_read.specs.declared.fault.ConfigWhy.TheVariants as why
use Rattle.config_read.specs.declared.config.Node.{Node}
use Rattle.config_read.specs.Spelled.{content, has_node}
use Rattle.config_read.specs.Reading.{is_name, is_name0, named, named0}

pub name0_tested : (bytes : List ℕ) → IsName0 bytes → is_name0 bytes ≡ true
name0_tested bytes n = and_from _ _ (le-leb _ _ n.short) (list_all-from_AllPass is_name_byte bytes n.each)

pub tested_name0 : (bytes : List ℕ) → is_name0 bytes ≡ true → IsName0 bytes
tested_name0 bytes t =
    let a = and_parts _ _ t in
    record { short = leb-true _ _ a.0; each = AllPass-from_list_all is_name_byte bytes a.1 }

pub name_tested : (bytes : List ℕ) → IsName bytes → is_name bytes ≡ true
name_tested bytes n = and_from _ _ (le-leb _ _ n.some) (name0_tested bytes (record { short = n.short; each = n.each }))

pub tested_name : (bytes : List ℕ) → is_name bytes ≡ true → IsName bytes
tested_name bytes t =
    let a = and_parts _ _ t in
    let b = tested_name0 bytes a.1 in
    record { some = leb-true _ _ a.0; short = b.short; each = b.each }

pub named0_some : (t : Lexeme) (name : List ℕ) → IsName0 (content t) × (name ≡ content t) → named0 t ≡ Ok name
named0_some t name n = rw (name0_tested (content t) n.0, n.1) refl

pub named0_none : (t : Lexeme) → (IsName0 (content t) → ⊥) → named0 t ≡ refuse t why.Name
named0_none t h = rw (false_from_ne_true (is_name0 (content t)) (λ e. h (tested_name0 (content t) e))) refl

pub named_some : (nodes : List Node) (t : Lexeme) (name : List ℕ) → IsName (content t) × (name ≡ content t) → has_node nodes (content t) ≡ false → named nodes t ≡ Ok name
unfolding named
named_some nodes t name n h = rw (name_tested (content t) n.0, h, n.1) refl

pub named_double : (nodes : List Node) (t : Lexeme) (name : List ℕ) → IsName (content t) × (name ≡ content t) → has_node nodes (content t) ≡ true → named nodes t ≡ refuse t why.DoubleNode
unfolding named
named_double nodes t name n h = rw (name_tested (content t) n.0, h) refl

pub named_none : (nodes : List Node) (t : Lexeme) → (IsName (content t) → ⊥) → named nodes t ≡ refuse t why.Name
unfolding named
named_none nodes t h = rw (false_from_ne_true (is_name (content t)) (λ e. h (tested_name (content t) e))) refl
