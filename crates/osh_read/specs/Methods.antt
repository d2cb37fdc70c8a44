-- Methods: how a link's rows go to the partitions of its consumer, in brackets before the name of a link's data set or behind
-- a pipe.
use Rattle.std.specs.Prelude.{◌≡◌, ℕ, List, [], ◌∷◌, Result, Ok, Err, Option, Some, None, Bool, true, false, if◌then◌else◌, codes}
use Rattle.std.specs.Str.{bytes_eq}
use Rattle.ds_lex.specs.declared.token.Sort.TheVariants as sort
use Rattle.ds_lex.specs.Lexemes.{Lexeme}
use Rattle.ds_lex.specs.Reading.{◌>>=◌, refuse, sort_at, expect_at, accept_at}
use Rattle.ds_schema.specs.ColumnReading.{name_at, names_at, keys_at}
use Rattle.flow_graph.specs.declared.flow.Method.{Method}
use Rattle.flow_graph.specs.declared.flow.Method.TheVariants as method
use Rattle.flow_graph.specs.declared.flow.Flag.{Flag}
use Rattle.flow_graph.specs.declared.flow.Flag.TheVariants as flag
use Rattle.osh_read.specs.declared.fault.OshWhy.{OshWhy}
use Rattle.osh_read.specs.declared.fault.OshWhy.TheVariants as why
use Rattle.osh_read.specs.Reading.{Read}

abbrev pub flag_named : List ℕ → Option Flag
flag_named word =
    if bytes_eq word (codes "set") then Some flag.Set
    else if bytes_eq word (codes "clear") then Some flag.Clear
    else if bytes_eq word (codes "prop") then Some flag.Prop
    else None

-- a kind of method that takes no names
abbrev pub method_named : List ℕ → Option Method
method_named word =
    if bytes_eq word (codes "auto") then Some method.Auto
    else if bytes_eq word (codes "same") then Some method.Same
    else if bytes_eq word (codes "rr") then Some method.RoundRobin
    else if bytes_eq word (codes "entire") then Some method.Entire
    else if bytes_eq word (codes "any") then Some method.Any
    else if bytes_eq word (codes "ordered") then Some method.Ordered
    else None

abbrev pub method_of : Lexeme → List Lexeme → Option Method → Read Method
method_of w ts None = refuse w why.Syntax
method_of w ts (Some m) = Ok (m, ts)

-- the method whose kind is the word w, with its names or keys
unfoldable pub kind_at : Lexeme → List Lexeme → Read Method
kind_at w ts =
    if bytes_eq w.bytes (codes "hash") then (names_at why.Syntax ts >>= λ n. Ok (method.Hash n.0, n.1))
    else if bytes_eq w.bytes (codes "modulus") then (name_at why.Syntax ts >>= λ n. Ok (method.Modulus n.0, n.1))
    else if bytes_eq w.bytes (codes "merge") then (keys_at why.Syntax ts >>= λ k. Ok (method.Merge k.0, k.1))
    else method_of w ts (method_named w.bytes)

abbrev pub prop_at : List Lexeme → Flag × List Lexeme
prop_at ts = (flag.Prop, (accept_at (codes "prop") ts).1)

abbrev pub clear_at : List Lexeme → Flag × List Lexeme
clear_at ts = if (accept_at (codes "clear") ts).0 then (flag.Clear, (accept_at (codes "clear") ts).1) else prop_at (accept_at (codes "clear") ts).1

-- a flag, which is prop where none stands
unfoldable pub flag_at : List Lexeme → Flag × List Lexeme
flag_at ts = if (accept_at (codes "set") ts).0 then (flag.Set, (accept_at (codes "set") ts).1) else clear_at (accept_at (codes "set") ts).1

unfoldable pub closed_at : Method → Flag → List Lexeme → Read (Method × Flag)
closed_at m f ts = do
  c ← expect_at (codes "]") why.Syntax ts
  Ok ((m, f), c.1)

-- behind the first word of a method, which is a flag or a kind
unfoldable pub behind_at : Option Flag → Lexeme → List Lexeme → Read (Method × Flag)
behind_at (Some f) w ts = closed_at method.Auto f ts
behind_at None w ts = do
  m ← kind_at w ts
  closed_at m.0 (flag_at m.1).0 (flag_at m.1).1

-- behind the bracket of a method
unfoldable pub bracket_at : List Lexeme → Read (Method × Flag)
bracket_at ts = do
  w ← sort_at sort.Word why.Syntax ts
  behind_at (flag_named w.0.bytes) w.0 w.1

-- a method with its flag; auto with prop where none stands
unfoldable pub method_at : List Lexeme → Read (Method × Flag)
method_at ts = if (accept_at (codes "[") ts).0 then bracket_at (accept_at (codes "[") ts).1 else Ok ((method.Auto, flag.Prop), (accept_at (codes "[") ts).1)
