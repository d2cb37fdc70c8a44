-- Stages and statements.
use Rattle.std.specs.Prelude.{◌≡◌, ℕ, zero, suc, List, [], ◌∷◌, ◌++◌, length, Result, Ok, Err, Option, Some, None, Bool, true, false, ◌==◌, if◌then◌else◌, codes}
use Rattle.std.specs.Str.{bytes_eq}
use Rattle.ds_lex.specs.declared.token.Sort.TheVariants as sort
use Rattle.ds_lex.specs.declared.refusal.Refusal.{Refusal}
use Rattle.ds_lex.specs.declared.refusal.Refusal.TheVariants as refusal
use Rattle.ds_lex.specs.Lexemes.{Lexeme}
use Rattle.ds_lex.specs.Reading.{◌>>=◌, refuse, token_at, sort_at, expect_at, accept_at, finish_at}
use Rattle.flow_graph.specs.declared.flow.Mark.{Mark}
use Rattle.flow_graph.specs.declared.flow.Mark.TheVariants as mark
use Rattle.osh_table.specs.declared.operator.OpName.{OpName}
use Rattle.osh_table.specs.declared.operator.OpName.TheVariants as op
use Rattle.osh_read.specs.declared.fault.OshWhy.{OshWhy}
use Rattle.osh_read.specs.declared.fault.OshWhy.TheVariants as why
use Rattle.osh_read.specs.declared.stage.Redirect.{Redirect}
use Rattle.osh_read.specs.declared.stage.Redirect.TheVariants as redirect
use Rattle.osh_read.specs.declared.stage.Joint.{Joint}
use Rattle.osh_read.specs.declared.stage.Joint.TheVariants as joint
use Rattle.osh_read.specs.declared.stage.Stage.{Stage}
use Rattle.osh_read.specs.declared.stage.Directive.{Directive}
use Rattle.osh_read.specs.declared.stage.Directive.TheVariants as directive
use Rattle.osh_read.specs.declared.stage.Directives.{Directives}
use Rattle.osh_read.specs.Reading.{Read, sign_at, if_comes, repeated, append}
use Rattle.osh_read.specs.Methods.{method_at}
use Rattle.osh_read.specs.Options.{head_at}

-- ---- marks

-- how an operator runs without a mark: files are read and written on one partition, a data set on its own
abbrev pub plain_mark : OpName → Mark
plain_mark op.Import = mark.Seq
plain_mark op.Export = mark.Seq
plain_mark op.Dsread = mark.Stored
plain_mark other = mark.Par

-- whether an operator that runs so without a mark can have this one
abbrev pub bears : Mark → Mark → Bool
bears mark.Par m = true
bears mark.Seq mark.Seq = true
bears mark.Seq mark.Par = false
bears mark.Seq mark.Stored = false
bears mark.Stored m = false

abbrev pub mark_named : List ℕ → Option Mark
mark_named word =
    if bytes_eq word (codes "seq") then Some mark.Seq
    else if bytes_eq word (codes "par") then Some mark.Par
    else None

abbrev pub mark_of : Option Mark → Lexeme → Result Mark (Refusal OshWhy)
mark_of None w = refuse w why.Syntax
mark_of (Some m) w = Ok m

-- the mark behind its bracket t
unfoldable pub marked_at : OpName → Lexeme → List Lexeme → Read Mark
marked_at o t ts = do
  w ← token_at OshWhy ts
  m ← mark_of (mark_named w.0.bytes) w.0
  c ← expect_at (codes "]") why.Syntax w.1
  if bears (plain_mark o) m then Ok (m, c.1) else refuse t why.Constraint

abbrev pub mark_at : OpName → List Lexeme → Read Mark
mark_at o ts = if_comes (sign_at (codes "[") ts).0 (λ t. marked_at o t (sign_at (codes "[") ts).1) (Ok (plain_mark o, (sign_at (codes "[") ts).1))

-- ---- redirects

-- behind a `<` at this place
unfoldable pub input_at : ℕ → List Lexeme → Read (Option Redirect)
input_at at ts = do
  m ← method_at ts
  w ← sort_at sort.Word why.Syntax m.1
  Ok (Some (redirect.In at w.0.bytes m.0.0 m.0.1), w.1)

-- behind a `>` at this place
unfoldable pub output_at : ℕ → List Lexeme → Read (Option Redirect)
output_at at ts = do
  w ← sort_at sort.Word why.Syntax ts
  Ok (Some (redirect.Out at w.0.bytes), w.1)

abbrev pub maybe_output_at : List Lexeme → Read (Option Redirect)
maybe_output_at ts = if_comes (sign_at (codes ">") ts).0 (λ t. output_at t.at (sign_at (codes ">") ts).1) (Ok (None, (sign_at (codes ">") ts).1))

-- a redirect, where one comes
abbrev pub redirect_at : List Lexeme → Read (Option Redirect)
redirect_at ts = if_comes (sign_at (codes "<") ts).0 (λ t. input_at t.at (sign_at (codes "<") ts).1) (maybe_output_at (sign_at (codes "<") ts).1)

abbrev pub redirects_at : List Lexeme → Read (List Redirect)
redirects_at ts = repeated (λ found. redirect_at) append (length ts) [] ts

-- ---- stages

-- a stage that is joined so to the one before it, behind `before` operators
unfoldable pub stage_at : ℕ → Bool → Joint → List Lexeme → Read Stage
stage_at before cut joined ts = do
  h ← head_at before cut ts
  m ← mark_at h.0.0 h.1
  r ← redirects_at m.1
  Ok (record { kind = h.0.1; mark = m.0; joined = joined; redirects = r.0 }, r.1)

-- the end of the text, which isn't come where the text is cut off
abbrev pub over_at : Bool → List Lexeme → Read (Option Joint)
over_at cut ts = if cut then Err refusal.AtEnd else Ok (None, ts)

unfoldable pub piped_at : List Lexeme → Read (Option Joint)
piped_at ts = do
  m ← method_at ts
  Ok (Some (joint.Piped m.0.0 m.0.1), m.1)

-- behind a `;`: a statement, or the end
abbrev pub apart_at : Bool → List Lexeme → Read (Option Joint)
apart_at cut ts = if length ts == 0 then over_at cut ts else Ok (Some joint.Apart, ts)

unfoldable pub ended_at : Bool → List Lexeme → Read (Option Joint)
ended_at cut ts = do
  e ← finish_at why.Syntax ts
  over_at cut ts

abbrev pub behind_stage_at : Bool → List Lexeme → Read (Option Joint)
behind_stage_at cut ts = if (accept_at (codes ";") ts).0 then apart_at cut (accept_at (codes ";") ts).1 else ended_at cut (accept_at (codes ";") ts).1

-- what joins the next stage: a pipe or a `;`; nothing where the flow ends
abbrev pub joint_at : Bool → List Lexeme → Read (Option Joint)
joint_at cut ts = if (accept_at (codes "|") ts).0 then piped_at (accept_at (codes "|") ts).1 else behind_stage_at cut (accept_at (codes "|") ts).1

-- the stages up to the end, behind those that were found; n is at least the number of tokens
unfoldable pub stages_at : ℕ → Bool → Joint → List Stage → List Lexeme → Read (List Stage)
stages_at zero cut joined found ts = Err refusal.AtEnd
stages_at (suc n) cut joined found ts = do
  s ← stage_at (length found) cut joined ts
  j ← joint_at cut s.1
  if_comes j.0 (λ next. stages_at n cut next (found ++ s.0 ∷ []) j.1) (Ok (found ++ s.0 ∷ [], j.1))

-- ---- the words before the first statement

unfoldable pub directed_at : Directive → List Lexeme → Read (Option Directive)
directed_at d ts = do
  s ← expect_at (codes ";") why.Syntax ts
  Ok (Some d, s.1)

abbrev pub nosort_at : List Lexeme → Read (Option Directive)
nosort_at ts = if (accept_at (codes "nosort") ts).0 then directed_at directive.NoSort (accept_at (codes "nosort") ts).1 else Ok (None, (accept_at (codes "nosort") ts).1)

abbrev pub directive_at : List Lexeme → Read (Option Directive)
directive_at ts = if (accept_at (codes "nopart") ts).0 then directed_at directive.NoPart (accept_at (codes "nopart") ts).1 else nosort_at (accept_at (codes "nopart") ts).1

abbrev pub directed : Directives → Directive → Directives
directed d directive.NoPart = record { nopart = true; nosort = d.nosort }
directed d directive.NoSort = record { nopart = d.nopart; nosort = true }

abbrev pub no_directives : Directives
no_directives = record { nopart = false; nosort = false }

abbrev pub directives_at : List Lexeme → Read Directives
directives_at ts = repeated (λ found. directive_at) directed (length ts) no_directives ts
