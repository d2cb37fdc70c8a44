use Rattle.std.proofs.Common.{map, string_bytes}
use Rattle.osh.proofs.Obeying.{words_serve}
use Rattle.osh.proofs.Words.{no_usage, unbuilt_by}
use Rattle.osh.proofs.serve.serve.Goals as goal

pub returns-in-Ok-clause-serves : goal.returns-in-Ok-clause-serves
returns-in-Ok-clause-serves g c = λ tells.
    words_serve (map string_bytes c.args.words.now) (g.F.Files.holds c.args.files.now) (g.F.Files.holds c.obey.new.files) c.in-Ok.command g.O.Sink.tells _ _ _ _ c.obey.result c.in-Ok.ensures.ok (c.obey.ensures.serves tells)

pub returns-in-Ok-clause-none : goal.returns-in-Ok-clause-none
returns-in-Ok-clause-none g c = λ none. absurd (none c.in-Ok.command c.in-Ok.ensures.ok)

pub returns-in-Ok-clause-only : goal.returns-in-Ok-clause-only
returns-in-Ok-clause-only g c = λ e. no_usage _ c.obey.result c.obey.ensures.command e

pub returns-in-Ok-clause-unbuilt : goal.returns-in-Ok-clause-unbuilt
returns-in-Ok-clause-unbuilt g c = λ other s u. unbuilt_by (map string_bytes c.args.words.now) c.in-Ok.command other c.obey.result c.in-Ok.ensures.ok c.obey.ensures.unbuilt s u

pub returns-in-Ok-clause-idle : goal.returns-in-Ok-clause-idle
returns-in-Ok-clause-idle g c = λ none. absurd (none c.in-Ok.command c.in-Ok.ensures.ok)

pub returns-in-Err-Usage-clause-unbuilt : goal.returns-in-Err-Usage-clause-unbuilt
returns-in-Err-Usage-clause-unbuilt g c = λ other s u. absurd (c.in-Err-Usage.ensures.usage c.in-Err-Usage.field-0-is other s)
