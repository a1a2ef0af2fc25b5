use Rattle.std.proofs.Common.{sym, ◌∙◌}
use Rattle.s3a_words.proofs.Bounds.{bounded}
use Rattle.s3a_words.proofs.reading.read_words.Goals as goal

pub returns-in-Ok-Some-clause-bounded : goal.returns-in-Ok-Some-clause-bounded
returns-in-Ok-Some-clause-bounded c = bounded c.args.words.now c.in-Ok-Some.command (sym c.in-Ok-Some.ensures ∙ c.in-Ok-Some.field-0-is)
