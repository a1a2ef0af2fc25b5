use Rattle.log_format.specs.Change.{IsText}
use Rattle.std.proofs.Common.{subst, ◌∙◌}
use Rattle.std.proofs.lemmas.Str.{is_utf8-from_IsUtf8}
use Rattle.log_format.proofs.writing.utf8_of.Goals as goal

pub returns-clause-utf8 : goal.returns-clause-utf8
returns-clause-utf8 c = subst IsText (c.as_bytes.ensures.value ∙ c.as_str.ensures)
    (is_utf8-from_IsUtf8 c.as_bytes.result.now c.as_bytes.ensures.utf8)
