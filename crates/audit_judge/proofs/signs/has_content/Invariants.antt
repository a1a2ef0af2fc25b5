use Rattle.std.proofs.Common.{◌≡◌}
use Rattle.audit_judge.specs.inner.Tests.{has_content}
use Rattle.audit_judge.proofs.signs.has_content.Given as goal

abbrev pub invariant-loop-files : goal.invariant-loop-files
invariant-loop-files l = has_content l.path l.content l.files-iterator ≡ has_content l.path l.content l.attempts
