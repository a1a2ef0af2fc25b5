use Rattle.std.proofs.Common.{◌∙◌, sym}
use Rattle.job_script.proofs.Whole.{at_end}
use Rattle.job_script.proofs.reading.draft_of.Goals as goal

pub returns : goal.returns
returns c = sym c.loop-rest.invariant.so_far ∙ at_end c.loop-rest.line c.loop-rest.draft c.loop-rest.rest.now c.is_empty.ensures
    c.loop-rest-test.false
