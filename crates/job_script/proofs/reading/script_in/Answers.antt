use Rattle.job_script.proofs.Whole.{draft_legal}
use Rattle.std.proofs.Common.{ap, sym, ◌∙◌}
use Rattle.std.specs.Str.{is_utf8}
use Rattle.job_script.proofs.reading.script_in.Goals as goal

pub complete-requires : goal.complete-requires
complete-requires c = record {
  legal = draft_legal 10000 c.in-Some.text.now c.in_ok-draft.draft
      (ap is_utf8 c.in-Some.ensures.same ∙ sym c.in-Some.ensures.found) c.in_ok-draft.ensures;
}
