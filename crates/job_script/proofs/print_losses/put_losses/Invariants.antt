use Rattle.text_and_lists.specs.Words.{text_of}
use Rattle.job_script.proofs.LossLines.{losses_from}
use Rattle.job_script.specs.HeadLines.{loss_lines}
use Rattle.std.proofs.Common.{string_bytes, ◌++◌, ◌-◌, ◌≡◌, ◌≤◌}
use Rattle.job_script.proofs.print_losses.put_losses.Given as goal

abbrev pub invariant-loop-sending : goal.invariant-loop-sending
invariant-loop-sending l = record {
  room : l.from ≤ 1000000001;
  text : string_bytes l.out ++ losses_from l.from l.fates ≡ string_bytes l.fn.out ++ text_of (loss_lines l.fates);
}

abbrev pub decreases-loop-sending : goal.decreases-loop-sending
decreases-loop-sending l = 1000000001 - l.from
