use Rattle.job_gen.proofs.Adding.{all_added, next_added, next_free}
use Rattle.job_model.specs.Attempts.{last_files}
use Rattle.job_model.specs.Files.{File, has_path}
use Rattle.std.proofs.Common.{ap, sym, [], ◌∙◌}
use Rattle.job_gen.proofs.attempts.declare_with.Goals as goal

pub loop-path-init : goal.loop-path-init
loop-path-init c = record {
  done = [];
  all = sym (c.into_iter-path-iterator.ensures.into_iter_gives.0 ∙ c.held-path-items.ensures);
  so_far =
      c.in_ok-declare.ensures.ok;
}

pub add_file-requires : goal.add_file-requires
add_file-requires c =
    let f : File = (c.in-Some.path.now, c.in-Some.bytes.now) in
    ap (has_path (last_files c.loop-path.attempts)) c.in_ok-clone.ensures.cases ∙ next_free {rest = c.next.new.self} {f = f}
    c.requires.files c.loop-path.invariant c.in-Some.ensures.steps

pub loop-path-preserved : goal.loop-path-preserved
loop-path-preserved c =
    let f : File = (c.in-Some.path.now, c.in-Some.bytes.now) in
    next_added {f = f} c.in_ok-clone.field-0 c.in_ok-clone-2.field-0 c.loop-path.invariant c.in-Some.ensures.steps
    c.in_ok-clone.ensures.cases c.in_ok-clone-2.ensures.cases c.in_ok-add_file.ensures.ok

pub returns : goal.returns
returns c = all_added c.loop-path.invariant c.in-None.ensures.steps.0
