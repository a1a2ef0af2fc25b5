use Rattle.job_gen.proofs.Declaring.{attempts_from, new_task}
use Rattle.job_gen.proofs.PartFiles.{files_fit}
use Rattle.job_gen.proofs.Ranges.{flat_map_next}
use Rattle.job_gen.specs.Made.{attempt_of, attempts_of, made_attempts, part_files}
use Rattle.job_model.specs.Attempts.{declares}
use Rattle.job_model.specs.Legal.{AreFiles}
use Rattle.job_spec.specs.Turns.{draw}
use Rattle.std.proofs.Common.{ap, arith, subst, sym, [], ◌*◌, ◌++◌, ◌+◌, ◌∙◌, ◌≡◌}
use Rattle.job_gen.proofs.attempts.all_attempts.Goals as goal

pub declare_task-requires-clause-first : goal.declare_task-requires-clause-first
declare_task-requires-clause-first c =
    let t = c.loop-task.task in
    ap (λ l. declares l (attempt_of t 0)) c.loop-task.invariant.so_far ∙ new_task (part_files c.args.seed c.args.files) 0 t t 0
    (omega arith)

pub declare_task-requires-clause-second : goal.declare_task-requires-clause-second
declare_task-requires-clause-second c =
    let t = c.loop-task.task in
    ap (λ l. declares l (attempt_of t 1)) c.loop-task.invariant.so_far ∙ new_task (part_files c.args.seed c.args.files) 0 t t 1
    (omega arith)

pub declare_task-requires-clause-files : goal.declare_task-requires-clause-files
declare_task-requires-clause-files c =
    subst (AreFiles []) (sym (c.in_ok-made.ensures.made c.args.seed c.loop-task.invariant.drawn))
    (files_fit c.args.seed c.args.files c.loop-task.task (omega (arith, c.requires.tasks, c.loop-task-test.true)) c.requires.files)

pub loop-task-preserved : goal.loop-task-preserved
loop-task-preserved c =
    let t = c.loop-task.task in
    let g = part_files c.args.seed c.args.files in
    let more : 2 * (t * c.args.files) + 2 * c.args.files ≡ 2 * ((t + 1) * c.args.files) = omega arith in
    let made = c.in_ok-made.ensures.made c.args.seed c.loop-task.invariant.drawn in
    record {
      drawn = c.in_ok-made.ensures.goes_on c.args.seed (2 * (t * c.args.files)) c.loop-task.invariant.drawn ∙ ap (draw c.args.seed) more;
      so_far = c.in_ok-declare_task.ensures ∙ (λ i. c.loop-task.invariant.so_far i ++ attempts_of (made i) t) ∙ sym
          (flat_map_next (λ u. attempts_of (g u) u) t);
    }

pub returns : goal.returns
unfolding made_attempts
returns c =
    let all : c.loop-task.task ≡ c.args.tasks = omega (arith, c.loop-task-test.false, c.loop-task.auto.task-end) in
    c.loop-task.invariant.so_far ∙ ap (attempts_from (part_files c.args.seed c.args.files) 0) all
