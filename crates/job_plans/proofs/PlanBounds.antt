-- The plans that a legal script gives keep their bounds.
use Rattle.job_model.specs.Attempts.{Declared, Who, same_name}
use Rattle.job_model.specs.Files.{File}
use Rattle.job_model.specs.JobScript.{Script}
use Rattle.job_model.specs.Jobs.{Job, Task}
use Rattle.job_model.specs.Known.{Known, nothing_known}
use Rattle.job_model.specs.Legal.{AreAttempts, AreFiles, IsLegal, bytes_in, bytes_of, files_in}
use Rattle.job_model.specs.Placed.{placed}
use Rattle.job_model.specs.Plans.{IsTask}
use Rattle.job_plans.proofs.FilePlans.{are_placed, as_long, as_many}
use Rattle.job_plans.specs.AtPlace.{task_at}
use Rattle.job_protocol.specs.AtWork.{job_of, task_of}
use Rattle.job_protocol.specs.Outputs.{files}
use Rattle.s3_types.specs.declared.limits.TheConstants.{MOST_MINIMUM, MOST_SCRIPT_BYTES}
use Rattle.std.proofs.Common.{List, Option, Some, ap, arith, length, refl, slice_get, subst, suc, sym, zero, ℕ, [], ◌++◌, ◌<◌, ◌∙◌, ◌∷◌}
use Rattle.std.proofs.Common.{◌≡◌, ◌≤◌}
use Rattle.std.specs.Map.{lookup}
use Rattle.std.specs.Option.{option_map, unwrap_or}

-- ---- the attempt at a place

-- Holds if the attempt is one of these tasks, and has at most this number of files and bytes.
pub record IsOne (tasks files bytes : ℕ) (a : Declared) : Type 0 where
  pub task : a.0.task < tasks
  pub attempt : a.0.attempt ≤ 99
  pub each : AreFiles [] a.1
  pub few_files : length a.1 ≤ files
  pub few_bytes : bytes_of a.1 ≤ bytes

one_at : (tasks : ℕ) (before all : List Declared) (i : ℕ) (a : Declared) → AreAttempts tasks before all → slice_get all i ≡ Some a
    → IsOne tasks (files_in all) (bytes_in all) a
one_at tasks before [] i a h e = absurd (cc)
one_at tasks before (b ∷ all) zero a h e =
    let same : b ≡ a = cc in
    subst (IsOne tasks (files_in (b ∷ all)) (bytes_in (b ∷ all))) same (record
    { task = h.0; attempt = h.1; each = h.3; few_files = omega arith; few_bytes = omega arith })
one_at tasks before (b ∷ all) (suc i) a h e =
    let r = one_at tasks (before ++ b ∷ []) all i a h.4 e in
    let files : length a.1 ≤ files_in all = r.few_files in
    let bytes : bytes_of a.1 ≤ bytes_in all = r.few_bytes in
    record { task = r.task; attempt = r.attempt; each = r.each; few_files = omega arith; few_bytes = omega arith }

pub legal_at : (w : Script) (i : ℕ) (a : Declared) → IsLegal w → slice_get w.attempts i ≡ Some a
    → IsOne w.tasks (files_in w.attempts) (bytes_in w.attempts) a
legal_at w i a l e = one_at w.tasks [] w.attempts i a l.attempts e

-- ---- its plan

-- The plan that is made of the parts of a script.
plan_is : (w : Script) (minimum block : ℕ) (n : Who) (fs its : List File) (j : Job) (k : Known) → lookup (same_name n) w.attempts ≡ Some fs
    → its ≡ placed w.unique w.job fs → j ≡ job_of w → block ≡ w.block
    → (let made : Task = record { job = j; task = n.task; attempt = n.attempt; files = its; block = block; minimum = minimum; known = k } in
    made ≡ task_of w minimum n k)
plan_is w minimum block n fs its j k found e job size =
    let placed_is : its ≡ files w n = e ∙ sym (ap (λ (o : Option (List File)). unwrap_or (option_map (placed w.unique w.job) o) []) found)
    in
    rw (job, placed_is, size) refl

task_bounds : (w : Script) (i minimum : ℕ) (a : Declared) (k : Known) → IsLegal w → slice_get w.attempts i ≡ Some a → 1 ≤ minimum
    → minimum ≤ MOST_MINIMUM
    → IsTask (record {
      job = job_of w;
      task = a.0.task;
      attempt = a.0.attempt;
      files = placed w.unique w.job a.1;
      block = w.block;
      minimum =
          minimum;
      known = k;
    })
task_bounds w i minimum a k l e some most =
    let o = legal_at w i a l e in
    let few : length a.1 ≤ files_in w.attempts = o.few_files in
    let all_files : files_in w.attempts ≤ 20000 = l.few_files in
    let short : bytes_of a.1 ≤ bytes_in w.attempts = o.few_bytes in
    let all_bytes : bytes_in w.attempts ≤ MOST_SCRIPT_BYTES = l.few_bytes in
    record {
      task = o.task;
      attempt = o.attempt;
      files = are_placed w.unique w.job [] a.1 l.job o.each;
      few_files = omega (arith, as_many w.unique w.job a.1);
      few_bytes = omega (arith, as_long w.unique w.job a.1);
      block = l.block;
      some = some;
      most = most;
    }

pub task_is : (w : Script) (place minimum block : ℕ) (n : Who) (fs its : List File) (j : Job) (k : Known) → IsLegal w
    → slice_get w.attempts place ≡ Some (n, fs) → its ≡ placed w.unique w.job fs → j ≡ job_of w → block ≡ w.block
    → 1 ≤ minimum → minimum ≤ MOST_MINIMUM → IsTask (record
    { job = j; task = n.task; attempt = n.attempt; files = its; block = block; minimum = minimum; known = k })
task_is w place minimum block n fs its j k l here e job size some most =
    subst (λ (x : ℕ). IsTask (record { job = j; task = n.task; attempt = n.attempt; files = its; block = x; minimum = minimum; known = k }))
    (sym size)
    (subst (λ (x : Job). IsTask (record {
      job = x;
      task = n.task;
      attempt = n.attempt;
      files = its;
      block = w.block;
      minimum = minimum;
      known = k;
    })) (sym job)
    (subst (λ (x : List File). IsTask (record {
      job = job_of w;
      task = n.task;
      attempt = n.attempt;
      files = x;
      block = w.block;
      minimum =
          minimum;
      known = k;
    })) (sym e) (task_bounds w place minimum (n, fs) k l here some most)))

pub task_told : (w : Script) (place minimum block : ℕ) (n : Who) (fs its : List File) (j : Job) (k : Known)
    → slice_get w.attempts place ≡ Some (n, fs) → lookup (same_name n) w.attempts ≡ Some fs → its ≡ placed w.unique w.job fs
    → j ≡ job_of w → block ≡ w.block → k ≡ nothing_known
    → task_at w minimum place ≡ Some (record {
      job = j;
      task = n.task;
      attempt = n.attempt;
      files = its;
      block = block;
      minimum =
          minimum;
      known = k;
    })
task_told w place minimum block n fs its j k here found e job size nothing =
    ap (option_map (λ (a : Declared). task_of w minimum a.0 nothing_known)) here
    ∙ ap (λ (x : Known). Some (task_of w minimum n x)) (sym nothing)
    ∙ ap Some (sym (plan_is w minimum block n fs its j k found e job size))
