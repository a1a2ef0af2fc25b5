-- The partitions that an attempt's commit checks.
use Rattle.conflict.proofs.SamePartitions.{partitions_of_ordered}
use Rattle.job_model.specs.Files.{File}
use Rattle.job_model.specs.Jobs.{Job, Task}
use Rattle.job_protocol.specs.AtWork.{task_script, who_of}
use Rattle.job_protocol.specs.Conflicts.{checks_partitions, partitions}
use Rattle.job_protocol.specs.Outputs.{files, paths_of}
use Rattle.job_protocol.specs.TaskCommits.{to_check}
use Rattle.std.proofs.Common.{Bool, List, ap, arith, cond, false, get_or, length, map, sym, take, true, ℕ, [], ◌++◌, ◌+◌, ◌<◌, ◌∙◌, ◌∷◌}
use Rattle.std.proofs.Common.{◌≡◌}
use Rattle.std.proofs.lemmas.List.{map-append, take_more}
use Rattle.task_requests.proofs.Told.{own_files}

checked_by : (t : Task) (j : Job) (b c : Bool) → j ≡ t.job → b ≡ checks_partitions j.committer j.mode → b ≡ c
    → checks_partitions t.job.committer t.job.mode ≡ c
checked_by t j b c e h f = sym (ap (λ (x : Job). checks_partitions x.committer x.mode) e) ∙ (sym h ∙ f)

pub none_to_check : (t : Task) (j : Job) (b : Bool) → j ≡ t.job → b ≡ checks_partitions j.committer j.mode → b ≡ false
    → [] ≡ to_check (task_script t) (who_of t)
none_to_check t j b e h f = sym (ap (λ x. cond x (partitions (paths_of (files (task_script t) (who_of t)))) [])
    (checked_by t j b false e h f))

pub all_to_check : (t : Task) (j : Job) (b : Bool) → j ≡ t.job → b ≡ checks_partitions j.committer j.mode → b ≡ true
    → partitions (map (λ f. f.0) t.files) ≡ to_check (task_script t) (who_of t)
all_to_check t j b h g e = grind (arith, partitions_of_ordered, own_files, checked_by)

-- One more path.
pub paths_more : (fs : List File) (place : ℕ) → place < length fs → (paths : List (List ℕ)) (p : List ℕ)
    → paths ≡ map (λ f. f.0) (take place fs) → p ≡ (get_or fs place ([], [])).0 → paths ++ p ∷ [] ≡ map (λ f. f.0) (take (place + 1) fs)
paths_more fs place h paths p e g =
    ap (λ (l : List (List ℕ)). l ++ p ∷ []) e
    ∙ (ap (λ (x : List ℕ). map (λ (f : File). f.0) (take place fs) ++ x ∷ []) g
    ∙ sym (ap (map (λ (f : File). f.0)) (take_more fs place ([], []) h) ∙ map-append (λ (f : File). f.0) (take place fs)
    (get_or fs place ([], []) ∷ [])))
