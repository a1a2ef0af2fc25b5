-- A write as a whole: how it begins, and how it goes on without a reply.
use Rattle.job_model.specs.Files.{File}
use Rattle.job_model.specs.Jobs.{Task}
use Rattle.job_model.specs.declared.ends.TaskEnd.{TaskEnd}
use Rattle.job_protocol.specs.AtWork.{Attempting, task_script, who_of, with_known, write_told, write_wants}
use Rattle.job_protocol.specs.Outputs.{files}
use Rattle.job_protocol.specs.Uploading.{Creating}
use Rattle.job_protocol.specs.Writes.{Write, write_over, write_start, write_start_by, writing}
use Rattle.retries.specs.Retries.{WornOut}
use Rattle.s3_types.specs.declared.reply.Reply.{Reply}
use Rattle.s3_types.specs.declared.request.Committer.{Committer}
use Rattle.s3_types.specs.declared.request.Committer.TheVariants.{Magic}
use Rattle.std.proofs.Common.{Bool, List, None, Option, Some, ap, arith, codes, drop, false, length, length-drop, refl, subst, sym, ℕ, []}
use Rattle.std.proofs.Common.{◌++◌, ◌<◌, ◌∙◌, ◌∷◌, ◌≡◌}
use Rattle.std.proofs.lemmas.Bool.{false≢true}
use Rattle.std.specs.Prelude.{IsSome}
use Rattle.task_magic.specs.inner.Writing.{done_if_none}
use Rattle.task_requests.proofs.Told.{next_files, no_set, own_files, same_known}
use Rattle.task_requests.specs.Writing.{IsOpen, at_parts, at_stage, seen_write, write_by, write_fits}
use Rattle.task_requests.specs.declared.stage.WriteStage.{WriteStage}
use Rattle.job_model.specs.declared.ends.TaskEnd.TheVariants as ends
use Rattle.job_protocol.specs.Writes as writes
use Rattle.task_requests.specs.declared.stage.WriteStage.TheVariants as stage

-- ---- it begins with its first file

with_files : (t : Task) (fs : List File) → t.files ≡ fs
    → write_by t 0 stage.Creating (done_if_none fs) ≡ at_stage (task_script t) t.minimum stage.Creating fs
with_files t [] e = refl
with_files t (f ∷ fs) e = ap (at_stage (task_script t) t.minimum stage.Creating) e

pub start_is : (t : Task) → t.job.committer ≡ Magic
    → write_by t 0 stage.Creating (done_if_none t.files) ≡ write_start (task_script t) (who_of t)
start_is t m = with_files t t.files refl ∙ (sym (next_files (task_script t) t.minimum t.files) ∙
    (ap writing (sym (own_files t)) ∙ ap (λ (c : Committer). write_start_by c (files (task_script t) (who_of t))) (sym m)))

-- ---- a request that exhausted its retries

pub worn_told : (t : Task) (o : Write) → (let m : Attempting Write = record { plan = t; operation = writes.WriteOver ends.StoreFault } in m
    ≡ write_told (record { plan = t; operation = o }) WornOut)
worn_told t (writes.Uploads f fs Creating) = refl
worn_told t (writes.Marking f fs) = sym (ap (λ k. record { plan = with_known t k; operation = writes.WriteOver ends.StoreFault })
    (same_known t.known _ (no_set (task_script t) (who_of t) f.0)))
worn_told t (writes.Recording f fs) = sym (ap (λ k. record { plan = with_known t k; operation = writes.WriteOver ends.StoreFault })
    (same_known t.known _ (no_set (task_script t) (who_of t) (f.0 ++ codes ".pending"))))
worn_told t _ = refl

-- ---- while a write has a request, it has a current file

open_by : (t : Task) (place : ℕ) (s : WriteStage) (e : Option TaskEnd) → IsOpen e place t.files
    → IsSome (write_wants (seen_write t place s e)) → (e ≡ None) × (place < length t.files)
open_by t place s None o h = (refl, o)
open_by t place s (Some e) o h = absurd (false≢true h)

pub open_asked : (t : Task) (place : ℕ) (s : WriteStage) (e : Option TaskEnd) (m : Attempting Write) → seen_write t place s e ≡ m
    → IsOpen e place t.files → IsSome (write_wants m) → (e ≡ None) × (place < length t.files)
open_asked t place s e m v o h = open_by t place s e o (subst (λ (x : Attempting Write). IsSome (write_wants x)) (sym v) h)

pub fits_asked : (t : Task) (place : ℕ) (s : WriteStage) (e : Option TaskEnd) (m : Attempting Write) (r : Reply) (b : Bool)
    → seen_write t place s e ≡ m → e ≡ None → write_fits m r b → write_fits (seen_write t place s None) r false
fits_asked t place s e m r b v n f = subst (λ (x : Option TaskEnd). write_fits (seen_write t place s x) r false) n
    (subst (λ (x : Attempting Write). write_fits x r b) (sym v) f)

-- ---- its end

parts_go_on : (f : File) (fs : List File) (ps : List (List ℕ)) → None ≡ write_over (at_parts f fs ps)
parts_go_on f fs [] = refl
parts_go_on f fs (p ∷ ps) = refl

goes_on_at : (t : Task) (s : WriteStage) (l : List File) → 0 < length l → None ≡ write_over (at_stage (task_script t) t.minimum s l)
goes_on_at t s [] h = absurd (omega arith)
goes_on_at t (stage.Sending n) (f ∷ fs) h = parts_go_on f fs _
goes_on_at t _ (f ∷ fs) h = refl

pub end_is : (t : Task) (place : ℕ) (s : WriteStage) (e : Option TaskEnd) (m : Attempting Write) → seen_write t place s e ≡ m
    → IsOpen e place t.files → e ≡ write_over m.operation
end_is t place s None m v o = goes_on_at t s (drop place t.files) (some t.files place o) ∙ ap
    (λ (x : Attempting Write). write_over x.operation) v
  where
    some : (fs : List File) (i : ℕ) → i < length fs → 0 < length (drop i fs)
    some fs i h = omega (arith, length-drop i fs)
end_is t place s (Some e) m v o = ap (λ (x : Attempting Write). write_over x.operation) v
