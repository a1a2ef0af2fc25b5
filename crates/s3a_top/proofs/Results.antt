-- What follows for a result from the contract of the callee.
use Rattle.durable_job.specs.declared.jobs.Jobs.{Jobs}
use Rattle.s3a_top.proofs.Pieces.{read_taken, taken_part}
use Rattle.s3a_top.proofs.Readings.{jobs_are, no_script, no_twins}
use Rattle.s3a_top.specs.Bytes.{IsRead}
use Rattle.s3a_top.specs.Openings.{AreJobsOf, reads_jobs}
use Rattle.s3a_top.specs.inner.Reads.{AreJobsIn, IsNone, IsReadStop, reader}
use Rattle.s3a_top.specs.declared.stop.Stop.{Stop}
use Rattle.s3a_top.specs.declared.stop.Stop.TheVariants.{NoMemory, Script as BadScript, Twins as BadTwins}
use Rattle.std.proofs.Common.{Bool, Err, IfErr, IfOk, List, Ok, Option, Result, ap, false, inr, refl, subst, true, ℕ, ◌≡◌}

-- ---- the jobs

pub jobs_read : (both : Bool) (result : Result Jobs Stop) (left rest : Option (List ℕ)) (all bytes : List ℕ) → IsRead left rest all
    → bytes ≡ all → IfOk result (λ jobs. AreJobsIn both bytes jobs) → IfOk result (λ jobs. AreJobsOf (reader both) left rest jobs)
jobs_read both (Ok jobs) left rest all bytes r same h = jobs_are both left rest all jobs r
    (subst (λ (b : List ℕ). AreJobsIn both b jobs) same h)
jobs_read both (Err stop) left rest all bytes r same h = tt

-- The commands for one job and for two both read it from the input.
pub is_reader : (both : Bool) → reads_jobs (reader both) ≡ true
is_reader false = refl
is_reader true = refl

none_read : (both : Bool) (stop : Stop) (left rest : Option (List ℕ)) (all : List ℕ) → IsRead left rest all → IsNone stop both all
    → IsReadStop stop (reader both) left rest
none_read both (BadScript e) left rest all r h = (ap reader h.0, (no_script left rest all e r h.1.0, (h.1.1, read_taken left rest all r)))
none_read both (BadTwins e) left rest all r h = (ap reader h.0, (no_twins left rest all e r h.1.0, (h.1.1, read_taken left rest all r)))
none_read both NoMemory left rest all r h = inr (is_reader both, taken_part left rest (read_taken left rest all r))
none_read both _ left rest all r h = absurd h

pub stop_read : {A : Type 0} (both : Bool) (result : Result A Stop) (left rest : Option (List ℕ)) (all bytes : List ℕ)
    → IsRead left rest all → bytes ≡ all → IfErr result (λ stop. IsNone stop both bytes)
    → IfErr result (λ stop. IsReadStop stop (reader both) left rest)
stop_read both (Ok x) left rest all bytes r same h = tt
stop_read both (Err stop) left rest all bytes r same h = none_read both stop left rest all r
    (subst (λ (b : List ℕ). IsNone stop both b) same h)
