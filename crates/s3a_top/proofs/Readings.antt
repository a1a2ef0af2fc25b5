-- The bytes that were read from the input, and what they read as.
use Rattle.text_and_lists.specs.Reading.{Fails}
use Rattle.durable_job.specs.declared.jobs.Jobs.{Jobs}
use Rattle.durable_job.specs.declared.jobs.Jobs.TheVariants.{One, Two}
use Rattle.job_model.specs.JobScript.{Script}
use Rattle.job_script.specs.Script.{script_of}
use Rattle.job_script.specs.declared.fault.ScriptFault.{ScriptFault}
use Rattle.s3a_top.specs.Bytes.{IsRead, TakesPart}
use Rattle.s3a_top.specs.Jobs.{IsFaultOf}
use Rattle.s3a_top.specs.Openings.{AreJobsOf, IsAllRead}
use Rattle.s3a_top.specs.inner.Reads.{AreJobsIn, reader}
use Rattle.std.proofs.Common.{Bool, Err, List, None, Ok, Option, Result, Some, ap, arith, false, length, lit≤, nat_le, refl, sym, take}
use Rattle.std.proofs.Common.{true, ℕ, ◌<◌, ◌∙◌, ◌≡◌, ◌≢◌, ◌≤◌}
use Rattle.std.proofs.lemmas.Bool.Decides.{nat_tests}
use Rattle.std.proofs.lemmas.List.{drop_all, length-take-le, take_all}
use Rattle.twin_script.specs.TwinScripts.{Twins}
use Rattle.twin_script.specs.Twins.{twins_of}
use Rattle.twin_script.specs.declared.fault.TwinFault.{TwinFault}
use Rattle.job_script.specs.Fault as script
use Rattle.job_script.specs.declared.fault.ScriptFault.TheVariants as faults
use Rattle.twin_script.specs.Fault as twins
use Rattle.twin_script.specs.declared.fault.TwinFault.TheVariants as twin_faults

-- ---- a reader that refuses everything over the limit

module _ {A E : Type 0} (read : List ℕ → Result A E) (large : E) (too_large : (bytes : List ℕ) → 67108864 < length bytes → read bytes ≡ Err
    large) where
  -- bytes that it reads are within the limit
  small : (bytes : List ℕ) (x : A) → read bytes ≡ Ok x → length bytes ≤ 67108864
  small bytes x e = by (nat_le (length bytes) 67108864) refl
    where
      by : (b : Bool) → nat_le (length bytes) 67108864 ≡ b → length bytes ≤ 67108864
      by true t = grind (arith, nat_tests)
      by false t =
          let long : 67108864 < length bytes = grind (arith, nat_tests) in
          let refused = too_large bytes long in
          absurd (cc)

  -- the bytes that were read from the input read as the whole input does
  read_whole : (bytes all : List ℕ) → all ≡ take 67108865 bytes → (b : Bool) → nat_le (length bytes) 67108865 ≡ b → read all ≡ read bytes
  read_whole bytes all h true e =
      let short : length bytes ≤ 67108865 = grind (arith, nat_tests) in
      ap read (h ∙ take_all 67108865 bytes short)
  read_whole bytes all h false e =
      let long : 67108865 < length bytes = grind (arith, nat_tests) in
      let most : 67108865 ≤ length bytes = omega (arith, long) in
      let size : length all ≡ 67108865 = ap length h ∙ length-take-le 67108865 bytes most in
      too_large all (omega (arith, size)) ∙ sym (too_large bytes (omega (arith, long)))

  -- the input was read whole, and nothing is left of it
  all_read : (left rest : Option (List ℕ)) (all : List ℕ) (x : A) → IsRead left rest all → read all ≡ Ok x → IsAllRead read left rest x
  all_read None rest all x r e = r
  all_read (Some bytes) rest all x r e =
      let whole : read bytes ≡ Ok x = sym (read_whole bytes all r.0 (nat_le (length bytes) 67108865) refl) ∙ e in
      let few = small bytes x whole in
      (whole, r.1 ∙ ap Some (drop_all 67108865 bytes (omega (arith, few))))

  all_part : (left rest : Option (List ℕ)) (x : A) → IsAllRead read left rest x → TakesPart left rest
  all_part None rest x h = h
  all_part (Some bytes) rest x h =
      let few = small bytes x h.0 in
      (67108865, (lit≤ tt, h.1 ∙ ap Some (sym (drop_all 67108865 bytes (omega (arith, few))))))

  -- reading the input gives this fault
  fault_of : (left rest : Option (List ℕ)) (all : List ℕ) (e : E) → IsRead left rest all → read all ≡ Err e → IsFaultOf read left e
  fault_of None rest all e r h = tt
  fault_of (Some bytes) rest all e r h = sym (read_whole bytes all r.0 (nat_le (length bytes) 67108865) refl) ∙ h

-- ---- a script

script_large : (bytes : List ℕ) → 67108864 < length bytes → script_of bytes ≡ Err faults.TooLarge
unfolding script_of
script_large bytes h =
    let much : nat_le (length bytes) 67108864 ≡ false = grind (arith, nat_tests) in
    rw much refl

pub script_part : (left rest : Option (List ℕ)) (w : Script) → IsAllRead script_of left rest w → TakesPart left rest
script_part left rest w h = all_part script_of faults.TooLarge script_large left rest w h

pub no_script : (left rest : Option (List ℕ)) (all : List ℕ) (e : ScriptFault) → IsRead left rest all → script_of all ≡ Err e
    → IsFaultOf script_of left e
no_script left rest all e r h = fault_of script_of faults.TooLarge script_large left rest all e r h

-- A fault other than memory that ran out is the one that reading gives.
pub fails_is : (e : ScriptFault) (read : Result Script ScriptFault) → e ≢ faults.NoMemory → Fails script.wanting e read → read ≡ Err e
fails_is faults.NoMemory read n h = absurd (n refl)
fails_is e read n h = h

-- ---- two scripts with their order

twins_large : (bytes : List ℕ) → 67108864 < length bytes → twins_of bytes ≡ Err twin_faults.TooLarge
unfolding twins_of
twins_large bytes h =
    let much : nat_le (length bytes) 67108864 ≡ false = grind (arith, nat_tests) in
    rw much refl

pub twins_part : (left rest : Option (List ℕ)) (t : Twins) → IsAllRead twins_of left rest t → TakesPart left rest
twins_part left rest t h = all_part twins_of twin_faults.TooLarge twins_large left rest t h

pub no_twins : (left rest : Option (List ℕ)) (all : List ℕ) (e : TwinFault) → IsRead left rest all → twins_of all ≡ Err e
    → IsFaultOf twins_of left e
no_twins left rest all e r h = fault_of twins_of twin_faults.TooLarge twins_large left rest all e r h

pub twins_fail : (e : TwinFault) (read : Result Twins TwinFault) → e ≢ twin_faults.NoMemory → Fails twins.wanting e read → read ≡ Err e
twins_fail twin_faults.NoMemory read n h = absurd (n refl)
twins_fail e read n h = h

-- ---- the input

pub jobs_are : (both : Bool) (left rest : Option (List ℕ)) (all : List ℕ) (jobs : Jobs) → IsRead left rest all → AreJobsIn both all jobs
    → AreJobsOf (reader both) left rest jobs
jobs_are false left rest all (One w) r h = all_read script_of faults.TooLarge script_large left rest all w r h
jobs_are true left rest all (Two t) r h = all_read twins_of twin_faults.TooLarge twins_large left rest all t r h
jobs_are _ left rest all jobs r h = absurd h
