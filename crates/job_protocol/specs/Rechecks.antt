-- The driver's second conflict check, before the commit of a job at a shared destination. Only the mode fail has it.
-- (Hadoop, S3A committers: fs.s3a.committer.staging.conflict-mode; here the check is made a second time.)
use Rattle.job_model.specs.Attempts.{Who}
use Rattle.job_model.specs.Files.{File}
use Rattle.job_model.specs.JobScript.{Script}
use Rattle.job_model.specs.declared.ends.CheckEnd.{CheckEnd}
use Rattle.job_protocol.specs.Conflicts.{checks_all, checks_partitions, partitions}
use Rattle.job_protocol.specs.Outputs.{files, paths_of}
use Rattle.job_protocol.specs.Setup.{dest_prefix, first_shown}
use Rattle.job_protocol.specs.TaskCommits.{partition_prefix}
use Rattle.list_walk.specs.Walks.{More, Walked, Whole, keys_on, page_after, walked}
use Rattle.retries.specs.Retries.{Got, Item, OutOfMemory, WornOut}
use Rattle.s3_types.specs.declared.reply.PageEntry.{PageEntry}
use Rattle.s3_types.specs.declared.reply.Reply.{Reply}
use Rattle.s3_types.specs.declared.reply.Reply.TheVariants.{Page}
use Rattle.s3_types.specs.declared.request.Request.{Request}
use Rattle.s3_types.specs.declared.request.Request.TheVariants.{ListPage}
use Rattle.std.specs.List.{flat_map}
use Rattle.std.specs.Prelude.{Bool, List, None, Option, Some, false, true, ℕ, [], ◌∷◌}
use Rattle.job_model.specs.declared.ends.CheckEnd.TheVariants as ends

-- How far the check has come.
pub data Check : Type 0 where
  -- directory: lists the keys below the destination until readers see a file at one of them, with the keys so far
  Looking : (keys : List (List ℕ)) → Check
  -- partitioned: looks for a key below this partition; the others follow
  Probing : (partition : List ℕ) (others : List (List ℕ)) → Check
  CheckOver : (end : CheckEnd) → Check

-- The check of the next of these partitions. After the last one the check is clear.
abbrev pub probing : List (List ℕ) → Check
probing [] = CheckOver ends.Clear
probing (d ∷ ds) = Probing d ds

-- The files of these attempts.
abbrev pub files_of_all : Script → List Who → List File
files_of_all w reported = flat_map (files w) reported

-- The start of the check: with the whole destination, with these partitions, or with nothing to check.
abbrev pub check_by : Bool → Bool → List (List ℕ) → Check
check_by true b dirs = Looking []
check_by false true dirs = probing dirs
check_by false false dirs = CheckOver ends.Clear

-- The start of the check, for the files of these attempts.
abbrev pub check_start : Script → List Who → Check
check_start w reported = check_by (checks_all w.committer w.mode) (checks_partitions w.committer w.mode)
    (partitions (paths_of (files_of_all w reported)))

-- The next request of the check, or none if it is over.
abbrev pub check_asks : Script → Check → Option Request
check_asks w (Looking keys) = Some (page_after w.dest.bucket (dest_prefix w) keys)
check_asks w (Probing d ds) = Some (ListPage w.dest.bucket (partition_prefix w d) false [] 1)
check_asks w (CheckOver end) = None

-- The check after a page without a file that readers see.
abbrev pub looked_on : Walked (List ℕ) → Check
looked_on (More keys) = Looking keys
looked_on (Whole keys) = CheckOver ends.Clear

-- The check after a page: a file that readers see there is a conflict.
abbrev pub looked : Option (List ℕ) → Walked (List ℕ) → Check
looked (Some p) next = CheckOver (ends.Conflict p)
looked None next = looked_on next

-- The check after a page of a partition: any key on it is a conflict.
abbrev pub probed : List ℕ → List (List ℕ) → List PageEntry → Check
probed d ds [] = probing ds
probed d ds (e ∷ es) = CheckOver (ends.Conflict d)

-- The check after a reply.
abbrev pub check_hears : Script → Check → Reply → Check
check_hears w (Looking keys) (Page entries more) = looked (first_shown w (keys_on entries)) (walked keys (Page entries more))
check_hears w (Looking keys) _ = Looking keys
check_hears w (Probing d ds) (Page entries more) = probed d ds entries
check_hears w (Probing d ds) _ = Probing d ds
check_hears w (CheckOver end) r = CheckOver end

-- How the check ended, if it is over.
abbrev pub check_over : Check → Option CheckEnd
check_over (CheckOver end) = Some end
check_over _ = None

-- The check after a reply, after a request that ran out of retries, or after memory ran out.
abbrev pub check_after : Script → Check → Item → Check
check_after w c (Got r repeated) = check_hears w c r
check_after w c WornOut = CheckOver ends.StoreFault
check_after w c OutOfMemory = CheckOver ends.NoMemory
