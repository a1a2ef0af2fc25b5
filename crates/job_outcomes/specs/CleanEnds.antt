-- How the driver's abort or clean of the job ends.
use Rattle.job_model.specs.Known.{Known}
use Rattle.job_model.specs.Legal.{IsLegal}
use Rattle.job_model.specs.declared.ends.CleanEnd.{CleanEnd}
use Rattle.job_protocol.specs.Cleanups.{clean_start}
use Rattle.job_protocol.specs.Operations.{Running, Setting, TheClean, advance, over, wants}
use Rattle.job_spec.specs.OperationEnds.{CleanIs, Cleaned}
use Rattle.retries.specs.Operation.{Follows, run}
use Rattle.retries.specs.Retries.{fresh}
use Rattle.retries.specs.Worn.{WornFirst}
use Rattle.s3_types.specs.Moment.{AreHonest, after_all}
use Rattle.s3_types.specs.Store.{Scene}
use Rattle.s3_types.specs.declared.journal.Entry.{Entry}
use Rattle.s3_types.specs.declared.request.Actor.{Actor}
use Rattle.s3_types.specs.declared.request.Request.{Request}
use Rattle.std.specs.Prelude.{List, Option, Some, ◌≡◌}
use Rattle.job_model.specs.declared.ends.CleanEnd.TheVariants as cleans
use Rattle.job_model.specs.declared.ends.OpEnd.TheVariants as op_ends

-- An abort or clean of the job before its first request.
abbrev pub cleaning : Setting → Known → Running
cleaning g k = record { operation = TheClean (fresh g.script.retries clean_start); known = k }

-- How an abort or clean of the job ends, for every committer.
pub record CleanEnds : Type 0 where
  -- By its own entries alone, whatever was answered and whoever sent between them, it ends with StoreFault if a request ran out of retries,
  -- else Done.
  pub ends : (g : Setting) (a : Actor) (k : Known) (es : List Entry) → Follows (wants g a) (advance g a) (cleaning g k) es → (e : CleanEnd)
      → over (run (advance g a) (cleaning g k) es).operation ≡ Some (op_ends.Clean e)
      → (worn : Option Request) × WornFirst g.script.retries es worn × CleanIs worn e
  -- If it ends Done and nobody else sends between its entries, it leaves nothing of the job and hides nothing from readers, whatever was
  -- there when it began.
  pub cleaned : (g : Setting) → IsLegal g.script → (a : Actor) (k : Known) (s : Scene) (es : List Entry)
      → Follows (wants g a) (advance g a) (cleaning g k) es → AreHonest s es
      → over (run (advance g a) (cleaning g k) es).operation ≡ Some (op_ends.Clean cleans.Done) → Cleaned g.script s (after_all s es)
