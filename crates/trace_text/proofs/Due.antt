-- The reply that S3 must give to a send, as its line has it.
use Rattle.std.proofs.Common.{◌≡◌, Err, IfOk, Ok, Result, sym}
use Rattle.s3_types.specs.Answer.{answer}
use Rattle.s3_types.specs.Store.{Scene}
use Rattle.s3_types.specs.declared.reply.Reply.{Reply}
use Rattle.s3_types.specs.declared.reply.Reply.TheVariants.{Deleted}
use Rattle.s3_types.specs.declared.request.Request.{Request}
use Rattle.s3_types.specs.declared.request.Request.TheVariants.{PutObject, UploadPart}
use Rattle.trace_lines.proofs.Tagged.{answer_tells}
use Rattle.trace_lines.specs.Requests.{TellsTag}

-- A reply to a deletion has no tag.
pub none_told : (r : Request) → TellsTag r Deleted
none_told (PutObject bucket key bytes header) = tt
none_told (UploadPart bucket key upload n bytes) = tt
none_told _ = tt

pub due_told : {E : Type 0} (z : Scene) (r : Request) (reply : Result Reply E) → IfOk reply (λ x. x ≡ answer z r)
    → IfOk reply (λ x. TellsTag r x)
due_told z r (Ok x) h = answer_tells z r x (sym h)
due_told z r (Err e) h = tt
