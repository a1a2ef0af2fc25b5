-- The bound on the requests that a write has left falls.
use Rattle.job_model.specs.Files.{File}
use Rattle.job_model.specs.JobScript.{Script}
use Rattle.job_model.specs.Jobs.{Task}
use Rattle.job_model.specs.Known.{Drawn}
use Rattle.job_protocol.specs.AtWork.{task_script, write_told, write_wants}
use Rattle.job_protocol.specs.Measures.{FallsAmong}
use Rattle.job_protocol.specs.Uploading.{Creating, Sending, created, file_parts, sending, sent_part}
use Rattle.job_protocol.specs.Writes.{Write, uploaded, write_hears, writing}
use Rattle.s3_types.specs.Answer.{answer}
use Rattle.s3_types.specs.declared.reply.Refusal.TheVariants.{NoSuchUpload}
use Rattle.s3_types.specs.declared.reply.Reply.{Reply}
use Rattle.s3_types.specs.declared.reply.Reply.TheVariants.{Part, Refused, Upload}
use Rattle.s3_types.specs.declared.request.Request.{Request}
use Rattle.std.proofs.Common.{Bool, List, Some, arith, length, ℕ, [], ◌+◌, ◌<◌, ◌∷◌, ◌≡◌, ◌≤◌}
use Rattle.task_requests.specs.Writing.{FitsCreate, FitsPart, FitsWrite, files_left, left_of, write_fits, write_left}
use Rattle.job_protocol.specs.Writes as writes

sent_left : (w : Script) (minimum : ℕ) (f : File) (fs : List File) (ps : List (List ℕ))
    → left_of w minimum (uploaded w f fs (sending ps)) ≤ 2 + length ps + files_left w minimum fs
sent_left w minimum f fs [] = omega arith
sent_left w minimum f fs (p ∷ ps) = omega arith

written_left : (w : Script) (minimum : ℕ) (fs : List File) → left_of w minimum (writing fs) ≤ files_left w minimum fs
written_left w minimum [] = omega arith
written_left w minimum (f ∷ fs) = omega arith

begun_left : (w : Script) (minimum : ℕ) (f : File) (fs : List File) (ds : List Drawn) (r : Reply) → FitsCreate ds r
    → left_of w minimum (uploaded w f fs (created w minimum f r)) < 3 + length (file_parts w minimum f) + files_left w minimum fs
begun_left w minimum f fs ds (Upload id) h = omega (arith, sent_left w minimum f fs (file_parts w minimum f))
begun_left w minimum f fs ds _ h = absurd h

part_left : (w : Script) (minimum : ℕ) (f : File) (fs : List File) (ps : List (List ℕ)) (r : Reply) → FitsPart r
    → left_of w minimum (uploaded w f fs (sent_part ps r)) < 3 + length ps + files_left w minimum fs
part_left w minimum f fs ps (Part tag) h = omega (arith, sent_left w minimum f fs ps)
part_left w minimum f fs ps (Refused NoSuchUpload) h = omega arith
part_left w minimum f fs ps _ h = absurd h

falls_at : (t : Task) (o : Write) (r : Request) (a : Reply) (b : Bool) → write_wants (record { plan = t; operation = o }) ≡ Some r
    → FitsWrite t.known o a → left_of (task_script t) t.minimum (write_hears (task_script t) t.minimum o a) < left_of (task_script t)
    t.minimum o
falls_at t (writes.Uploads f fs Creating) r a b w h = begun_left (task_script t) t.minimum f fs t.known.drawn a h
falls_at t (writes.Uploads f fs (Sending p ps)) r a b w h = part_left (task_script t) t.minimum f fs ps a h
falls_at t (writes.Marking f fs) r a b w h = omega arith
falls_at t (writes.Recording f fs) r a b w h = omega (arith, written_left (task_script t) t.minimum fs)
falls_at t (writes.WriteOver end) r a b w h = absurd (cc)

some_left : (t : Task) (o : Write) (r : Request) → write_wants (record { plan = t; operation = o }) ≡ Some r
    → 0 < left_of (task_script t) t.minimum o
some_left t (writes.Uploads f fs Creating) r w = omega arith
some_left t (writes.WriteOver end) r w = absurd (cc)
some_left t _ r w = omega arith

pub write_falls : FallsAmong write_wants write_told write_fits write_left 0
write_falls = record {
  falls = λ m s r b w h. falls_at m.plan m.operation r (answer s r) b w h;
  falls_worn = λ m s r w. some_left m.plan m.operation r w;
  no_rise = λ m s r w. omega arith;
  others = λ m s r. omega arith;
}
