-- The state of a write, and its laws as a machine.
use Rattle.job_model.specs.Files.{File}
use Rattle.job_model.specs.JobScript.{Script}
use Rattle.job_model.specs.Jobs.{Task}
use Rattle.job_model.specs.Known.{Drawn}
use Rattle.job_protocol.specs.AtWork.{Attempting, task_script, write_told, write_wants}
use Rattle.job_protocol.specs.Uploading.{Creating, Sending, created, file_parts, sending, sent_part}
use Rattle.job_protocol.specs.Writes.{Write, uploaded, write_hears, write_over, writing}
use Rattle.machine.specs.Asks.{AskLaws}
use Rattle.machine.specs.Standing.{Fine, Standing}
use Rattle.s3_types.specs.declared.reply.Refusal.TheVariants.{NoSuchUpload}
use Rattle.s3_types.specs.declared.reply.Reply.{Reply}
use Rattle.s3_types.specs.declared.reply.Reply.TheVariants.{Part, Refused, Upload}
use Rattle.s3_types.specs.declared.request.Request.{Request}
use Rattle.std.proofs.Common.{refl}
use Rattle.std.specs.Prelude.{List, Some, is_none, is_some, ℕ, [], ◌∷◌, ◌≡◌}
use Rattle.task_operation.specs.Standing.{standing_of}
use Rattle.task_requests.specs.Writing.{FitsCreate, FitsPart, FitsWrite, write_fits}
use Rattle.job_protocol.specs.Writes as writes

-- ---- the state

-- Whether a write failed, by its end.
abbrev pub standing_at : Write → Standing
standing_at (writes.WriteOver end) = standing_of end
standing_at _ = Fine

-- Whether a plan's write failed, by its end.
abbrev pub write_standing : Attempting Write → Standing
write_standing m = standing_at m.operation

sent_fine : (w : Script) (f : File) (fs : List File) (ps : List (List ℕ)) → standing_at (uploaded w f fs (sending ps)) ≡ Fine
sent_fine w f fs [] = refl
sent_fine w f fs (p ∷ ps) = refl

begun_fine : (w : Script) (minimum : ℕ) (f : File) (fs : List File) (ds : List Drawn) (r : Reply) → FitsCreate ds r
    → standing_at (uploaded w f fs (created w minimum f r)) ≡ Fine
begun_fine w minimum f fs ds (Upload id) h = sent_fine w f fs (file_parts w minimum f)
begun_fine w minimum f fs ds _ h = absurd h

part_fine : (w : Script) (f : File) (fs : List File) (ps : List (List ℕ)) (r : Reply) → FitsPart r
    → standing_at (uploaded w f fs (sent_part ps r)) ≡ Fine
part_fine w f fs ps (Part tag) h = sent_fine w f fs ps
part_fine w f fs ps (Refused NoSuchUpload) h = refl
part_fine w f fs ps _ h = absurd h

written_fine : (fs : List File) → standing_at (writing fs) ≡ Fine
written_fine [] = refl
written_fine (f ∷ fs) = refl

fine_at : (t : Task) (o : Write) (r : Request) (a : Reply) → write_wants (record { plan = t; operation = o }) ≡ Some r
    → FitsWrite t.known o a → standing_at (write_hears (task_script t) t.minimum o a) ≡ standing_at o
fine_at t (writes.Uploads f fs Creating) r a w h = begun_fine (task_script t) t.minimum f fs t.known.drawn a h
fine_at t (writes.Uploads f fs (Sending p ps)) r a w h = part_fine (task_script t) f fs ps a h
fine_at t (writes.Recording f fs) r a w h = written_fine fs
fine_at t _ r a w h = refl

-- A write has a request to send until it is over.
asks_until : (t : Task) (o : Write) → is_some (write_wants (record { plan = t; operation = o })) ≡ is_none (write_over o)
asks_until t (writes.WriteOver end) = refl
asks_until t _ = refl

pub write_asks : AskLaws write_wants write_told write_fits (λ m. write_over m.operation) write_standing
write_asks = record {
  ends = λ m. asks_until m.plan m.operation;
  stops = λ m. refl;
  breaks = λ m. refl;
  faults = λ m r w. refl;
  goes_on = λ m r a b w h. fine_at m.plan m.operation r a w h;
}
