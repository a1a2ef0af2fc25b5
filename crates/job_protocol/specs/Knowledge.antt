-- What an attempt knows from its own requests, read from its own entries of the journal.
use Rattle.text_and_lists.specs.Order.{text_eq}
use Rattle.job_model.specs.Attempts.{Who}
use Rattle.job_model.specs.JobScript.{Script}
use Rattle.job_model.specs.Known.{Drawn, Known, nothing_known}
use Rattle.s3_types.specs.Tags.{Spelled}
use Rattle.s3_types.specs.declared.journal.Entry.{Entry}
use Rattle.s3_types.specs.declared.journal.Outcome.{Outcome}
use Rattle.s3_types.specs.declared.journal.Outcome.TheVariants.{Answered}
use Rattle.s3_types.specs.declared.reply.Reply.TheVariants.{Part, Upload}
use Rattle.s3_types.specs.declared.request.Request.{Request}
use Rattle.s3_types.specs.declared.request.Request.TheVariants.{ClusterPut, ClusterRename, CreateUpload, PutObject, UploadPart}
use Rattle.std.specs.Prelude.{Bool, List, cond, length, map, nat_eq, true, ℕ, [], ◌&&◌, ◌++◌, ◌||◌, ◌∷◌}
use Rattle.magic_paths.specs.Layout as layout

-- The upload with one more acknowledged part, if its id is this one.
abbrev pub with_part : ℕ → Spelled → ℕ → Drawn → Drawn
with_part id tag size d = cond (nat_eq d.upload id) (record
    { key = d.key; upload = d.upload; tags = d.tags ++ tag ∷ []; sizes = d.sizes ++ size ∷ [] }) d

-- The known uploads after a send of CreateUpload.
abbrev pub learn_upload : List Drawn → List ℕ → Outcome → List Drawn
learn_upload ds key (Answered (Upload id)) = record { key = key; upload = id; tags = []; sizes = [] } ∷ ds
learn_upload ds key _ = ds

-- The known uploads after a send of UploadPart.
abbrev pub learn_part : List Drawn → ℕ → ℕ → Outcome → List Drawn
learn_part ds id size (Answered (Part tag)) = map (with_part id tag size) ds
learn_part ds id size _ = ds

-- True if this is the key of the task's set.
abbrev pub is_set_key : Script → ℕ → List ℕ → List ℕ → Bool
is_set_key w task bucket key = text_eq bucket w.dest.bucket && text_eq key (layout.set_key w.dest.key w.job task)

-- True if this is the cluster path of the task's set.
abbrev pub is_set_path : Script → ℕ → List ℕ → Bool
is_set_path w task path = text_eq path (layout.staged_set_path w.job task)

-- What the attempt knows after one more send of its own.
abbrev pub learn : Script → Who → Known → Request → Outcome → Known
learn w a k (CreateUpload bucket key) o = record {
  drawn = learn_upload k.drawn key o;
  put_sent = k.put_sent;
  publish_sent = k.publish_sent;
}
learn w a k (UploadPart bucket key id number bytes) o = record {
  drawn = learn_part k.drawn id (length bytes) o;
  put_sent = k.put_sent;
  publish_sent = k.publish_sent;
}
learn w a k (PutObject bucket key bytes header) o = record {
  drawn = k.drawn;
  put_sent = k.put_sent;
  publish_sent = k.publish_sent ||
      is_set_key w a.task bucket key;
}
learn w a k (ClusterPut path bytes) o = record { drawn = k.drawn; put_sent = true; publish_sent = k.publish_sent }
learn w a k (ClusterRename source target) o = record { drawn = k.drawn; put_sent = k.put_sent; publish_sent = true }
learn w a k _ o = k

-- What it knows after these entries of its own.
abbrev pub knows_from : Script → Who → Known → List Entry → Known
knows_from w a k [] = k
knows_from w a k (e ∷ es) = knows_from w a (learn w a k e.request e.outcome) es

-- What an attempt knows from these entries of its own.
abbrev pub knows : Script → Who → List Entry → Known
knows w a es = knows_from w a nothing_known es

-- ---- what it knows of an upload

-- A placeholder for an upload that is not known.
abbrev pub nothing_drawn : Drawn
nothing_drawn = record { key = []; upload = 0; tags = []; sizes = [] }

-- The first of these uploads.
abbrev pub first_drawn : List Drawn → Drawn
first_drawn [] = nothing_drawn
first_drawn (d ∷ ds) = d

-- The newest known upload.
abbrev pub drawn_last : Known → Drawn
drawn_last k = first_drawn k.drawn

-- The first of these uploads that has this key.
abbrev pub drawn_in : List Drawn → List ℕ → Drawn
drawn_in [] key = nothing_drawn
drawn_in (d ∷ ds) key = cond (text_eq d.key key) d (drawn_in ds key)

-- The newest known upload of a key.
abbrev pub drawn_for : Known → List ℕ → Drawn
drawn_for k key = drawn_in k.drawn key

-- The uploads in reverse order, so that the oldest one comes first.
abbrev pub as_made : List Drawn → List Drawn
as_made [] = []
as_made (d ∷ ds) = as_made ds ++ d ∷ []
