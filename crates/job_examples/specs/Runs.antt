-- The entries of attempts and drivers for files of five bytes, and what whole runs of them keep.
use Rattle.job_examples.specs.Jobs.{begun_with, hello_tag, lake, said, setting}
use Rattle.job_model.specs.JobScript.{Script}
use Rattle.job_model.specs.declared.ends.EventEnd.{EventEnd}
use Rattle.job_model.specs.declared.ends.EventEnd.TheVariants.{Ended}
use Rattle.job_model.specs.declared.ends.OpEnd.{OpEnd}
use Rattle.job_model.specs.declared.events.Event.TheVariants.{Do}
use Rattle.job_model.specs.declared.events.Op.{Op}
use Rattle.job_protocol.specs.Seen.{Times}
use Rattle.job_spec.specs.Entries.{OutsideStays, ZeroRename}
use Rattle.job_spec.specs.Follows.{OpFollows, op_over}
use Rattle.job_spec.specs.Headline.{Always}
use Rattle.job_spec.specs.Promise.{Sent}
use Rattle.job_spec.specs.States.{past, refusal, reports}
use Rattle.job_spec.specs.Turns.{AllBy, by_actor, of_event, until}
use Rattle.pending_json.specs.Pending.{Pending}
use Rattle.pending_json.specs.Trees.{pending_tree, set_tree}
use Rattle.pending_json.specs.declared.records.PendingSet.{PendingSet}
use Rattle.s3_types.specs.Store.{Content, Upload as Live}
use Rattle.s3_types.specs.Tags.{Spelled, joined_tag, plain_tag}
use Rattle.s3_types.specs.declared.journal.Entry.{Entry}
use Rattle.s3_types.specs.declared.reply.PageEntry.{PageEntry}
use Rattle.s3_types.specs.declared.reply.PageEntry.TheVariants.{Object as Listed}
use Rattle.s3_types.specs.declared.reply.Reply.TheVariants.{Completed, Object, Page, Part, Stored, Upload}
use Rattle.s3_types.specs.declared.request.Actor.{Actor}
use Rattle.s3_types.specs.declared.request.Actor.TheVariants.{Driver}
use Rattle.s3_types.specs.declared.request.Request.TheVariants.{CompleteUpload, CreateUpload, GetObject, ListPage, PutObject, UploadPart}
use Rattle.serde_json.specs.Written.{compact_text}
use Rattle.std.specs.Prelude.{List, None, Option, Some, codes, false, slice_get, take, ℕ, [], ◌++◌, ◌-◌, ◌∷◌, ◌≡◌}
use Rattle.std.specs.FinMap as fin

-- ---- requests

-- A text of five bytes with its tag.
pub record Text : Type 0 where
  pub bytes : List ℕ
  pub tag : Spelled

-- The text `hello`.
abbrev pub hello : Text
hello = record { bytes = codes "hello"; tag = hello_tag }

-- The pending upload of an attempt for a file with this text.
abbrev pub upload : Text → ℕ → ℕ → List ℕ → ℕ → Pending
upload text task attempt path id = record {
  task = task;
  attempt = attempt;
  bucket = lake;
  destination = codes "out/" ++ path;
  upload = id;
  length = 5;
  tags = text.tag ∷ [];
  sizes = Some (5 ∷ []);
}

-- An attempt's set of these uploads.
abbrev pub set_of : ℕ → ℕ → List Pending → PendingSet
set_of task attempt uploads = record { job = codes "j1"; task = task; attempt = attempt; commits = uploads }

-- The live upload of a file with the text `hello`, as the store keeps it with its one part.
abbrev pub held : List ℕ → Live
held path = record { key = codes "out/" ++ path; parts = fin.insert fin.empty 1 (codes "hello") }

-- A put of a text.
abbrev pub puts : ℕ → Actor → List ℕ → List ℕ → Entry
puts k a key text = said k a (PutObject lake key text None) (Stored (plain_tag text))

-- A read of a text.
abbrev pub reads : ℕ → Actor → List ℕ → List ℕ → Entry
reads k a key text = said k a (GetObject lake key) (Object text None)

-- The only page of a listing.
abbrev pub lists : ℕ → Actor → List ℕ → List PageEntry → Entry
lists k a prefix found = said k a (ListPage lake prefix false [] 1000) (Page found false)

-- The entries of a file's write: its upload, its part, its marker and its record, below the attempt's directory.
abbrev pub writes : Text → ℕ → Actor → List ℕ → List ℕ → Pending → List Entry
writes text k a directory path u =
    said k a (CreateUpload lake u.destination) (Upload u.upload)
    ∷ said k a (UploadPart lake u.destination u.upload 1 text.bytes) (Part text.tag)
    ∷ said k a (PutObject lake (directory ++ path) [] (Some 5)) (Stored (plain_tag []))
    ∷ puts k a (directory ++ path ++ codes ".pending") (compact_text (pending_tree u))
    ∷ []

-- The read of a file's record.
abbrev pub reads_record : ℕ → Actor → List ℕ → List ℕ → Pending → Entry
reads_record k a directory path u = reads k a (directory ++ path ++ codes ".pending") (compact_text (pending_tree u))

-- The put of a set.
abbrev pub puts_set : ℕ → Actor → List ℕ → PendingSet → Entry
puts_set k a key s = puts k a key (compact_text (set_tree s))

-- The driver's read of a set.
abbrev pub reads_set : ℕ → List ℕ → PendingSet → Entry
reads_set k key s = reads k Driver key (compact_text (set_tree s))

-- The entries of a task's commit: the attempt lists its directory, reads the record of `p` and puts its task's set.
abbrev pub commits_task : ℕ → Actor → List ℕ → Pending → List ℕ → PendingSet → List Entry
commits_task k a directory u key s =
    lists k a directory (Listed (directory ++ codes "p") 0 ∷ Listed (directory ++ codes "p.pending") 168 ∷ [])
    ∷ reads_record k a directory (codes "p") u
    ∷ puts_set k a key s
    ∷ []

-- The driver's completion of an upload.
abbrev pub completes : ℕ → List ℕ → ℕ → Entry
completes k key id = said k Driver (CompleteUpload lake key id (record { number = 1; tag = hello_tag } ∷ []))
    (Completed (joined_tag (hello_tag ∷ [])))

-- ---- runs

-- Holds if event k has the actor do a whole operation, which is not refused and ends so. The task `missing` is missing when it begins. The
-- event's entries are the actor's, and the actor's entries up to the event are the requests of the operation.
pub record Goes (w : Script) (xs : List EventEnd) (journal : List Entry) (a : Actor) (op : Op) (k : ℕ) (missing : Option ℕ) (end : OpEnd) :
    Type 0 where
  pub event : slice_get w.events (k - 1) ≡ Some (Do a op)
  pub may : refusal (past w (take (k - 1) xs)).state (Do a op) ≡ None
  pub missing_is : (reports w (past w (take (k - 1) xs)).reported).missing ≡ missing
  pub doing : (past w (take k xs)).doing a ≡ Some (begun_with op k (reports w (past w (take (k - 1) xs)).reported))
  pub turns : AllBy a (of_event k journal)
  pub follows : OpFollows (setting w) a (begun_with op k (reports w (past w (take (k - 1) xs)).reported)) (by_actor a (until k journal))
  pub over : op_over (setting w) a (begun_with op k (reports w (past w (take (k - 1) xs)).reported)) (by_actor a (until k journal)) ≡ Some
      end
  pub has_ended : slice_get xs (k - 1) ≡ Some (Ended end)

-- What a run with these times keeps.
pub record Keeps (w : Script) (k : Times) (opening : Content) (journal : List Entry) : Type 0 where
  -- After each entry, readers see what they may rely on.
  pub always : Always w k opening journal
  -- Each reply is the one that S3 must give, and each send has the fate that the script names for its number.
  pub sent : Sent w opening journal
  -- Nothing is copied, the driver sends no data, and only the driver changes what readers see.
  pub zero_rename : ZeroRename w opening journal
  pub outside : OutsideStays w opening journal
