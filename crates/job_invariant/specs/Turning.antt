-- Which uploads the driver has ended, while its commit completes the uploads of the sets that it has read.
use Rattle.text_and_lists.specs.Members.{IsIn}
use Rattle.job_invariant.specs.Driver.{FitsJobCommit, Reads}
use Rattle.job_invariant.specs.Facts.{Hold}
use Rattle.job_invariant.specs.Told.{Told, driver_entry, entry, nothing_told, strange_entry, tell}
use Rattle.job_model.specs.Attempts.{Who}
use Rattle.job_model.specs.JobScript.{Script}
use Rattle.job_model.specs.Legal.{IsLegal}
use Rattle.job_protocol.specs.JobCommits.{Commit, Completing, Fetching, Replacing, Sets, all_commits, commit_asks, commit_start}
use Rattle.job_protocol.specs.JobCommits.{commit_tells}
use Rattle.job_protocol.specs.LaneTable.{Tabled}
use Rattle.job_protocol.specs.Lanes.{Turn, completion, nth}
use Rattle.job_protocol.specs.Operations.{Setting}
use Rattle.job_protocol.specs.Seen.{Seen}
use Rattle.s3_types.specs.Answer.{answer}
use Rattle.s3_types.specs.Blocks.{named_from}
use Rattle.s3_types.specs.Tags.{joined_tag}
use Rattle.s3_types.specs.declared.journal.Outcome.{Outcome}
use Rattle.s3_types.specs.declared.reply.Reply.TheVariants.{Completed}
use Rattle.s3_types.specs.declared.request.Request.{Request}
use Rattle.std.specs.Prelude.{Bool, List, Option, Some, false, length, map, true, ℕ, ◌<◌, ◌∷◌, ◌≡◌, ◌⊎◌}

-- The driver has ended no upload.
abbrev pub NoneEnded : Told → Type 0
NoneEnded m = (id : ℕ) → m.ended id ≡ false

-- Each upload of the sets that is ended is done, or is in turn and a send of it was lost. Each upload that is done is ended.
pub record Turned (ended : ℕ → Bool) (sets : Sets) (waiting : List Turn) (finished : List ℕ) : Type 0 where
  pub only : (n : ℕ) → n < length (all_commits sets) → ended (nth (all_commits sets) n).upload ≡ true → IsIn n finished
      ⊎ ((y : Turn) × IsIn y waiting × (y.number ≡ n) × (y.lost ≡ true))
  pub done : (n : ℕ) → IsIn n finished → ended (nth (all_commits sets) n).upload ≡ true

-- The state of the commit fits the uploads that are ended: none is ended before the first completion.
abbrev pub Turns : Told → Commit → Type 0
Turns m (Fetching sets n) = NoneEnded m
Turns m (Replacing sets p ps s n) = NoneEnded m
Turns m (Completing sets x xs finished) = Turned m.ended sets (x ∷ xs) finished
Turns m _ = Unit {0}

-- What holds while the commit completes, with every number of lanes (`Tabled`, which `job_protocol` keeps).
pub record CommitTurns : Type 0 where
  -- The uploads of the sets that it has read are all different.
  pub apart : (w : Script) (minimum : ℕ) (s : Seen) (m : Told) → IsLegal w → Hold w minimum s m → (sets : Sets)
      → Reads w minimum m.publish_sent m.drawn sets
      → (i n : ℕ) → i < length (all_commits sets) → n < length (all_commits sets)
      → (nth (all_commits sets) i).upload ≡ (nth (all_commits sets) n).upload → i ≡ n
  -- Before the commit the driver ends no upload, and nobody else does. So none is ended as the commit begins, if no abort or clean of the
  -- job came before it.
  pub first : (c : Option ℕ) → NoneEnded (nothing_told c)
  pub others : (w : Script) (m : Told) → NoneEnded m → (a : Who) (n : ℕ) (r : Request) (o : Outcome) → NoneEnded (tell w m (entry a n r o))
      × NoneEnded (tell w m (strange_entry n r o))
  pub begins : (w : Script) (m : Told) (missing : Option ℕ) → NoneEnded m → Turns m (commit_start w missing)
  pub goes : (g : Setting) → IsLegal g.script → (s : Seen) (m : Told) → Hold g.script g.minimum s m → (c : Commit)
      → FitsJobCommit g.script g.minimum m.publish_sent m.drawn c → Tabled g.script c → Turns m c
      → (r : Request) → commit_asks g.script c ≡ Some r → (n : ℕ) (o : Outcome)
      → Turns (tell g.script m (driver_entry n r o)) (commit_tells g.script c o)
  -- A completion of which no send was lost is answered with the joined tag of the file's parts.
  pub answered : (w : Script) (minimum : ℕ) (s : Seen) (m : Told) → IsLegal w → Hold w minimum s m
      → (sets : Sets) (x : Turn) (xs : List Turn) (finished : List ℕ)
      → let c = Completing sets x xs finished in FitsJobCommit w minimum m.publish_sent m.drawn c → Tabled w c → Turns m c → x.lost ≡ false
      → let p = nth (all_commits sets) x.number in answer s.scene (completion p) ≡ Completed
      (joined_tag (map (λ t. t.tag) (named_from 1 p.tags)))
