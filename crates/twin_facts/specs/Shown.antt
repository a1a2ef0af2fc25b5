-- What one request of a job's driver changes at the paths where files are shown.
use Rattle.text_and_lists.specs.Members.{IsIn}
use Rattle.job_invariant.specs.Driver.{SweepsUnder}
use Rattle.job_invariant.specs.Facts.{Hold, IsAttempt}
use Rattle.job_invariant.specs.Filed.{whole_of}
use Rattle.job_invariant.specs.FiledLaws.{Commits}
use Rattle.job_invariant.specs.Fits.{Fits}
use Rattle.job_invariant.specs.Spares.{FitsSparing}
use Rattle.job_invariant.specs.Stores.{at_key}
use Rattle.job_invariant.specs.Told.{Told, known}
use Rattle.job_model.specs.Attempts.{Who}
use Rattle.job_model.specs.JobScript.{Script}
use Rattle.job_model.specs.Legal.{IsLegal}
use Rattle.job_protocol.specs.Conflicts.{keeps_of}
use Rattle.job_protocol.specs.JobCommits.{Commit, CommitOver, Completing, Fetching, Marking, Replacing, Reverting, Sets, commit_asks}
use Rattle.job_protocol.specs.JobCommits.{is_untouched, picks_of, replaced}
use Rattle.job_protocol.specs.Operations.{Operation, Setting, asks}
use Rattle.job_protocol.specs.Outputs.{Picks, is_decided, wanted_at}
use Rattle.job_protocol.specs.Rechecks.{Check, check_asks}
use Rattle.job_protocol.specs.Seen.{Seen}
use Rattle.job_protocol.specs.Sparing.{Sparing, sparing_asks}
use Rattle.job_protocol.specs.View.{is_file_path}
use Rattle.path_keys.specs.Paths.{below}
use Rattle.s3_types.specs.Moment.{effect}
use Rattle.s3_types.specs.Store.{Scene}
use Rattle.s3_types.specs.declared.journal.Outcome.{Outcome}
use Rattle.s3_types.specs.declared.object.Object.{Object}
use Rattle.s3_types.specs.declared.request.Request.{Request}
use Rattle.std.specs.Prelude.{List, None, Option, Some, false, length, true, ℕ, ◌<◌, ◌∷◌, ◌≡◌, ◌⊎◌}
use Rattle.store_frame.specs.Frame.{changed_keys}
use Rattle.twin_facts.specs.Requests.{SetsUpBy}

-- How the object at a path may change. It stays; or the job's picks are decided, and it becomes the whole wanted file, or is deleted if a
-- file is wanted there or the mode does not keep the old one.
abbrev pub Changed : Script → Picks → List ℕ → Option Object → Option Object → Type 0
Changed w picks q old now = (now ≡ old) ⊎ ((is_decided w picks ≡ true)
    × (((b : List ℕ) × (wanted_at w picks q ≡ Some b) × ((now ≡ Some (whole_of b)) ⊎ (now ≡ None)))
    ⊎ ((now ≡ None) × (keeps_of w picks q ≡ false))))

-- The request changes only keys of wanted files.
abbrev pub OfWanted : Script → Picks → Request → Type 0
OfWanted w picks r = (k : List ℕ) → IsIn k (changed_keys r) → (q : List ℕ) × (b : List ℕ) × (k ≡ below w.dest.key q)
    × (wanted_at w picks q ≡ Some b)

-- The picks of the first n tasks are those of the sets.
abbrev pub PickedBy : Picks → Sets → ℕ → Type 0
PickedBy picks sets n = (t : ℕ) → t < n → picks t ≡ picks_of sets t

-- The picks are those of the sets that the driver has read. A replace mode lists only below a prefix that it empties, and a revert deletes
-- only wanted files.
abbrev pub IsPickedSo : Script → Picks → Commit → Type 0
IsPickedSo w picks (Fetching sets n) = PickedBy picks sets (length sets)
IsPickedSo w picks (Replacing sets p ps s n) = PickedBy picks sets w.tasks × IsIn p (replaced w.committer w.mode w (picks_of sets))
    × SweepsUnder p s
IsPickedSo w picks (Completing sets x xs finished) = PickedBy picks sets w.tasks
IsPickedSo w picks (Marking sets n) = PickedBy picks sets w.tasks
IsPickedSo w picks (Reverting r rs n) = (is_decided w picks ≡ true) × ((y : Request) → IsIn y (r ∷ rs) → OfWanted w picks y)
IsPickedSo w picks (CommitOver end) = is_untouched end ≡ false → is_decided w picks ≡ true

-- One request of a job's commit, for every committer and mode and with any outcome, changes the object at a path where files are shown only
-- so.
abbrev pub CommitShows : Type 0
CommitShows = (g : Setting) → IsLegal g.script → (s : Seen) (m : Told) (c : Commit) → Commits g.script g.minimum s m c
    → IsPickedSo g.script s.picks c → (r : Request) → commit_asks g.script c ≡ Some r → (o : Outcome) (q : List ℕ) → is_file_path q ≡ true
    → Changed g.script s.picks q (at_key g.script s.scene.content (below g.script.dest.key q))
    (at_key g.script (effect s.scene r o).content (below g.script.dest.key q))

-- The request with this outcome changes nothing at a path where files are shown.
abbrev pub Stays : Script → Scene → Request → Outcome → Type 0
Stays w s r o = (q : List ℕ) → is_file_path q ≡ true
    → at_key w (effect s r o).content (below w.dest.key q) ≡ at_key w s.content (below w.dest.key q)

-- No other request of the job changes anything at a path where files are shown.
pub record OthersShow : Type 0 where
  pub setup : (g : Setting) → IsLegal g.script → (s : Seen) (r : Request) → SetsUpBy g s r → (o : Outcome) → Stays g.script s.scene r o
  pub attempts : (g : Setting) → IsLegal g.script → (s : Seen) (m : Told) → Hold g.script g.minimum s m → (a : Who) → IsAttempt g.script a
      → (op : Operation) → Fits g.script g.minimum a m op → (r : Request) → asks g a (known m a) op ≡ Some r
      → (o : Outcome) → Stays g.script s.scene r o
  pub check : (g : Setting) → IsLegal g.script → (s : Seen) (c : Check) (r : Request) → check_asks g.script c ≡ Some r → (o : Outcome)
      → effect s.scene r o ≡ s.scene
  pub sparing : (g : Setting) → IsLegal g.script → (s : Seen) (m : Told) → Hold g.script g.minimum s m → (c : Sparing)
      → FitsSparing g.script m.drawn c → (r : Request) → sparing_asks g.script c ≡ Some r → (o : Outcome) → Stays g.script s.scene r o
