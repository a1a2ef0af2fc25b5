-- The requests that a sparing clean has left in a scene.
use Rattle.cleanup.specs.SparingFits.{most_commits}
use Rattle.job_model.specs.Jobs.{Job}
use Rattle.job_protocol.specs.AtWork.{Driving}
use Rattle.job_protocol.specs.Sparing.{Aborting, Deleting, Naming, Reading, Removing, Sparing, SparingOver, Walking}
use Rattle.list_walk.specs.Left.{files_left, keys_left}
use Rattle.list_walk.specs.Walks.{last_of}
use Rattle.s3_types.specs.Store.{Scene}
use Rattle.s3_types.specs.declared.request.Committer.{Committer}
use Rattle.s3_types.specs.declared.request.Committer.TheVariants.{Magic}
use Rattle.std.specs.Prelude.{length, ℕ, ◌*◌, ◌+◌}
use Rattle.magic_paths.specs.Layout as layout

-- The most uploads that a place names: one for a record, those of an attempt's files for a set.
abbrev pub named_most : Committer → ℕ
named_most Magic = 1
named_most _ = most_commits

-- A bound on the reads of these places and the aborts of all that they may name, plus the aborts of the uploads named already and the
-- deletions.
abbrev pub reading_left : Committer → (places named all : ℕ) → ℕ
reading_left c places named all = (1 + named_most c) * places + named + all

-- A bound on listing `n` items and then, for each, its read, the aborts of all that it may name, and its deletion.
abbrev pub listing_left : Committer → ℕ → ℕ
listing_left c n = 1 + (2 + named_most c) * n

-- A bound on the pages of a walk that knows `known` keys and may find `more`, and on all that follows.
abbrev pub walking_left : Committer → (known more : ℕ) → ℕ
walking_left c known more = more + listing_left c (known + more)

-- A bound on the requests that a sparing clean has left.
abbrev pub sparing_left_at : Job → Sparing → Scene → ℕ
sparing_left_at j (Walking keys) s = walking_left j.committer (length keys) (keys_left j.dest.bucket (layout.magic_prefix j.dest.key j.job)
    (last_of keys) s)
sparing_left_at j Naming s = listing_left j.committer (files_left (layout.cluster_prefix j.job) s)
sparing_left_at j (Reading named p ps all) s = reading_left j.committer (1 + length ps) (length named) (length all)
sparing_left_at j (Aborting u us all) s = 1 + length us + length all
sparing_left_at j (Deleting k ks) s = 1 + length ks
sparing_left_at j (Removing p ps) s = 1 + length ps
sparing_left_at j (SparingOver end) s = 0

-- A bound on the requests that a plan's sparing clean has left.
abbrev pub sparing_left : Driving Sparing → Scene → ℕ
sparing_left m s = sparing_left_at m.plan m.operation s
