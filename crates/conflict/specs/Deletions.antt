-- The deletion of what a replace mode does not keep, by the prefixes below which it still deletes.
use Rattle.job_protocol.specs.Conflicts.{displaced, emptied}
use Rattle.list_walk.specs.Fitting.{FitsSweep}
use Rattle.list_walk.specs.Walks.{Sweep, sweep_asks, sweep_hears, sweep_start}
use Rattle.path_keys.specs.Paths.{Path}
use Rattle.s3_types.specs.Pages.{begins}
use Rattle.s3_types.specs.declared.reply.Reply.{Reply}
use Rattle.s3_types.specs.declared.request.Committer.{Committer}
use Rattle.s3_types.specs.declared.request.Mode.TheVariants.{Replace}
use Rattle.s3_types.specs.declared.request.Request.{Request}
use Rattle.std.specs.Prelude.{List, None, Option, Some, codes, not, ℕ, [], ◌++◌, ◌∷◌}

-- A deletion: its prefixes, the sweep below the first of them, and the prefix of the keys that stay.
pub record Deletion : Type 0 where
  pub prefixes : List (List ℕ)
  pub sweep : Sweep
  pub spared : List ℕ

-- The prefixes below which a committer's replace mode deletes, if the job writes these partitions.
abbrev pub deleted : Committer → Path → List (List ℕ) → List (List ℕ)
deleted c dest partitions = emptied (displaced c Replace) dest partitions

-- The prefix of the keys below a destination's magic directories.
abbrev pub spared : Path → List ℕ
spared dest = (dest.key ++ codes "/") ++ codes "__magic/"

-- The next request of the sweep below the first of these prefixes.
abbrev pub asks_below : List ℕ → Sweep → List (List ℕ) → Option Request
asks_below bucket sweep [] = None
asks_below bucket sweep (p ∷ ps) = Some (sweep_asks bucket p sweep)

-- The next request of a deletion.
abbrev pub deletion_asks : List ℕ → Deletion → Option Request
deletion_asks bucket d = asks_below bucket d.sweep d.prefixes

-- The deletion whose sweep goes on below the first of these prefixes, or is over there.
abbrev pub swept_on : List ℕ → List ℕ → List (List ℕ) → Option Sweep → Deletion
swept_on spared p ps (Some sweep) = record { prefixes = p ∷ ps; sweep = sweep; spared = spared }
swept_on spared p ps None = record { prefixes = ps; sweep = sweep_start; spared = spared }

-- The deletion below the first of these prefixes after a reply.
abbrev pub hears_below : Deletion → List (List ℕ) → Reply → Deletion
hears_below d [] r = d
hears_below d (p ∷ ps) r = swept_on d.spared p ps (sweep_hears (λ key. not (begins d.spared key)) d.sweep r)

-- The deletion after a reply.
abbrev pub deletion_hears : Deletion → Reply → Deletion
deletion_hears d r = hears_below d d.prefixes r

-- A reply that the deletion below the first of these prefixes may receive.
abbrev pub FitsBelow : Sweep → List (List ℕ) → Reply → Type 0
FitsBelow sweep [] r = Unit {0}
FitsBelow sweep (p ∷ ps) r = FitsSweep sweep r

-- A reply that the current request of a deletion may receive: an unfolded page lists keys only, and the bucket exists.
abbrev pub FitsDeletion : Deletion → Reply → Type 0
FitsDeletion d r = FitsBelow d.sweep d.prefixes r
