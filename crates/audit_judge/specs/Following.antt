-- The knowledge of a judge about the moments of a run, as long as the run is sound for readers.
use Rattle.std.specs.FinMap as fin
use Rattle.std.specs.Prelude.{ℕ, ◌<◌, List, [], Bool, true, false, Some, length, map, replicate, ◌≡◌, ◌⊎◌, ◌≢◌}
use Rattle.std.specs.List.{All, Contains}
use Rattle.soundness.specs.Claims.{writes}
use Rattle.soundness.specs.Moments.{Moment, Same, Unchanged}
use Rattle.soundness.specs.declared.keeps.Keeps.{Keeps}
use Rattle.soundness.specs.declared.marker.Marker.TheVariants as markers
use Rattle.judging.specs.Judging.{OthersFit, StillExplains}
use Rattle.judging.specs.Listed.{Listed, ListedBelow, ListedOnce, numbered, of_task, owner}
use Rattle.audit_claims.specs.Claims.{Tags}
use Rattle.audit_judge.specs.Bench.{Bench, claim, now, opened}
use Rattle.audit_judge.specs.Narrowed.{TellsOfAll, has_flag}

-- Each listed task is below the number of tasks and listed once, and each task that writes a path is its owner.
pub record GoodList (tasks : ℕ) (listed : Listed Tags) : Type 0 where
  pub below : ListedBelow tasks listed
  pub once : ListedOnce listed
  pub own : (t : ℕ) (p : List ℕ) → writes (of_task t listed) p ≡ true → owner p listed ≡ Some t

-- Before the run begins, only the claim and the opening are known.
pub record Waits (b : Bench) : Type 0 where
  pub good : GoodList b.tasks b.claimed.listed
  -- If attempts are listed, the task of the last one has an attempt.
  pub last : 0 < length b.claimed.listed → 0 < length (numbered b.claimed.current b.claimed.listed)
  pub shows : b.shown ≡ b.opening
  pub early : b.begun ≡ false
  pub unmarked : b.marker ≢ markers.New
  pub unneeded : b.needed ≡ false

-- The knowledge of a new judge.
abbrev pub new_bench : Keeps → (tasks : ℕ) → Bench
new_bench keeps tasks = record {
  keeps = keeps;
  tasks = tasks;
  claimed = record { listed = []; current = 0 };
  opening = fin.empty;
  shown = fin.empty;
  begun = false;
  marker = markers.Absent;
  started = false;
  needed = false;
  candidates = [];
}

-- All flags up, for each attempt of each listed task.
abbrev pub rows_up : Listed Tags → List (List Bool)
rows_up listed = map (λ x. replicate (length x.1) true) listed

-- The judge's knowledge fits these moments. It holds as long as the run is sound.
pub record Follows (b : Bench) (moments : List (Moment Tags)) : Type 0 where
  pub good : GoodList b.tasks b.claimed.listed
  -- The current moment is one of the moments, or needs no choice.
  pub last : Contains moments (now b) ⊎ Unchanged (opened b) (now b)
  -- Before the commit, and while an old marker exists, readers see the opening.
  pub before : b.begun ≡ false → Same (now b).shown (opened b)
  pub stale : b.marker ≡ markers.Old → Same (now b).shown (opened b)
  -- Until a choice is needed, each moment was unchanged.
  pub unneeded : b.needed ≡ false → All (Unchanged (opened b)) moments
  -- From then on each task has an attempt, and each listed task has one that explains all moments.
  pub attempted : b.needed ≡ true → All (λ task. task ≢ []) (claim b).tasks
  pub explained : b.needed ≡ true → All (λ flags. has_flag flags ≡ true) b.candidates
  -- The flags tell which attempts explain all moments.
  pub candidates : TellsOfAll (StillExplains (claim b) (opened b) moments) b.claimed.listed b.candidates
  -- At the paths that no attempt writes, what readers saw fits.
  pub others : All (OthersFit (claim b) (opened b)) moments

-- The judge's knowledge follows the moments of some run.
abbrev pub FollowsSome : Bench → Type 0
FollowsSome b = (moments : List (Moment Tags)) × Follows b moments
