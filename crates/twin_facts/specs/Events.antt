-- What the joint journal of two jobs says of each side, by the numbers of events alone.
use Rattle.job_invariant.specs.Told.{nothing_told, tell_all}
use Rattle.job_model.specs.JobScript.{Script}
use Rattle.job_protocol.specs.Seen.{Seen, Times, nothing_seen, see_all}
use Rattle.protocol_runs.specs.Runs.{Stand}
use Rattle.s3_types.specs.Store.{Content}
use Rattle.std.specs.Prelude.{List, false, length, take, true, ℕ, ◌≡◌, ◌≤◌}
use Rattle.twin_facts.specs.Sides.{First, Second, Side, TwinEntry, eyes}
use Rattle.twin_facts.specs.TwinLaws.{InEachRun, Marked, Shows, is_marked_by}

-- What the first m entries of the joint journal show of a side.
abbrev pub seen_twin : Script → Times → Side → Content → List TwinEntry → ℕ → Seen
seen_twin w k side opening es m = see_all w k (nothing_seen opening) (eyes side (take m es))

-- The state of a side is what its reading of the joint journal says.
pub record IsSaid (w : Script) (k : Times) (side : Side) (opening : Content) (es : List TwinEntry) (x : Stand) : Type 0 where
  pub seen : x.seen ≡ see_all w k (nothing_seen opening) (eyes side es)
  pub told : x.told ≡ tell_all w (nothing_told k.clean) (eyes side es)

-- In every run of two jobs, the state of each side is what its reading of the joint journal says.
abbrev pub TwinsAreSaid : Type 0
TwinsAreSaid = InEachRun (λ g h k l opening es x y. IsSaid g.script k First opening es x × IsSaid h.script l Second opening es y)

-- What readers may rely on after the first m entries of the joint journal: what they see, and what the marker of each job promises.
pub record AtMoment (w v : Script) (k l : Times) (opening : Content) (es : List TwinEntry) (m : ℕ) : Type 0 where
  pub shows : let s = seen_twin w k First opening es m in let t = seen_twin v l Second opening es m in Shows w v opening s.scene.content s t
  pub first : is_marked_by w First false (take m es) ≡ true
      → let s = seen_twin w k First opening es m in let t = seen_twin v l Second opening es m in Marked w v s.scene.content s.picks t.picks
  pub second : is_marked_by v Second false (take m es) ≡ true
      → let s = seen_twin w k First opening es m in let t = seen_twin v l Second opening es m in Marked v w t.scene.content t.picks s.picks

-- In every run of two jobs, readers may rely on this at each moment.
abbrev pub TwinsAlways : Type 0
TwinsAlways = InEachRun (λ g h k l opening es x y. (m : ℕ) → m ≤ length es → AtMoment g.script h.script k l opening es m)
