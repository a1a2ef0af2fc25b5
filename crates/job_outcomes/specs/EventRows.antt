-- Entries whose event numbers never fall, cut before an event and after one.
use Rattle.job_spec.specs.Turns.{AllBy, IsRising, before, by_actor, since, until}
use Rattle.s3_types.specs.Moment.{AreHonest, IsHonest, after_all, moment}
use Rattle.s3_types.specs.Store.{Content}
use Rattle.s3_types.specs.declared.journal.Entry.{Entry}
use Rattle.s3_types.specs.declared.request.Actor.{Actor}
use Rattle.std.specs.Prelude.{List, length, ℕ, ◌++◌, ◌+◌, ◌≡◌, ◌≤◌}

-- Laws of such cuts.
pub record EventRows : Type 0 where
  pub parts : (k : ℕ) (es : List Entry) → IsRising es → before k es ++ since k es ≡ es
  pub front : (i : ℕ) (es : List Entry) → IsRising es → until i es ++ since (i + 1) es ≡ es
  pub rises : (i : ℕ) (es : List Entry) → IsRising es → IsRising (until i es)
  pub earlier : (k i : ℕ) (es : List Entry) → k ≤ i + 1 → before k (until i es) ≡ before k es
  -- The entries from one event to another are honest from the scene before them on, and lead to the scene after them.
  pub honest : (opening : Content) (k i : ℕ) (es : List Entry) → k ≤ i + 1 → IsRising es → IsHonest opening es
      → AreHonest (moment opening es (length (before k es))) (since k (until i es))
  pub scene : (opening : Content) (k i : ℕ) (es : List Entry) → k ≤ i + 1 → IsRising es
      → after_all (moment opening es (length (before k es))) (since k (until i es)) ≡ moment opening es (length (until i es))
  -- The entries of one actor among them; these are all of them if nobody else sent any.
  pub turned : (a : Actor) (k : ℕ) (es : List Entry) → since k (by_actor a es) ≡ by_actor a (since k es)
  pub alone : (a : Actor) (es : List Entry) → AllBy a es → by_actor a es ≡ es
