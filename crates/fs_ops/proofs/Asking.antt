-- What follows of requests from their properties.
use Rattle.bucket_ops.specs.Asks.{Ask, objects_at}
use Rattle.bucket_ops.specs.Phases.{SendsAt, SendsIn}
use Rattle.s3_types.specs.Store.{Objects, Scene}
use Rattle.s3_types.specs.declared.journal.Entry.{Entry}
use Rattle.s3_types.specs.declared.request.Request.{Request}
use Rattle.std.specs.List.{AllByRecursion}
use Rattle.std.specs.Prelude.{List, None, Option, Some, ℕ, [], ◌∷◌}

-- A weaker property holds of each request.
pub each_asked : (P Q : Request → Type 0) → ((r : Request) → P r → Q r) → (es : List Entry) → AllByRecursion (λ e. P e.request) es
    → AllByRecursion (λ e. Q e.request) es
each_asked P Q f [] h = tt
each_asked P Q f (e ∷ es) h = (f e.request h.0, each_asked P Q f es h.1)

-- The same for requests in a bucket.
pub asked_in : (b : List ℕ) (look : Ask) (P Q : Objects → Ask → Type 0) (z : Scene) → ((m : Objects) (a : Ask) → P m a → Q m a)
    → (r : Request) → SendsIn b look P z r → SendsIn b look Q z r
asked_in b look P Q z f r h = by (objects_at z b) h
  where
    by : (o : Option Objects) → SendsAt o b look P r → SendsAt o b look Q r
    by None g = g
    by (Some m) g = (g.0, g.1, f m g.0 g.2)
