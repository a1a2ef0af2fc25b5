-- Operations on the objects of one bucket.
use Rattle.bucket_ops.specs.Asks.{Ask, edited, objects_at, reply_in, request_of, with_objects}
use Rattle.bucket_ops.specs.declared.bucket.InBucket.{InBucket}
use Rattle.operations.specs.Plans.{Falls, Goes}
use Rattle.operations.specs.declared.plan.Step.{Step}
use Rattle.operations.specs.declared.plan.Step.TheVariants.{End, Next}
use Rattle.s3_types.specs.Store.{Objects, Scene}
use Rattle.s3_types.specs.declared.reply.Refusal.TheVariants.{NoSuchBucket}
use Rattle.s3_types.specs.declared.reply.Reply.{Reply}
use Rattle.s3_types.specs.declared.reply.Reply.TheVariants.{Refused}
use Rattle.s3_types.specs.declared.request.Request.{Request}
use Rattle.std.specs.Prelude.{List, None, Option, Some, ℕ, ◌≡◌}

-- What an operation O of stages X that ends with A must satisfy.
pub record IsPhases {O X A : Type 0} (first : O → X) (asks : O → X → Ask) (goes : O → X → Reply → Step X A)
    (holds : O → Objects → X → Objects → Type 0) (gives : O → Objects → A → Objects → Type 0) (always : O → Objects → Objects → Type 0)
    (left : O → X → Objects → ℕ) (absent : A) : Type 0 where
  pub begin : (o : O) (z : Objects) → holds o z (first o) z
  pub goes_on : (o : O) (z : Objects) (x : X) (m : Objects) → holds o z x m
      → Goes (holds o z) (gives o z) (goes o x (reply_in m (asks o x))) (edited (asks o x) m)
  pub falls : (o : O) (z : Objects) (x : X) (m : Objects) → holds o z x m
      → Falls (left o) (goes o x (reply_in m (asks o x))) (edited (asks o x) m) (left o x m)
  pub stays : (o : O) (z : Objects) (x : X) (m : Objects) → holds o z x m → left o x (edited (asks o x) m) ≡ left o x m
  pub during : (o : O) (z : Objects) (x : X) (m : Objects) → holds o z x m → always o z m
  pub at_end : (o : O) (z : Objects) (a : A) (m : Objects) → gives o z a m → always o z m
  -- If there is no bucket, it ends with `absent`.
  pub missing : (o : O) (x : X) → goes o x (Refused NoSuchBucket) ≡ End absent

-- The operation may make the request of each stage that it can be in.
abbrev pub MayAsk : {O X : Type 0} → (O → X → Ask) → (O → Objects → X → Objects → Type 0) → (O → Objects → Ask → Type 0) → Type 0
MayAsk {O = O} {X = X} asks holds sends = (o : O) (z : Objects) (x : X) (m : Objects) → holds o z x m → sends o z (asks o x)

-- The scene is z with other objects in the bucket, which relate to the old ones by `holds`; or it is z, if there is no bucket.
abbrev pub InScene : Option Objects → (Objects → Objects → Type 0) → Type 0 → Scene → List ℕ → Scene → Type 0
InScene None holds absent z b s = (s ≡ z) × absent
InScene (Some m) holds absent z b s = (n : Objects) × (s ≡ with_objects z b n) × holds m n

-- Only the bucket's objects changed, and the new ones relate to the old ones by `holds`; or there is no bucket and nothing changed.
abbrev pub InBucketHolds : Scene → List ℕ → (Objects → Objects → Type 0) → Type 0 → Scene → Type 0
InBucketHolds z b holds absent s = InScene (objects_at z b) holds absent z b s

module _ {O X : Type 0} where
  abbrev pub request : (O → X → Ask) → InBucket O X → Request
  request asks p = request_of p.bucket (asks p.names p.stage)

  abbrev pub stepped : {A : Type 0} → List ℕ → O → Step X A → Step (InBucket O X) A
  stepped b o (Next x) = Next (record { bucket = b; names = o; stage = x })
  stepped b o (End a) = End a

  abbrev pub led : {A : Type 0} → (O → X → Reply → Step X A) → InBucket O X → Reply → Step (InBucket O X) A
  led goes p r = stepped p.bucket p.names (goes p.names p.stage r)

  abbrev pub Holds : (O → X) → (O → Objects → X → Objects → Type 0) → InBucket O X → Scene → InBucket O X → Scene → Type 0
  Holds first holds o z p s = (p.bucket ≡ o.bucket) × (p.names ≡ o.names)
      × InBucketHolds z o.bucket (λ m n. holds o.names m p.stage n) (p.stage ≡ first o.names) s

-- If the bucket exists, the operation gives what it gives of the bucket's objects, and nothing else changes. If not, nothing changes and
-- the answer is `absent`.
abbrev pub GivesIn : {A : Type 0} → List ℕ → (Objects → A → Objects → Type 0) → A → Scene → A → Scene → Type 0
GivesIn b gives absent z a s = InBucketHolds z b (λ m n. gives m a n) (a ≡ absent) s

-- At any point of an operation only the bucket's objects have changed, and they relate to the old ones by `always`.
abbrev pub AlwaysIn : List ℕ → (Objects → Objects → Type 0) → Scene → Scene → Type 0
AlwaysIn b always z s = InBucketHolds z b (λ m n. always m n) (Unit {0}) s

-- The answer of an operation on a bucket, and what it leaves.
abbrev pub Gives : {O X A : Type 0} → (O → Objects → A → Objects → Type 0) → A → InBucket O X → Scene → A → Scene → Type 0
Gives gives absent o z a s = GivesIn o.bucket (gives o.names) absent z a s

-- The scene at any point of an operation on a bucket.
abbrev pub Always : {O X : Type 0} → (O → Objects → Objects → Type 0) → InBucket O X → Scene → Scene → Type 0
Always always o z s = AlwaysIn o.bucket (always o.names) z s

-- The requests that an operation may make; if the bucket does not exist, only its first one.
abbrev pub SendsAt : Option Objects → List ℕ → Ask → (Objects → Ask → Type 0) → Request → Type 0
SendsAt None b look sends r = r ≡ request_of b look
SendsAt (Some m) b look sends r = (a : Ask) × (r ≡ request_of b a) × sends m a

-- The requests that an operation may make to a bucket of the scene.
abbrev pub SendsIn : List ℕ → Ask → (Objects → Ask → Type 0) → Scene → Request → Type 0
SendsIn b look sends z r = SendsAt (objects_at z b) b look sends r

-- The requests that an operation may make to its bucket.
abbrev pub Sends : {O X : Type 0} → (O → X) → (O → X → Ask) → (O → Objects → Ask → Type 0) → InBucket O X → Scene → Request → Type 0
Sends first asks sends o z r = SendsIn o.bucket (asks o.names (first o.names)) (sends o.names) z r

-- How many stages an operation has left; none without the bucket.
abbrev pub left_at : {O X : Type 0} → Option Objects → (O → X → Objects → ℕ) → O → X → ℕ
left_at None left o x = 0
left_at (Some m) left o x = left o x m

-- How many stages an operation on its bucket has left.
abbrev pub left_in : {O X : Type 0} → (O → X → Objects → ℕ) → InBucket O X → Scene → ℕ
left_in left p s = left_at (objects_at s p.bucket) left p.names p.stage

-- The operation is at its first stage.
abbrev pub Starts : {O X : Type 0} → (O → X) → InBucket O X → Type 0
Starts first p = p.stage ≡ first p.names
