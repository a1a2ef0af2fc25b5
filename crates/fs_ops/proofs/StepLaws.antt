-- Stages of file operations are phases of one bucket's operations.
use Rattle.bucket_ops.specs.Asks.{Ask, reply_in}
use Rattle.bucket_ops.specs.Looks.{look_of}
use Rattle.bucket_ops.specs.Phases.{InScene, IsPhases}
use Rattle.fs_ops.specs.code.Steps.{unless}
use Rattle.fs_ops.specs.inner.Steps.{IsStages}
use Rattle.operations.specs.declared.plan.Step.{Step}
use Rattle.operations.specs.declared.plan.Step.TheVariants.{End}
use Rattle.s3_types.specs.Store.{Objects, Scene}
use Rattle.s3_types.specs.declared.reply.Reply.{Reply}
use Rattle.std.proofs.Common.{arith}
use Rattle.std.specs.Prelude.{List, None, Option, Some, ℕ, ◌≡◌}

module _ {Y : Type 0} (absent y : Y) where
  -- a bucket that exists never answers that it does not
  pub not_missing : (m : Objects) (a : Ask) → unless (look_of (reply_in m a)) absent y ≡ y
  not_missing m a = grind arith

module _ {O X A : Type 0} {first : O → X} {asks : O → X → Ask} {on : O → X → Reply → Step X A} {holds : O → Objects → X → Objects → Type 0}
    {gives : O → Objects → A → Objects → Type 0} {always : O → Objects → Objects → Type 0} {left : O → X → Objects → ℕ} (absent : A)
    (k : IsStages first asks on holds gives always left) where
  pub phases_of : IsPhases first asks (λ o x r. unless (look_of r) (End absent) (on o x r)) holds gives always left absent
  phases_of = grind arith

-- What holds of a bucket's objects holds in a scene.
pub same_scene : (x : Option Objects) (z s : Scene) (b : List ℕ) (H G : Objects → Objects → Type 0) (N : Type 0)
    → ((m n : Objects) → H m n → G m n) → InScene x H N z b s → InScene x G N z b s
same_scene None z s b H G N f h = h
same_scene (Some m) z s b H G N f h = (h.0, h.1, f m h.0 h.2)
