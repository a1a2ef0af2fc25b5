-- Definitions beside those of `Steps` that no public contract cites.
use Rattle.bucket_ops.specs.Asks.{Ask, edited, reply_in}
use Rattle.operations.specs.Plans.{Falls, Goes}
use Rattle.operations.specs.declared.plan.Step.{Step}
use Rattle.s3_types.specs.Store.{Objects}
use Rattle.s3_types.specs.declared.reply.Reply.{Reply}
use Rattle.std.specs.Prelude.{ℕ, ◌≡◌}

-- What the stages of a file operation must fulfil while the bucket exists.
pub record IsStages {O X A : Type 0} (first : O → X) (asks : O → X → Ask) (on : O → X → Reply → Step X A)
    (holds : O → Objects → X → Objects → Type 0) (gives : O → Objects → A → Objects → Type 0) (always : O → Objects → Objects → Type 0)
    (left : O → X → Objects → ℕ) : Type 0 where
  pub begin : (o : O) (z : Objects) → holds o z (first o) z
  pub goes_on : (o : O) (z : Objects) (x : X) (m : Objects) → holds o z x m
      → Goes (holds o z) (gives o z) (on o x (reply_in m (asks o x))) (edited (asks o x) m)
  pub falls : (o : O) (z : Objects) (x : X) (m : Objects) → holds o z x m
      → Falls (left o) (on o x (reply_in m (asks o x))) (edited (asks o x) m) (left o x m)
  pub stays : (o : O) (z : Objects) (x : X) (m : Objects) → holds o z x m → left o x (edited (asks o x) m) ≡ left o x m
  pub during : (o : O) (z : Objects) (x : X) (m : Objects) → holds o z x m → always o z m
  pub at_end : (o : O) (z : Objects) (a : A) (m : Objects) → gives o z a m → always o z m
