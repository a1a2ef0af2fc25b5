-- The steps of file operations, all of which end if there is no bucket.
use Rattle.bucket_ops.specs.Asks.{Ask, is_look}
use Rattle.bucket_ops.specs.Looks.{look_of}
use Rattle.bucket_ops.specs.declared.look.Look.{Look}
use Rattle.bucket_ops.specs.declared.look.Look.TheVariants.{NoBucket}
use Rattle.fs_tree.specs.declared.answers.FsRefusal.{FsRefusal}
use Rattle.fs_tree.specs.declared.answers.FsRefusal.TheVariants.{NoSuchBucket}
use Rattle.operations.specs.declared.plan.Step.{Step}
use Rattle.operations.specs.declared.plan.Step.TheVariants.{End}
use Rattle.s3_types.specs.Store.{Objects}
use Rattle.s3_types.specs.declared.reply.Reply.{Reply}
use Rattle.std.specs.Prelude.{Err, Result, true, ◌≡◌}

-- The first value if the look showed that there is no bucket, else the second.
abbrev pub unless : {Y : Type 0} → Look → Y → Y → Y
unless NoBucket absent y = absent
unless _ absent y = y

-- The step after a reply. If there is no bucket, the operation ends with NoSuchBucket.
abbrev pub goes_by : {O X A : Type 0} → (O → X → Reply → Step X (Result A FsRefusal)) → O → X → Reply → Step X (Result A FsRefusal)
goes_by on o x r = unless (look_of r) (End (Err NoSuchBucket)) (on o x r)

-- Holds if the objects are as they were, as after an operation that only reads.
abbrev pub IsStill : {O : Type 0} → O → Objects → Objects → Type 0
IsStill o z m = m ≡ z

-- Holds if the request only looks.
abbrev pub OnlyLooks : {O : Type 0} → O → Objects → Ask → Type 0
OnlyLooks o z a = is_look a ≡ true
