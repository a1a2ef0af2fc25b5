-- The look at the status of a path is a question at it.
use Rattle.bucket_ops.specs.Phases.{IsPhases, MayAsk}
use Rattle.dir_markers.specs.declared.status.Status.TheVariants.{Directory}
use Rattle.fs_ops.proofs.AtPathLaws.{IsQuestion, looks_there, question_asked, question_laws}
use Rattle.fs_ops.specs.Places.{look_asks}
use Rattle.fs_ops.specs.code.AtPath.{first, holds, left, told}
use Rattle.fs_ops.specs.code.Stat.{StatAnswer, asks, on, status_in}
use Rattle.fs_ops.specs.code.Steps.{IsStill, OnlyLooks, goes_by}
use Rattle.fs_tree.specs.Answers.{Stats}
use Rattle.fs_tree.specs.declared.answers.FsRefusal.TheVariants.{NoSuchBucket}
use Rattle.operations.specs.Plans.{Goes}
use Rattle.s3_types.specs.Answer.{head}
use Rattle.s3_types.specs.Store.{Objects}
use Rattle.s3_types.specs.declared.object.Object.{Object}
use Rattle.std.proofs.Common.{arith}
use Rattle.std.specs.Prelude.{Err, List, Ok, Option, ℕ, ◌∷◌, ◌≡◌}
use Rattle.std.specs.FinMap as fin

here : (x : ℕ) (p : List ℕ) (z : Objects) (v : Option Object) → fin.get z (x ∷ p) ≡ v
    → Goes (holds (x ∷ p) z) (Stats (x ∷ p) z) (told (status_in (head v))) z
here x p z v h = grind arith

same_end : (p : List ℕ) (z : Objects) (a : StatAnswer) (m : Objects) → Stats p z a m → m ≡ z
same_end p z a m h = grind arith

question : IsQuestion look_asks status_in (Ok Directory) Stats
question = grind arith

pub stat_laws : IsPhases {O = List ℕ} first asks (goes_by on) holds Stats IsStill left (Err NoSuchBucket)
stat_laws = question_laws question

pub stat_asked : MayAsk {O = List ℕ} asks holds OnlyLooks
stat_asked = question_asked look_asks looks_there
