-- The read of a file is a question at its path.
use Rattle.bucket_ops.specs.Phases.{IsPhases, MayAsk}
use Rattle.fs_ops.proofs.AtPathLaws.{IsQuestion, gets_there, question_asked, question_laws}
use Rattle.fs_ops.specs.Places.{get_asks}
use Rattle.fs_ops.specs.code.AtPath.{first, holds, left}
use Rattle.fs_ops.specs.code.Read.{asks, bytes_in, on}
use Rattle.fs_ops.specs.code.Steps.{IsStill, OnlyLooks, goes_by}
use Rattle.fs_tree.specs.Answers.{Reads}
use Rattle.fs_tree.specs.declared.answers.FsRefusal.TheVariants.{IsDirectory, NoSuchBucket}
use Rattle.std.proofs.Common.{arith}
use Rattle.std.specs.Prelude.{Err, List, ℕ}

question : IsQuestion get_asks bytes_in (Err IsDirectory) Reads
question = grind arith

pub read_laws : IsPhases {O = List ℕ} first asks (goes_by on) holds Reads IsStill left (Err NoSuchBucket)
read_laws = question_laws question

pub read_asked : MayAsk {O = List ℕ} asks holds OnlyLooks
read_asked = question_asked get_asks gets_there
