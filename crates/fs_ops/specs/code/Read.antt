-- The reading of a file, by its stages.
use Rattle.bucket_ops.specs.Asks.{Ask}
use Rattle.fs_ops.specs.Places.{get_asks}
use Rattle.fs_ops.specs.declared.at_path.PathStage.{PathStage}
use Rattle.fs_tree.specs.declared.answers.FsRefusal.{FsRefusal}
use Rattle.fs_tree.specs.declared.answers.FsRefusal.TheVariants.{IsDirectory}
use Rattle.operations.specs.declared.plan.Step.{Step}
use Rattle.s3_types.specs.declared.reply.Reply.{Reply}
use Rattle.s3_types.specs.declared.reply.Reply.TheVariants.{Object as Found}
use Rattle.std.specs.Prelude.{Err, List, None, Option, Result, Some, ℕ}
use Rattle.fs_ops.specs.code.AtPath as path

-- The answer of a read.
abbrev pub ReadAnswer : Type 0
ReadAnswer = Result (List ℕ) FsRefusal

-- The request of each stage.
abbrev pub asks : List ℕ → PathStage → Ask
asks o x = path.asks get_asks o x

-- The bytes in a reply, if it has any.
abbrev pub bytes_in : Reply → Option (List ℕ)
bytes_in (Found bytes h) = Some bytes
bytes_in _ = None

-- The step after a reply, at each stage.
abbrev pub on : List ℕ → PathStage → Reply → Step PathStage ReadAnswer
on o x r = path.on (Err IsDirectory) bytes_in o x r
