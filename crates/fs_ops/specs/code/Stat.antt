-- The look at the status of a path, by its stages.
use Rattle.bucket_ops.specs.Asks.{Ask}
use Rattle.dir_markers.specs.declared.status.Status.{Status}
use Rattle.dir_markers.specs.declared.status.Status.TheVariants.{Directory, File}
use Rattle.fs_ops.specs.Places.{look_asks}
use Rattle.fs_ops.specs.declared.at_path.PathStage.{PathStage}
use Rattle.fs_tree.specs.declared.answers.FsRefusal.{FsRefusal}
use Rattle.operations.specs.declared.plan.Step.{Step}
use Rattle.s3_types.specs.declared.reply.Reply.{Reply}
use Rattle.s3_types.specs.declared.reply.Reply.TheVariants.{Head}
use Rattle.std.specs.Prelude.{List, None, Ok, Option, Result, Some, ℕ}
use Rattle.fs_ops.specs.code.AtPath as path

-- The answer of the look.
abbrev pub StatAnswer : Type 0
StatAnswer = Result Status FsRefusal

-- The request of each stage.
abbrev pub asks : List ℕ → PathStage → Ask
asks o x = path.asks look_asks o x

-- The length of the object that a reply shows, if it shows one.
abbrev pub length_in : Reply → Option ℕ
length_in (Head n h) = Some n
length_in _ = None

-- The status of the file that a reply shows, if it shows one.
abbrev pub status_in : Reply → Option Status
status_in (Head n h) = Some (File n)
status_in _ = None

-- The step after a reply, at each stage.
abbrev pub on : List ℕ → PathStage → Reply → Step PathStage StatAnswer
on o x r = path.on (Ok Directory) status_in o x r
