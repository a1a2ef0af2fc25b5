-- `mv` and `cp`: what they do and say.
use Rattle.fs_rename.specs.Between.{GivesBetween, Route}
use Rattle.fs_tree.specs.Copies.{Copies}
use Rattle.fs_tree.specs.Renames.{Renames}
use Rattle.fs_tree.specs.declared.copy.CopyCount.{CopyCount}
use Rattle.fs_tree.specs.declared.copy.CopyRefusal.{CopyRefusal}
use Rattle.fs_tree.specs.declared.rename.RenameRefusal.{RenameRefusal}
use Rattle.path_keys.specs.Paths.{Path}
use Rattle.s3_types.specs.Store.{Objects, Scene}
use Rattle.s3a_shell.specs.Texts.{fine, refusing}
use Rattle.s3a_shell.specs.declared.said.Said.{Said}
use Rattle.std.specs.Fmt.{decimal}
use Rattle.std.specs.Prelude.{Err, List, None, Ok, Result, Some, codes, ℕ, [], ◌++◌, ◌∷◌, ◌≡◌}
use Rattle.fs_tree.specs.declared.rename.RenameRefusal.TheVariants as rename
use Rattle.fs_tree.specs.declared.copy.CopyRefusal.TheVariants as copy

-- The route from one path to another.
abbrev pub route : Path → Path → Route
route from to = record { bucket = from.bucket; source = from.key; to_bucket = to.bucket; target = to.key }

-- An operation from one path to another was done in the scene z and left s, or was refused, and its answer was said.
pub record DidBetween {A : Type 0} (from to : Path) (gives : Objects → A → Objects → Type 0) (absent refused : A) (says : A → Said)
    (z : Scene) (what : Said) (s : Scene) : Type 0 where
  pub answer : A
  pub given : GivesBetween from.bucket to.bucket gives absent refused z answer s
  pub told : what ≡ says answer

-- ---- renamings

-- What `mv` says if it is refused.
abbrev pub refused_move : RenameRefusal → Said
refused_move rename.SourceMissing = refusing (codes "source-missing") None
refused_move rename.SourceRoot = refusing (codes "source-root") None
refused_move rename.UnderSource = refusing (codes "under-source") None
refused_move rename.TargetFile = refusing (codes "target-file") None
refused_move rename.TargetExists = refusing (codes "target-exists") None
refused_move rename.ParentMissing = refusing (codes "parent-missing") None
refused_move rename.ParentIsFile = refusing (codes "parent-is-file") None
refused_move rename.OtherBucket = refusing (codes "other-bucket") None
refused_move rename.NoSuchBucket = refusing (codes "no-such-bucket") None
refused_move (rename.TooLong key) = refusing (codes "too-long") (Some key)

-- What `mv` says: nothing, or the refusal.
abbrev pub said_of_move : Result (Unit {0}) RenameRefusal → Said
said_of_move (Ok done) = fine []
said_of_move (Err refusal) = refused_move refusal

-- A path was renamed, or the command was refused.
abbrev pub DidMove : Path → Path → Scene → Said → Scene → Type 0
DidMove from to z what s = DidBetween from to (Renames from.key to.key) (Err rename.NoSuchBucket) (Err rename.OtherBucket) said_of_move z
    what s

-- ---- copies

-- What `cp` says if it is refused.
abbrev pub refused_copy : CopyRefusal → Said
refused_copy copy.OtherBucket = refusing (codes "other-bucket") None
refused_copy copy.NoSuchBucket = refusing (codes "no-such-bucket") None
refused_copy copy.Overlap = refusing (codes "overlap") None
refused_copy copy.SourceIsFile = refusing (codes "source-is-file") None
refused_copy copy.SourceMissing = refusing (codes "source-missing") None
refused_copy (copy.TargetFile path) = refusing (codes "target-file") (Some path)
refused_copy (copy.TooLong key) = refusing (codes "too-long") (Some key)
refused_copy (copy.Differs key) = refusing (codes "differs") (Some key)

-- `copied N skipped M`
abbrev pub copied_line : CopyCount → List ℕ
copied_line count = codes "copied " ++ (decimal count.copied ++ (codes " skipped " ++ (decimal count.skipped ++ 10 ∷ [])))

-- What `cp` says: its line, or the refusal.
abbrev pub said_of_copy : Result CopyCount CopyRefusal → Said
said_of_copy (Ok count) = fine (copied_line count)
said_of_copy (Err refusal) = refused_copy refusal

-- All that is below a path was copied, or the command was refused.
abbrev pub DidCopy : Path → Path → Scene → Said → Scene → Type 0
DidCopy from to z what s = DidBetween from to (Copies from.key to.key) (Err copy.NoSuchBucket) (Err copy.OtherBucket) said_of_copy z what s
