-- What exists at a path, asked in two stages: first for a file there, and if there is none, for anything below it.
use Rattle.bucket_ops.specs.Asks.{Ask}
use Rattle.bucket_ops.specs.Looks.{look_of}
use Rattle.bucket_ops.specs.declared.look.Look.{Look}
use Rattle.bucket_ops.specs.declared.look.Look.TheVariants.{There}
use Rattle.fs_ops.specs.Places.{NoFileAt, below_asks}
use Rattle.fs_ops.specs.declared.at_path.PathStage.{PathStage}
use Rattle.fs_ops.specs.declared.at_path.PathStage.TheVariants.{Below, Here}
use Rattle.fs_tree.specs.declared.answers.FsRefusal.{FsRefusal}
use Rattle.fs_tree.specs.declared.answers.FsRefusal.TheVariants.{NotFound}
use Rattle.operations.specs.declared.plan.Step.{Step}
use Rattle.operations.specs.declared.plan.Step.TheVariants.{End, Next}
use Rattle.s3_types.specs.Store.{Objects}
use Rattle.s3_types.specs.declared.reply.Reply.{Reply}
use Rattle.std.specs.Prelude.{Err, List, None, Ok, Option, Result, Some, ℕ, [], ◌∷◌, ◌≡◌}

-- It begins with the look for a file.
abbrev pub first : List ℕ → PathStage
first o = Here

-- The request of each stage, where `file` is how a file is asked for.
abbrev pub asks : (List ℕ → Ask) → List ℕ → PathStage → Ask
asks file o Here = file o
asks file o Below = below_asks o 1

-- The step after the look for a file: the answer if there is one, else the look below.
abbrev pub told : {A : Type 0} → Option A → Step PathStage (Result A FsRefusal)
told (Some a) = End (Ok a)
told None = Next Below

-- The step after the look for a file, with the answer for a directory if the path is the root.
abbrev pub on_here : {A : Type 0} → Result A FsRefusal → Option A → List ℕ → Step PathStage (Result A FsRefusal)
on_here directory found [] = End directory
on_here directory found (x ∷ p) = told found

-- The step after the look below: the answer for a directory if anything is there, else NotFound.
abbrev pub on_below : {A : Type 0} → Result A FsRefusal → Look → Step PathStage (Result A FsRefusal)
on_below directory There = End directory
on_below directory _ = End (Err NotFound)

-- The step after a look.
abbrev pub heard : {A : Type 0} → Result A FsRefusal → Option A → List ℕ → PathStage → Look → Step PathStage (Result A FsRefusal)
heard directory found o Here l = on_here directory found o
heard directory found o Below l = on_below directory l

-- The step after a reply, where `file` is what a reply shows of a file.
abbrev pub on : {A : Type 0} → Result A FsRefusal → (Reply → Option A) → List ℕ → PathStage → Reply → Step PathStage (Result A FsRefusal)
on directory file o x r = heard directory (file r) o x (look_of r)

-- Nothing has changed, and the looks so far showed what is true.
abbrev pub holds : List ℕ → Objects → PathStage → Objects → Type 0
holds o z Here m = m ≡ z
holds o z Below m = (m ≡ z) × NoFileAt z o

-- The number of looks that are still to come.
abbrev pub left : List ℕ → PathStage → Objects → ℕ
left o Here m = 1
left o Below m = 0
