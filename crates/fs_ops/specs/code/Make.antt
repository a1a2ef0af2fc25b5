-- The making of a directory, by its stages.
use Rattle.bucket_ops.specs.Asks.{Ask, Head, is_look}
use Rattle.bucket_ops.specs.Looks.{look_of}
use Rattle.bucket_ops.specs.declared.look.Look.{Look}
use Rattle.bucket_ops.specs.declared.look.Look.TheVariants.{There}
use Rattle.dir_markers.specs.Markers.{keys_above, marker_of}
use Rattle.fs_ops.specs.Places.{NoFileAt, below_asks, look_asks, put_marker_asks}
use Rattle.fs_ops.specs.code.Climbs.{IsClimb, climbed, climbing}
use Rattle.fs_ops.specs.declared.climb.Climbed.{Climbed}
use Rattle.fs_ops.specs.declared.climb.Climbed.TheVariants.{File, Free, On}
use Rattle.fs_ops.specs.declared.make_dirs.MakeStage.{MakeStage}
use Rattle.fs_ops.specs.declared.make_dirs.MakeStage.TheVariants.{Below, Here, PutMarker, Up}
use Rattle.fs_tree.specs.Tree.{IsAbsent, NoFiles, marker}
use Rattle.fs_tree.specs.declared.answers.FsRefusal.{FsRefusal}
use Rattle.fs_tree.specs.declared.answers.FsRefusal.TheVariants.{AlreadyExists, NotDirectory}
use Rattle.operations.specs.declared.plan.Step.{Step}
use Rattle.operations.specs.declared.plan.Step.TheVariants.{End, Next}
use Rattle.s3_types.specs.Store.{Objects}
use Rattle.s3_types.specs.declared.reply.Reply.{Reply}
use Rattle.std.specs.Prelude.{Err, List, Ok, Result, length, true, ℕ, [], ◌+◌, ◌∷◌, ◌≡◌, ◌⊎◌}
use Rattle.std.specs.FinMap as fin

-- The answer of the making of a directory.
abbrev pub MakeAnswer : Type 0
MakeAnswer = Result (Unit {0}) FsRefusal

-- It begins with a look for a file.
abbrev pub first : List ℕ → MakeStage
first o = Here

-- The request of each stage.
abbrev pub asks : List ℕ → MakeStage → Ask
asks o Here = look_asks o
asks o Below = below_asks o 1
asks o (Up c) = Head c.first
asks o PutMarker = put_marker_asks o

-- The step of the climb: the directories above are looked at one by one, and then the marker is put.
abbrev pub on_climb : Climbed → Step MakeStage MakeAnswer
on_climb (File k) = End (Err (NotDirectory k))
on_climb (On c) = Next (Up c)
on_climb Free = Next PutMarker

-- The step after the look for a file: a file is refused.
abbrev pub here : Look → Step MakeStage MakeAnswer
here There = End (Err AlreadyExists)
here _ = Next Below

-- The step after the look for a file; the root exists already.
abbrev pub on_here : List ℕ → Look → Step MakeStage MakeAnswer
on_here [] l = End (Ok tt)
on_here (x ∷ p) l = here l

-- The step after the look below: if a directory exists it is done, else those above are looked at.
abbrev pub on_below : List ℕ → Look → Step MakeStage MakeAnswer
on_below o There = End (Ok tt)
on_below o _ = on_climb (climbing (keys_above o))

-- The step after a reply, at each stage.
abbrev pub on : List ℕ → MakeStage → Reply → Step MakeStage MakeAnswer
on o Here r = on_here o (look_of r)
on o Below r = on_below o (look_of r)
on o (Up c) r = on_climb (climbed c (look_of r))
on o PutMarker r = End (Ok tt)

-- ---- what holds

-- What holds at each stage.
abbrev pub holds : List ℕ → Objects → MakeStage → Objects → Type 0
holds o z Here m = m ≡ z
holds o z Below m = (m ≡ z) × NoFileAt z o
holds o z (Up c) m = (m ≡ z) × IsAbsent z o × IsClimb z (keys_above o) c
holds o z PutMarker m = (m ≡ z) × IsAbsent z o × NoFiles z (keys_above o)

-- Holds at every point: all is as it was, or the marker was put, because nothing existed at the path and no file above.
abbrev pub always : List ℕ → Objects → Objects → Type 0
always o z m = (m ≡ z) ⊎ (IsAbsent z o × NoFiles z (keys_above o) × (m ≡ fin.insert z (marker_of o) marker))

-- Holds if the request only looks, or puts the marker because nothing exists at the path and no file above.
abbrev pub sends : List ℕ → Objects → Ask → Type 0
sends o z a = (is_look a ≡ true) ⊎ (IsAbsent z o × NoFiles z (keys_above o) × (a ≡ put_marker_asks o))

-- The number of requests that are still to come.
abbrev pub left : List ℕ → MakeStage → Objects → ℕ
left o Here m = length (keys_above o) + 2
left o Below m = length (keys_above o) + 1
left o (Up c) m = length c.rest + 1
left o PutMarker m = 0
