-- What each command does with a store and with the input, and the path that it names.
use Rattle.path_keys.specs.Paths.{Path}
use Rattle.s3a_words.specs.declared.command.Command.{Command}
use Rattle.s3a_words.specs.declared.command.Command.TheVariants.{AbortUploads, Cat, CleanMarkers, Cp, FillMarkers, Gen, Init, Job, Ls}
use Rattle.s3a_words.specs.declared.command.Command.TheVariants.{Markers, Mb, Mkdir, Mv, Put, PutDrop, PutForce, Rm, Rmr, Stat, Twins}
use Rattle.s3a_words.specs.declared.command.Command.TheVariants.{Uploads}
use Rattle.s3a_words.specs.declared.command.CommandKind.{CommandKind}
use Rattle.s3a_words.specs.declared.command.CommandKind.TheVariants.{Aborts, Begins, Changes, Looks, Plays, Puts}
use Rattle.std.specs.Prelude.{Bool, List, false, true, ℕ, []}

-- The root of a bucket.
abbrev root_of : List ℕ → Path
root_of bucket = record { bucket = bucket; key = [] }

-- The table of the commands: their kind and their path. A command that names no path has the root of the bucket with the empty name.
abbrev pub row_of : Command → CommandKind × Path
row_of (Init minimum) = (Begins, root_of [])
row_of (Mb name) = (Changes, root_of name)
row_of (Ls path) = (Looks, path)
row_of (Stat path) = (Looks, path)
row_of (Cat path) = (Looks, path)
row_of (Put path) = (Puts, path)
row_of (PutForce path) = (Puts, path)
row_of (PutDrop path) = (Puts, path)
row_of (Mkdir path) = (Changes, path)
row_of (Rm path) = (Changes, path)
row_of (Rmr path) = (Changes, path)
row_of (Mv from to) = (Changes, from)
row_of (Cp from to) = (Changes, from)
row_of (Uploads path) = (Looks, path)
row_of (AbortUploads path) = (Aborts, path)
row_of (Markers path) = (Looks, path)
row_of (CleanMarkers path) = (Changes, path)
row_of (FillMarkers path) = (Changes, path)
row_of Job = (Plays, root_of [])
row_of (Gen seed tasks files) = (Plays, root_of [])
row_of Twins = (Plays, root_of [])

-- What a command does with a store and with the input.
abbrev pub kind_of : Command → CommandKind
kind_of command = (row_of command).0

-- The path that a command names, or the root of the bucket with the empty name if it names none.
abbrev pub path_of : Command → Path
path_of command = (row_of command).1

-- True for the kinds that work on the buckets of a store.
abbrev pub is_on_buckets : CommandKind → Bool
is_on_buckets Begins = false
is_on_buckets Plays = false
is_on_buckets _ = true

-- True for the kind that changes nothing.
abbrev pub is_look : CommandKind → Bool
is_look Looks = true
is_look _ = false

-- True for the kind that makes a file of the input.
abbrev pub is_put : CommandKind → Bool
is_put Puts = true
is_put _ = false

-- True for the kind that runs one job or two.
abbrev pub is_play : CommandKind → Bool
is_play Plays = true
is_play _ = false
