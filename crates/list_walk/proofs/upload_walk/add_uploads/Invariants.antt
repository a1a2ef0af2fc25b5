use Rattle.std.proofs.Common.{◌≡◌, ◌++◌, drop}
use Rattle.list_walk.proofs.upload_walk.add_uploads.Given as goal

-- The uploads so far and those that are left are all.
abbrev pub invariant-loop-upload : goal.invariant-loop-upload
invariant-loop-upload l = l.found ++ drop l.upload-index l.entries ≡ l.fn.found ++ l.entries
