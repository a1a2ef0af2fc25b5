use Rattle.dir_markers.specs.Markers.{marker_of}
use Rattle.fs_rename.specs.Keys.{new_keys, with_front}
use Rattle.std.proofs.Common.{drop, ◌≡◌}
use Rattle.fs_rename.proofs.base.Base.new_keys.Given as goal

-- The new keys so far and those of the keys that are left make all new keys.
abbrev pub invariant-loop-key : goal.invariant-loop-key
invariant-loop-key l = with_front l.new (new_keys l.from (marker_of l.self) (drop l.key-index l.keys)) ≡ new_keys l.from (marker_of l.self)
    l.keys
