-- Definitions beside those of `Delete` that no public contract cites.
use Rattle.fs_ops.specs.Places.{NoFileAt}
use Rattle.fs_ops.specs.code.Delete.{DeleteAnswer, Deletion, Removed}
use Rattle.fs_tree.specs.Changes.{IsMarked, marker_if, parent}
use Rattle.fs_tree.specs.Tree.{HasChildren, IsAbsent}
use Rattle.fs_tree.specs.declared.answers.FsRefusal.TheVariants.{IsRoot, NotEmpty, NotFound}
use Rattle.s3_types.specs.Store.{Objects}
use Rattle.std.specs.Prelude.{Err, Ok, false, [], ◌≡◌}

-- What each answer says of the objects: what was deleted and the marker that was put, or why nothing changed.
abbrev pub ends : Deletion → Objects → DeleteAnswer → Objects → Type 0
ends o z (Ok x) m = (n : Objects) × Removed o z n × IsMarked (marker_if (parent o.path)) n m
ends o z (Err IsRoot) m = (o.path ≡ []) × (m ≡ z)
ends o z (Err NotFound) m = IsAbsent z o.path × (m ≡ z)
ends o z (Err NotEmpty) m = (o.recursive ≡ false) × NoFileAt z o.path × HasChildren z o.path × (m ≡ z)
ends o z (Err r) m = ⊥
