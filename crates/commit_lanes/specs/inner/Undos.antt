-- Definitions beside those of `Undos` that no public contract cites.
use Rattle.commit_lanes.specs.Undos.{undo_request}
use Rattle.commit_lanes.specs.declared.undo.Undo.{Undo}
use Rattle.pending_json.specs.Pending.{Pending}
use Rattle.s3_types.specs.declared.request.Request.{Request}
use Rattle.std.specs.Prelude.{Bool, List, false, length, map, true, ℕ, ◌++◌, ◌∷◌, ◌≡◌}
use Rattle.commit_lanes.specs.declared.undo.Undo.TheVariants as undos

-- The steps that `part` names were put in front of the others.
abbrev pub Adds : ℕ → (List Pending → List Request) → List Undo → List Undo → Type 0
Adds total part old new = (all : List Pending) → length all ≡ total → map (undo_request all) new ≡ part all ++ map (undo_request all) old

-- The list with the abort and the deletion of an upload in front, if its completion was sent and got no answer.
abbrev pub with_tried : Bool → ℕ → List Undo → List Undo
with_tried true n list = undos.Abort n ∷ undos.Delete n ∷ list
with_tried false n list = list

-- The list with the abort of an upload in front, if its completion was never sent.
abbrev pub with_unsent : Bool → ℕ → List Undo → List Undo
with_unsent true n list = list
with_unsent false n list = undos.Abort n ∷ list
