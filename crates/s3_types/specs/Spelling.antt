-- How actors and tags are written.
use Rattle.s3_types.specs.Tags.{Spelled}
use Rattle.s3_types.specs.declared.request.Actor.{Actor}
use Rattle.s3_types.specs.declared.request.Actor.TheVariants.{Attempt, Driver, Shell}
use Rattle.std.specs.Fmt.{decimal}
use Rattle.std.specs.List.{join_with_byte}
use Rattle.std.specs.Prelude.{List, codes, if◌then◌else◌, ℕ, [], ◌++◌, ◌==◌, ◌∷◌}

-- `driver`, `shell`, or an attempt's two numbers with a dot between them.
abbrev pub actor_text : Actor → List ℕ
actor_text Driver = codes "driver"
actor_text (Attempt task attempt) = join_with_byte 46 (decimal task ∷ decimal attempt ∷ [])
actor_text Shell = codes "shell"

-- The digits of a tag, and for a completed upload `-` and its number of parts.
abbrev pub tag_text : Spelled → List ℕ
tag_text t = if t.parts == 0 then t.digits else t.digits ++ codes "-" ++ decimal t.parts
