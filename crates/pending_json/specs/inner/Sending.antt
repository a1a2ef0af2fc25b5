-- The members of a record as they are sent to a writer.
use Rattle.std.specs.Prelude.{◌≡◌, ℕ, List, codes, Option, Some, None}
use Rattle.serde.specs.Event.{Log, Logs, field_key}
use Rattle.serde.specs.declared.name.Case.TheVariants.{AsIs}
use Rattle.serde_json.specs.Data.{Data, array}
use Rattle.serde_json.specs.Events.{SendsValue}
use Rattle.pending_json.specs.Trees.{whole, wholes}

-- Holds if a member of this name with this value is sent.
abbrev pub SendsMember : List ℕ → Data → Log → Log → Type 0
SendsMember name d old new = (named : Log) × Logs old named (field_key name AsIs) × SendsValue d named new

-- Holds if the lengths of parts are sent, if there are any.
abbrev pub SendsSizes : Option (List ℕ) → Log → Log → Type 0
SendsSizes None old new = new ≡ old
SendsSizes (Some sizes) old new = SendsMember (codes "sizes") (array (wholes sizes)) old new

-- Holds if the stamp is sent, if there is one.
abbrev pub SendsStamp : Option ℕ → Log → Log → Type 0
SendsStamp None old new = new ≡ old
SendsStamp (Some stamp) old new = SendsMember (codes "stamp") (whole stamp) old new
