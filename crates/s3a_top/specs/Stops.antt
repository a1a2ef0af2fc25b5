-- The status and the text of each stop.
use Rattle.durable_store.specs.Stores.{fault_text}
use Rattle.exit_status.specs.Statuses.{memory_text, read_text, shelf_text, usage_text}
use Rattle.exit_status.specs.declared.statuses.Status.{Status}
use Rattle.s3a_top.specs.Statuses.{script_fault_text, twin_fault_text}
use Rattle.s3a_top.specs.declared.stop.Stop.{Stop}
use Rattle.s3a_top.specs.declared.stop.Stop.TheVariants.{Image, NoMemory, ReadFault, Script as BadScript, ShelfFault, Twins as BadTwins}
use Rattle.s3a_top.specs.declared.stop.Stop.TheVariants.{Usage}
use Rattle.std.specs.Prelude.{List, ℕ}
use Rattle.exit_status.specs.declared.statuses.Status.TheVariants as statuses

-- The exit status of each stop.
abbrev pub status_of : Stop → Status
status_of Usage = statuses.Usage
status_of ReadFault = statuses.ReadFault
status_of ShelfFault = statuses.ShelfFault
status_of (Image number place) = statuses.BadImage
status_of NoMemory = statuses.NoMemory
status_of _ = statuses.BadScript

-- The line that the program writes for each stop.
abbrev pub stop_text : Stop → List ℕ
stop_text Usage = usage_text
stop_text ReadFault = read_text
stop_text ShelfFault = shelf_text
stop_text (BadScript e) = script_fault_text e
stop_text (BadTwins e) = twin_fault_text e
stop_text (Image number place) = fault_text number place
stop_text NoMemory = memory_text
