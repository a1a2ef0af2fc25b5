-- Definitions beside those of `Stops` that no public contract cites.
use Rattle.devices.specs.declared.kept.ShelfStop.{ShelfStop}
use Rattle.s3a_top.specs.declared.stop.Stop.{Stop}
use Rattle.s3a_top.specs.declared.stop.Stop.TheVariants.{NoMemory, ShelfFault}
use Rattle.devices.specs.declared.kept.ShelfStop.TheVariants as shelves

-- The stop for a failed call of the shelf.
abbrev pub of_shelf : ShelfStop → Stop
of_shelf shelves.Failed = ShelfFault
of_shelf shelves.NoMemory = NoMemory
