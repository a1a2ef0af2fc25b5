-- What a shelf is found to hold.
use Rattle.durable_store.specs.declared.shelf_state.ShelfState.{ShelfState}
use Rattle.durable_store.specs.declared.shelf_state.ShelfState.TheVariants.{Faulty, Nothing, Store}
use Rattle.journal_log.specs.Changes.{content_after}
use Rattle.s3_types.specs.Store.{Content}
use Rattle.s3_types.specs.declared.request.Request.{Request}
use Rattle.devices.specs.Logged.{Holding, Stored, most_base, most_file}
use Rattle.devices.specs.Logged.Holding.{BadAt, Nothing as Absent, Stands}
use Rattle.std.specs.Fmt.{decimal}
use Rattle.std.specs.Prelude.{Err, List, Ok, Result, codes, if◌then◌else◌, nat_lt, ℕ, [], ◌++◌, ◌^◌, ◌||◌, ◌∷◌}
use Rattle.store_image.specs.Fault.{number_of, place_in}
use Rattle.store_image.specs.Reading.{content_in}
use Rattle.store_image.specs.declared.fault.ImageFault.{ImageFault}

-- ---- what is held

-- The store if its counter is at most 2^62, and otherwise fault 5 at place 0.
abbrev pub counted : Content → ShelfState
counted c = if nat_lt (2 ^ 62) c.next then Faulty 5 0 else Store c

-- The store whose image is the base, with the changes applied to it, or the image's first fault by its number and place.
abbrev pub unfolded : Result Content ImageFault → List Request → ShelfState
unfolded (Ok c) rs = counted (content_after c rs)
unfolded (Err e) rs = Faulty (number_of e) (place_in e)

-- What a holding is read as: nothing, a store, or a fault. A bad log is fault 9, at its place.
abbrev pub read_as : Holding → ShelfState
read_as Absent = Nothing
read_as (Stands held) = unfolded (content_in held.base) held.changes
read_as (BadAt place) = Faulty 9 place

-- What a shelf is found to hold. Something too large to load is fault 8, at the most bytes of a base.
unfoldable pub found : Stored → ShelfState
found s = if nat_lt most_base s.base_length || nat_lt most_file s.file_length then Faulty 8 most_base else read_as s.holding

-- ---- what is said

-- The line that reports what is no store.
unfoldable pub fault_text : ℕ → ℕ → List ℕ
fault_text number place = codes "image fault " ++ (decimal number ++ (codes " at " ++ (decimal place ++ 10 ∷ [])))
