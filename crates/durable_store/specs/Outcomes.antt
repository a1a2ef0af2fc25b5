-- The outcome of a load and of a command's work.
use Rattle.devices.specs.Logged.{Holding, IsDurable, IsSmall, Sight, Stored}
use Rattle.devices.specs.Logged.Holding.{Nothing as Absent}
use Rattle.durable_store.specs.Stores.{found}
use Rattle.durable_store.specs.Works.{Saves, Says, Work}
use Rattle.durable_store.specs.declared.shelf_state.ShelfState.{ShelfState}
use Rattle.durable_store.specs.declared.shelf_state.ShelfState.TheVariants.{Faulty, Nothing, Store}
use Rattle.exit_status.specs.declared.statuses.Status.{Status}
use Rattle.exit_status.specs.declared.statuses.Status.TheVariants.{Done, NoMemory, ShelfFault}
use Rattle.journal_log.specs.Appends.{AreCalled, AreCut}
use Rattle.journal_log.specs.Changes.{changes, content_after}
use Rattle.journal_log.specs.Crashes.{WhereTold}
use Rattle.journal_log.specs.Kept.{Holds, HoldsPart, IsMoment, StandsFor, kept}
use Rattle.journal_log.specs.Made.{KeepsImages}
use Rattle.s3_types.specs.Names.{is_key}
use Rattle.s3_types.specs.Store.{BucketContent, Content}
use Rattle.s3_types.specs.declared.journal.Entry.{Entry}
use Rattle.s3_types.specs.declared.object.Object.{Object}
use Rattle.s3_types.specs.declared.request.Request.{Request}
use Rattle.std.specs.Prelude.{List, None, Option, Some, length, true, ℕ, ◌<◌, ◌^◌, ◌≡◌, ◌≢◌, ◌≤◌, ◌⊎◌}
use Rattle.store_image.specs.Content.{IsContent}
use Rattle.store_image.specs.Image.{image}
use Rattle.std.specs.FinMap as fin

-- ---- a load

-- Holds if the store that was found, if one was, can be written as an image.
abbrev pub IsSound : ShelfState → Type 0
IsSound (Store c) = IsContent c
IsSound _ = Unit {0}

-- Holds if the objects of a store are at keys.
abbrev pub AreAtKeys : Content → Type 0
AreAtKeys c = (n k : List ℕ) (b : BucketContent) (o : Object) → fin.get c.buckets n ≡ Some b → fin.get b.objects k ≡ Some o
    → is_key k ≡ true

-- A store that can be written as an image is found again with its changes, if it is small and its counter is at most 2^62 after them.
pub record LoadsAgain : Type 0 where
  pub found_again : (s : Stored) (c : Content) (rs : List Request) → s.holding ≡ kept c rs → IsSmall s → length (image c) < 2 ^ 64
      → IsContent c → (content_after c rs).next ≤ 2 ^ 62 → found s ≡ Store (content_after c rs)

-- Holds if what was found is what this holding stands for. Says nothing for a fault.
abbrev pub IsOf : ShelfState → Holding → Type 0
IsOf Nothing h = h ≡ Absent
IsOf (Store c) h = StandsFor h c
IsOf (Faulty number place) h = Unit {0}

-- P, if what was found is no fault.
abbrev pub WhereSound : ShelfState → Type 0 → Type 0
WhereSound Nothing P = P
WhereSound (Store c) P = P
WhereSound (Faulty number place) P = Unit {0}

-- ---- a command

-- The answer to work. Work that says something has its own status and text. Work that saves has Done and its text, or the status of a
-- failed shelf or of memory that ran out, without a text. Each has what was sent.
pub data IsAnswer : Work → (due : Status) (text : Option (List ℕ)) (sent : List Entry) → Type 0 where
  said : (due : Status) (text : Option (List ℕ)) (es : List Entry) → IsAnswer (Says due text es) due text es
  saved : (c : Content) (text : List ℕ) (es : List Entry) → IsAnswer (Saves c text es) Done (Some text) es
  failed : (c : Content) (text : List ℕ) (es : List Entry) → IsAnswer (Saves c text es) ShelfFault None es
  wanting : (c : Content) (text : List ℕ) (es : List Entry) → IsAnswer (Saves c text es) NoMemory None es

-- What the shelf holds after the work. Work that says something leaves it unchanged. Work that saves leaves the store with all that was
-- sent if it ended with Done, and otherwise what was held, or the store with the first changes.
abbrev pub IsHeld : Work → (due : Status) (before after : Option Stored) → Type 0
IsHeld (Says d text es) due before after = after ≡ before
IsHeld (Saves c text es) due before after = (due ≡ Done → Holds after c (changes es))
    × (due ≢ Done → (after ≡ before) ⊎ HoldsPart after c es)

-- Holds if each store on the way of what is saved can be written as an image, provided that the opening one can.
abbrev pub HasImages : Work → Type 0
HasImages (Says d text es) = Unit {0}
HasImages (Saves c text es) = KeepsImages c es

-- What a crash after the command began might have left: what a crash before may leave, or some point of what was saved.
abbrev pub MightLeave : Work → (told : Option Stored) (at_first : Holding → Type 0) → Holding → Type 0
MightLeave (Says d text es) told at_first h = at_first h
MightLeave (Saves c text es) told at_first h = WhereTold told (at_first h ⊎ IsMoment c es h)

-- After a save that ended with Done, a crash leaves exactly what the shelf holds.
abbrev pub IsDurableNow : Work → (due : Status) (held : Option Stored) (leaves : Holding → Type 0) → Type 0
IsDurableNow (Says d text es) due held leaves = Unit {0}
IsDurableNow (Saves c text es) due held leaves = due ≡ Done → IsDurable held leaves

-- How the shelf was called: not at all if something is only said; for a save that ended with Done once for the image and once for each
-- change; otherwise up to the call that failed.
abbrev pub CallsBy : {S : Type 0} → Sight S → Work → (due : Status) (old new : S) → Type 0
CallsBy F (Says d text es) due old new = old ≡ new
CallsBy F (Saves c text es) due old new = (due ≡ Done → AreCalled F (changes es) old new) × (due ≢ Done → AreCut F (changes es) old new)

-- A count of faults rose if the work ended with this status, and is unchanged otherwise.
pub record Tells (status due before after : ℕ) : Type 0 where
  pub rose : due ≡ status → before < after
  pub stands : due ≢ status → after ≡ before
