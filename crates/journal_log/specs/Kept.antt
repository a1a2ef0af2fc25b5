-- What a shelf stores of a run: the image of its opening content, and changes of its journal.
use Rattle.journal_log.specs.Changes.{Begins, changes, content_after}
use Rattle.log_format.specs.declared.logged_store.LoggedStore.{LoggedStore}
use Rattle.s3_types.specs.Moment.{moment}
use Rattle.s3_types.specs.Store.{Content}
use Rattle.s3_types.specs.declared.journal.Entry.{Entry}
use Rattle.s3_types.specs.declared.request.Request.{Request}
use Rattle.devices.specs.Logged.{Holding, Stored, told}
use Rattle.devices.specs.Logged.Holding.{BadAt, Nothing, Stands}
use Rattle.std.specs.Option.{option_map}
use Rattle.std.specs.Prelude.{List, None, Option, Some, length, ℕ, [], ◌++◌, ◌<◌, ◌∷◌, ◌≡◌, ◌≢◌, ◌≤◌, ◌⊎◌}
use Rattle.store_image.specs.Image.{image}

-- ---- what a holding stands for

-- The base is the image of some content, and the changes after it lead from that to this content.
pub record Unfolds (held : LoggedStore) (c : Content) : Type 0 where
  pub first : Content
  pub is_image : held.base ≡ image first
  pub folded : c ≡ content_after first held.changes

-- Holds if what a shelf holds stands for this content of a store.
abbrev pub StandsFor : Holding → Content → Type 0
StandsFor (Stands held) c = Unfolds held c
StandsFor _ c = ⊥

-- Holds if what is held stands for some point of the run.
abbrev pub IsMoment : Content → List Entry → Holding → Type 0
IsMoment opening es h = (m : ℕ) × (m ≤ length es) × StandsFor h (moment opening es m).content

-- ---- what is held of a run

-- The image of a run's opening content with these changes.
abbrev pub kept : Content → List Request → Holding
kept opening rs = Stands (record { base = image opening; changes = rs })

-- Holds if the shelf holds the image of a run's opening content with these changes. Says nothing if what it holds is not known.
abbrev pub Holds : Option Stored → Content → List Request → Type 0
Holds None opening rs = Unit {0}
Holds (Some s) opening rs = s.holding ≡ kept opening rs

-- The event of the last entry, or this number if there is none.
abbrev pub last_event : ℕ → List Entry → ℕ
last_event n [] = n
last_event n (e ∷ es) = last_event e.event es

-- Holds if these changes have all changes up to each entry of an earlier event than the last entry's.
abbrev pub HasEarlier : List Entry → List Request → Type 0
HasEarlier es rs = (front back : List Entry) (e : Entry) → es ≡ front ++ e ∷ back → e.event < last_event 0 es
    → Begins (changes (front ++ e ∷ [])) rs

-- What is held of a run that was cut short: its first changes, with all those of earlier events.
pub record HoldsPart (held : Option Stored) (opening : Content) (es : List Entry) : Type 0 where
  -- the changes that are held
  pub part : List Request
  pub holds : Holds held opening part
  pub begins : Begins part (changes es)
  -- all changes of earlier events are among them
  pub earlier : HasEarlier es part

-- Holds for the statuses of a run that went to its end.
abbrev pub IsToEnd : ℕ → Type 0
IsToEnd due = (due ≡ 0) ⊎ ((due ≡ 1) ⊎ (due ≡ 8))

-- What is held at the end of a run with this status.
pub record IsKept (due : ℕ) (held : Option Stored) (opening : Content) (es : List Entry) : Type 0 where
  -- after a run that went to its end: every change
  pub whole : IsToEnd due → Holds held opening (changes es)
  -- after a run that was cut short: the first changes
  pub partly : (due ≡ 5) ⊎ (due ≡ 9) → es ≢ [] → HoldsPart held opening es

-- ---- how it grows

-- What is held, with these changes added.
abbrev pub grown_by : Holding → List Request → Holding
grown_by Nothing rs = Nothing
grown_by (Stands held) rs = Stands (record { base = held.base; changes = held.changes ++ rs })
grown_by (BadAt place) rs = BadAt place

-- Holds if what is held grew by these changes. Says nothing about holdings that are not known, except that they stay unknown.
abbrev pub HoldsGrownBy : Option Stored → Option Stored → List Request → Type 0
HoldsGrownBy before after rs = told after ≡ option_map (λ s. grown_by s.holding rs) before

-- Holds if what is held grew by the first of these changes.
abbrev pub HoldsSome : Option Stored → Option Stored → List Request → Type 0
HoldsSome before after rs = (front : List Request) × Begins front rs × HoldsGrownBy before after front
