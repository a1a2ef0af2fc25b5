-- The laws of this crate.
use Rattle.journal_log.specs.Changes.{Begins, changes, content_after}
use Rattle.journal_log.specs.Crashes.{AreAppended, IsBetween, IsLast, WhereTold}
use Rattle.journal_log.specs.Kept.{HasEarlier, Holds, HoldsGrownBy, HoldsPart, HoldsSome, IsMoment, StandsFor, Unfolds, kept}
use Rattle.journal_log.specs.Made.{IsMade, KeepsImages}
use Rattle.log_format.specs.Change.{is_changing}
use Rattle.log_format.specs.declared.logged_store.LoggedStore.{LoggedStore}
use Rattle.s3_types.specs.Answer.{apply, apply_store}
use Rattle.s3_types.specs.Moment.{moment}
use Rattle.s3_types.specs.Store.{Content, Scene, new_content}
use Rattle.s3_types.specs.declared.journal.Entry.{Entry}
use Rattle.s3_types.specs.declared.request.Request.{Request}
use Rattle.devices.specs.Logged.{CrashesLeave, Holding, IsDurable, Sight, Stored, fresh}
use Rattle.std.specs.List.{AllByRecursion}
use Rattle.std.specs.Prelude.{List, Option, false, length, take, true, ℕ, ◌++◌, ◌<◌, ◌^◌, ◌≡◌, ◌≤◌, ◌⊎◌}
use Rattle.store_image.specs.Content.{IsContent, is_minimum}
use Rattle.store_image.specs.Image.{image}

-- The changes of a journal's requests give the store at each of its points.
pub record ChangesFollow : Type 0 where
  -- a changing request changes only the store's content, and any other one leaves that unchanged
  pub store : (s : Scene) (r : Request) → is_changing r ≡ true → apply s r ≡ record { content = apply_store s.content r; files = s.files }
  pub others : (s : Scene) (r : Request) → is_changing r ≡ false → (apply s r).content ≡ s.content
  -- applied to the opening content they give the content at each point
  pub folded : (opening : Content) (es : List Entry) (m : ℕ) → content_after opening (changes (take m es)) ≡ (moment opening es m).content
  -- the changes of two journals in a row are those of the first and then those of the second
  pub joined : (es fs : List Entry) → changes (es ++ fs) ≡ changes es ++ changes fs
  -- the first changes of a journal are those of its first entries
  pub cut : (es : List Entry) (rs : List Request) → Begins rs (changes es) → (m : ℕ) × (m ≤ length es) × (rs ≡ changes (take m es))

-- Changes keep a store one that can be written as an image.
pub record ContentStays : Type 0 where
  -- a new store can be written as an image
  pub new : (minimum : ℕ) → is_minimum minimum ≡ true → IsContent (new_content minimum)
  -- so can a store after requests, until its counter reaches its limit
  pub one : (c : Content) (r : Request) → IsContent c → IsMade r → (apply_store c r).next ≤ 2 ^ 62 → IsContent (apply_store c r)
  pub all : (c : Content) (rs : List Request) → IsContent c → AllByRecursion IsMade rs → (content_after c rs).next ≤ 2 ^ 62
      → IsContent (content_after c rs)
  -- so can the store after each entry of a journal
  pub moments : (opening : Content) (es : List Entry) → AllByRecursion IsMade (changes es) → KeepsImages opening es

-- What a shelf stores of a run stands for some point of that run.
pub record KeptStands : Type 0 where
  -- the changes of the first entries stand for the point after these, and any first changes for some point
  pub moments : (opening : Content) (es : List Entry) (m : ℕ) → StandsFor (kept opening (changes (take m es))) (moment opening es m).content
  pub some : (opening : Content) (es : List Entry) (rs : List Request) → Begins rs (changes es) → IsMoment opening es (kept opening rs)
  -- a point of a run is one of a longer run too
  pub longer : (opening : Content) (es fs : List Entry) (h : Holding) → IsMoment opening es h → IsMoment opening (es ++ fs) h
  -- what grew has the changes before and those by which it grew
  pub grown : (opening : Content) (before after : Option Stored) (rs more : List Request) → Holds before opening rs
      → HoldsGrownBy before after more → Holds after opening (rs ++ more)
  -- what is between the changes of two journals is a point of both together
  pub between : (opening : Content) (es part : List Entry) (held : Option Stored) (h : Holding) → Holds held opening (changes es)
      → IsBetween held (changes part) h → WhereTold held (IsMoment opening (es ++ part) h)
  -- all changes before an event, with some of that event's, have all changes of the earlier events
  pub earlier : (es part : List Entry) (n : ℕ) (rs : List Request) → AllByRecursion (λ e. e.event ≡ n) part → Begins rs (changes part)
      → HasEarlier (es ++ part) (changes es ++ rs)
  -- what grew by the first changes of an event is what is held of a run that was cut short there
  pub short : (opening : Content) (before after : Option Stored) (es part : List Entry) (n : ℕ) → Holds before opening (changes es)
      → AllByRecursion (λ e. e.event ≡ n) part → HoldsSome before after (changes part) → HoldsPart after opening (es ++ part)
  -- if the base is the image of a content that can have one, it all stands for exactly one content
  pub one : (held : LoggedStore) (c d : Content) (a : Unfolds held c) (b : Unfolds held d) → length held.base < 2 ^ 64 → IsContent a.first
      → IsContent b.first → c ≡ d

-- From a shelf that is durable and holds the changes of a journal, the first changes of the next entries were appended. Then a crash since
-- then left some point of the run.
pub record CrashesLeaveMoments {S : Type 0} (F : Sight S) : Type 0 where
  pub between : (old new : S) (rs : List Request) → IsDurable (F.held old) (F.may_leave old) → AreAppended F old rs new
      → CrashesLeave F old new (IsBetween (F.held old) rs)
  pub leave : (opening : Content) (es part : List Entry) (old new : S) (rs : List Request) → Holds (F.held old) opening (changes es)
      → IsDurable (F.held old) (F.may_leave old) → AreAppended F old rs new → Begins rs (changes part)
      → CrashesLeave F old new (λ h. WhereTold (F.held old) (IsMoment opening (es ++ part) h))
  -- a crash at the end of a run that is held whole and is durable leaves its last point
  pub last : (opening : Content) (es : List Entry) (at_end : S) → Holds (F.held at_end) opening (changes es)
      → IsDurable (F.held at_end) (F.may_leave at_end) → (h : Holding) → F.may_leave at_end h → IsLast (F.held at_end) opening es h
  -- this goes on from one event to the next, also if only some of the next changes were appended
  pub on : (opening : Content) (es part : List Entry) (first mid new : S) → Holds (F.held mid) opening (changes es)
      → HoldsSome (F.held mid) (F.held new) (changes part) → CrashesLeave F first mid (λ h. WhereTold (F.held mid) (IsMoment opening es h))
      → CrashesLeave F mid new (IsBetween (F.held mid) (changes part))
      → CrashesLeave F first new (λ h. WhereTold (F.held new) (IsMoment opening (es ++ part) h))

-- A shelf was loaded, replaced by the image of the opening content, and took changes of the journal. Then a crash since the load began left
-- what a crash before may leave, or some point of the run.
pub record RunsSurvive {S : Type 0} (F : Sight S) : Type 0 where
  pub survive : (opening : Content) (es : List Entry) (told : Option Stored) (first loaded replaced last : S)
      → CrashesLeave F first loaded (F.may_leave first)
      → CrashesLeave F loaded replaced (λ h. F.may_leave loaded h ⊎ (h ≡ fresh (image opening)))
      → CrashesLeave F replaced last (λ h. WhereTold told (IsMoment opening es h))
      → CrashesLeave F first last (λ h. WhereTold told (F.may_leave first h ⊎ IsMoment opening es h))
