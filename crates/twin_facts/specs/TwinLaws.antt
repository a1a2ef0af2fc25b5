-- What readers of a destination may rely on while two jobs work there.
use Rattle.text_and_lists.specs.Order.{text_eq}
use Rattle.job_invariant.specs.Facts.{Hold}
use Rattle.job_invariant.specs.Stores.{IsKnown}
use Rattle.job_model.specs.JobScript.{Script}
use Rattle.job_model.specs.Legal.{IsLegal}
use Rattle.job_protocol.specs.Operations.{Setting}
use Rattle.job_protocol.specs.Outputs.{Picks, is_clash, is_decided, is_picked, wanted_at}
use Rattle.job_protocol.specs.Records.{mark_text}
use Rattle.job_protocol.specs.Seen.{Seen, Times, is_marking}
use Rattle.job_protocol.specs.View.{Shown, object_at, view}
use Rattle.job_spec.specs.Ends.{is_driver}
use Rattle.protocol_runs.specs.Runs.{Stand, is_set}
use Rattle.magic_paths.specs.Layout.{success_key}
use Rattle.s3_types.specs.Answer.{bucket_of}
use Rattle.s3_types.specs.Moment.{is_effective}
use Rattle.s3_types.specs.Store.{Content}
use Rattle.s3_types.specs.declared.journal.Entry.{Entry}
use Rattle.s3_types.specs.declared.object.Object.{Object}
use Rattle.s3_types.specs.declared.request.Mode.{Mode}
use Rattle.s3_types.specs.declared.request.Mode.TheVariants.{Replace}
use Rattle.s3_types.specs.declared.request.Request.{Request}
use Rattle.std.specs.List.{list_any}
use Rattle.std.specs.Prelude.{Bool, List, None, Some, cond, false, length, map, take, true, ℕ, [], ◌&&◌, ◌∷◌, ◌≡◌, ◌≤◌, ◌⊎◌}
use Rattle.store_frame.specs.Frame.{changed_keys}
use Rattle.twin_facts.specs.Strangers.{AreTwins}
use Rattle.twin_facts.specs.Names.{IsStranger}
use Rattle.twin_facts.specs.Sides.{First, IsTwinOpening, Second, Sends, Side, TwinEntry, TwinRun, drew, is_side}

-- The bytes that a job is bound to write at a path: none until each of its tasks has a pick and no two of these write one path.
abbrev pub counted : Script → Picks → Shown
counted w picks p = cond (is_decided w picks) (wanted_at w picks p) None

-- The commit of this job has begun, and it is bound to write these bytes at this path.
abbrev pub Gives : Script → Seen → List ℕ → List ℕ → Type 0
Gives w s p b = (s.begun ≡ true) × (counted w s.picks p ≡ Some b)

-- Each visible path has its opening bytes, or those of a job whose commit has begun. An opening file stays if neither job is bound to write
-- its path.
pub record Shows (w v : Script) (opening c : Content) (s t : Seen) : Type 0 where
  pub only : (p b : List ℕ) → view w.dest c p ≡ Some b → (view w.dest opening p ≡ Some b) ⊎ (Gives w s p b ⊎ Gives v t p b)
  pub kept : (p b : List ℕ) → view w.dest opening p ≡ Some b → counted w s.picks p ≡ None → counted v t.picks p ≡ None
      → view w.dest c p ≡ Some b

-- ---- the marker

-- The request puts or deletes the success marker.
abbrev pub touches_mark : Script → Request → Bool
touches_mark w r = text_eq (bucket_of r) w.dest.bucket && list_any (text_eq (success_key w.dest.key)) (changed_keys r)

-- Whether the last put or deletion of the success marker is a put by this side's driver, after one more entry.
abbrev pub marks_by : Script → Side → Bool → TwinEntry → Bool
marks_by w side b e = cond (is_effective e.entry.outcome && touches_mark w e.entry.request)
    (is_side side e.side && (is_driver e.entry.actor && is_marking w e.entry.request)) b

-- Whether the last put or deletion of the success marker that took effect is a put by this side's driver.
abbrev pub is_marked_by : Script → Side → Bool → List TwinEntry → Bool
is_marked_by w side b [] = b
is_marked_by w side b (e ∷ es) = is_marked_by w side (marks_by w side b e) es

-- Each task of the job has a pick, and no two of these write one path. Each wanted file that the other job is not bound to write exists.
-- The marker exists and has this job's text.
pub record Marked (w v : Script) (c : Content) (mine others : Picks) : Type 0 where
  pub picked : is_picked w mine ≡ true
  pub apart : is_clash w mine ≡ false
  pub files : (p b : List ℕ) → wanted_at w mine p ≡ Some b → counted v others p ≡ None → view w.dest c p ≡ Some b
  pub mark : (o : Object) × (object_at c w.dest.bucket (success_key w.dest.key) ≡ Some o) × (o.bytes ≡ mark_text w mine)

-- ---- all runs of two jobs

abbrev pub is_replace : Mode → Bool
is_replace Replace = true
is_replace _ = false

-- Two jobs may share a destination: both scripts are legal, their ids differ, and neither has a replace mode.
pub record MayBeTwins (w v : Script) : Type 0 where
  pub first : IsLegal w
  pub second : IsLegal v
  pub twins : AreTwins w v
  pub keeps_first : is_replace w.mode ≡ false
  pub keeps_second : is_replace v.mode ≡ false

-- The property holds of every run of two such jobs, with these times of each, from any content.
abbrev pub InEachRun : ((g h : Setting) (k l : Times) (opening : Content) (es : List TwinEntry) (x y : Stand) → Type 0) → Type 0
InEachRun P = (g h : Setting) → MayBeTwins g.script h.script → (k l : Times) (opening : Content) → IsTwinOpening g h opening
    → (es : List TwinEntry) (x y : Stand) → TwinRun g h k l opening es x y → P g h k l opening es x y

-- What readers see, and what the marker of each job promises.
pub record AreShown (g h : Setting) (opening : Content) (es : List TwinEntry) (x y : Stand) : Type 0 where
  pub shows : Shows g.script h.script opening x.seen.scene.content x.seen y.seen
  pub first : is_marked_by g.script First false es ≡ true → Marked g.script h.script x.seen.scene.content x.seen.picks y.seen.picks
  pub second : is_marked_by h.script Second false es ≡ true → Marked h.script g.script y.seen.scene.content y.seen.picks x.seen.picks

-- What holds of a run of two jobs in each state.
pub record TwinsKeep (g h : Setting) (k l : Times) (opening : Content) (es : List TwinEntry) (x y : Stand) : Type 0 where
  -- Once the set-up of a side is done, the facts of that side hold.
  pub first : is_set x.driver ≡ true → Hold g.script g.minimum x.seen x.told
  pub second : is_set y.driver ≡ true → Hold h.script h.minimum y.seen y.told
  -- No upload is drawn by both sides, and a side knows only uploads that it drew.
  pub apart : (id : ℕ) → drew First opening es id ≡ true → drew Second opening es id ≡ false
  pub known_first : (id : ℕ) → IsKnown x.told.drawn id → drew First opening es id ≡ true
  pub known_second : (id : ℕ) → IsKnown y.told.drawn id → drew Second opening es id ≡ true
  -- A request that a side may send next names nothing of the other's.
  pub strange_first : (e : Entry) (z : Stand) → Sends g k x e z → IsStranger h.script (drew Second opening es) e.request
  pub strange_second : (e : Entry) (z : Stand) → Sends h l y e z → IsStranger g.script (drew First opening es) e.request
  -- Both sides see the same store, and readers see what they may rely on.
  pub one_scene : x.seen.scene ≡ y.seen.scene
  pub shown : AreShown g h opening es x y

-- In every run of two jobs this holds in each state.
abbrev pub AllTwinsKeep : Type 0
AllTwinsKeep = InEachRun TwinsKeep

-- Each moment of such a run is the end of a shorter run.
abbrev pub TwinMoments : Type 0
TwinMoments = (g h : Setting) (k l : Times) (opening : Content) (es : List TwinEntry) (x y : Stand) → TwinRun g h k l opening es x y
    → (m : ℕ) → m ≤ length es
    → (u v : Stand) × TwinRun g h k l opening (take m es) u v

-- ---- which side is the first

abbrev pub other_side : Side → Side
other_side First = Second
other_side Second = First

-- An entry with the names of the sides swapped.
abbrev pub turned_entry : TwinEntry → TwinEntry
turned_entry e = record { side = other_side e.side; entry = e.entry; theirs = e.theirs }

-- A run of two jobs, with the names of the sides swapped, is a run too.
abbrev pub TwinsTurn : Type 0
TwinsTurn = (g h : Setting) (k l : Times) (opening : Content) (es : List TwinEntry) (x y : Stand) → TwinRun g h k l opening es x y
    → TwinRun h g l k opening (map turned_entry es) y x
