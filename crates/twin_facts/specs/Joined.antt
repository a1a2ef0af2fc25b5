-- Two runs over one journal, each as its side reads it, are one run of both, and what one side sends is foreign to the other.
use Rattle.job_invariant.specs.Foreign.{IsForeign}
use Rattle.job_model.specs.Attempts.{Who}
use Rattle.job_model.specs.JobScript.{Script}
use Rattle.job_model.specs.Known.{Drawn}
use Rattle.job_protocol.specs.Operations.{Setting}
use Rattle.job_protocol.specs.Seen.{Times}
use Rattle.job_spec.specs.Turns.{is_own}
use Rattle.protocol_runs.specs.Runs.{Runs, Stand}
use Rattle.s3_types.specs.Answer.{answer}
use Rattle.s3_types.specs.Moment.{IsHonestOutcome, effect}
use Rattle.s3_types.specs.Store.{Content, Scene}
use Rattle.std.specs.List.{AllByRecursion}
use Rattle.std.specs.Prelude.{List, map, true, [], ◌++◌, ◌∷◌, ◌≡◌}
use Rattle.twin_facts.specs.Sides.{First, IsTwinOpening, Second, Side, TwinEntry, TwinRun, eyes}
use Rattle.twin_facts.specs.TwinLaws.{MayBeTwins, turned_entry}

-- Each entry is by a job's driver or one of its attempts.
abbrev pub AreActors : List TwinEntry → Type 0
AreActors = AllByRecursion (λ t. is_own t.entry.actor ≡ true)

-- Each entry was sent by this side.
abbrev pub AreOf : Side → List TwinEntry → Type 0
AreOf side = AllByRecursion (λ t. t.side ≡ side)

-- From this scene on, each entry is foreign to a job whose attempts have drawn these uploads, and has an outcome that S3 may give.
abbrev pub AreForeign : Script → (Who → List Drawn) → Scene → List TwinEntry → Type 0
AreForeign w drawn s [] = Unit {0}
AreForeign w drawn s (t ∷ ts) = IsForeign w drawn t.entry.request × IsHonestOutcome t.entry.outcome (answer s t.entry.request)
    × AreForeign w drawn (effect s t.entry.request t.entry.outcome) ts

-- Two runs over one journal, each as its side reads it, are one run of both.
abbrev pub TwinsJoin : Type 0
TwinsJoin = (g h : Setting) (k l : Times) (opening : Content) (es : List TwinEntry) → AreActors es → (x y : Stand)
    → Runs g k opening (eyes First es) x → Runs h l opening (eyes Second es) y → TwinRun g h k l opening es x y

-- What the first side sends after entries of both is foreign to the second side, as its attempts knew the uploads before that.
abbrev pub TwinsAreForeign : Type 0
TwinsAreForeign = (g h : Setting) → MayBeTwins g.script h.script → (k l : Times) (opening : Content) → IsTwinOpening g h opening
    → (es part : List TwinEntry) → AreActors (es ++ part) → AreOf First part → (x y : Stand) → Runs g k opening (eyes First (es ++ part)) x
    → Runs h l opening (eyes Second es) y
    → AreForeign h.script y.told.drawn y.seen.scene part

-- If the names of the sides are swapped, each side reads what the other one read.
pub record EyesTurn : Type 0 where
  pub first : (es : List TwinEntry) → eyes First (map turned_entry es) ≡ eyes Second es
  pub second : (es : List TwinEntry) → eyes Second (map turned_entry es) ≡ eyes First es
