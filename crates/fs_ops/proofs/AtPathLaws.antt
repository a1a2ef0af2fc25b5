-- What exists at a path, stage by stage, however a file there is asked for.
use Rattle.bucket_ops.specs.Asks.{Ask, edited, is_look, reply_in}
use Rattle.bucket_ops.specs.Phases.{IsPhases, MayAsk}
use Rattle.dir_markers.specs.Markers.{marker_of}
use Rattle.fs_ops.proofs.Looks.{below_key}
use Rattle.fs_ops.proofs.StepLaws.{phases_of}
use Rattle.fs_ops.specs.Places.{get_asks, look_asks}
use Rattle.fs_ops.specs.code.AtPath.{asks, first, holds, left, on, on_below, on_here, told}
use Rattle.fs_ops.specs.code.Steps.{IsStill, OnlyLooks, goes_by}
use Rattle.fs_ops.specs.inner.Steps.{IsStages}
use Rattle.fs_ops.specs.declared.at_path.PathStage.{PathStage}
use Rattle.fs_ops.specs.declared.at_path.PathStage.TheVariants.{Below, Here}
use Rattle.fs_tree.specs.Tree.{IsAbsent, IsDirectory}
use Rattle.fs_tree.specs.declared.answers.FsRefusal.{FsRefusal}
use Rattle.fs_tree.specs.declared.answers.FsRefusal.TheVariants.{NoSuchBucket, NotFound}
use Rattle.operations.specs.Plans.{Falls, Goes}
use Rattle.s3_types.specs.Store.{Objects}
use Rattle.s3_types.specs.declared.reply.Reply.{Reply}
use Rattle.std.proofs.Common.{arith, refl, subst, sym, ◌∙◌}
use Rattle.std.specs.Prelude.{Err, List, Option, Result, true, ℕ, [], ◌∷◌, ◌≡◌}

-- What a question must fulfil that asks for a file with `ask`, reads it from a reply with `file`, and answers `directory` for a directory.
pub record IsQuestion {A : Type 0} (ask : List ℕ → Ask) (file : Reply → Option A) (directory : Result A FsRefusal)
    (gives : List ℕ → Objects → Result A FsRefusal → Objects → Type 0) : Type 0 where
  pub still : (p : List ℕ) (z : Objects) → edited (ask p) z ≡ z
  pub here : (x : ℕ) (p : List ℕ) (z : Objects) → Goes (holds (x ∷ p) z) (gives (x ∷ p) z) (told (file (reply_in z (ask (x ∷ p))))) z
  pub found : (p : List ℕ) (z : Objects) → IsDirectory z p → gives p z directory z
  pub missing : (p : List ℕ) (z : Objects) → IsAbsent z p → gives p z (Err NotFound) z
  pub at_end : (p : List ℕ) (z : Objects) (a : Result A FsRefusal) (m : Objects) → gives p z a m → m ≡ z

module _ {A : Type 0} {ask : List ℕ → Ask} {file : Reply → Option A} {directory : Result A FsRefusal}
    {gives : List ℕ → Objects → Result A FsRefusal → Objects → Type 0} (k : IsQuestion ask file directory gives) where
  abbrev Stepped : List ℕ → Objects → PathStage → Objects → Type 0
  Stepped o z x m = Goes (holds o z) (gives o z) (on directory file o x (reply_in m (asks ask o x))) (edited (asks ask o x) m)

  asked_here : (o : List ℕ) (z m : Objects) → edited (ask o) z ≡ m
      → Goes (holds o z) (gives o z) (on_here directory (file (reply_in z (ask o))) o) z
      → Goes (holds o z) (gives o z) (on_here directory (file (reply_in z (ask o))) o) m
  asked_here o z m e h = subst (λ m. Goes (holds o z) (gives o z) (on_here directory (file (reply_in z (ask o))) o) m)
      (sym (k.still o z) ∙ e) h

  here : (o : List ℕ) (z : Objects) → Goes (holds o z) (gives o z) (on_here directory (file (reply_in z (ask o))) o) z
  here [] z = k.found [] z (tt, tt)
  here (x ∷ p) z = k.here x p z

  step : (o : List ℕ) (z : Objects) (x : PathStage) → holds o z x z → Stepped o z x z
  step o z Here h = asked_here o z (edited (ask o) z) refl (here o z)
  step [] z Below h = absurd h.1
  step (x ∷ p) z Below h =
      below_key (λ l. Goes (holds (x ∷ p) z) (gives (x ∷ p) z) (on_below directory l) z) x (marker_of p) z (λ s. k.found (x ∷ p) z (h.1, s))
      (λ n. k.missing (x ∷ p) z (h.1, n))

  falls_here : (o : List ℕ) (r : Reply) (m : Objects) → Falls (left o) (on_here directory (file r) o) m 1
  falls_here o r m = grind arith

  falls : (o : List ℕ) (x : PathStage) (r : Reply) (m n : Objects) → Falls (left o) (on directory file o x r) m (left o x n)
  falls o x r m n = grind arith

  same : (o : List ℕ) (z : Objects) (x : PathStage) (m : Objects) → holds o z x m → m ≡ z
  same o z x m h = grind arith

  stages : IsStages {O = List ℕ} first (asks ask) (on directory file) holds gives IsStill left
  stages = grind (arith, same, step, falls)

  pub question_laws : IsPhases {O = List ℕ} first (asks ask) (goes_by (on directory file)) holds gives IsStill left (Err NoSuchBucket)
  question_laws = phases_of (Err NoSuchBucket) stages

-- ---- the question only looks

pub looks_there : (p : List ℕ) → is_look (look_asks p) ≡ true
looks_there p = grind arith

-- A look changes nothing.
pub look_still : (a : Ask) (m : Objects) → is_look a ≡ true → edited a m ≡ m
look_still a m h = grind arith

pub still_look : (p : List ℕ) (m : Objects) → edited (look_asks p) m ≡ m
still_look p m = look_still (look_asks p) m (looks_there p)

pub gets_there : (p : List ℕ) → is_look (get_asks p) ≡ true
gets_there p = grind arith

pub question_asked : (ask : List ℕ → Ask) → ((p : List ℕ) → is_look (ask p) ≡ true) → MayAsk {O = List ℕ} (asks ask) holds OnlyLooks
question_asked ask f o z Here m h = f o
question_asked ask f o z Below m h = refl
