-- The making of a directory, stage by stage.
use Rattle.bucket_ops.specs.Asks.{edited, reply_in}
use Rattle.bucket_ops.specs.Looks.{look_of}
use Rattle.bucket_ops.specs.Phases.{IsPhases, MayAsk}
use Rattle.bucket_ops.specs.declared.look.Look.{Look}
use Rattle.bucket_ops.specs.declared.look.Look.TheVariants.{There}
use Rattle.dir_markers.specs.Markers.{keys_above, marker_of}
use Rattle.fs_ops.proofs.AtPathLaws.{looks_there}
use Rattle.fs_ops.proofs.Climbing.{IsClimbed, IsShorter, all_on, climbed_falls, climbing_falls, seen_on}
use Rattle.fs_ops.proofs.Looks.{at_key, below_key, head_tells}
use Rattle.fs_ops.proofs.StepLaws.{phases_of}
use Rattle.fs_ops.specs.code.Climbs.{climbed, climbing}
use Rattle.fs_ops.specs.code.Make.{MakeAnswer, always, asks, first, here as here_at, holds, left, on, on_below, on_climb, on_here, sends}
use Rattle.fs_ops.specs.code.Steps.{goes_by}
use Rattle.fs_ops.specs.inner.Steps.{IsStages}
use Rattle.fs_ops.specs.declared.climb.Climbed.{Climbed}
use Rattle.fs_ops.specs.declared.make_dirs.MakeStage.{MakeStage}
use Rattle.fs_ops.specs.declared.make_dirs.MakeStage.TheVariants.{Below, Here, PutMarker, Up}
use Rattle.fs_tree.proofs.Making.{makes_dirs}
use Rattle.fs_tree.specs.Answers.{Makes, PutsDir}
use Rattle.fs_tree.specs.Tree.{IsAbsent, marker}
use Rattle.fs_tree.specs.declared.answers.FsRefusal.TheVariants.{NoSuchBucket}
use Rattle.operations.specs.Plans.{Falls, Goes}
use Rattle.operations.specs.declared.plan.Step.{Step}
use Rattle.s3_types.specs.Answer.{head}
use Rattle.s3_types.specs.Store.{Objects}
use Rattle.s3_types.specs.declared.reply.Reply.{Reply}
use Rattle.std.proofs.Common.{arith, inl, inr, refl, subst, sym}
use Rattle.std.specs.Prelude.{Err, List, Ok, length, ℕ, [], ◌+◌, ◌∷◌, ◌≡◌}
use Rattle.std.specs.FinMap as fin

module _ (z : Objects) where
  abbrev On : List ℕ → Step MakeStage MakeAnswer → Objects → Type 0
  On o y m = Goes (holds o z) (Makes o z) y m

  made : (o : List ℕ) (m : Objects) → PutsDir o z m → Makes o z (Ok tt) m
  made o m h = (makes_dirs o z m h, h)

  climb : (o : List ℕ) (c : Climbed) → IsAbsent z o → IsClimbed z (keys_above o) c → On o (on_climb c) z
  climb o c h g = grind arith

  step : (o : List ℕ) (x : MakeStage) → holds o z x z → On o (on o x (reply_in z (asks o x))) (edited (asks o x) z)
  step [] Here h = made [] z (inl ((tt, tt), refl))
  step (x ∷ p) Here h = at_key (λ l. On (x ∷ p) (here_at l) z) z (x ∷ p) (λ s. (s, refl)) (λ n. (refl, n))
  step [] Below h = absurd h.1
  step (x ∷ p) Below h =
      below_key (λ l. On (x ∷ p) (on_below (x ∷ p) l) z) x (marker_of p) z (λ s. made (x ∷ p) z (inl ((h.1, s), refl)))
      (λ n. climb (x ∷ p) (climbing (keys_above (x ∷ p))) (h.1, n) (all_on z (keys_above (x ∷ p))))
  step o (Up c) h = climb o (climbed c (look_of (head (fin.get z c.first)))) h.1
      (seen_on z (keys_above o) c (look_of (head (fin.get z c.first))) h.2 (head_tells z c.first))
  step [] PutMarker h = absurd h.1
  step (x ∷ p) PutMarker h = made (x ∷ p) (fin.insert z (marker_of (x ∷ p)) marker) (inr (h.1, h.2, refl))

fall_climb : (o : List ℕ) (c : Climbed) (m : Objects) (n : ℕ) → IsShorter c n → Falls (left o) (on_climb c) m (n + 1)
fall_climb o c m n h = grind arith

falls_here : (o : List ℕ) (l : Look) (m : Objects) → Falls (left o) (on_here o l) m (length (keys_above o) + 2)
falls_here o l m = grind arith

falls : (o : List ℕ) (x : MakeStage) (r : Reply) (m n : Objects) → Falls (left o) (on o x r) m (left o x n)
falls o Here r m n = falls_here o (look_of r) m
falls o Below r m n = elim (look_of r) as (λ l. Falls (left o) (on_below o l) m (length (keys_above o) + 1)) [
  | There ↦ tt
  | _ ↦ fall_climb o (climbing (keys_above o)) m (length (keys_above o)) (climbing_falls (keys_above o))
]
falls o (Up c) r m n = fall_climb o (climbed c (look_of r)) m (length c.rest) (climbed_falls c (look_of r))
falls o PutMarker r m n = tt

same : (o : List ℕ) (z : Objects) (x : MakeStage) (m : Objects) → holds o z x m → m ≡ z
same o z x m h = grind arith

ended : (o : List ℕ) (z : Objects) (a : MakeAnswer) (m : Objects) → Makes o z a m → always o z m
ended o z a m h = grind arith

stages : IsStages {O = List ℕ} first asks on holds Makes always left
stages = record {
  begin = λ o z. refl;
  goes_on = λ o z x m h. subst (λ m. Goes (holds o z) (Makes o z) (on o x (reply_in m (asks o x))) (edited (asks o x) m))
      (sym (same o z x m h)) (step z o x (subst (holds o z x) (same o z x m h) h));
  falls = λ o z x m h. falls o x (reply_in m (asks o x)) (edited (asks o x) m) m;
  stays = λ o z x m h. elim x as (λ x. left o x (edited (asks o x) m) ≡ left o x m) [ Here ↦ refl | _ ↦ refl ];
  during = λ o z x m h. inl (same o z x m h);
  at_end = λ o z a m h. ended o z a m h;
}

pub make_laws : IsPhases {O = List ℕ} first asks (goes_by on) holds Makes always left (Err NoSuchBucket)
make_laws = phases_of (Err NoSuchBucket) stages

pub make_asked : MayAsk {O = List ℕ} asks holds sends
make_asked o z Here m h = inl (looks_there o)
make_asked o z PutMarker m h = inr (h.1, h.2, refl)
make_asked o z _ m h = inl refl
