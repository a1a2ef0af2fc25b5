-- Places among the items that a sparing clean listed.
use Rattle.cleanup.proofs.Places.{drop_behind, some_at, some_so}
use Rattle.cleanup.specs.inner.Places.{abort_asks, behind, delete_asks, get_asks, get_file_asks, remove_asks}
use Rattle.cleanup.specs.SparingHeld.{aborting_from, all_of, places_of, reading_from, sparing_at, sparing_of}
use Rattle.cleanup.specs.inner.SparingHeld.{lists_keys, read_asks, within}
use Rattle.cleanup.specs.inner.SparingHeld.{within_of}
use Rattle.cleanup.specs.declared.sparing_state.SparingState.{SparingState}
use Rattle.cleanup.specs.declared.sparing_state.SparingStage.{SparingStage}
use Rattle.job_model.specs.JobScript.{Script}
use Rattle.job_model.specs.declared.ends.CleanEnd.{CleanEnd}
use Rattle.job_protocol.specs.Sparing.{Sparing, aborting, deleting, names, reading_on, removing, sparing_asks, sparing_hears, sparing_over}
use Rattle.list_walk.specs.Walks.{keys_on}
use Rattle.s3_types.specs.declared.reply.Reply.{Reply}
use Rattle.s3_types.specs.declared.request.Committer.{Committer}
use Rattle.s3_types.specs.declared.request.Committer.TheVariants.{Magic}
use Rattle.s3_types.specs.declared.request.UploadRef.{UploadRef}
use Rattle.std.proofs.Common.{Bool, List, None, Option, Some, ap, arith, drop, length, length-drop, refl, sym, true, ℕ, ◌++◌, ◌<◌, ◌∙◌, ◌≡◌}
use Rattle.cleanup.specs.declared.sparing_state.SparingStage.TheVariants as stages

-- ---- a place in range

pub reads_at : (c : Committer) (named : List UploadRef) (places all : List (List ℕ)) (at : ℕ) → at < length places
    → reading_from named (drop at places) all ≡ reading_on c named (drop at places) all
reads_at c named places all at h =
    some_so (λ ps. reading_from named ps all ≡ reading_on c named ps all) (λ p ps. refl) (drop at places)
    (omega (arith, h, length-drop at places))

pub aborts_at : (c : Committer) (named : List UploadRef) (all : List (List ℕ)) (at : ℕ) → at < length named
    → aborting_from (drop at named) all ≡ aborting c (drop at named) all
aborts_at c named all at h = some_so (λ us. aborting_from us all ≡ aborting c us all) (λ u us. refl) (drop at named)
    (omega (arith, h, length-drop at named))

-- The rest of a list from the place `step` places further on, as the code counts it.
pub next_behind : {X : Type 0} (at step n len : ℕ) (xs : List X) → n ≡ behind at step len → len ≡ length xs
    → drop n xs ≡ drop step (drop at xs)
next_behind at step n len xs e l = ap (λ m. drop m xs) (e ∙ ap (behind at step) l) ∙ drop_behind at step xs

-- ---- the next request

pub reads_key : (w : Script) (c : Committer) (h : SparingState) → c ≡ Magic
    → get_asks w.dest.bucket (drop h.at h.records) ≡ read_asks c w (drop h.at (places_of c h))
reads_key w c h g = grind arith

pub reads_file : (w : Script) (c : Committer) (h : SparingState) → (c ≡ Magic → ⊥)
    → get_file_asks (drop h.at h.paths) ≡ read_asks c w (drop h.at (places_of c h))
reads_file w c h g = grind arith

-- ---- by the stage

abbrev pub end_at : SparingStage → Option CleanEnd
end_at (stages.Over end) = Some end
end_at _ = None

pub not_over : (stage : SparingStage) → ((end : CleanEnd) → stage ≡ stages.Over end → ⊥) → end_at stage ≡ None
not_over stage h = grind arith

module _ (c : Committer) (h : SparingState) where
  -- The kept values at any stage.
  abbrev kept : SparingStage → Sparing
  kept s = sparing_at s (keys_on h.walk) (places_of c h) (all_of c h) h.keys h.paths h.named h.at

  abbrev there : SparingStage → Bool
  there s = within s (lists_keys c) h.at (length (places_of c h)) (length h.named) (length h.keys) (length h.paths)

  over_by : (s : SparingStage) → there s ≡ true → sparing_over (kept s) ≡ end_at s
  over_by stages.Reading t = some_at (λ ps. sparing_over (reading_from h.named ps (all_of c h)) ≡ None) (λ p ps. refl) h.at (places_of c h)
      t
  over_by stages.Aborting t = some_at (λ us. sparing_over (aborting_from us (all_of c h)) ≡ None) (λ u us. refl) h.at h.named t
  over_by stages.Deleting t = some_at (λ ks. sparing_over (deleting ks) ≡ None) (λ k ks. refl) h.at h.keys t
  over_by stages.Removing t = some_at (λ ps. sparing_over (removing ps) ≡ None) (λ p ps. refl) h.at h.paths t
  over_by _ t = refl

  pub over_is : within_of c h ≡ true → sparing_over (sparing_of c h) ≡ end_at h.stage
  over_is t = over_by h.stage t

  module _ (w : Script) where
    pub asks_at_aborting : h.stage ≡ stages.Aborting → abort_asks w.dest.bucket (drop h.at h.named) ≡ sparing_asks w (sparing_of c h)
    asks_at_aborting h = grind arith

    pub asks_at_deleting : h.stage ≡ stages.Deleting → delete_asks w.dest.bucket (drop h.at h.keys) ≡ sparing_asks w (sparing_of c h)
    asks_at_deleting h = grind arith

    pub asks_at_removing : h.stage ≡ stages.Removing → remove_asks (drop h.at h.paths) ≡ sparing_asks w (sparing_of c h)
    asks_at_removing h = grind arith

    module _ (r : Reply) where
      pub hears_at_reading : h.stage ≡ stages.Reading → within_of c h ≡ true
          → reading_on w.committer (h.named ++ names r) (drop 1 (drop h.at (places_of c h))) (all_of c h) ≡ sparing_hears w (sparing_of c h)
          r
      hears_at_reading e t =
          some_at (λ ps. reading_on w.committer (h.named ++ names r) (drop 1 ps) (all_of c h) ≡ sparing_hears w
          (reading_from h.named ps (all_of c h)) r) (λ p ps. refl) h.at
          (places_of c h) (ap there (sym e) ∙ t)
          ∙ ap (λ s. sparing_hears w (kept s) r) (sym e)

      pub hears_at_aborting : h.stage ≡ stages.Aborting → within_of c h ≡ true
          → aborting w.committer (drop 1 (drop h.at h.named)) (all_of c h) ≡ sparing_hears w (sparing_of c h) r
      hears_at_aborting e t =
          some_at (λ us. aborting w.committer (drop 1 us) (all_of c h) ≡ sparing_hears w (aborting_from us (all_of c h)) r) (λ u us. refl)
          h.at h.named (ap there (sym e) ∙ t)
          ∙ ap (λ s. sparing_hears w (kept s) r) (sym e)
