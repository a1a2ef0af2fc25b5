-- Places among uploads and paths.
use Rattle.text_and_lists.proofs.Naturals.{below_is, below_not}
use Rattle.cleanup.specs.Held.{aborting_from, clean_at}
use Rattle.cleanup.specs.inner.Held.{abort_stage, stage_after, within}
use Rattle.cleanup.specs.inner.Places.{abort_asks, behind, remove_asks}
use Rattle.cleanup.specs.declared.clean_state.CleanStage.{CleanStage}
use Rattle.job_model.specs.JobScript.{Script}
use Rattle.job_model.specs.declared.ends.CleanEnd.{CleanEnd}
use Rattle.job_protocol.specs.Cleanups.{Clean, aborted, aborting, clean_asks, clean_hears, clean_over, removing}
use Rattle.list_walk.specs.Walks.{Sweep, sweep_start}
use Rattle.s3_types.specs.declared.reply.Reply.{Reply}
use Rattle.s3_types.specs.declared.request.Committer.{Committer}
use Rattle.s3_types.specs.declared.request.Committer.TheVariants.{Magic}
use Rattle.s3_types.specs.declared.request.UploadRef.{UploadRef}
use Rattle.std.proofs.Common.{List, None, Option, Some, ap, arith, cond, drop, false, length, length-drop, nat_lt, refl, sym, true, ℕ, []}
use Rattle.std.proofs.Common.{◌-◌, ◌<◌, ◌∙◌, ◌∷◌, ◌≡◌}
use Rattle.std.proofs.lemmas.List.{drop-drop, drop_all}
use Rattle.cleanup.specs.declared.clean_state.CleanStage.TheVariants as stages

-- A fact about each list with a first item holds for each list that has items.
pub some_so : {X : Type 0} (P : List X → Type 0) → ((x : X) (xs : List X) → P (x ∷ xs)) → (xs : List X) → 0 < length xs → P xs
some_so P h [] some = absurd (omega arith)
some_so P h (x ∷ xs) some = h x xs

-- The same fact holds for the rest of a list from an index in range on.
pub some_at : {X : Type 0} (P : List X → Type 0) → ((x : X) (xs : List X) → P (x ∷ xs)) → (at : ℕ) (xs : List X)
    → nat_lt at (length xs) ≡ true → P (drop at xs)
some_at P h at xs t = let i = below_is at (length xs) t in some_so P h (drop at xs) (omega (arith, i, length-drop at xs))

-- ---- uploads

-- The clean that aborts the uploads from a place on, and then goes on.
pub aborts_from : (c : Committer) (found : List UploadRef) (paths : List (List ℕ)) (at : ℕ)
    → clean_at (abort_stage c at (length found)) found sweep_start paths at ≡ aborting c (drop at found)
aborts_from c found paths at =
    (elim (nat_lt at (length found)) as
    (λ b. nat_lt at (length found) ≡ b → clean_at (cond b stages.Aborting (stage_after c)) found sweep_start paths at ≡ aborting c
    (drop at found)) [
      | true ↦ λ t. some_at (λ l. aborting_from l ≡ aborting c l) (λ u us. refl) at found t
      | false ↦ λ t. (elim c as (λ c. clean_at (stage_after c) found sweep_start paths at ≡ aborted c) [ Magic ↦ refl | _ ↦ refl ]) ∙ sym
          (ap (aborting c) (drop_all at found (below_not at (length found) t)))
    ]) refl

-- ---- one after another

-- The rest of a list from the place `step` places further on.
pub drop_behind : {X : Type 0} (at step : ℕ) (xs : List X) → drop (behind at step (length xs)) xs ≡ drop step (drop at xs)
drop_behind at step xs = grind (arith, drop-drop, below_not, drop_all)

pub abort_goes : (w : Script) (r : Reply) (found : List UploadRef) (at : ℕ) → nat_lt at (length found) ≡ true
    → aborting w.committer (drop (behind at 1 (length found)) found) ≡ clean_hears w (aborting_from (drop at found)) r
abort_goes w r found at t =
    ap (aborting w.committer) (drop_behind at 1 found) ∙ some_at (λ l. aborting w.committer (drop 1 l) ≡ clean_hears w (aborting_from l) r)
    (λ u us. refl) at found t

pub remove_goes : (w : Script) (r : Reply) (paths : List (List ℕ)) (at : ℕ) → nat_lt at (length paths) ≡ true
    → removing (drop (behind at 1 (length paths)) paths) ≡ clean_hears w (removing (drop at paths)) r
remove_goes w r paths at t = ap removing (drop_behind at 1 paths) ∙ some_at (λ l. removing (drop 1 l) ≡ clean_hears w (removing l) r)
    (λ p ps. refl) at paths t

-- ---- none of these is over

abbrev pub end_at : CleanStage → Option CleanEnd
end_at (stages.Over end) = Some end
end_at _ = None

pub over_is : (stage : CleanStage) (found : List UploadRef) (sweep : Sweep) (paths : List (List ℕ)) (at : ℕ)
    → within stage at (length found) (length paths) ≡ true → clean_over (clean_at stage found sweep paths at) ≡ end_at stage
over_is stages.Aborting found sweep paths at t = some_at (λ l. clean_over (aborting_from l) ≡ None) (λ u us. refl) at found t
over_is stages.Removing found sweep paths at t = some_at (λ l. clean_over (removing l) ≡ None) (λ p ps. refl) at paths t
over_is _ found sweep paths at t = refl

-- ---- requests

-- The requests of a clean by its stage.
pub asks_aborting : (w : Script) (l : List UploadRef) → clean_asks w (aborting_from l) ≡ abort_asks w.dest.bucket l
asks_aborting w l = grind arith

pub asks_removing : (w : Script) (l : List (List ℕ)) → clean_asks w (removing l) ≡ remove_asks l
asks_removing w l = grind arith

-- ---- the steps, with the stage given by an equation

pub hears_aborting : (w : Script) (r : Reply) (stage : CleanStage) (found : List UploadRef) (sweep : Sweep) (paths : List (List ℕ))
    (at n : ℕ)
    (c : Committer) (new : Clean)
    → stage ≡ stages.Aborting → within stage at (length found) (length paths) ≡ true → n ≡ behind at 1 (length found) → c ≡ w.committer
    → new ≡ aborting c (drop n found) → new ≡ clean_hears w (clean_at stage found sweep paths at) r
hears_aborting w r stage found sweep paths at n c new h g e f p = grind (arith, abort_goes)

pub asks_at_aborting : (w : Script) (stage : CleanStage) (found : List UploadRef) (sweep : Sweep) (paths : List (List ℕ)) (at : ℕ)
    → stage ≡ stages.Aborting → abort_asks w.dest.bucket (drop at found) ≡ clean_asks w (clean_at stage found sweep paths at)
asks_at_aborting w stage found sweep paths at h = sym (ap (λ s. clean_asks w (clean_at s found sweep paths at)) h ∙ asks_aborting w
    (drop at found))

pub asks_at_removing : (w : Script) (stage : CleanStage) (found : List UploadRef) (sweep : Sweep) (paths : List (List ℕ)) (at : ℕ)
    → stage ≡ stages.Removing → remove_asks (drop at paths) ≡ clean_asks w (clean_at stage found sweep paths at)
asks_at_removing w stage found sweep paths at h = sym (ap (λ s. clean_asks w (clean_at s found sweep paths at)) h ∙ asks_removing w
    (drop at paths))

pub not_over : (stage : CleanStage) → ((end : CleanEnd) → stage ≡ stages.Over end → ⊥) → end_at stage ≡ None
not_over stage h = grind arith
