-- The state of a clean.
use Rattle.cleanup.specs.Fits.{FitsDriving, standing, standing_of}
use Rattle.job_model.specs.Jobs.{Job}
use Rattle.job_protocol.specs.AtWork.{clean_told, clean_wants, job_script}
use Rattle.job_protocol.specs.Cleanups.{Aborting, Clean, CleanOver, Naming, Removing, Sweeping, Walking, aborted, aborting, clean_asks}
use Rattle.job_protocol.specs.Cleanups.{clean_hears, clean_over, naming, removing, sweeping, walking}
use Rattle.list_walk.specs.Walks.{More, Whole, all_go, sweep_hears, walked_uploads}
use Rattle.machine.specs.Asks.{AskLaws}
use Rattle.machine.specs.Standing.{Fine}
use Rattle.s3_types.specs.declared.reply.Reply.{Reply}
use Rattle.s3_types.specs.declared.reply.Reply.TheVariants.{ClusterNames}
use Rattle.s3_types.specs.declared.request.Committer.{Committer}
use Rattle.s3_types.specs.declared.request.Committer.TheVariants.{Magic}
use Rattle.s3_types.specs.declared.request.Request.{Request}
use Rattle.s3_types.specs.declared.request.UploadRef.{UploadRef}
use Rattle.std.proofs.Common.{refl}
use Rattle.std.specs.Prelude.{List, None, Some, is_none, is_some, ℕ, [], ◌∷◌, ◌≡◌}

fine_aborting : (c : Committer) (us : List UploadRef) → standing_of (aborting c us) ≡ Fine
fine_aborting c [] = elim c as (λ c. standing_of (aborted c) ≡ Fine) [ Magic ↦ refl | _ ↦ refl ]
fine_aborting c (u ∷ us) = refl

fine_removing : (ps : List (List ℕ)) → standing_of (removing ps) ≡ Fine
fine_removing [] = refl
fine_removing (p ∷ ps) = refl

goes_on : (j : Job) (c : Clean) (r : Request) (a : Reply) → clean_asks (job_script j) c ≡ Some r
    → standing_of (clean_hears (job_script j) c a) ≡ standing_of c
goes_on j (Walking found) r a e = elim (walked_uploads found a) as (λ x. standing_of (walking j.committer x) ≡ Fine)
    [ More us ↦ refl | Whole us ↦ fine_aborting j.committer us ]
goes_on j (Aborting u us) r a e = fine_aborting j.committer us
goes_on j (Sweeping s) r a e = elim (sweep_hears all_go s a) as (λ o. standing_of (sweeping o) ≡ Fine) [ Some w ↦ refl | None ↦ refl ]
goes_on j Naming r a e = elim a as (λ a. standing_of (naming a) ≡ Fine) [ ClusterNames paths ↦ fine_removing paths | _ ↦ refl ]
goes_on j (Removing p ps) r a e = fine_removing ps
goes_on j (CleanOver end) r a e = refl

-- A clean has a request to send until it is over.
asks_until : (j : Job) (c : Clean) → is_some (clean_asks (job_script j) c) ≡ is_none (clean_over c)
asks_until j (CleanOver end) = refl
asks_until j _ = refl

pub clean_laws : AskLaws clean_wants clean_told FitsDriving (λ m. clean_over m.operation) standing
clean_laws = record {
  ends = λ m. asks_until m.plan m.operation;
  stops = λ m. refl;
  breaks = λ m. refl;
  faults = λ m r e. refl;
  goes_on = λ m r a b e h. goes_on m.plan m.operation r a e;
}
