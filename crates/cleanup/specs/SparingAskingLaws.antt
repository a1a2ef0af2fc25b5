-- The state of a sparing clean.
use Rattle.cleanup.specs.SparingFits.{FitsSparingDriving, sparing_standing, sparing_standing_of}
use Rattle.job_model.specs.Jobs.{Job}
use Rattle.job_protocol.specs.AtWork.{job_script, sparing_told, sparing_wants}
use Rattle.job_protocol.specs.Sparing.{Aborting, Deleting, Naming, Reading, Removing, Sparing, SparingOver, Walking, aborting, deleting}
use Rattle.job_protocol.specs.Sparing.{names, naming, reading_on, removing, sparing_asks, sparing_hears, sparing_over, walking}
use Rattle.list_walk.specs.Walks.{More, Whole, walked}
use Rattle.machine.specs.Asks.{AskLaws}
use Rattle.machine.specs.Standing.{Fine}
use Rattle.magic_paths.specs.Places.{is_record}
use Rattle.s3_types.specs.declared.reply.Reply.{Reply}
use Rattle.s3_types.specs.declared.reply.Reply.TheVariants.{ClusterNames}
use Rattle.s3_types.specs.declared.request.Committer.{Committer}
use Rattle.s3_types.specs.declared.request.Committer.TheVariants.{Magic}
use Rattle.s3_types.specs.declared.request.Request.{Request}
use Rattle.s3_types.specs.declared.request.UploadRef.{UploadRef}
use Rattle.std.proofs.Common.{refl}
use Rattle.std.specs.List.{filter}
use Rattle.std.specs.Prelude.{List, Some, drop, is_none, is_some, ℕ, [], ◌++◌, ◌∷◌, ◌≡◌}

fine_deleting : (ks : List (List ℕ)) → sparing_standing_of (deleting ks) ≡ Fine
fine_deleting [] = refl
fine_deleting (k ∷ ks) = refl

fine_removing : (ps : List (List ℕ)) → sparing_standing_of (removing ps) ≡ Fine
fine_removing [] = refl
fine_removing (p ∷ ps) = refl

fine_aborting : (c : Committer) (us : List UploadRef) (all : List (List ℕ)) → sparing_standing_of (aborting c us all) ≡ Fine
fine_aborting Magic [] all = fine_deleting all
fine_aborting _ [] all = fine_removing all
fine_aborting c (u ∷ us) all = refl

fine_reading : (c : Committer) (named : List UploadRef) (ps all : List (List ℕ)) → sparing_standing_of (reading_on c named ps all) ≡ Fine
fine_reading c named [] all = fine_aborting c named all
fine_reading c named (p ∷ ps) all = refl

goes_on : (j : Job) (x : Sparing) (r : Request) (a : Reply) → sparing_asks (job_script j) x ≡ Some r
    → sparing_standing_of (sparing_hears (job_script j) x a) ≡ sparing_standing_of x
goes_on j (Walking keys) r a e =
    elim (walked keys a) as (λ x. sparing_standing_of (walking j.committer x) ≡ Fine)
    [ More ks ↦ refl | Whole ks ↦ fine_reading j.committer [] (filter is_record ks) ks ]
goes_on j Naming r a e = elim a as (λ a. sparing_standing_of (naming j.committer a) ≡ Fine)
    [ ClusterNames paths ↦ fine_reading j.committer [] paths paths | _ ↦ refl ]
goes_on j (Reading named p ps all) r a e = fine_reading j.committer (named ++ names a) ps all
goes_on j (Aborting u us all) r a e = fine_aborting j.committer us all
goes_on j (Deleting k ks) r a e = fine_deleting (drop 1000 (k ∷ ks))
goes_on j (Removing p ps) r a e = fine_removing ps
goes_on j (SparingOver end) r a e = refl

-- A sparing clean has a request to send until it is over.
asks_until : (j : Job) (x : Sparing) → is_some (sparing_asks (job_script j) x) ≡ is_none (sparing_over x)
asks_until j (SparingOver end) = refl
asks_until j _ = refl

pub sparing_laws : AskLaws sparing_wants sparing_told FitsSparingDriving (λ m. sparing_over m.operation) sparing_standing
sparing_laws = record {
  ends = λ m. asks_until m.plan m.operation;
  stops = λ m. refl;
  breaks = λ m. refl;
  faults = λ m r e. refl;
  goes_on = λ m r a b e h. goes_on m.plan m.operation r a e;
}
