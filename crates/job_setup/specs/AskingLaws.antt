-- The state of a set-up.
use Rattle.job_model.specs.JobScript.{Script}
use Rattle.job_model.specs.Jobs.{Job}
use Rattle.job_protocol.proofs.Faults.{if_bucket_so}
use Rattle.job_protocol.specs.AtWork.{job_script, setup_told, setup_wants}
use Rattle.job_protocol.specs.Conflicts.{checks_all}
use Rattle.job_protocol.specs.Setup.{Checking, Clearing, Heading, Setup, SetupOver, Sweeping, checked, checked_by, cleared, first_shown}
use Rattle.job_protocol.specs.Setup.{headed, if_bucket, setup_asks, setup_hears, setup_over, sweeping}
use Rattle.job_setup.specs.Fits.{FitsDriving, standing, standing_of}
use Rattle.list_walk.specs.Walks.{More, Walked, Whole, all_go, keys_on, sweep_hears, walked}
use Rattle.machine.specs.Asks.{AskLaws}
use Rattle.machine.specs.Standing.{Fine}
use Rattle.s3_types.specs.declared.reply.Reply.{Reply}
use Rattle.s3_types.specs.declared.reply.Reply.TheVariants.{Head, Page}
use Rattle.s3_types.specs.declared.request.Committer.TheVariants.{Magic}
use Rattle.s3_types.specs.declared.request.Request.{Request}
use Rattle.std.proofs.Common.{refl}
use Rattle.std.specs.Prelude.{List, None, Option, Some, cond, false, is_none, is_some, true, ℕ, [], ◌≡◌}

fine_headed : (w : Script) (r : Reply) → standing_of (headed w r) ≡ Fine
fine_headed w (Head len header) = refl
fine_headed w _ = elim (checks_all w.committer w.mode) as (λ b. standing_of (cond b (Checking []) Clearing) ≡ Fine)
    [ true ↦ refl | false ↦ refl ]

fine_by : (o : Option (List ℕ)) (x : Walked (List ℕ)) → standing_of (checked_by o x) ≡ Fine
fine_by (Some p) x = refl
fine_by None (More keys) = refl
fine_by None (Whole keys) = refl

fine_checked : (w : Script) (keys : List (List ℕ)) (r : Reply) → standing_of (checked w keys r) ≡ Fine
fine_checked w keys (Page entries more) = fine_by (first_shown w (keys_on entries)) (walked keys (Page entries more))
fine_checked w keys _ = refl

-- A set-up whose next state is fine is fine after a reply that the bucket is missing, too.
fine_if : (r : Reply) (next : Setup) → standing_of next ≡ Fine → standing_of (if_bucket r next) ≡ Fine
fine_if r next h = if_bucket_so (λ c. standing_of c ≡ Fine) r next refl h

goes_on : (j : Job) (c : Setup) (r : Request) (a : Reply) → setup_asks (job_script j) c ≡ Some r
    → standing_of (setup_hears (job_script j) c a) ≡ standing_of c
goes_on j Heading r a e = fine_if a (headed (job_script j) a) (fine_headed (job_script j) a)
goes_on j (Checking keys) r a e = fine_if a (checked (job_script j) keys a) (fine_checked (job_script j) keys a)
goes_on j Clearing r a e = fine_if a (cleared j.committer) (elim j.committer as (λ c. standing_of (cleared c) ≡ Fine)
    [ Magic ↦ refl | _ ↦ refl ])
goes_on j (Sweeping s) r a e = let o = sweep_hears all_go s a in fine_if a (sweeping o)
    (elim o as (λ o. standing_of (sweeping o) ≡ Fine) [ Some w ↦ refl | None ↦ refl ])
goes_on j (SetupOver end) r a e = refl

-- A set-up has a request to send until it is over.
asks_until : (j : Job) (s : Setup) → is_some (setup_asks (job_script j) s) ≡ is_none (setup_over s)
asks_until j (SetupOver end) = refl
asks_until j _ = refl

pub setup_laws : AskLaws setup_wants setup_told FitsDriving (λ m. setup_over m.operation) standing
setup_laws = record {
  ends = λ m. asks_until m.plan m.operation;
  stops = λ m. refl;
  breaks = λ m. refl;
  faults = λ m r e. refl;
  goes_on = λ m r a b e h. goes_on m.plan m.operation r a e;
}
