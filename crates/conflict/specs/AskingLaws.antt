-- The state of a check before a commit.
use Rattle.conflict.specs.Fits.{FitsCheck, standing, standing_of}
use Rattle.conflict.specs.Rechecks.{check_told, check_wants}
use Rattle.job_model.specs.JobScript.{Script}
use Rattle.job_protocol.specs.AtWork.{job_script}
use Rattle.job_protocol.specs.Rechecks.{Check, CheckOver, Looking, Probing, check_asks, check_hears, check_over, looked, probed, probing}
use Rattle.job_protocol.specs.Setup.{first_shown}
use Rattle.list_walk.specs.Walks.{More, Walked, Whole, keys_on, walked}
use Rattle.machine.specs.Asks.{AskLaws}
use Rattle.machine.specs.Standing.{Fine}
use Rattle.s3_types.specs.declared.reply.PageEntry.{PageEntry}
use Rattle.s3_types.specs.declared.reply.Reply.{Reply}
use Rattle.s3_types.specs.declared.reply.Reply.TheVariants.{Page}
use Rattle.s3_types.specs.declared.request.Request.{Request}
use Rattle.std.proofs.Common.{refl}
use Rattle.std.specs.Prelude.{List, None, Option, Some, is_none, is_some, ℕ, [], ◌∷◌, ◌≡◌}

fine_by : (o : Option (List ℕ)) (x : Walked (List ℕ)) → standing_of (looked o x) ≡ Fine
fine_by (Some p) x = refl
fine_by None (More keys) = refl
fine_by None (Whole keys) = refl

fine_probed : (d : List ℕ) (ds : List (List ℕ)) (entries : List PageEntry) → standing_of (probed d ds entries) ≡ Fine
fine_probed d ds [] = elim ds as (λ ds. standing_of (probing ds) ≡ Fine) [ [] ↦ refl | d ∷ ds ↦ refl ]
fine_probed d ds (e ∷ es) = refl

goes_on : (w : Script) (c : Check) (r : Request) (a : Reply) → check_asks w c ≡ Some r → standing_of (check_hears w c a) ≡ standing_of c
goes_on w (Looking keys) r (Page entries more) e = fine_by (first_shown w (keys_on entries)) (walked keys (Page entries more))
goes_on w (Looking keys) r _ e = refl
goes_on w (Probing d ds) r (Page entries more) e = fine_probed d ds entries
goes_on w (Probing d ds) r _ e = refl
goes_on w (CheckOver end) r a e = refl

-- A check has a request to send until it is over.
asks_until : (w : Script) (c : Check) → is_some (check_asks w c) ≡ is_none (check_over c)
asks_until w (CheckOver end) = refl
asks_until w _ = refl

pub check_laws : AskLaws check_wants check_told FitsCheck (λ m. check_over m.operation) standing
check_laws = record {
  ends = λ m. asks_until (job_script m.plan.job) m.operation;
  stops = λ m. refl;
  breaks = λ m. refl;
  faults = λ m r e. refl;
  goes_on = λ m r a b e h. goes_on (job_script m.plan.job) m.operation r a e;
}
