use Rattle.job_invariant.proofs.Beside.{beside, job_commit_begins}
use Rattle.job_invariant.proofs.Driving.{driving_keeps}
use Rattle.job_invariant.proofs.Cleaning.{clean_keeps, clean_goes, clean_shows}
use Rattle.job_invariant.proofs.JobCommitting.{commit_drives, commit_fits}
use Rattle.job_invariant.proofs.driver.Goals as goal

pub returns : goal.returns
returns c = record {
  keep = driving_keeps;
  commit = record {
    begins = job_commit_begins;
    goes = λ g j k s m n h few c f r e o honest. record {
      hold = driving_keeps g.script g.minimum k s m n r o j (commit_drives g.script g.minimum k s m n j h c f r e) h;
      fits = commit_fits g.script g.minimum k s m n j h c f few r e o honest;
    };
    beside = λ g m a op fits r e n o c h. beside g m a op fits r e o c h;
  };
  clean = λ g j k s m n h timely t fits r e o honest. record {
    hold = clean_keeps g.script g.minimum k s m n j h t.operation fits r e o;
    fits = clean_goes g.script g.minimum k s m n j h timely g.script.retries t.spare t.repeated t.operation fits r e o honest;
    shows = clean_shows g.script g.minimum k s m n j h t.operation fits r e o;
  };
}
