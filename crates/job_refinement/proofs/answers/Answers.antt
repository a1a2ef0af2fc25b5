use Rattle.job_spec.proofs.Told.{last_still}
use Rattle.job_refinement.proofs.Attempts.{write_due, commit_due, abort_due}
use Rattle.job_refinement.proofs.Drivers.{setup_due, clean_due, check_due, job_due}
use Rattle.job_refinement.proofs.Committed.{commits_begin, commits_go, still_unclean, commits_beside, commits_foreign}
use Rattle.job_refinement.proofs.Kept.{reads_begin, reads_go, set_stands}
use Rattle.job_refinement.proofs.answers.Goals as goal

pub returns : goal.returns
returns c = record {
  fit = record {
    write = λ w minimum s last m j f a k e t fits. write_due w minimum s last m j f a k e t fits;
    commit = λ w minimum s last m j f few a k e t fits own. commit_due w minimum s last m j f a k e few t fits own;
    abort = abort_due;
    clean = clean_due;
    check = check_due;
    setup = setup_due;
    job_commit = λ w minimum s m c j v few stands picked r e o honest. job_due w minimum s m j few c v stands picked r e o honest;
  };
  keep = record {
    reads_begin = reads_begin;
    reads_go = reads_go;
    stands = set_stands;
    published = last_still;
  };
  commits = record {
    begins = commits_begin;
    goes = commits_go;
    unclean = still_unclean;
    attempts = commits_beside;
    strangers =
        commits_foreign;
  };
}
