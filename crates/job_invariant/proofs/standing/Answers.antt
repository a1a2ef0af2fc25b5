use Rattle.job_invariant.proofs.Closing.{attempt_closes, attempt_reverts, clean_closes, commit_closes, reverts_start}
use Rattle.job_invariant.proofs.JobCommitting.{commit_drives}
use Rattle.job_invariant.proofs.Remaining.{commit_begins, commit_done, commit_never, driver_stood, other_stood, own_stands, stands_kept}
use Rattle.job_invariant.proofs.Remaining.{strange_stood, write_begins, write_never}
use Rattle.job_invariant.specs.Standing.{HasPublished}
use Rattle.std.proofs.lemmas.Bool.{false≢true}
use Rattle.job_invariant.proofs.standing.Goals as goal

pub returns : goal.returns
returns c = record {
  closes = record {
    begins = λ v c id e. absurd (false≢true e);
    starts = λ w m. reverts_start w m.publish_sent m.drawn;
    commit = λ g j s m h closed c f t v r e n o. commit_closes g j s m h closed c f t v r e n o;
    clean = λ w m t h r e n timely o. clean_closes m n timely r o;
    attempt = λ g m a op fits r e n o. (attempt_closes g m a op fits r e o, attempt_reverts g m a op fits r e o);
  };
  gone = record {
    write = write_begins;
    commit = λ w j s a. commit_begins (HasPublished s a.task) w j s a;
    goes = own_stands;
    others = λ g j k s m a b n h d e ne op fits r x o. stands_kept (other_stood g j k s m a b n h.there d e ne op fits r x o);
    driver = λ g j k s m a n h c fits r e o. stands_kept (driver_stood g.script j k s a n h.there r
        (commit_drives g.script g.minimum k s m n j h c fits r e) o);
    strangers = λ w minimum j k s m a n h r f o. stands_kept (strange_stood w j k s a n h.there r m.drawn f o);
    never_write = write_never;
    never_commit = commit_never;
    published = commit_done;
  };
}
