use Rattle.twin_facts.proofs.Changes.{commit_shows, setup_shows, attempt_shows, check_shows, sparing_shows}
use Rattle.twin_facts.proofs.shown.Goals as goal

pub returns : goal.returns
returns c = record {
  commit = commit_shows;
  others = record {
    setup = λ g j s r h o q p. setup_shows g j s r h o q p;
    attempts = λ g j s m h a d op f r e o q p. attempt_shows g j s m h a d op f r e o q p;
    check = λ g j s x r e o. check_shows g j s x r e o;
    sparing = λ g j s m h x f r e o q p. sparing_shows g j s m h x f r e o q p;
  };
}
