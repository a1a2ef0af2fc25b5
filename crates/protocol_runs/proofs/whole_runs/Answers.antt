use Rattle.protocol_runs.proofs.Entries.{sees, tells_so, always, late_now, untouched_now, reverted_now}
use Rattle.protocol_runs.proofs.Changes.{runs_rename, runs_outside}
use Rattle.protocol_runs.proofs.Published.{has_published}
use Rattle.protocol_runs.proofs.whole_runs.Goals as goal

pub returns : goal.returns
returns c = record {
  keep = λ g j k opening is_opening es x run. record {
    seen = sees g k opening j is_opening es x run;
    told = tells_so g k opening j is_opening es x run;
    hold = λ set. (late_now g k opening j is_opening es x run set).hold;
    always = always g k opening j is_opening es x run;
    entries = runs_rename g k opening j is_opening es x run;
    outside = runs_outside g k opening j is_opening es x run;
    published = has_published g k opening j is_opening es x run;
    untouched = untouched_now g k opening j is_opening es x run;
    reverted = reverted_now g k opening j is_opening es x run;
  };
}
