use Rattle.std.proofs.Common.{◌∙◌, ap, List, Some, sym, ℕ}
use Rattle.audit_judge.proofs.Deciding.{calm_right, early_right, missing_right, tasks_right, unneeded_right}
use Rattle.audit_judge.proofs.moment.find_reason.Goals as goal

pub returns-in-Some : goal.returns-in-Some
returns-in-Some c = record {
  right = λ m f. early_right c.args.known.now c.args.begun c.args.was c.args.marker c.args.needed.now c.args.rows.now.items f.before
      m
      c.args.changes.now f.follows f.shown c.requires.rising c.requires.old
      c.in_ok-clone-in-Some.field-0 c.args.needed.now c.args.rows.now.items
      (sym c.in-Some.ensures.early ∙ ap (λ (p : List ℕ). Some p) (sym c.in_ok-clone-in-Some.ensures.cases));
}

pub returns-in-Calm : goal.returns-in-Calm
returns-in-Calm c = record {
  right = λ m f. unneeded_right c.args.known.now c.args.begun c.args.was c.args.marker c.args.needed.now c.args.rows.now.items
      f.before m
      c.args.changes.now f.follows f.shown c.requires.rising c.requires.old
      c.in-Calm.ensures.need.0 c.in-Calm.ensures.need.1 c.in-Calm.ensures.need.2;
}

pub returns-in-Missing : goal.returns-in-Missing
returns-in-Missing c = record {
  right = λ m f. missing_right c.args.known.now c.args.begun c.args.was c.args.marker c.args.needed.now c.args.rows.now.items f.before
      m
      c.args.changes.now f.follows f.shown c.requires.rising c.requires.old
      (calm_right c.args.known.now c.args.begun c.args.was c.args.marker c.args.needed.now c.args.rows.now.items f.before
      m
      c.args.changes.now f.follows f.shown c.requires.rising c.requires.old
      (sym c.in-None.ensures.early)) c.in-Missing.task c.args.needed.now c.args.rows.now.items c.in-Missing.ensures.need.1
      c.in-Missing.ensures.need.2 c.in-Missing.ensures.need.3;
}

pub chosen_reason-requires : goal.chosen_reason-requires
chosen_reason-requires c = record {
  started = c.requires.started;
  follows = c.requires.follows;
  rising = c.requires.rising;
  old = c.requires.old;
  calm = calm_right c.args.known.now c.args.begun c.args.was c.args.marker c.args.needed.now c.args.rows.now.items
      c.requires.follows.1.before c.requires.follows.0 c.args.changes.now c.requires.follows.1.follows c.requires.follows.1.shown
      c.requires.rising c.requires.old (sym c.in-None.ensures.early);
  tasks = tasks_right c.args.known.now c.args.begun c.args.was c.args.marker c.args.needed.now c.args.rows.now.items
      c.requires.follows.1.before c.requires.follows.0 c.args.changes.now c.requires.follows.1.follows c.requires.follows.1.shown
      c.requires.rising c.requires.old c.in-Choice.ensures.need;
}
