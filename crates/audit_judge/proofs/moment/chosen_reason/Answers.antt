use Rattle.std.proofs.Common.{◌∙◌, ap, List, Some, sym, ℕ}
use Rattle.judging.specs.Judging.{StillExplains}
use Rattle.audit_judge.proofs.Deciding.{fitting_of, foreign_right, lost_right, marked_from, stale_right, torn_right, unmarked_from}
use Rattle.audit_judge.specs.Bench.{claim, opened}
use Rattle.audit_judge.specs.Deciding.{bench_of}
use Rattle.audit_judge.proofs.moment.chosen_reason.Goals as goal

pub returns-in-Some : goal.returns-in-Some
returns-in-Some c = record {
  right = λ m f. foreign_right c.args.known.now c.args.begun c.args.was c.args.marker c.args.needed c.args.rows.now.items f.before
      m
      c.args.changes.now f.follows f.shown c.requires.rising c.requires.old c.requires.calm
      c.requires.tasks c.in_ok-clone-in-Some.field-0
      c.args.rows.now.items (sym c.in-Some.ensures.first ∙ ap (λ (p : List ℕ). Some p) (sym c.in_ok-clone-in-Some.ensures.cases));
}

pub returns-in-Some-first_changed : goal.returns-in-Some-first_changed
returns-in-Some-first_changed c = record {
  right = λ m f. lost_right c.args.known.now c.args.begun c.args.was c.args.marker c.args.needed c.args.rows.now.items f.before
      m
      c.args.changes.now f.follows f.shown c.requires.rising c.requires.old c.requires.calm
      c.requires.tasks (sym c.in-None.ensures.first)
      c.in_ok-clone-in-Some-first_changed.field-0 c.args.rows.now.items
      (sym c.in-Some-first_changed.ensures.first ∙ ap (λ (p : List ℕ). Some p) (sym c.in_ok-clone-in-Some-first_changed.ensures.cases));
}

pub narrow_changes-requires-clause-places : goal.narrow_changes-requires-clause-places
narrow_changes-requires-clause-places c =
    let b = bench_of c.args.known.now c.args.begun c.args.was c.args.needed c.args.rows.now.items c.requires.follows.1.before in
    fitting_of (StillExplains (claim b) (opened b) c.requires.follows.0) c.args.known.now.claimed.listed c.args.rows.now.items
    c.requires.follows.1.follows.candidates

pub returns-in-Some-narrow_changes : goal.returns-in-Some-narrow_changes
returns-in-Some-narrow_changes c = record {
  right = λ m f. torn_right c.args.known.now c.args.begun c.args.was c.args.marker c.args.needed c.args.rows.now.items f.before
      m
      c.args.changes.now f.follows f.shown c.requires.rising c.requires.old c.requires.calm
      c.requires.tasks (sym c.in-None.ensures.first)
      (sym c.in-None-first_changed.ensures.first) c.in-Some-narrow_changes.task c.args.rows.now.items
      (sym c.in-Some-narrow_changes.ensures.least);
}

pub returns-in-Some-first_stale : goal.returns-in-Some-first_stale
returns-in-Some-first_stale c = record {
  right = λ m f. stale_right c.args.known.now c.args.begun c.args.was c.args.marker c.args.needed c.args.rows.now.items f.before
      m
      c.args.changes.now f.follows f.shown c.requires.rising c.requires.old c.requires.calm
      c.requires.tasks (sym c.in-None.ensures.first)
      (sym c.in-None-first_changed.ensures.first) (sym c.in-None-narrow_changes.ensures.least) c.in_ok-clone-in-Some-first_stale.field-0
      c.args.rows.now.items
      (sym c.in-Some-first_stale.ensures.stale ∙ ap (λ (p : List ℕ). Some p) (sym c.in_ok-clone-in-Some-first_stale.ensures.cases));
}

pub returns-in_ok-reason-in-New : goal.returns-in_ok-reason-in-New
returns-in_ok-reason-in-New c = record {
  right = λ m f. marked_from c.args.known.now c.args.begun c.args.was c.args.marker c.args.needed c.args.rows.now.items f.before
      m
      c.args.changes.now f.follows f.shown c.requires.rising c.requires.old c.requires.calm
      c.requires.tasks
      (sym c.in-None.ensures.first) (sym c.in-None-first_changed.ensures.first) (sym c.in-None-narrow_changes.ensures.least)
      (sym c.in-None-first_stale.ensures.stale) c.in-New.is c.in_ok-reason-in-New.reason
      c.narrow_changes.new.rows.items c.marked_reason.new.rows.items c.narrow_changes.ensures.after c.in_ok-reason-in-New.ensures.reason
      c.marked_reason.ensures.after;
}

pub returns-in_default : goal.returns-in_default
returns-in_default c = record {
  right = λ m f. unmarked_from c.args.known.now c.args.begun c.args.was c.args.marker c.args.needed c.args.rows.now.items f.before
      m
      c.args.changes.now f.follows f.shown c.requires.rising c.requires.old c.requires.calm
      c.requires.tasks
      (sym c.in-None.ensures.first) (sym c.in-None-first_changed.ensures.first) (sym c.in-None-narrow_changes.ensures.least)
      (sym c.in-None-first_stale.ensures.stale) c.narrow_changes.new.rows.items
      c.narrow_changes.ensures.after c.in_default.not-New;
}
