use Rattle.journal_log.proofs.Steps.{left_at, left_first, left_more, loop_first, loop_more, rest_of, some_grown, stopped_at}
use Rattle.journal_log.specs.Changes.{changes}
use Rattle.std.proofs.Common.{Err, drop, refl, rules, [], ◌∙◌, ◌≡◌}
use Rattle.journal_log.proofs.appends.append_all.Goals as goal

pub loop-entry-init : goal.loop-entry-init
loop-entry-init g c =
    let s = g.F.Shelf in
    let old = c.args.shelf.now in
    record {
      appended = loop_first s.sight [] old c.requires.durable;
      left = left_first s.sight [] old g.met.F.Shelf.timed c.requires.durable;
      takes = c.requires.appends;
      calm = refl;
    }

pub loop-entry-preserved : goal.loop-entry-preserved
loop-entry-preserved g c =
    let s = g.F.Shelf in
    let k = c.loop-entry.invariant in
    let es = rest_of c.as_slice.result.now c.args.from in
    record {
      appended = loop_more s.sight es c.loop-entry.entry-index c.entry-item.result c.args.shelf.now c.loop-entry.shelf
          c.append_entry.new.shelf c.loop-entry-test.true c.entry-item.is k.appended c.in_ok-append_entry.ensures.ok;
      left = left_more s.sight es c.loop-entry.entry-index c.entry-item.result c.args.shelf.now c.loop-entry.shelf c.append_entry.new.shelf
          c.loop-entry-test.true c.entry-item.is k.appended.grown k.left
          c.append_entry.ensures.any_moment;
      takes = c.in_ok-append_entry.ensures.appends (λ e. cc);
      calm = c.in_ok-append_entry.ensures.calm (λ e. cc) ∙ k.calm;
    }

pub returns-in_err-append_entry-clause-stopped : goal.returns-in_err-append_entry-clause-stopped
returns-in_err-append_entry-clause-stopped g c =
    let s = g.F.Shelf in
    let fault = c.in_err-append_entry.field-0.0 in
    let is : c.from_residual.result ≡ Err fault = search rules in
    rw is
    (stopped_at s.sight c.as_slice.result.now c.args.journal.now.entries c.args.from c.loop-entry.entry-index c.entry-item.result fault
    c.args.shelf.now c.loop-entry.shelf c.append_entry.new.shelf
    c.as_slice.ensures.entries c.loop-entry-test.true c.entry-item.is c.loop-entry.invariant.appended c.in_err-append_entry.ensures.err)

pub returns-in_err-append_entry-clause-partly : goal.returns-in_err-append_entry-clause-partly
returns-in_err-append_entry-clause-partly g c =
    let s = g.F.Shelf in
    let fault = c.in_err-append_entry.field-0.0 in
    let is : c.from_residual.result ≡ Err fault = search rules in
    rw is
    (some_grown s.sight fault (changes (drop c.args.from c.args.journal.now.entries)) c.args.shelf.now c.append_entry.new.shelf
    (stopped_at s.sight c.as_slice.result.now c.args.journal.now.entries c.args.from c.loop-entry.entry-index c.entry-item.result fault
    c.args.shelf.now c.loop-entry.shelf c.append_entry.new.shelf
    c.as_slice.ensures.entries c.loop-entry-test.true c.entry-item.is c.loop-entry.invariant.appended c.in_err-append_entry.ensures.err))

pub returns-in_err-append_entry-clause-any_moment : goal.returns-in_err-append_entry-clause-any_moment
returns-in_err-append_entry-clause-any_moment g c =
    let s = g.F.Shelf in
    let k = c.loop-entry.invariant in
    left_at s.sight c.as_slice.result.now c.args.journal.now.entries c.args.from c.loop-entry.entry-index c.entry-item.result
    c.args.shelf.now c.loop-entry.shelf c.append_entry.new.shelf
    c.as_slice.ensures.entries c.loop-entry-test.true c.entry-item.is k.appended.grown k.left c.append_entry.ensures.any_moment
