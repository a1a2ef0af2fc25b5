use Rattle.std.proofs.Common.{◌∙◌, ◌<◌, ◌≡◌, ap, cond, length, None, rules, Some, subst, sym, vec_len}
use Rattle.audit_judge.proofs.Loops.{after_is, as_many, empty_here, free_empty, free_narrow, places_are, within}
use Rattle.audit_judge.specs.inner.Scene.{meets}
use Rattle.audit_judge.proofs.narrow.narrow_at.Goals as goal

pub returns-in_default-clause-after : goal.returns-in_default-clause-after
returns-in_default-clause-after c =
    sym (free_narrow (meets c.args.demand c.args.known.now) c.args.path.now c.args.known.now.claimed.listed c.args.rows.now.items
    c.in_default.ensures.free)

pub returns-in_default-clause-empty : goal.returns-in_default-clause-empty
returns-in_default-clause-empty c =
    sym (free_empty c.args.path.now c.args.known.now.claimed.listed c.args.rows.now.items c.in_default.ensures.free)

pub index_mut-flags-requires : goal.index_mut-flags-requires
index_mut-flags-requires c =
    let n : vec_len c.args.rows.now ≡ length c.args.rows.now.items = search rules in
    subst (λ k. c.in-Some.at < k) (sym n) (within (meets c.args.demand c.args.known.now) c.args.path.now c.in-Some.task
    c.in-Some.attempts.now
    c.args.known.now.claimed.listed c.args.rows.now.items c.in-Some.at c.in-Some.ensures.found c.requires.places)

pub narrow_task-requires-clause-places : goal.narrow_task-requires-clause-places
narrow_task-requires-clause-places c =
    as_many (meets c.args.demand c.args.known.now) c.args.path.now c.in-Some.task c.in-Some.attempts.now c.args.known.now.claimed.listed
    c.args.rows.now.items c.in-Some.at c.index_mut-flags.result.now c.in-Some.ensures.found c.requires.places
    c.index_mut-flags.ensures.value

pub returns-then-has_any-clause-after : goal.returns-then-has_any-clause-after
returns-then-has_any-clause-after c = after_is (meets c.args.demand c.args.known.now) c.args.path.now c.in-Some.task c.in-Some.attempts.now
    c.args.known.now.claimed.listed
    c.args.rows.now.items c.in-Some.at c.index_mut-flags.result.now c.narrow_task.new.flags c.requires.good.once c.in-Some.ensures.found
    c.in-Some.ensures.owner c.requires.places c.index_mut-flags.ensures.value c.narrow_task.ensures.after

pub returns-then-has_any-clause-places : goal.returns-then-has_any-clause-places
returns-then-has_any-clause-places c = places_are (meets c.args.demand c.args.known.now) c.args.path.now c.in-Some.task
    c.in-Some.attempts.now c.args.known.now.claimed.listed
    c.args.rows.now.items c.in-Some.at c.index_mut-flags.result.now c.narrow_task.new.flags c.requires.good.once c.in-Some.ensures.found
    c.in-Some.ensures.owner c.requires.places c.index_mut-flags.ensures.value c.narrow_task.ensures.after

pub returns-then-has_any-clause-empty : goal.returns-then-has_any-clause-empty
returns-then-has_any-clause-empty c =
    ap (λ b. cond b None (Some c.in-Some.task)) (sym c.if-has_any.true ∙ c.has_any.ensures.any)
    ∙ sym (empty_here (meets c.args.demand c.args.known.now) c.args.path.now c.in-Some.task c.in-Some.attempts.now
    c.args.known.now.claimed.listed c.args.rows.now.items c.in-Some.at c.narrow_task.new.flags c.requires.good.once c.in-Some.ensures.found
    c.in-Some.ensures.owner c.requires.places)

pub returns-else-has_any-clause-after : goal.returns-else-has_any-clause-after
returns-else-has_any-clause-after c = after_is (meets c.args.demand c.args.known.now) c.args.path.now c.in-Some.task c.in-Some.attempts.now
    c.args.known.now.claimed.listed
    c.args.rows.now.items c.in-Some.at c.index_mut-flags.result.now c.narrow_task.new.flags c.requires.good.once c.in-Some.ensures.found
    c.in-Some.ensures.owner c.requires.places c.index_mut-flags.ensures.value c.narrow_task.ensures.after

pub returns-else-has_any-clause-places : goal.returns-else-has_any-clause-places
returns-else-has_any-clause-places c = places_are (meets c.args.demand c.args.known.now) c.args.path.now c.in-Some.task
    c.in-Some.attempts.now c.args.known.now.claimed.listed
    c.args.rows.now.items c.in-Some.at c.index_mut-flags.result.now c.narrow_task.new.flags c.requires.good.once c.in-Some.ensures.found
    c.in-Some.ensures.owner c.requires.places c.index_mut-flags.ensures.value c.narrow_task.ensures.after

pub returns-else-has_any-clause-empty : goal.returns-else-has_any-clause-empty
returns-else-has_any-clause-empty c =
    ap (λ b. cond b None (Some c.in-Some.task)) (sym c.if-has_any.false ∙ c.has_any.ensures.any)
    ∙ sym (empty_here (meets c.args.demand c.args.known.now) c.args.path.now c.in-Some.task c.in-Some.attempts.now
    c.args.known.now.claimed.listed c.args.rows.now.items c.in-Some.at c.narrow_task.new.flags c.requires.good.once c.in-Some.ensures.found
    c.in-Some.ensures.owner c.requires.places)
