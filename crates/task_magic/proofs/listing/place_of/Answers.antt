use Rattle.job_model.specs.Jobs.{Task}
use Rattle.std.proofs.Common.{ap, sym, ◌∙◌}
use Rattle.task_magic.proofs.Listed.{no_record_as, path_found, record_as, record_none, record_test}
use Rattle.task_magic.proofs.listing.place_of.Goals as goal

pub returns-in_default-clause-is : goal.returns-in_default-clause-is
returns-in_default-clause-is c = λ j f e. record_none c.args.plan.now f c.args.key.now c.args.prefix.now c.requires
    (no_record_as c.as_str.result.now c.args.prefix.now c.as_str-2.result.now c.args.key.now c.in_default.ensures c.as_str.ensures
    (c.as_str-2.ensures ∙ c.as_text.ensures.text))

pub returns-clause-is : goal.returns-clause-is
returns-clause-is c = λ j f e.
    record_test c.args.plan.now f c.args.key.now c.args.prefix.now c.in_ok-path.path c.requires
    (record_as c.as_str.result.now c.args.prefix.now c.as_str-2.result.now c.args.key.now c.in-Some.path.now c.in_ok-path.path
    c.in-Some.ensures c.as_str.ensures (c.as_str-2.ensures ∙ c.as_text.ensures.text) (sym c.in_ok-path.ensures))
    ∙ path_found c.in_ok-path.path c.held.result.now.entries c.args.plan.now.files c.get_index_of.result j f
    (c.held.ensures ∙ ap (λ (t : Task). t.files) c.plan.view_is) c.get_index_of.ensures.index c.get_index_of.ensures.found
    c.get_index_of.ensures.unique e
