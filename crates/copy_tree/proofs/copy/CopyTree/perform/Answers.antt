use Rattle.std.specs.Prelude.{length}
use Rattle.copy_tree.proofs.Ended.{given_in, performed_in, few_in}
use Rattle.copy_tree.proofs.copy.CopyTree.perform.Goals as goal

pub returns-clause-copies : goal.returns-clause-copies
returns-clause-copies g c = given_in c.self.inside.bucket c.self.inside.names c.self.inside.to_bucket c.args.self _ _ _ c.self.view_is
    c.perform_between.ensures.given

pub returns-clause-performed : goal.returns-clause-performed
returns-clause-performed g c = performed_in c.self.inside.bucket c.self.inside.names c.self.inside.to_bucket c.args.self c.self.view_is
    c.perform_between.ensures.performed

pub returns-clause-few : goal.returns-clause-few
returns-clause-few g c = λ part e.
    few_in c.self.inside.bucket c.self.inside.names c.self.inside.to_bucket c.args.self (g.S.ObjectStore.scene c.args.store.now)
    (length part) c.args.retries c.self.view_is
    (c.perform_between.ensures.few part e)
