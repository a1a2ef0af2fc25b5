use Rattle.std.specs.Prelude.{length}
use Rattle.fs_rename.proofs.Ended.{given_in, performed_in, few_in}
use Rattle.fs_rename.proofs.rename.Rename.perform.Goals as goal

pub returns-clause-renames : goal.returns-clause-renames
returns-clause-renames g c = given_in c.self.inside.bucket c.self.inside.names c.self.inside.to_bucket c.args.self _ _ _ c.self.view_is
    c.self.invariant c.perform_between.ensures.given

pub returns-clause-performed : goal.returns-clause-performed
returns-clause-performed g c = performed_in c.self.inside.bucket c.self.inside.names c.self.inside.to_bucket c.args.self c.self.view_is
    c.self.invariant.0 c.perform_between.ensures.performed

pub returns-clause-few : goal.returns-clause-few
returns-clause-few g c = λ part e.
    few_in c.self.inside.bucket c.self.inside.names c.self.inside.to_bucket c.args.self (g.S.ObjectStore.scene c.args.store.now)
    (length part) c.args.retries c.self.view_is
    (c.perform_between.ensures.few part e)
