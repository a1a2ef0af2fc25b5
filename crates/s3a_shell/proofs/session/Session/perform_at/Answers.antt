use Rattle.bucket_ops.specs.Asks.{Ask}
use Rattle.bucket_ops.specs.Phases.{AlwaysIn, SendsIn}
use Rattle.s3_types.specs.Store.{Objects, Scene}
use Rattle.s3a_shell.proofs.Few.{few_in}
use Rattle.s3a_shell.proofs.Performing.{asked, sent}
use Rattle.s3a_shell.specs.inner.Sendings.{Asked, Sent}
use Rattle.s3a_shell.specs.declared.session.Session.{Session}
use Rattle.std.proofs.Common.{List, subst, ℕ, ◌∙◌, ◌≡◌}
use Rattle.s3a_shell.proofs.session.Session.perform_at.Goals as goal

in_bucket : (b c : List ℕ) (always : Objects → Objects → Type 0) (z : Scene) (a d : Session) → b ≡ c → Sent (AlwaysIn b always z) a d
    → Sent (AlwaysIn c always z) a d
in_bucket b c always z a d e h = subst (λ (b : List ℕ). Sent (AlwaysIn b always z) a d) e h

pub returns-in-Ok-clause-sent : goal.returns-in-Ok-clause-sent
returns-in-Ok-clause-sent g c =
    in_bucket _ _ (g.O.Phases.always c.args.operation) c.args.self.now.store.scene _ _ (c.in_ok-bucket.ensures.cases ∙ c.bucket.ensures)
    (sent _ _ _ _ _ c.requires.counted c.in-Ok.ensures.performed)

asked_in : (b c : List ℕ) (look : Ask) (sends : Objects → Ask → Type 0) (z : Scene) (a d : Session) → b ≡ c
    → Asked (SendsIn b look sends z) a d → Asked (SendsIn c look sends z) a d
asked_in b c look sends z a d e h = subst (λ (b : List ℕ). Asked (SendsIn b look sends z) a d) e h

pub returns-in-Ok-clause-asked : goal.returns-in-Ok-clause-asked
returns-in-Ok-clause-asked g c =
    asked_in _ _ (g.O.Phases.asks c.args.operation (g.O.Phases.first c.args.operation)) (g.O.Phases.sends c.args.operation)
    c.args.self.now.store.scene _ _ (c.in_ok-bucket.ensures.cases ∙ c.bucket.ensures) (asked _ _ _ _ _ c.in-Ok.ensures.performed)

pub returns-in-Ok-clause-few : goal.returns-in-Ok-clause-few
returns-in-Ok-clause-few g c =
    let done = c.in-Ok.ensures.performed in
    few_in _ _ g.O.Phases.left c.args.operation (g.O.Phases.first c.args.operation) c.args.self.now.store.scene _ _
    (c.in_ok-bucket.ensures.cases ∙ c.bucket.ensures) c.in-Ok.ensures.few done.part done.appended
