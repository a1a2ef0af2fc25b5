use Rattle.std.specs.Prelude.{◌≡◌, ◌≤◌, ℕ, Bool, List, false, length, nat_lt, OnOk}
use Rattle.s3a_shell.specs.Doings.{FileOrNot, most_input}
use Rattle.s3a_shell.specs.inner.Sendings.{Asked}
use Rattle.s3a_shell.proofs.Joining.{sent_none}
use Rattle.s3a_shell.proofs.Performing.{on_ok, none_stands}
use Rattle.s3a_shell.proofs.Asking.{asked_none}
use Rattle.s3a_shell.specs.Asking.{PutSends, PutSendsUnless}
use Rattle.std.proofs.Common.{refl, arith, subst, sym}
use Rattle.s3a_shell.proofs.Few.{few_none}
use Rattle.s3a_shell.specs.Most.{most_put}
use Rattle.s3a_shell.proofs.session.Session.put.Goals as goal

-- An input of at most `most_input` bytes is not refused.
is_small : (bytes lent : List ℕ) → lent ≡ bytes → length lent ≤ most_input → false ≡ nat_lt most_input (length bytes)
is_small bytes lent same few = grind arith

pub returns-then-as_slice-gt-MOST_INPUT-clause-sent :
    goal.returns-then-as_slice-gt-MOST_INPUT-clause-sent
returns-then-as_slice-gt-MOST_INPUT-clause-sent c =
    let z = c.args.self.now.store.scene in
    on_ok c.refusing.result (sent_none (FileOrNot c.args.policy c.args.path.now c.args.bytes.now z) c.args.self.now c.requires
    (none_stands c.args.policy c.args.path.now c.args.bytes.now z))

pub returns-then-as_slice-gt-MOST_INPUT-clause-asked :
    goal.returns-then-as_slice-gt-MOST_INPUT-clause-asked
returns-then-as_slice-gt-MOST_INPUT-clause-asked c =
    on_ok c.refusing.result (asked_none
    (PutSends c.args.path.now c.args.bytes.now c.args.overwrite c.args.policy c.args.self.now.store.scene) c.args.self.now
    c.args.self.now refl)

pub returns-clause-asked : goal.returns-clause-asked
returns-clause-asked c =
    let sends = λ (b : Bool). PutSendsUnless b c.args.path.now c.args.bytes.now c.args.overwrite c.args.policy c.args.self.now.store.scene
    in
    subst (λ (b : Bool). OnOk c.create.result (Asked (sends b) c.args.self.now c.create.new.self))
    (is_small c.args.bytes.now c.as_slice.result.now c.as_slice.ensures c.if-as_slice-gt-MOST_INPUT.false) c.create.ensures.asked

pub returns-then-as_slice-gt-MOST_INPUT-clause-few :
    goal.returns-then-as_slice-gt-MOST_INPUT-clause-few
returns-then-as_slice-gt-MOST_INPUT-clause-few c =
    on_ok c.refusing.result (few_none (most_put c.args.path.now c.args.bytes.now) c.args.self.now.journal.entries)
