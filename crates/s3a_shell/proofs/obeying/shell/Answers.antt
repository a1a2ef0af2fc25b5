use Rattle.machine.specs.Counted.{AreAnswered}
use Rattle.machine.specs.Turns.{AreBy}
use Rattle.s3_service.specs.Ids.{AreBelow}
use Rattle.s3_types.specs.Moment.{IsHonest, moment}
use Rattle.s3_types.specs.Store.{Scene, opening}
use Rattle.s3_types.specs.declared.request.Actor.TheVariants.{Shell}
use Rattle.s3a_shell.proofs.Asking.{all_asked}
use Rattle.s3a_shell.proofs.Ending.{all_answered, all_by, all_honest, all_moments, content_at, did_at, ended_at, only_at, same_at}
use Rattle.s3a_shell.proofs.Ending.{undone_at}
use Rattle.s3a_shell.proofs.Few.{all_few}
use Rattle.s3a_shell.specs.Asking.{MaySend}
use Rattle.s3a_shell.specs.Doings.{Does, MayStandAt, only_looks}
use Rattle.s3a_shell.specs.Most.{most_requests}
use Rattle.s3a_shell.specs.Sendings.{has_changed}
use Rattle.s3a_shell.specs.Stays.{OnlyIn, bucket_in, ended_by}
use Rattle.s3a_shell.specs.declared.obeying.ShellEnd.{ShellEnd}
use Rattle.std.proofs.Common.{None, ap, false, length, subst, sym, true, ℕ, ◌∙◌, ◌≡◌, ◌≤◌}
use Rattle.std.specs.List.{AllByRecursion}
use Rattle.store_frame.specs.Held.{upload_at}
use Rattle.s3a_shell.proofs.obeying.shell.Goals as goal

pub returns-in-Ok-clause-did : goal.returns-in-Ok-clause-did
returns-in-Ok-clause-did c =
    subst (λ (end : ShellEnd). Does c.args.command.now c.args.bytes (opening c.args.service)
    (record { refused = end.refused; text = end.text }) (moment c.args.service end.journal.entries (length end.journal.entries)))
    (sym c.ended.ensures.end)
    (did_at _ c.args.service _ _ _ _ c.new-session.ensures.entries c.new-session.ensures.scene c.in-Ok.ensures.sent.sends c.args.command.now
    c.args.bytes c.in-Ok.said c.in-Ok.ensures.did)

pub returns-in-Ok-clause-content : goal.returns-in-Ok-clause-content
returns-in-Ok-clause-content c =
    subst (λ (end : ShellEnd). end.service ≡ (moment c.args.service end.journal.entries (length end.journal.entries)).content)
    (sym c.ended.ensures.end)
    (content_at _ c.args.service _ _ _ _ c.new-session.ensures.entries c.new-session.ensures.scene c.in-Ok.ensures.sent.sends)

pub returns-in-Ok-clause-by : goal.returns-in-Ok-clause-by
returns-in-Ok-clause-by c =
    subst (λ (end : ShellEnd). AreBy Shell 0 end.journal.entries) (sym c.ended.ensures.end)
    (all_by _ c.args.service _ _ _ _ c.new-session.ensures.entries c.new-session.ensures.scene c.in-Ok.ensures.sent.sends)

pub returns-in-Ok-clause-answered : goal.returns-in-Ok-clause-answered
returns-in-Ok-clause-answered c =
    subst (λ (end : ShellEnd). AreAnswered end.journal.entries) (sym c.ended.ensures.end)
    (all_answered _ c.args.service _ _ _ _ c.new-session.ensures.entries c.new-session.ensures.scene c.in-Ok.ensures.sent.sends)

pub returns-in-Ok-clause-honest : goal.returns-in-Ok-clause-honest
returns-in-Ok-clause-honest c =
    subst (λ (end : ShellEnd). IsHonest c.args.service end.journal.entries) (sym c.ended.ensures.end)
    (all_honest _ c.args.service _ _ _ _ c.new-session.ensures.entries c.new-session.ensures.scene c.in-Ok.ensures.sent.sends)

pub returns-in-Ok-clause-moments : goal.returns-in-Ok-clause-moments
returns-in-Ok-clause-moments c =
    subst (λ (end : ShellEnd). (m : ℕ) → MayStandAt c.args.command.now c.args.bytes (opening c.args.service)
    (moment c.args.service end.journal.entries m)) (sym c.ended.ensures.end)
    (subst (λ (z : Scene). (m : ℕ) → MayStandAt c.args.command.now c.args.bytes z (moment c.args.service c.obey.new.self.journal.entries m))
    c.new-session.ensures.scene
    (all_moments _ c.args.service _ _ _ _ c.new-session.ensures.entries c.new-session.ensures.scene c.in-Ok.ensures.sent.sends))

pub returns-in-Ok-clause-same : goal.returns-in-Ok-clause-same
returns-in-Ok-clause-same c =
    subst (λ (end : ShellEnd). end.changed ≡ false → end.service ≡ c.args.service) (sym c.ended.ensures.end)
    (same_at _ c.args.service _ _ _ _ c.new-session.ensures.entries c.new-session.ensures.scene c.in-Ok.ensures.sent.sends)

pub returns-in-Ok-clause-stays : goal.returns-in-Ok-clause-stays
returns-in-Ok-clause-stays c =
    subst (λ (end : ShellEnd). OnlyIn (bucket_in c.args.command.now) (ended_by c.args.command.now c.args.service) c.args.service
    end.service) (sym c.ended.ensures.end)
    (only_at _ c.args.service _ _ _ _ c.new-session.ensures.entries c.new-session.ensures.scene c.in-Ok.ensures.sent.sends
    c.args.command.now c.args.bytes c.in-Ok.said c.in-Ok.ensures.did)

pub returns-in-Ok-clause-refused : goal.returns-in-Ok-clause-refused
returns-in-Ok-clause-refused c =
    subst (λ (end : ShellEnd). end.refused ≡ true → end.service ≡ c.args.service) (sym c.ended.ensures.end)
    (undone_at _ c.args.service _ _ _ _ c.new-session.ensures.entries c.new-session.ensures.scene c.in-Ok.ensures.sent.sends
    c.args.command.now c.args.bytes c.in-Ok.said c.in-Ok.ensures.did)

pub returns-in-Ok-clause-ended : goal.returns-in-Ok-clause-ended
returns-in-Ok-clause-ended c =
    subst (λ (end : ShellEnd). (id : ℕ) → c.args.service.next ≤ id → upload_at end.service (bucket_in c.args.command.now) id ≡ None)
    (sym c.ended.ensures.end)
    (ended_at _ c.args.service _ _ _ _ c.new-session.ensures.entries c.new-session.ensures.scene c.in-Ok.ensures.sent.sends
    c.args.command.now c.args.bytes c.in-Ok.said c.in-Ok.ensures.did c.new-session.ensures.below
    (subst (λ (end : ShellEnd). AreBelow end.service.buckets end.service.next) c.ended.ensures.end c.ended.ensures.below))

pub returns-in-Ok-clause-reads : goal.returns-in-Ok-clause-reads
returns-in-Ok-clause-reads c =
    subst (λ (end : ShellEnd). only_looks c.args.command.now ≡ true → end.changed ≡ false) (sym c.ended.ensures.end)
    (λ e. c.in-Ok.ensures.reads e ∙ ap has_changed c.new-session.ensures.entries)

pub returns-in-Ok-clause-asked : goal.returns-in-Ok-clause-asked
returns-in-Ok-clause-asked c =
    subst (λ (end : ShellEnd). AllByRecursion (λ e. MaySend c.args.command.now c.args.bytes (opening c.args.service) e.request)
    end.journal.entries) (sym c.ended.ensures.end)
    (all_asked c.args.command.now c.args.bytes c.args.service c.new-session.result c.obey.new.self c.new-session.ensures.entries
    c.new-session.ensures.scene c.in-Ok.ensures.asked)

pub returns-in-Ok-clause-few : goal.returns-in-Ok-clause-few
returns-in-Ok-clause-few c =
    subst (λ (end : ShellEnd). length end.journal.entries ≤ most_requests c.args.command.now c.args.bytes (opening c.args.service))
    (sym c.ended.ensures.end)
    (all_few c.args.command.now c.args.bytes c.args.service c.new-session.result c.obey.new.self c.new-session.ensures.entries
    c.new-session.ensures.scene c.in-Ok.ensures.few)
