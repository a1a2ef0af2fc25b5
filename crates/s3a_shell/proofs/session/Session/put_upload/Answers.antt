use Rattle.log_format.specs.Change.{is_changing}
use Rattle.s3_types.specs.Requests.{only_reads}
use Rattle.s3_types.specs.declared.journal.Entry.{Entry}
use Rattle.s3_types.specs.declared.reply.Reply.{Reply}
use Rattle.s3a_shell.proofs.Asking.{asked_one}
use Rattle.s3a_shell.proofs.Few.{few_one}
use Rattle.s3a_shell.proofs.Joining.{sent_one, sent_read}
use Rattle.s3a_shell.proofs.Looking.{read_same}
use Rattle.s3a_shell.proofs.Performing.{on_ok}
use Rattle.s3a_shell.specs.inner.Sendings.{answered_by}
use Rattle.std.proofs.Common.{List, ap, [], ◌++◌, ◌∙◌, ◌∷◌}
use Rattle.store_frame.proofs.Reading.{reads_nothing}
use Rattle.s3a_shell.proofs.session.Session.put_upload.Goals as goal

pub returns-in-Ok-clause-same : goal.returns-in-Ok-clause-same
returns-in-Ok-clause-same c =
    on_ok c.put_reply-put.result (ap (λ x. x.scene) c.write_down.ensures.store ∙
    (c.in-Ok.ensures.scene ∙ reads_nothing c.args.self.now.store.scene c.in_ok-request.request (ap only_reads c.in_ok-request.ensures)))

pub returns-in-Ok-clause-sent : goal.returns-in-Ok-clause-sent
returns-in-Ok-clause-sent c =
    let r = c.in_ok-request.request in
    let old = c.args.self.now.journal.entries in
    let entries = c.write_down.ensures.entries ∙ (ap (λ (l : List Entry). l ++ answered_by r c.in-Ok.reply ∷ []) c.in-Ok.ensures.entries ∙
    ap (λ (a : Reply). old ++ answered_by r a ∷ []) c.in-Ok.ensures.reply) in
    on_ok c.put_reply-put.result
    (sent_read _ _ r (ap only_reads c.in_ok-request.ensures)
    (sent_one c.args.self.now c.write_down.new.self r c.requires (ap (λ x. x.scene) c.write_down.ensures.store ∙ c.in-Ok.ensures.scene)
    (ap (λ x. x.requests) c.write_down.ensures.store ∙ c.in-Ok.ensures.requests) entries))

pub returns-in-Ok-clause-looks : goal.returns-in-Ok-clause-looks
returns-in-Ok-clause-looks c =
    on_ok c.put_reply-put.result
    (read_same c.args.self.now c.write_down.new.self c.in_ok-request.request c.in-Ok.reply (ap is_changing c.in_ok-request.ensures)
    (c.write_down.ensures.entries ∙ ap (λ (l : List Entry). l ++ answered_by c.in_ok-request.request c.in-Ok.reply ∷ [])
    c.in-Ok.ensures.entries))

pub returns-in-Ok-clause-asked : goal.returns-in-Ok-clause-asked
returns-in-Ok-clause-asked c =
    on_ok c.put_reply-put.result
    (asked_one _ c.args.self.now c.write_down.new.self c.in_ok-request.request c.in-Ok.reply c.in_ok-request.ensures
    (c.write_down.ensures.entries
    ∙ ap (λ (l : List Entry). l ++ answered_by c.in_ok-request.request c.in-Ok.reply ∷ []) c.in-Ok.ensures.entries))

pub returns-in-Ok-clause-few : goal.returns-in-Ok-clause-few
returns-in-Ok-clause-few c =
    on_ok c.put_reply-put.result
    (few_one c.args.self.now.journal.entries c.write_down.new.self.journal.entries (answered_by c.in_ok-request.request c.in-Ok.reply)
    (c.write_down.ensures.entries
    ∙ ap (λ (l : List Entry). l ++ answered_by c.in_ok-request.request c.in-Ok.reply ∷ []) c.in-Ok.ensures.entries))
