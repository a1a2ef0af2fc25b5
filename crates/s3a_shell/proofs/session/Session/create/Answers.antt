use Rattle.fs_files.specs.code.Create.{AlwaysFile}
use Rattle.s3_types.specs.Blocks.{block_of}
use Rattle.s3_types.specs.Store.{Content}
use Rattle.s3a_shell.proofs.Asking.{file_asked}
use Rattle.s3a_shell.proofs.Blocks.{has_room, least_block, some_block}
use Rattle.s3a_shell.proofs.Few.{file_few}
use Rattle.s3a_shell.proofs.Joining.{sent_as}
use Rattle.s3a_shell.proofs.Performing.{answered, asked, file_if, file_stands, on_ok, sent}
use Rattle.s3a_shell.specs.Doings.{FileOrNot}
use Rattle.std.proofs.Common.{List, ap, length, subst, sym, ℕ, ◌*◌, ◌+◌, ◌∙◌, ◌≤◌}
use Rattle.s3a_shell.proofs.session.Session.create.Goals as goal

pub new-requires-clause-some : goal.new-requires-clause-some
new-requires-clause-some c = some_block _ _ _ c.block_of-block.ensures

pub new-requires-clause-room : goal.new-requires-clause-room
new-requires-clause-room c =
    subst (λ (l : List ℕ). length l ≤ c.block_of-block.result * 10000) (c.as_slice.ensures ∙ sym c.in_ok-bytes.ensures.cases)
    (has_room _ _ _ c.block_of-block.ensures)

pub returns-in-Ok-clause-did : goal.returns-in-Ok-clause-did
returns-in-Ok-clause-did c =
    let least = subst (λ (n : ℕ). n ≤ c.block_of-block.result) (c.minimum-minimum.ensures.minimum ∙ ap (λ (d : Content). d.minimum)
    c.service.ensures) (least_block _ _ _ c.block_of-block.ensures) in
    let done = c.in-Ok.ensures.performed in
    file_if c.args.path.now c.args.bytes.now c.in_ok-bytes.bytes c.block_of-block.result c.args.overwrite c.args.policy _ _
    c.in_ok-file.file.file c.in-Ok.answer c.nothing_said.result c.in_ok-bytes.ensures.cases
    c.in_ok-file.ensures.file least (c.in-Ok.ensures.answered done.part done.appended
    (answered (c.args.self.now.store.requests + 1) done.part done.foretold)) c.nothing_said.ensures

pub returns-in-Ok-clause-sent : goal.returns-in-Ok-clause-sent
returns-in-Ok-clause-sent c =
    let z = c.args.self.now.store.scene in
    let least = subst (λ (n : ℕ). n ≤ c.block_of-block.result) (c.minimum-minimum.ensures.minimum ∙ ap (λ (d : Content). d.minimum)
    c.service.ensures) (least_block _ _ _ c.block_of-block.ensures) in
    let file = c.in_ok-file.file.file in
    on_ok c.nothing_said.result
    (sent_as (AlwaysFile file z) (FileOrNot c.args.policy c.args.path.now c.args.bytes.now z) _ _
    (λ s h. file_stands c.args.path.now c.args.bytes.now c.in_ok-bytes.bytes c.block_of-block.result c.args.overwrite c.args.policy z s file
    c.in_ok-bytes.ensures.cases c.in_ok-file.ensures.file least h)
    (sent _ _ _ _ _ c.requires.counted c.in-Ok.ensures.performed))

pub returns-in-Ok-clause-asked : goal.returns-in-Ok-clause-asked
returns-in-Ok-clause-asked c =
    let least = c.minimum-minimum.ensures.minimum ∙ ap (λ (d : Content). d.minimum) c.service.ensures in
    on_ok c.nothing_said.result
    (file_asked c.args.path.now c.args.bytes.now c.in_ok-bytes.bytes c.block_of-block.result c.args.overwrite c.args.policy
    c.args.self.now.store.scene _ _ c.in_ok-file.file c.in_ok-bytes.ensures.cases
    c.in_ok-file.ensures.file c.in_ok-file.ensures.starts.1
    (c.block_of-block.ensures ∙ (λ i. block_of (length (c.as_slice.ensures i)) 0 (least i)))
    (asked _ _ _ _ _ c.in-Ok.ensures.performed))

pub returns-in-Ok-clause-few : goal.returns-in-Ok-clause-few
returns-in-Ok-clause-few c =
    let done = c.in-Ok.ensures.performed in
    on_ok c.nothing_said.result
    (file_few c.args.path.now c.args.bytes.now c.in_ok-bytes.bytes c.block_of-block.result c.args.overwrite c.args.policy
    c.args.self.now.store.scene _ _ c.in_ok-file.file c.in_ok-bytes.ensures.cases
    c.in_ok-file.ensures.file c.in_ok-file.ensures.starts.1 c.in-Ok.ensures.few done.part done.appended)
