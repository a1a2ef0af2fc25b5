use Rattle.folder_log.proofs.Recorded.{state_is}
use Rattle.folder_log.specs.Calls.{IsImage, Recorded, state_in, state_of}
use Rattle.folder_log.specs.Disk.{File}
use Rattle.folder_log.specs.Images.{shown}
use Rattle.folder_log.specs.declared.state.DiskCall.TheVariants.{Sync}
use Rattle.folder_log.specs.declared.state.State.{State}
use Rattle.std.proofs.Common.{Some, ap, subst, sym, ◌∙◌, ◌≡◌}
use Rattle.folder_log.proofs.mem_disk.MemDiskLogDisk.sync.Goals as goal

pub returns-in-Ok-clause-seen : goal.returns-in-Ok-clause-seen
returns-in-Ok-clause-seen c =
    let old : c.args.self.now ≡ record { first = c.self.inside.first; calls = c.self.inside.calls; turns = c.self.inside.turns } = sym
    c.self.view_is in
    ap (λ (s : State). Some s.now) (state_is c.sync_now.new.self c.self.inside.first c.self.inside.calls Sync
    (ap (λ (d : Recorded). d.first) c.in-Ok.ensures.ok) (ap (λ (d : Recorded). d.calls) c.in-Ok.ensures.ok)) ∙ sym
    (ap (λ (d : Recorded). Some (state_in d).now) old)

pub returns-in-Ok-clause-durable : goal.returns-in-Ok-clause-durable
returns-in-Ok-clause-durable c f image =
    let old : c.args.self.now ≡ record { first = c.self.inside.first; calls = c.self.inside.calls; turns = c.self.inside.turns } = sym
    c.self.view_is in
    let is : f ≡ (state_of c.self.inside.first c.self.inside.calls).now =
    subst (λ (s : State). IsImage s f) (state_is c.sync_now.new.self c.self.inside.first c.self.inside.calls Sync
    (ap (λ (d : Recorded). d.first) c.in-Ok.ensures.ok) (ap (λ (d : Recorded). d.calls) c.in-Ok.ensures.ok)) image in
    is ∙ sym (ap (λ (d : Recorded). (state_in d).now) old)

pub returns-in-Ok-clause-crash : goal.returns-in-Ok-clause-crash
returns-in-Ok-clause-crash c f image = subst (λ (x : File). IsImage (state_in c.args.self.now) x)
    (sym (returns-in-Ok-clause-durable c f image)) (shown c.args.self.now)
