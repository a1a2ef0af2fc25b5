use Rattle.folder_log.proofs.Recorded.{state_is, wrote_is, wrote_leaves}
use Rattle.folder_log.specs.Calls.{Recorded, after, state_in}
use Rattle.folder_log.specs.Disk.{File}
use Rattle.folder_log.specs.declared.state.DiskCall.TheVariants.{Write}
use Rattle.std.proofs.Common.{Some, ap, sym, ◌∙◌, ◌≡◌}
use Rattle.folder_log.proofs.mem_disk.MemDiskLogDisk.write_at.Goals as goal

pub returns-in-Ok-clause-written : goal.returns-in-Ok-clause-written
returns-in-Ok-clause-written c =
    let old : c.args.self.now ≡ record { first = c.self.inside.first; calls = c.self.inside.calls; turns = c.self.inside.turns } = sym
    c.self.view_is in
    let is : state_in c.written.new.self ≡ after (state_in c.args.self.now) (Write c.args.place c.args.bytes.now) =
    state_is c.written.new.self c.self.inside.first c.self.inside.calls (Write c.args.place c.args.bytes.now)
    (ap (λ (d : Recorded). d.first) c.in-Ok.ensures.ok) (ap (λ (d : Recorded). d.calls) c.in-Ok.ensures.ok)
    ∙ sym (ap (λ (d : Recorded). after (state_in d) (Write c.args.place c.args.bytes.now)) old) in
    ap (λ (x : File). Some x) (wrote_is (state_in c.args.self.now) (state_in c.written.new.self) c.args.place c.args.bytes.now is
    c.requires.within)

pub returns-in-Ok-clause-crash : goal.returns-in-Ok-clause-crash
returns-in-Ok-clause-crash c =
    let old : c.args.self.now ≡ record { first = c.self.inside.first; calls = c.self.inside.calls; turns = c.self.inside.turns } = sym
    c.self.view_is in
    let is : state_in c.written.new.self ≡ after (state_in c.args.self.now) (Write c.args.place c.args.bytes.now) =
    state_is c.written.new.self c.self.inside.first c.self.inside.calls (Write c.args.place c.args.bytes.now)
    (ap (λ (d : Recorded). d.first) c.in-Ok.ensures.ok) (ap (λ (d : Recorded). d.calls) c.in-Ok.ensures.ok)
    ∙ sym (ap (λ (d : Recorded). after (state_in d) (Write c.args.place c.args.bytes.now)) old) in
    wrote_leaves (state_in c.args.self.now) (state_in c.written.new.self) c.args.place c.args.bytes.now is c.requires.within
