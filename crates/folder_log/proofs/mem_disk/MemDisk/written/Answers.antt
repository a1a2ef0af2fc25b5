use Rattle.folder_log.proofs.Recorded.{set_either, write_now, wrote_alike}
use Rattle.folder_log.specs.Calls.{Recorded, state_in, state_of}
use Rattle.folder_log.specs.Disk.{IsWithin}
use Rattle.folder_log.specs.declared.state.DiskCall.TheVariants.{Write}
use Rattle.folder_log.specs.declared.state.State.{State}
use Rattle.std.proofs.Common.{Some, ap, subst, sym, ◌∙◌, ◌≡◌}
use Rattle.folder_log.proofs.mem_disk.MemDisk.written.Goals as goal

pub invariant_of-self : goal.invariant_of-self
invariant_of-self c =
    let old : c.args.self.now ≡ record { first = c.self.inside.first; calls = c.self.inside.calls; turns = c.self.inside.turns } = sym
    c.self.view_is in
    let s : State = state_of c.self.inside.first c.self.inside.calls in
    let within : IsWithin c.args.place (Some s.now) = subst (λ (d : Recorded). IsWithin c.args.place (Some (state_in d).now)) old
    c.requires.within in
    set_either c.keep.result c.self.inside.first c.self.inside.calls c.keep.new.calls (Write c.args.place c.in_ok-copy.copy)
    c.self.inside.last c.keep.new.last c.in_ok-next.next
    c.keep.ensures.calls c.keep.ensures.last c.keep.ensures.same_calls c.keep.ensures.same_last c.self.invariant
    (write_now s c.in_ok-next.next c.args.place c.args.bytes.now c.in_ok-copy.copy
    (c.in_ok-next.ensures ∙ wrote_alike s c.synced.result.now c.current.result.now c.unsynced.result.now c.args.place c.args.bytes.now
    (c.synced.ensures ∙ ap (λ (d : Recorded). (state_in d).synced) old) (c.current.ensures ∙ ap (λ (d : Recorded). (state_in d).now) old)
    (c.unsynced.ensures ∙ ap (λ (d : Recorded). (state_in d).ranges) old))
    c.in_ok-copy.ensures within)
