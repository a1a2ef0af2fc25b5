use Rattle.folder_log.proofs.Recorded.{set_either}
use Rattle.folder_log.specs.Calls.{Recorded, at_rest, state_in}
use Rattle.folder_log.specs.declared.state.DiskCall.TheVariants.{Sync}
use Rattle.std.proofs.Common.{ap, sym, ◌∙◌, ◌≡◌}
use Rattle.folder_log.proofs.mem_disk.MemDisk.sync_now.Goals as goal

pub invariant_of-self : goal.invariant_of-self
invariant_of-self c =
    let old : c.args.self.now ≡ record { first = c.self.inside.first; calls = c.self.inside.calls; turns = c.self.inside.turns } = sym
    c.self.view_is in
    set_either c.keep.result c.self.inside.first c.self.inside.calls c.keep.new.calls Sync c.self.inside.last c.keep.new.last
    c.in_ok-next.next
    c.keep.ensures.calls c.keep.ensures.last c.keep.ensures.same_calls c.keep.ensures.same_last c.self.invariant
    (c.in_ok-next.ensures ∙ ap at_rest (c.in_ok-file.ensures ∙ c.current.ensures ∙ ap (λ (d : Recorded). (state_in d).now) old))
