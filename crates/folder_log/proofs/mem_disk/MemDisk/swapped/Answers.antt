use Rattle.folder_log.proofs.Recorded.{set_either}
use Rattle.folder_log.specs.Calls.{at_rest}
use Rattle.folder_log.specs.declared.state.DiskCall.TheVariants.{Swap}
use Rattle.std.proofs.Common.{List, Some, ap, sym, ℕ, ◌∙◌}
use Rattle.folder_log.proofs.mem_disk.MemDisk.swapped.Goals as goal

pub invariant_of-self : goal.invariant_of-self
invariant_of-self c =
    set_either c.keep.result c.self.inside.first c.self.inside.calls c.keep.new.calls (Swap c.in_ok-copy.copy) c.self.inside.last
    c.keep.new.last c.in_ok-next.next
    c.keep.ensures.calls c.keep.ensures.last c.keep.ensures.same_calls c.keep.ensures.same_last c.self.invariant
    (c.in_ok-next.ensures ∙ ap (λ (l : List ℕ). at_rest (Some l)) (sym c.in_ok-copy.ensures.cases))
