use Rattle.folder_log.specs.declared.state.Choice.TheVariants.{Lost, Kept, Torn}
use Rattle.folder_log.specs.Calls.{filled}
use Rattle.folder_log.proofs.Choices.{chosen_image}
use Rattle.folder_log.proofs.mem_disk.MemDisk.crash.Goals as goal

pub returns-in-Lost-clause-allowed : goal.returns-in-Lost-clause-allowed
returns-in-Lost-clause-allowed c = chosen_image c.shared.result c.args.self.now Lost c.synced.result.now c.shared.ensures c.synced.ensures

pub returns-in-Kept-clause-allowed : goal.returns-in-Kept-clause-allowed
returns-in-Kept-clause-allowed c = chosen_image c.shared-in-Kept.result c.args.self.now Kept c.current.result.now c.shared-in-Kept.ensures
    c.current.ensures

pub returns-in-Torn-clause-allowed : goal.returns-in-Torn-clause-allowed
returns-in-Torn-clause-allowed c =
    let byte = c.in-Torn.byte in
    chosen_image c.torn_file.result c.args.self.now (Torn byte) (filled byte c.unsynced.result.now c.synced-in-Torn.result.now)
    c.torn_file.ensures (λ i. filled byte (c.unsynced.ensures i) (c.synced-in-Torn.ensures i))
