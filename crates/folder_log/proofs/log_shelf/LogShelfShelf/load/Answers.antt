use Rattle.folder_log.proofs.Appends.{begins_none, read_small}
use Rattle.folder_log.proofs.Moments.{more_more}
use Rattle.folder_log.specs.inner.Disk.{more}
use Rattle.devices.specs.Calls.{one_more}
use Rattle.std.proofs.Common.{Some, ap, arith, refl, rules, ◌∙◌, ◌≡◌}
use Rattle.folder_log.proofs.log_shelf.LogShelfShelf.load.Goals as goal

pub loaded-requires : goal.loaded-requires
loaded-requires g c =
    rw c.in-Ok-Some.field-0-is (read_small (g.D.LogDisk.seen c.sync.new.self) (Some c.in-Ok-Some.file)
    (rw c.in-Ok-Some.field-0-is at c.in-Ok-Some.ensures.bytes))

pub returns-in-Ok-Some-clause-begins_none : goal.returns-in-Ok-Some-clause-begins_none
returns-in-Ok-Some-clause-begins_none g c = begins_none _ _ _ _ _ c.args.self.now.sure (c.read.ensures.seen ∙ c.sync.ensures.seen)

pub returns-in-Err-TooLarge-clause-begins_none : goal.returns-in-Err-TooLarge-clause-begins_none
returns-in-Err-TooLarge-clause-begins_none g c = begins_none _ _ _ _ _ c.args.self.now.sure (c.read.ensures.seen ∙ c.sync.ensures.seen)

pub returns-in-Err-NoMemory-clause-begins_none : goal.returns-in-Err-NoMemory-clause-begins_none
returns-in-Err-NoMemory-clause-begins_none g c = begins_none _ _ _ _ _ c.args.self.now.sure (c.read.ensures.seen ∙ c.sync.ensures.seen)

pub returns-in-Err-Failed-clause-broken : goal.returns-in-Err-Failed-clause-broken
returns-in-Err-Failed-clause-broken g c _ =
    let counted : c.saturating_add-self.result ≡ one_more c.args.self.now.calls = search rules in
    (counted, refl, (2, omega arith, omega arith, c.read.ensures.counted ∙ ap (more 1) c.sync.ensures.counted ∙ more_more 1 1 _))
