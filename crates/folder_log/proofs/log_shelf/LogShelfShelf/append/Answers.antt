use Rattle.folder_log.proofs.Appends.{append_fails, append_leaves, append_shows, settled_at}
use Rattle.folder_log.specs.inner.Kept.{IsPrepared}
use Rattle.folder_log.specs.Parts.{disk_of}
use Rattle.std.proofs.Common.{List, subst, sym, ℕ}
use Rattle.folder_log.proofs.log_shelf.LogShelfShelf.append.Goals as goal

pub returns-in-Ok-clause-any_moment : goal.returns-in-Ok-clause-any_moment
returns-in-Ok-clause-any_moment g c =
    let s = c.args.self.now in
    let prep : IsPrepared c.in-Some.gate c.args.change.now c.as_slice.result.now c.in-Some-prepared.end = subst
    (λ (l : List ℕ). IsPrepared c.in-Some.gate c.args.change.now l c.in-Some-prepared.end) (sym c.as_slice.ensures.value)
    c.in-Some-prepared.ensures in
    append_leaves (disk_of {D = g.row.D.Denot}) g.D.LogDisk.moment g.D.LogDisk.left_since _ _ (g.D.LogDisk.may_leave s.disk)
    c.args.change.now c.as_slice.result.now c.in-Some.gate c.in-Some-prepared.end (g.D.LogDisk.seen s.disk) prep
    (settled_at (g.D.LogDisk.seen s.disk) (g.D.LogDisk.may_leave s.disk) s.gate c.in-Some.gate c.in-Some.is c.requires.appends)
    c.open_record.ensures.later c.open_record.ensures.crash

pub returns-in-Err-clause-any_moment : goal.returns-in-Err-clause-any_moment
returns-in-Err-clause-any_moment g c =
    let s = c.args.self.now in
    let prep : IsPrepared c.in-Some.gate c.args.change.now c.as_slice.result.now c.in-Some-prepared.end = subst
    (λ (l : List ℕ). IsPrepared c.in-Some.gate c.args.change.now l c.in-Some-prepared.end) (sym c.as_slice.ensures.value)
    c.in-Some-prepared.ensures in
    append_leaves (disk_of {D = g.row.D.Denot}) g.D.LogDisk.moment g.D.LogDisk.left_since _ _ (g.D.LogDisk.may_leave s.disk)
    c.args.change.now c.as_slice.result.now c.in-Some.gate c.in-Some-prepared.end (g.D.LogDisk.seen s.disk) prep
    (settled_at (g.D.LogDisk.seen s.disk) (g.D.LogDisk.may_leave s.disk) s.gate c.in-Some.gate c.in-Some.is c.requires.appends)
    c.open_record.ensures.later c.open_record.ensures.crash

pub returns-in-Ok-clause-grown : goal.returns-in-Ok-clause-grown
returns-in-Ok-clause-grown g c =
    let s = c.args.self.now in
    let prep : IsPrepared c.in-Some.gate c.args.change.now c.as_slice.result.now c.in-Some-prepared.end = subst
    (λ (l : List ℕ). IsPrepared c.in-Some.gate c.args.change.now l c.in-Some-prepared.end) (sym c.as_slice.ensures.value)
    c.in-Some-prepared.ensures in
    (append_shows (g.D.LogDisk.seen s.disk) (g.D.LogDisk.seen c.open_record.new.disk) c.args.change.now (g.D.LogDisk.may_leave s.disk)
    (g.D.LogDisk.may_leave c.open_record.new.disk) c.in-Some.gate c.in-Some-prepared.end c.as_slice.result.now prep
    (settled_at (g.D.LogDisk.seen s.disk) (g.D.LogDisk.may_leave s.disk) s.gate c.in-Some.gate c.in-Some.is c.requires.appends)
    c.open_record.ensures.told c.in-Ok.ensures.durable (λ front closed. c.in-Ok.ensures.opened front closed)).0

pub returns-in-Ok-clause-appends : goal.returns-in-Ok-clause-appends
returns-in-Ok-clause-appends g c _ =
    let s = c.args.self.now in
    let prep : IsPrepared c.in-Some.gate c.args.change.now c.as_slice.result.now c.in-Some-prepared.end = subst
    (λ (l : List ℕ). IsPrepared c.in-Some.gate c.args.change.now l c.in-Some-prepared.end) (sym c.as_slice.ensures.value)
    c.in-Some-prepared.ensures in
    (append_shows (g.D.LogDisk.seen s.disk) (g.D.LogDisk.seen c.open_record.new.disk) c.args.change.now (g.D.LogDisk.may_leave s.disk)
    (g.D.LogDisk.may_leave c.open_record.new.disk) c.in-Some.gate c.in-Some-prepared.end c.as_slice.result.now prep
    (settled_at (g.D.LogDisk.seen s.disk) (g.D.LogDisk.may_leave s.disk) s.gate c.in-Some.gate c.in-Some.is c.requires.appends)
    c.open_record.ensures.told c.in-Ok.ensures.durable (λ front closed. c.in-Ok.ensures.opened front closed)).1

pub returns-in-Err-clause-one_of : goal.returns-in-Err-clause-one_of
returns-in-Err-clause-one_of g c _ =
    let s = c.args.self.now in
    let prep : IsPrepared c.in-Some.gate c.args.change.now c.as_slice.result.now c.in-Some-prepared.end = subst
    (λ (l : List ℕ). IsPrepared c.in-Some.gate c.args.change.now l c.in-Some-prepared.end) (sym c.as_slice.ensures.value)
    c.in-Some-prepared.ensures in
    append_fails (g.D.LogDisk.seen s.disk) (g.D.LogDisk.seen c.open_record.new.disk) c.args.change.now (g.D.LogDisk.may_leave s.disk)
    (g.D.LogDisk.may_leave c.open_record.new.disk) c.in-Some.gate c.in-Some-prepared.end c.as_slice.result.now prep
    (settled_at (g.D.LogDisk.seen s.disk) (g.D.LogDisk.may_leave s.disk) s.gate c.in-Some.gate c.in-Some.is c.requires.appends)
    c.open_record.ensures.told (g.met.D.LogDisk.shows c.open_record.new.disk)
    (λ front closed f left. (c.open_record.ensures.crash front closed).each f
    (g.met.D.LogDisk.counts_now c.open_record.new.disk (g.D.LogDisk.moment s.disk) f c.open_record.ensures.later left))
