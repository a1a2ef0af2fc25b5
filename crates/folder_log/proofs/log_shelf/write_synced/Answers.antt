use Rattle.folder_log.proofs.Moments.{goes_on}
use Rattle.folder_log.specs.Disk.{Elapses, File, Follows, IsTorn, Only}
use Rattle.devices.specs.Logged.{LeavesOnly}
use Rattle.std.proofs.Common.{arith, inr, length, subst, ℕ, ◌≡◌, ◌⊎◌}
use Rattle.folder_log.proofs.log_shelf.write_synced.Goals as goal

-- A write to a disk of which a crash leaves only this file.
written : {D : Type 0} (moment : D → ℕ) (may_leave : D → File → Type 0) (left_since : D → ℕ → File → Type 0) (old new : D) (place n : ℕ)
    (file : File) → ((c : File) → left_since old (moment old) c → may_leave old c) → Only file (may_leave old)
    → Follows (IsTorn place n) (may_leave old) (may_leave new)
    → Elapses (moment old) (moment new) (left_since old) (left_since new) (may_leave new)
    → LeavesOnly moment left_since old new (λ c. (c ≡ file) ⊎ IsTorn place n file c)
written moment may_leave left_since old new place n file h g e f = grind arith

pub returns-in_err-write_at-clause-torn : goal.returns-in_err-write_at-clause-torn
returns-in_err-write_at-clause-torn g c file only =
    written g.D.LogDisk.moment g.D.LogDisk.may_leave g.D.LogDisk.left_since c.args.disk.now c.write_at.new.self c.args.place
    (length c.args.bytes.now) file (g.met.D.LogDisk.only_now c.args.disk.now) only c.write_at.ensures.crash c.write_at.ensures.time

pub returns-clause-torn : goal.returns-clause-torn
returns-clause-torn g c file only =
    let P : File → Type 0 = λ f. (f ≡ file) ⊎ IsTorn c.args.place (length c.args.bytes.now) file f in
    goes_on g.D.LogDisk.moment g.D.LogDisk.left_since c.args.disk.now c.write_at.new.self c.sync.new.self P
    (g.D.LogDisk.may_leave c.sync.new.self)
    (written g.D.LogDisk.moment g.D.LogDisk.may_leave g.D.LogDisk.left_since c.args.disk.now c.write_at.new.self c.args.place
    (length c.args.bytes.now) file (g.met.D.LogDisk.only_now c.args.disk.now) only c.write_at.ensures.crash c.write_at.ensures.time)
    c.sync.ensures.time (λ f now. let from = c.write_at.ensures.crash f (c.sync.ensures.crash f now) in inr
    (subst (λ (d : File). IsTorn c.args.place (length c.args.bytes.now) d f) (only from.0 from.1) from.2))
