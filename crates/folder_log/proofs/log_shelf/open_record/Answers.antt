use Rattle.folder_log.proofs.Crash.{left_behind, left_opened, written_behind}
use Rattle.folder_log.proofs.Moments.{few_more, then_on, widened}
use Rattle.folder_log.specs.Disk.{File, IsTorn, Only, Settles, Writes}
use Rattle.folder_log.specs.inner.Disk.{FewMore, more}
use Rattle.folder_log.specs.inner.Kept.{IsLeftOf}
use Rattle.std.proofs.Common.{Err, List, Ok, OnErr, Option, Result, Some, ap, arith, length, subst, ℕ, [], ◌++◌, ◌+◌, ◌∙◌, ◌∷◌, ◌≡◌, ◌⊎◌}
use Rattle.folder_log.proofs.log_shelf.open_record.Goals as goal

pub returns-in_err-write_synced-clause-crash : goal.returns-in_err-write_synced-clause-crash
returns-in_err-write_synced-clause-crash g c front closed =
    let rest_at : File = Some (front ++ 0 ∷ []) in
    let P : File → Type 0 = λ f. (f ≡ rest_at) ⊎ IsTorn (c.args.gate + 1) (length c.args.written.now) rest_at f in
    widened g.D.LogDisk.moment g.D.LogDisk.left_since c.args.disk.now c.write_synced.new.disk P (IsLeftOf front c.args.written.now)
    (c.write_synced.ensures.torn rest_at closed.durable) (left_behind front c.args.gate closed.at c.args.written.now)

pub returns-clause-crash : goal.returns-clause-crash
returns-clause-crash g c front closed =
    let rest_at : File = Some (front ++ 0 ∷ []) in
    let staged : File = Some (front ++ 0 ∷ c.args.written.now) in
    let P : File → Type 0 = λ f. (f ≡ rest_at) ⊎ IsTorn (c.args.gate + 1) (length c.args.written.now) rest_at f in
    let Q : File → Type 0 = λ f. (f ≡ staged) ⊎ IsTorn c.args.gate 1 staged f in
    let written : Writes (c.args.gate + 1) c.args.written.now (Some rest_at) (g.D.LogDisk.seen c.write_synced.new.disk) =
    subst (λ (o : Option File). Writes (c.args.gate + 1) c.args.written.now o (g.D.LogDisk.seen c.write_synced.new.disk)) closed.file
    c.in_ok-write_synced.ensures.written in
    let shown : g.D.LogDisk.seen c.write_synced.new.disk ≡ Some staged = written ∙ ap (λ (l : List ℕ). Some (Some l))
    (written_behind front c.args.gate closed.at c.args.written.now) in
    let only : Only staged (g.D.LogDisk.may_leave c.write_synced.new.disk) = subst
    (λ (o : Option File). Settles o (g.D.LogDisk.may_leave c.write_synced.new.disk)) shown c.in_ok-write_synced.ensures.durable in
    then_on g.D.LogDisk.moment g.D.LogDisk.left_since c.args.disk.now c.write_synced.new.disk c.write_synced-2.new.disk P Q
    (IsLeftOf front c.args.written.now)
    (c.write_synced.ensures.torn rest_at closed.durable) (c.write_synced-2.ensures.torn staged only)
    (left_behind front c.args.gate closed.at c.args.written.now) (left_opened front c.args.gate closed.at c.args.written.now)

-- Two calls more of a second write, after two of a first one, are at most four.
few_behind : {T E : Type 0} (r : Result T E) (before between now : ℕ) → between ≡ more 2 before → OnErr r (FewMore 2 between now)
    → OnErr r (FewMore 4 before now)
few_behind (Ok x) before between now is few = tt
few_behind (Err e) before between now is few = few_more 2 2 4 before between now is (omega arith) few

pub returns-clause-few : goal.returns-clause-few
returns-clause-few g c = few_behind c.write_synced-2.result _ _ _ c.in_ok-write_synced.ensures.made c.write_synced-2.ensures.few
