use Rattle.folder_log.proofs.Appends.{log_fresh, swap_leaves, swap_shows}
use Rattle.folder_log.specs.Parts.{disk_of}
use Rattle.log_format.specs.Log.{log}
use Rattle.std.proofs.Common.{List, ap, arith, inl, inr, ℕ, [], ◌++◌, ◌∙◌, ◌∷◌, ◌≡◌}
use Rattle.folder_log.proofs.log_shelf.LogShelfShelf.replace.Goals as goal

pub returns-in_err-swap-clause-any_moment : goal.returns-in_err-swap-clause-any_moment
returns-in_err-swap-clause-any_moment g c =
    let base = c.args.bytes.now in
    let is : c.head_of-head.result ++ (base ++ 0 ∷ []) ≡ log base [] = ap (λ (h : List ℕ). h ++ (base ++ 0 ∷ [])) c.head_of-head.ensures ∙
    log_fresh base in
    swap_leaves (disk_of {D = g.row.D.Denot}) g.D.LogDisk.moment g.D.LogDisk.left_since _ _ (g.D.LogDisk.may_leave c.args.self.now.disk)
    (g.D.LogDisk.may_leave c.swap.new.self) _ base is (omega arith)
    (g.met.D.LogDisk.only_now c.args.self.now.disk) c.swap.ensures.time (λ f left. inl (c.in_err-swap.ensures.kept f left))

pub returns-clause-any_moment : goal.returns-clause-any_moment
returns-clause-any_moment g c =
    let base = c.args.bytes.now in
    let is : c.head_of-head.result ++ (base ++ 0 ∷ []) ≡ log base [] = ap (λ (h : List ℕ). h ++ (base ++ 0 ∷ [])) c.head_of-head.ensures ∙
    log_fresh base in
    swap_leaves (disk_of {D = g.row.D.Denot}) g.D.LogDisk.moment g.D.LogDisk.left_since _ _ (g.D.LogDisk.may_leave c.args.self.now.disk)
    (g.D.LogDisk.may_leave c.swap.new.self) _ base is (omega arith)
    (g.met.D.LogDisk.only_now c.args.self.now.disk) c.swap.ensures.time (λ f left. inr (c.in_ok-swap.ensures.durable f left))

pub returns-clause-replaced : goal.returns-clause-replaced
returns-clause-replaced g c =
    let base = c.args.bytes.now in
    let is : c.head_of-head.result ++ (base ++ 0 ∷ []) ≡ log base [] = ap (λ (h : List ℕ). h ++ (base ++ 0 ∷ [])) c.head_of-head.ensures ∙
    log_fresh base in
    (swap_shows (g.D.LogDisk.seen c.args.self.now.disk) (g.D.LogDisk.seen c.swap.new.self) (g.D.LogDisk.may_leave c.swap.new.self) _ base is
    (omega arith) c.in_ok-swap.ensures.swapped c.in_ok-swap.ensures.durable).0

pub returns-clause-appends : goal.returns-clause-appends
returns-clause-appends g c =
    let base = c.args.bytes.now in
    let is : c.head_of-head.result ++ (base ++ 0 ∷ []) ≡ log base [] = ap (λ (h : List ℕ). h ++ (base ++ 0 ∷ [])) c.head_of-head.ensures ∙
    log_fresh base in
    (swap_shows (g.D.LogDisk.seen c.args.self.now.disk) (g.D.LogDisk.seen c.swap.new.self) (g.D.LogDisk.may_leave c.swap.new.self) _ base is
    (omega arith) c.in_ok-swap.ensures.swapped c.in_ok-swap.ensures.durable).1
