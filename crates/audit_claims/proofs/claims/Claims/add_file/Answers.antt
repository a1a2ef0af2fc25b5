use Rattle.std.proofs.Common.{◌<◌, subst, sym, length}
use Rattle.audit_claims.specs.Claims.{Claimed}
use Rattle.audit_claims.proofs.Owned.{MayAdd, indexed_file, may_add}
use Rattle.audit_claims.proofs.claims.Claims.add_file.Goals as goal

pub invariant_of-self-2 : goal.invariant_of-self-2
invariant_of-self-2 c =
    let may : MayAdd (record { listed = c.self.inside.tasks.entries; current = c.self.inside.current }) c.args.path =
    subst (λ (x : Claimed). MayAdd x c.args.path) (sym c.self.view_is) (may_add c.args.self.now c.args.path c.in-Added.ensures.fit) in
    let some : 0 < length c.self.inside.tasks.entries =
    subst (λ (x : Claimed). 0 < length x.listed) (sym c.self.view_is) c.requires.some in
    indexed_file c.self.inside.current c.args.path c.args.etags c.self.inside.tasks.entries c.put_file.new.tasks.entries
    c.self.inside.owners.entries c.put_file.new.owners.entries c.self.invariant some may.fits c.in_ok-put_file.ensures.tasks
    c.in_ok-put_file.ensures.owners
