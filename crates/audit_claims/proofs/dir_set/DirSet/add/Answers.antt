use Rattle.std.proofs.Common.{Vec, Global, ℕ}
use Rattle.audit_claims.proofs.Dirs.{dirs_with, has_with}
use Rattle.audit_claims.proofs.dir_set.DirSet.add.Goals as goal

pub invariant_of-self-2 : goal.invariant_of-self-2
invariant_of-self-2 c =
    dirs_with (λ (d : Vec ℕ Global). d.items) c.self.inside.dirs.keys c.insert.new.self.keys c.in_ok-dir.dir c.args.dir.now
    c.in_ok-insert.ensures.keys c.in_ok-dir.ensures.items c.requires.directory c.self.invariant

pub returns : goal.returns
returns c = record {
  ok = λ d.
      has_with (λ (d : Vec ℕ Global). d.items) d c.self.inside.dirs.keys c.insert.new.self.keys c.in_ok-dir.dir c.args.dir.now
      c.args.self.now
      c.in_ok-insert.ensures.keys c.in_ok-dir.ensures.items c.self.view_is;
}
