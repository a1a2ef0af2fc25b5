use Rattle.std.proofs.Common.{Vec, Global, ℕ, ap, ◌∙◌}
use Rattle.audit_claims.specs.Directories.{has_dir}
use Rattle.audit_claims.proofs.Dirs.{has_key}
use Rattle.audit_claims.proofs.dir_set.DirSet.has.Goals as goal

pub returns : goal.returns
returns c = record {
  has =
      c.contains.ensures ∙ has_key (λ (d : Vec ℕ Global). d.items) c.args.dir.now c.self.inside.dirs.keys
      ∙ ap (has_dir c.args.dir.now) c.self.view_is;
}
