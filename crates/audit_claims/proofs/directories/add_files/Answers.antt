use Rattle.std.proofs.Common.{ap, sym, ◌∙◌}
use Rattle.soundness.specs.Claims.{directory}
use Rattle.audit_claims.proofs.Dirs.{dir_twice}
use Rattle.audit_claims.proofs.directories.add_files.Goals as goal

pub add-requires : goal.add-requires
add-requires c = record {
  directory =
      ap directory c.directory.ensures.directory ∙ dir_twice c.as_bytes.result.now ∙ sym c.directory.ensures.directory;
}
