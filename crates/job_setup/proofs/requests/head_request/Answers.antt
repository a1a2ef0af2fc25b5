use Rattle.magic_paths.proofs.Elements.{dest_elements}
use Rattle.path_keys.proofs.Beneath.{key_path_from}
use Rattle.path_keys.specs.Paths.{is_key}
use Rattle.s3_types.specs.Names.{is_key_path}
use Rattle.std.proofs.Common.{ap, arith, length, sym, ◌∙◌, ◌≤◌}
use Rattle.job_setup.proofs.requests.head_request.Goals as goal

pub new-key-requires : goal.new-key-requires
new-key-requires c =
    let dest = c.args.dest.now.key in
    let short : length dest ≤ 1024 = omega (arith, c.requires.most) in
    ap is_key_path (c.in_ok-clone.ensures.cases ∙ c.key.ensures.text)
    ∙ key_path_from dest (dest_elements dest c.requires.some (ap is_key (sym c.key.ensures.text) ∙ c.key.ensures.key)) short
