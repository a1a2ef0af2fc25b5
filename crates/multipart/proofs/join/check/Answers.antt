use Rattle.multipart.proofs.Numbered.{few}
use Rattle.s3_types.specs.Multipart.{rises}
use Rattle.std.proofs.Common.{true, ◌≡◌}
use Rattle.multipart.proofs.join.check.Goals as goal

pub returns-clause-few : goal.returns-clause-few
returns-clause-few c =
    let up : rises c.args.parts.now ≡ true = cc in
    let all : c.all_sent.result ≡ true = cc in
    few c.args.parts.now up (c.all_sent.ensures.numbers all)
