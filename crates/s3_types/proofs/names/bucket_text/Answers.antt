use Rattle.s3_types.proofs.Utf8.{bucket_utf8}
use Rattle.s3_types.specs.Names.{is_bucket}
use Rattle.std.proofs.Common.{sym, true, ◌∙◌, ◌≡◌}
use Rattle.s3_types.proofs.names.bucket_text.Goals as goal

pub returns-clause-found : goal.returns-clause-found
returns-clause-found c =
    let h : is_bucket c.args.bytes.now ≡ true = cc in
    c.as_utf8.ensures.found ∙ bucket_utf8 c.args.bytes.now h ∙ sym h
