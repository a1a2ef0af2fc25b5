use Rattle.s3_types.proofs.Digits.{digits_read}
use Rattle.std.proofs.Common.{ap, sym, ◌∙◌}
use Rattle.std.proofs.lemmas.Bool.{false≢true}
use Rattle.std.specs.Prelude.{is_ok}
use Rattle.s3_types.proofs.digests.digest_in.Goals as goal

pub unreachable-requires : goal.unreachable-requires
unreachable-requires c =
    let read = rw (digits_read c.args.digits.now c.told-digits c.requires) at c.decode_to_slice.ensures.value in
    false≢true (sym (ap is_ok c.in-Err.is) ∙ ap is_ok read.0)

pub returns : goal.returns
returns c = (rw (digits_read c.args.digits.now c.told-digits c.requires) at c.decode_to_slice.ensures.value).1
