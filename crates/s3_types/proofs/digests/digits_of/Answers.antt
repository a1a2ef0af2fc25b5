use Rattle.s3_types.proofs.Digits.{encoded_hex}
use Rattle.s3_types.specs.Tags.{is_hex}
use Rattle.std.proofs.Common.{List, subst, sym, true, ℕ, ◌≡◌}
use Rattle.std.specs.List.{list_all}
use Rattle.s3_types.proofs.digests.digits_of.Goals as goal

pub returns-clause-hex : goal.returns-clause-hex
returns-clause-hex c =
    subst (λ (l : List ℕ). list_all is_hex l ≡ true) (sym c.in-Ok.ensures.written) (encoded_hex c.args.digest.now c.fits-digest)
