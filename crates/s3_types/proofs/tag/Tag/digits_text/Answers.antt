use Rattle.s3_types.proofs.Utf8.{hex_utf8}
use Rattle.s3_types.proofs.tag.Tag.digits_text.Goals as goal

pub unreachable-requires : goal.unreachable-requires
unreachable-requires c = c.in-Err.ensures.cases.0 (hex_utf8 c.self.inside.digits c.self.invariant)
