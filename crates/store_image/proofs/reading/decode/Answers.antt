use Rattle.text_and_lists.proofs.Reading.{found_so, only}
use Rattle.s3_types.specs.Store.{Content}
use Rattle.std.proofs.Common.{arith, ◌≡◌}
use Rattle.store_image.proofs.Whole.{content_takes, one, read_again}
use Rattle.store_image.specs.Content.{IsContent}
use Rattle.store_image.specs.Fault.{wanting}
use Rattle.store_image.specs.Image.{image}
use Rattle.store_image.proofs.reading.decode.Goals as goal

pub returns-clause-found : goal.returns-clause-found
returns-clause-found c =
    found_so wanting (λ (d : Content). IsContent d × (c.args.bytes.now ≡ image d)) c.all_of.result _
    (λ d e. content_takes c.args.bytes.now d (λ i. omega (arith, c.type_inv.bytes i)) e) c.all_of.ensures

pub returns-clause-only : goal.returns-clause-only
returns-clause-only c d is e = only wanting c.all_of.result _ d (read_again c.args.bytes.now d (omega arith) is e) c.all_of.ensures

pub returns-clause-one : goal.returns-clause-one
returns-clause-one c d f is are e h = one c.args.bytes.now d f (omega arith) is are e h
