use Rattle.std.proofs.Common.{refl}
use Rattle.std.specs.Fmt.{digits}
use Rattle.json.specs.Print.{escape_byte}
use Rattle.s3_types.specs.Blocks.{block_of, parts_of}
use Rattle.job_examples.proofs.OneSet.{staged_is_read}
use Rattle.job_examples.proofs.committers.Goals as goal

pub returns-clause-setups : goal.returns-clause-setups
returns-clause-setups c = record {
  file = refl;
  bucket = refl;
  gone = refl;
  magic = refl;
  conflict = refl;
  empty = refl;
  append = refl;
  worn = refl;
}

pub returns-clause-staging : goal.returns-clause-staging
unfolding digits escape_byte block_of parts_of
returns-clause-staging c = record {
  write = refl;
  lost = refl;
  slow = refl;
  published = refl;
  gone = refl;
  conflict = refl;
  none = refl;
  abort = refl;
  kept = refl;
}

pub returns-clause-drivers : goal.returns-clause-drivers
unfolding digits escape_byte
returns-clause-drivers c = record {
  directory = refl;
  partitioned = refl;
  append = refl;
  reads = rw staged_is_read refl;
  same = refl;
  apart = refl;
  staging = refl;
  magic = refl;
}
