use Rattle.multipart.specs.inner.Listing.{AreOwn, Follows, below}
use Rattle.std.proofs.Common.{length, ◌++◌, ◌≡◌, ◌≤◌}
use Rattle.std.specs.Map.{keys_of}
use Rattle.multipart.proofs.list.add_uploads.Given as goal

abbrev pub invariant-loop-place : goal.invariant-loop-place
invariant-loop-place l = record {
  told : l.entries.items ++ below l.prefix (keys_of l.rest) ≡ below l.prefix (keys_of l.fn.rest);
  follows : Follows l.prefix (keys_of l.rest);
  own : AreOwn l.rest;
  fits : length l.entries.items ≤ l.limit;
}

abbrev pub decreases-loop-place : goal.decreases-loop-place
decreases-loop-place l = length l.rest
