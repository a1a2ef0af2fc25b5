-- The parts of a file that is put are long enough and few enough.
use Rattle.s3_types.proofs.Blocks.{block_is, greater_right, large_size, some_size}
use Rattle.s3_types.specs.Blocks.{block_of, greater, quotient_up}
use Rattle.std.proofs.Common.{arith, subst, sym}
use Rattle.std.specs.Prelude.{ℕ, ◌*◌, ◌≡◌, ◌≤◌}

room : (len minimum : ℕ) → len ≤ block_of len 0 minimum * 10000
room len minimum =
    let inner = greater_right 1 (quotient_up len 10000) in
    let outer = greater_right (greater 0 minimum) (greater 1 (quotient_up len 10000)) in
    let enough : len ≤ greater (greater 0 minimum) (greater 1 (quotient_up len 10000)) * 10000 = omega (arith, inner, outer) in
    subst (λ n. len ≤ n * 10000) (sym (block_is len 0 minimum)) enough

pub some_block : (len minimum block : ℕ) → block ≡ block_of len 0 minimum → 1 ≤ block
some_block len minimum block e = subst (λ n. 1 ≤ n) (sym e) (some_size len 0 minimum)

pub least_block : (len minimum block : ℕ) → block ≡ block_of len 0 minimum → minimum ≤ block
least_block len minimum block e = subst (λ n. minimum ≤ n) (sym e) (large_size len 0 minimum)

pub has_room : (len minimum block : ℕ) → block ≡ block_of len 0 minimum → len ≤ block * 10000
has_room len minimum block e = subst (λ n. len ≤ n * 10000) (sym e) (room len minimum)
