-- How a file is cut into parts (Hadoop, S3A block output: fs.s3a.multipart.size; Amazon S3 API: UploadPart).
use Rattle.std.specs.Prelude.{ℕ, zero, suc, ◌+◌, ◌-◌, ◌/◌, nat_lt, cond, List, [], ◌∷◌, length, take, drop}
use Rattle.s3_types.specs.declared.limits.TheConstants.{MOST_PARTS}
use Rattle.s3_types.specs.Tags.{Spelled}
use Rattle.s3_types.specs.declared.request.NamedPart.{NamedPart}

-- The quotient, rounded up.
abbrev pub quotient_up : ℕ → ℕ → ℕ
quotient_up n d = (n + (d - 1)) / d

-- The greater of two numbers.
abbrev pub greater : ℕ → ℕ → ℕ
greater a b = cond (nat_lt a b) b a

-- The size of a file's parts in bytes: the largest of the block, the store's minimum, 1, and the size at which the file has at most 10,000
-- parts.
unfoldable pub block_of : ℕ → ℕ → ℕ → ℕ
block_of len block minimum = greater (greater block minimum) (greater 1 (quotient_up len MOST_PARTS))

-- n blocks of this size, the last with the bytes that are left.
abbrev pub blocks : ℕ → ℕ → List ℕ → List (List ℕ)
blocks zero size bytes = []
blocks (suc n) size bytes = take size bytes ∷ blocks n size (drop size bytes)

-- The parts into which a file's bytes are cut. An empty file has one empty part.
unfoldable pub parts_of : ℕ → List ℕ → List (List ℕ)
parts_of size bytes = blocks (greater 1 (quotient_up (length bytes) size)) size bytes

-- The parts as CompleteMultipartUpload names them, numbered from n on.
abbrev pub named_from : ℕ → List Spelled → List NamedPart
named_from n [] = []
named_from n (t ∷ ts) = record { number = n; tag = t } ∷ named_from (n + 1) ts
