-- Tags of short contents, computed.
use Rattle.text_and_lists.proofs.Members.{text_is}
use Rattle.text_and_lists.specs.Order.{text_eq}
use Rattle.hex.specs.Hex.{encode_lower, encode_with}
use Rattle.job_examples.specs.Jobs.{hello_tag}
use Rattle.job_examples.specs.TwoAttempts.{world}
use Rattle.md5.specs.Md5.{add_state, block_words, compress, digest_bytes, hash_after, initial_hash, md5, padded_message, round, rounds}
use Rattle.md5.specs.Md5.{step_constants, step_fn, step_shifts, word_place}
use Rattle.s3_types.specs.Tags.{Spelled, plain_tag}
use Rattle.std.proofs.Common.{Bool, List, ap, codes, cond, drop, false, refl, suc, take, true, zero, ℕ, ◌∙◌, ◌≡◌}
use Rattle.std.specs.Prelude.{slice_index}

-- ---- a digest, step by step: as in `md5`, but each step is computed once

abbrev turn : List ℕ → ℕ → List ℕ → List ℕ
turn w t v = round v (step_fn t (slice_index v 1) (slice_index v 2) (slice_index v 3)) (slice_index step_constants t)
    (slice_index w (word_place t)) (slice_index step_shifts t)

abbrev turned : List ℕ → List ℕ → ℕ → List ℕ
turned v w zero = v
turned v w (suc t) = turn w t (turned v w t)

rounds_are : (v w : List ℕ) (t : ℕ) → rounds v w t ≡ turned v w t
unfolding rounds
rounds_are v w zero = refl
rounds_are v w (suc t) = ap (turn w t) (rounds_are v w t)

-- The tag of a content of one block, by the words of its digest.
abbrev tagged : List ℕ → Spelled
tagged v = record { digits = encode_lower (digest_bytes (add_state initial_hash v) 4); parts = 0 }

abbrev words : List ℕ → List ℕ
words m = block_words (take 64 (drop 0 (padded_message m))) 16

-- ---- tags

hello_is : plain_tag (codes "hello") ≡ hello_tag
unfolding plain_tag md5 hash_after compress digest_bytes block_words encode_with
hello_is = ap tagged (rounds_are initial_hash (words (codes "hello")) 64)

world_is : plain_tag (codes "world") ≡ world.tag
unfolding plain_tag md5 hash_after compress digest_bytes block_words encode_with
world_is = ap tagged (rounds_are initial_hash (words (codes "world")) 64)

-- The tag of a content, known for these two texts.
abbrev pub told_tag : List ℕ → Spelled
told_tag bytes = cond (text_eq bytes (codes "hello")) hello_tag (cond (text_eq bytes (codes "world")) world.tag (plain_tag bytes))

pub told_is : (bytes : List ℕ) → plain_tag bytes ≡ told_tag bytes
told_is bytes = by (text_eq bytes (codes "hello")) (text_eq bytes (codes "world")) refl refl
  where
    by : (h g : Bool) → text_eq bytes (codes "hello") ≡ h → text_eq bytes (codes "world") ≡ g
        → plain_tag bytes ≡ cond h hello_tag (cond g world.tag (plain_tag bytes))
    by true g e f = ap plain_tag (text_is bytes (codes "hello") e) ∙ hello_is
    by false true e f = ap plain_tag (text_is bytes (codes "world") f) ∙ world_is
    by false false e f = refl
