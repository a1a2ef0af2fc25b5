-- Definitions beside those of `Kept` that no public contract cites.
use Rattle.block_stream.specs.Holds.{AreLong, HasRoom}
use Rattle.block_stream.specs.Stream.{Stream, asks_with, begin_or_wait, complete_or_wait, has_some, is_direct, wanted}
use Rattle.block_stream.specs.declared.mode.StreamEnd.{StreamEnd}
use Rattle.block_stream.specs.declared.mode.StreamEnd.TheVariants.{Done}
use Rattle.block_stream.specs.declared.mode.StreamMode.{StreamMode}
use Rattle.block_stream.specs.declared.mode.StreamMode.TheVariants.{Delayed}
use Rattle.block_stream.specs.declared.stage.StreamStage.{StreamStage}
use Rattle.block_stream.specs.declared.stage.StreamStage.TheVariants.{Completing, Over, Putting, Sending}
use Rattle.s3_types.specs.Tags.{Spelled}
use Rattle.s3_types.specs.declared.request.Request.{Request}
use Rattle.std.specs.Option.{unwrap_or}
use Rattle.std.specs.Prelude.{Bool, List, None, Option, Some, cond, false, length, nat_le, not, true, ℕ, [], ◌&&◌, ◌<◌, ◌||◌, ◌∷◌, ◌≡◌, ◌≤◌}

-- Holds if all blocks but the last have n bytes, and the last has at most n and is not empty.
abbrev pub AreCut : ℕ → List (List ℕ) → Type 0
AreCut n [] = Unit {0}
AreCut n (b ∷ []) = (0 < length b) × (length b ≤ n)
AreCut n (b ∷ c ∷ bs) = (length b ≡ n) × AreCut n (c ∷ bs)

-- Holds if, while the stream is open, the blocks are whole and the rest is shorter than one; after the close there is no rest.
abbrev pub IsCutUp : ℕ → Bool → List (List ℕ) → List ℕ → Type 0
IsCutUp n false queue rest = AreLong n queue × (length rest < n)
IsCutUp n true queue rest = AreCut n queue × (rest ≡ [])

-- The same for a stream that has not ended; nothing for one that has.
abbrev pub CutUp : Option StreamEnd → ℕ → Bool → List (List ℕ) → List ℕ → Type 0
CutUp None n closed queue rest = IsCutUp n closed queue rest
CutUp (Some e) n closed queue rest = Unit {0}

-- The conditions that the fields of the code fulfil.
pub record IsKept (m : Stream) (queue : List (List ℕ)) (rest : List ℕ) (asked : Option Request) : Type 0 where
  pub asks : asked ≡ wanted m
  pub room : HasRoom m
  -- a stream without an upload has no parts
  pub parts : m.upload ≡ None → m.tags ≡ []
  -- a delayed output that is done has an upload
  pub done : m.end ≡ Some Done → m.upload ≡ None → is_direct m.mode ≡ true
  pub cut : CutUp m.end m.block m.closed queue rest

-- The first block, or no bytes if there is none.
abbrev pub first_of : List (List ℕ) → List ℕ
first_of [] = []
first_of (b ∷ bs) = b

-- These blocks if there are any, else the others.
abbrev pub front_of : List (List ℕ) → List (List ℕ) → List (List ℕ)
front_of queue others = cond (has_some queue) queue others

-- The rest as a block of its own, if there is a rest.
abbrev pub last_of : List ℕ → List (List ℕ)
last_of [] = []
last_of (x ∷ xs) = (x ∷ xs) ∷ []

-- True if the first block is whole.
abbrev pub is_whole : ℕ → List (List ℕ) → Bool
is_whole n [] = false
is_whole n (b ∷ bs) = nat_le n (length b)

-- True if a part is to be sent, given the blocks that are cut off.
abbrev pub is_due : ℕ → List (List ℕ) → Bool → List Spelled → Bool
is_due n queue closed tags = is_whole n queue || (closed && (has_some queue || not (has_some tags)))

-- True if this is a closed direct output of fewer bytes than a block.
abbrev pub is_short : StreamMode → ℕ → List (List ℕ) → Bool → Bool
is_short mode n queue closed = is_direct mode && (closed && not (is_whole n queue))

-- The stage of a stream, given the blocks that are cut off.
abbrev pub stage_by : StreamMode → ℕ → List (List ℕ) → Bool → List Spelled → Option ℕ → StreamStage
stage_by mode n queue closed tags None = cond (is_short mode n queue closed) Putting (begin_or_wait (is_due n queue closed tags))
stage_by mode n queue closed tags (Some id) = cond (is_due n queue closed tags) Sending (complete_or_wait closed)

-- The stage and maybe the end: a delayed output ends where a direct one would be completed.
abbrev pub settles : StreamMode → StreamStage → StreamStage × Option StreamEnd
settles Delayed Completing = (Over, Some Done)
settles _ g = (g, None)

-- The request or the end at this stage, with these blocks and tags.
abbrev pub next_at : StreamStage × Option StreamEnd → List ℕ → List ℕ → List (List ℕ) → List Spelled → Option ℕ → Option Request
    × Option StreamEnd
next_at g bucket key queue tags upload = (asks_with g.0 bucket key (unwrap_or upload 0) tags (first_of queue), g.1)

-- The next request, or the end.
abbrev pub next_by : StreamMode → List ℕ → List ℕ → ℕ → List (List ℕ) → Bool → List Spelled → Option ℕ → Option Request × Option StreamEnd
next_by mode bucket key block queue closed tags upload = next_at (settles mode (stage_by mode block queue closed tags upload)) bucket key
    queue tags upload
