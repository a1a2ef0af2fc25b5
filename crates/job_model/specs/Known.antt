-- What an attempt knows from its own requests.
use Rattle.s3_types.specs.Tags.{Spelled}
use Rattle.std.specs.Prelude.{Bool, List, false, ℕ, [], ◌++◌, ◌∷◌}

-- An upload whose id the attempt received: its key, its id, and the tags and sizes of its acknowledged parts.
pub record Drawn : Type 0 where
  pub key : List ℕ
  pub upload : ℕ
  pub tags : List Spelled
  pub sizes : List ℕ

-- What an attempt knows.
pub record Known : Type 0 where
  -- The uploads whose ids it received, the newest one first.
  pub drawn : List Drawn
  -- True if it has sent the put of its temporary file.
  pub put_sent : Bool
  -- True if it has sent its publishing request, with or without success.
  pub publish_sent : Bool

-- The knowledge of an attempt that has sent nothing.
abbrev pub nothing_known : Known
nothing_known = record { drawn = []; put_sent = false; publish_sent = false }

-- The uploads, where the newest one has one more part.
abbrev pub with_last : Spelled → ℕ → List Drawn → List Drawn
with_last tag size [] = []
with_last tag size (d ∷ ds) = record { key = d.key; upload = d.upload; tags = d.tags ++ tag ∷ []; sizes = d.sizes ++ size ∷ [] } ∷ ds
