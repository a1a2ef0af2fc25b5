-- Definitions beside those of `Asking` that no public contract cites.
use Rattle.s3_types.specs.declared.request.Request.{Request}
use Rattle.s3_types.specs.declared.request.UploadRef.{UploadRef}
use Rattle.std.specs.Prelude.{List, ℕ, ◌≡◌}
use Rattle.text_and_lists.specs.Members.{IsIn}

-- Holds if this is such a request on one of these uploads.
abbrev pub OnOne : (List ℕ → UploadRef → Request) → List ℕ → List UploadRef → Request → Type 0
OnOne asks bucket us r = (u : UploadRef) × IsIn u us × (r ≡ asks bucket u)
