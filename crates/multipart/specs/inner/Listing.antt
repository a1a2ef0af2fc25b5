-- The listing of uploads, as a walk over the index.
use Rattle.text_and_lists.specs.Order.{text_cmp}
use Rattle.s3_types.specs.Pages.{begins}
use Rattle.s3_types.specs.declared.request.UploadRef.{UploadRef}
use Rattle.std.specs.List.{AllByRecursion, filter}
use Rattle.std.specs.Ordering.{is_lt}
use Rattle.std.specs.Prelude.{List, false, ℕ, [], ◌∷◌, ◌≡◌}

-- The uploads whose keys begin with p.
abbrev pub below : List ℕ → List UploadRef → List UploadRef
below p rs = filter (λ r. begins p r.key) rs

-- The keys do not fall, from p on.
abbrev pub Follows : List ℕ → List UploadRef → Type 0
Follows p [] = Unit {0}
Follows p (r ∷ rs) = (is_lt (text_cmp r.key p) ≡ false) × Follows r.key rs

-- Each place is stored with its own key.
abbrev pub AreOwn : List (UploadRef × List ℕ) → Type 0
AreOwn es = AllByRecursion (λ e. e.1 ≡ e.0.key) es
