-- The changes that a journal makes in a store.
use Rattle.log_format.specs.Change.{is_changing}
use Rattle.s3_types.specs.Answer.{apply_store}
use Rattle.s3_types.specs.Moment.{is_effective}
use Rattle.s3_types.specs.Store.{Content}
use Rattle.s3_types.specs.declared.journal.Entry.{Entry}
use Rattle.s3_types.specs.declared.request.Request.{Request}
use Rattle.std.specs.List.{filter}
use Rattle.std.specs.Prelude.{List, map, [], ◌++◌, ◌∷◌, ◌≡◌}

-- The requests of the entries that took effect and may change a store, in order.
unfoldable pub changes : List Entry → List Request
changes es = filter is_changing (map (λ e. e.request) (filter (λ e. is_effective e.outcome) es))

-- The content after these requests.
abbrev pub content_after : Content → List Request → Content
content_after c [] = c
content_after c (r ∷ rs) = content_after (apply_store c r) rs

-- Holds if `front` is a prefix of `all`.
abbrev pub Begins : {X : Type 0} → List X → List X → Type 0
Begins {X} front all = (rest : List X) × (front ++ rest ≡ all)
