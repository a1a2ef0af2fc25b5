-- Pages by a walk over the entries. It finds the place of each next entry.
use Rattle.text_and_lists.specs.Order.{text_cmp}
use Rattle.s3_types.specs.Pages.{begins, entry_of, stem_if}
use Rattle.s3_types.specs.declared.object.Object.{Object}
use Rattle.s3_types.specs.declared.reply.PageEntry.{PageEntry}
use Rattle.std.specs.Ordering.{is_lt}
use Rattle.std.specs.Prelude.{Bool, List, None, Option, Some, cond, ℕ, [], ◌&&◌, ◌++◌, ◌∷◌, ◌≡◌}
use Rattle.std.specs.declared.ops.Bound.{Bound}
use Rattle.std.specs.declared.ops.Bound.TheVariants.{Excluded, Included}

-- The text of a key's entry: its common prefix, or the key.
abbrev pub text_by : Option (List ℕ) → List ℕ → List ℕ
text_by (Some s) q = s ++ 47 ∷ []
text_by None q = q

-- The text of the entry of key q: its common prefix, or the key.
abbrev pub text_of : List ℕ → Bool → List ℕ → List ℕ
text_of p delimited q = text_by (stem_if delimited p q) q

-- The entries of the keys that begin with p, each with a text greater than that of the entry before it, or than `last` for the first.
abbrev pub walked : List ℕ → Bool → List ℕ → List (List ℕ × Object) → List PageEntry
walked p delimited last [] = []
walked p delimited last (e ∷ es) =
    cond (begins p e.0 && is_lt (text_cmp last (text_of p delimited e.0)))
    (entry_of p delimited e ∷ walked p delimited (text_of p delimited e.0) es)
    (walked p delimited last es)

-- Where to look for the entries after a text: after its common prefix, or at p if the text is less, or after the text.
abbrev pub start_by : Option (List ℕ) → List ℕ → List ℕ → Bound (List ℕ)
start_by (Some s) p last = Included (s ++ 48 ∷ [])
start_by None p last = cond (is_lt (text_cmp last p)) (Included p) (Excluded last)

-- Where the entries after a text begin.
abbrev pub start : List ℕ → Bool → List ℕ → Bound (List ℕ)
start p delimited last = start_by (stem_if delimited p last) p last

-- The next entry after a text is that of e; or there is no next entry.
abbrev pub ComesNext : List ℕ → Bool → List ℕ → List (List ℕ × Object) → Option (List ℕ × Object) → Type 0
ComesNext p delimited last es None = walked p delimited last es ≡ []
ComesNext p delimited last es (Some e) = walked p delimited last es ≡ entry_of p delimited e ∷ walked p delimited (text_of p delimited e.0)
    es
