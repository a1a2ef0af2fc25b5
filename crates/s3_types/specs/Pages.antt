-- Pages of a bucket's objects (Amazon S3 API: ListObjectsV2).
use Rattle.text_and_lists.specs.Order.{text_cmp}
use Rattle.s3_types.specs.Store.{Objects}
use Rattle.s3_types.specs.declared.object.Object.{Object}
use Rattle.s3_types.specs.declared.reply.PageEntry.{PageEntry}
use Rattle.s3_types.specs.declared.reply.PageEntry.TheVariants.{Object as Single, Prefix}
use Rattle.s3_types.specs.declared.reply.Reply.{Reply}
use Rattle.s3_types.specs.declared.reply.Reply.TheVariants.{Page}
use Rattle.std.specs.List.{filter}
use Rattle.std.specs.Option.{option_map}
use Rattle.std.specs.Ordering.{eq_by_cmp, is_lt}
use Rattle.std.specs.Prelude.{Bool, List, None, Option, Some, cond, false, length, map, nat_eq, nat_lt, take, true, ℕ, [], ◌&&◌, ◌++◌, ◌∷◌}
use Rattle.std.specs.FinMap as fin

-- True if the text q begins with p: `begins p q`.
abbrev pub begins : List ℕ → List ℕ → Bool
begins [] q = true
begins (x ∷ p) [] = false
begins (x ∷ p) (y ∷ q) = nat_eq x y && begins p q

-- The part of a text before its first `/`, if it has one.
abbrev pub before_slash : List ℕ → Option (List ℕ)
before_slash [] = None
before_slash (x ∷ q) = cond (nat_eq x 47) (Some []) (option_map (λ s. x ∷ s) (before_slash q))

-- If a text begins with p: its part before the first `/` after p, if there is one.
abbrev pub stem : List ℕ → List ℕ → Option (List ℕ)
stem [] q = before_slash q
stem (x ∷ p) [] = None
stem (x ∷ p) (y ∷ q) = cond (nat_eq x y) (option_map (λ s. y ∷ s) (stem p q)) None

-- The common prefix without its `/`, if the delimiter `/` is given.
abbrev pub stem_if : Bool → List ℕ → List ℕ → Option (List ℕ)
stem_if true p q = stem p q
stem_if false p q = None

-- A key's entry: its common prefix, or the key with the length of its object in bytes.
abbrev pub entry_by : Option (List ℕ) → List ℕ → ℕ → PageEntry
entry_by (Some s) q n = Prefix (s ++ 47 ∷ [])
entry_by None q n = Single q n

-- The entry that ListObjectsV2 gives for an object: its common prefix, or its key and length.
abbrev pub entry_of : List ℕ → Bool → List ℕ × Object → PageEntry
entry_of p delimited e = entry_by (stem_if delimited p e.0) e.0 (length e.1.bytes)

-- The text of an entry: the key or the common prefix.
abbrev pub text_in : PageEntry → List ℕ
text_in (Single k n) = k
text_in (Prefix t) = t

-- True if the entry has the same text as the one before it.
abbrev pub is_again : Option (List ℕ) → PageEntry → Bool
is_again None x = false
is_again (Some t) x = eq_by_cmp text_cmp t (text_in x)

-- The entries, with neighbours of the same text made one.
abbrev pub folded_from : Option (List ℕ) → List PageEntry → List PageEntry
folded_from last [] = []
folded_from last (x ∷ xs) = cond (is_again last x) (folded_from last xs) (x ∷ folded_from (Some (text_in x)) xs)

-- The entries of the keys that begin with p, if their texts are greater than `after`. Keys with the same common prefix are one entry.
abbrev pub listed : List ℕ → Bool → List ℕ → Objects → List PageEntry
listed p delimited after m =
    folded_from None (filter (λ x. is_lt (text_cmp after (text_in x))) (map (entry_of p delimited)
    (filter (λ e. begins p e.0) (fin.entries m))))

-- A page of at most `limit` entries, the least first, and whether more remain.
abbrev pub page : ℕ → List PageEntry → Reply
page limit xs = Page (take limit xs) (nat_lt limit (length xs))
