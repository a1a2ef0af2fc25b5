-- The objects of all buckets, and their puts and deletions.
use Rattle.std.specs.Prelude.{ℕ, List, Bool, ◌&&◌, Option, Some, None, cond}
use Rattle.std.specs.Coded.{Coded, coded_list, coded_ℕ}
use Rattle.std.specs.FinMap as map
use Rattle.std.specs.List.{list_any}
use Rattle.std.specs.Str.{bytes_eq}
use Rattle.text_and_lists.specs.Order.{text_cmp}
use Rattle.audit_claims.specs.Claims.{Tags}
use Rattle.audit_claims.specs.Etags.{TagMap, coded_tags}

-- The tags of the object at each bucket and key, if there is one.
abbrev pub Objects : Type 0
Objects = (bucket key : List ℕ) → Option Tags

-- A store without objects.
abbrev pub no_objects : Objects
no_objects bucket key = None

-- True if both are the same bucket and key.
abbrev pub same_place : (bucket key other_bucket other_key : List ℕ) → Bool
same_place bucket key other_bucket other_key = bytes_eq bucket other_bucket && bytes_eq key other_key

-- The objects after an object with these tags is put at a key.
abbrev pub put : (bucket key : List ℕ) → Tags → Objects → Objects
put bucket key tags objects b k = cond (same_place bucket key b k) (Some tags) (objects b k)

-- The objects after those at these keys of a bucket are deleted.
abbrev pub delete : (bucket : List ℕ) → (keys : List (List ℕ)) → Objects → Objects
delete bucket keys objects b k = cond (list_any (λ key. same_place bucket key b k) keys) None (objects b k)

-- ---- as finite maps

-- Buckets, each with the keys of its objects and their tags, as a finite map.
abbrev pub ObjectMap : Type 0
ObjectMap = map.FinMap text_cmp TagMap

-- The code of such a map.
abbrev pub coded_objects : Coded ObjectMap
coded_objects = map.code (coded_list coded_ℕ) coded_tags

-- The tags at a key of a bucket, if the bucket exists and has the key.
abbrev pub tags_in : Option TagMap → List ℕ → Option Tags
tags_in None key = None
tags_in (Some tags) key = map.get tags key

-- The objects of such a map.
abbrev pub at : ObjectMap → Objects
at objects bucket key = tags_in (map.get objects bucket) key
