-- The replies that walks and sweeps get if their bucket exists.
use Rattle.list_walk.specs.Walks.{Deleting, Listing, Sweep}
use Rattle.s3_types.specs.declared.reply.PageEntry.{PageEntry}
use Rattle.s3_types.specs.declared.reply.PageEntry.TheVariants.{Object as Single, Prefix}
use Rattle.s3_types.specs.declared.reply.Refusal.TheVariants.{NoSuchBucket}
use Rattle.s3_types.specs.declared.reply.Reply.{Reply}
use Rattle.s3_types.specs.declared.reply.Reply.TheVariants.{Page, Refused}
use Rattle.std.specs.List.{AllByRecursion}
use Rattle.std.specs.Prelude.{Bool, List, false, true}

-- The entry is a key and no common prefix.
abbrev pub IsKey : PageEntry → Type 0
IsKey (Single k n) = Unit {0}
IsKey (Prefix t) = ⊥

-- True if the entry is a key and no common prefix.
abbrev pub is_key : PageEntry → Bool
is_key (Single k n) = true
is_key (Prefix t) = false

-- The entries of a page are all keys.
abbrev pub AreKeys : List PageEntry → Type 0
AreKeys entries = AllByRecursion IsKey entries

-- The reply fits the request for a page without a delimiter: a page has only keys, and the bucket is not missing.
abbrev pub FitsPage : Reply → Type 0
FitsPage (Page entries more) = AreKeys entries
FitsPage (Refused NoSuchBucket) = ⊥
FitsPage _ = Unit {0}

-- The reply may come to the sweep.
abbrev pub FitsSweep : Sweep → Reply → Type 0
FitsSweep (Listing keys) r = FitsPage r
FitsSweep (Deleting k ks) r = Unit {0}

-- The reply fits the request for a page of live uploads: the bucket is not missing.
abbrev pub FitsUploads : Reply → Type 0
FitsUploads (Refused NoSuchBucket) = ⊥
FitsUploads _ = Unit {0}
