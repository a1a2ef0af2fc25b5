-- Walks over listings page by page, and the deletion of keys in batches (Amazon S3 API: ListObjectsV2, ListMultipartUploads,
-- DeleteObjects).
use Rattle.s3_types.specs.Pages.{text_in}
use Rattle.s3_types.specs.declared.reply.PageEntry.{PageEntry}
use Rattle.s3_types.specs.declared.reply.Reply.{Reply}
use Rattle.s3_types.specs.declared.reply.Reply.TheVariants.{Page, Uploads}
use Rattle.s3_types.specs.declared.request.Request.{Request}
use Rattle.s3_types.specs.declared.request.Request.TheVariants.{DeleteObjects, ListPage, ListUploads}
use Rattle.s3_types.specs.declared.request.UploadRef.{UploadRef}
use Rattle.std.specs.List.{filter}
use Rattle.std.specs.Prelude.{Bool, List, None, Option, Some, drop, false, map, take, true, ℕ, [], ◌++◌, ◌∷◌}

-- A walk after a page: the entries found so far, if more pages remain; or all of them.
pub data Walked (X : Type 0) : Type 0 where
  More : (found : List X) → Walked X
  Whole : (found : List X) → Walked X

-- The walk with these entries; the Bool says whether more pages remain.
abbrev pub walked_by : {X : Type 0} → Bool → List X → Walked X
walked_by true found = More found
walked_by false found = Whole found

-- ---- keys

-- The keys on a page.
abbrev pub keys_on : List PageEntry → List (List ℕ)
keys_on entries = map text_in entries

-- The last of the keys, or the empty text.
abbrev pub last_of : List (List ℕ) → List ℕ
last_of [] = []
last_of (k ∷ []) = k
last_of (k ∷ l ∷ keys) = last_of (l ∷ keys)

-- The request for the page after the keys found so far.
abbrev pub page_after : List ℕ → List ℕ → List (List ℕ) → Request
page_after bucket prefix keys = ListPage bucket prefix false (last_of keys) 1000

-- The walk after a page: its keys are added, and it says whether more remain.
abbrev pub walked : List (List ℕ) → Reply → Walked (List ℕ)
walked keys (Page entries more) = walked_by more (keys ++ keys_on entries)
walked keys _ = More keys

-- The walk after a page: its entries are added, and it says whether more remain.
abbrev pub walked_entries : List PageEntry → Reply → Walked PageEntry
walked_entries found (Page entries more) = walked_by more (found ++ entries)
walked_entries found _ = More found

-- ---- uploads

-- The last of these uploads, or `l` if there is none.
abbrev pub last_ref : Option UploadRef → List UploadRef → Option UploadRef
last_ref l [] = l
last_ref l (r ∷ rs) = last_ref (Some r) rs

-- The request for the page after the live uploads found so far.
abbrev pub uploads_after : List ℕ → List ℕ → List UploadRef → Request
uploads_after bucket prefix found = ListUploads bucket prefix (last_ref None found) 1000

-- The walk over live uploads after a page of ListMultipartUploads.
abbrev pub walked_uploads : List UploadRef → Reply → Walked UploadRef
walked_uploads found (Uploads refs more) = walked_by more (found ++ refs)
walked_uploads found _ = More found

-- ---- a sweep: lists all keys below a prefix, and then deletes those that pass a test

-- The state of a sweep.
pub data Sweep : Type 0 where
  -- It lists, and has found these keys so far.
  Listing : (keys : List (List ℕ)) → Sweep
  -- It deletes these keys, at most 1,000 at a time.
  Deleting : (key : List ℕ) (keys : List (List ℕ)) → Sweep

-- A sweep starts with its first page.
abbrev pub sweep_start : Sweep
sweep_start = Listing []

-- The next request of a sweep: the next page, or the next batch of at most 1,000 keys.
abbrev pub sweep_asks : List ℕ → List ℕ → Sweep → Request
sweep_asks bucket prefix (Listing keys) = page_after bucket prefix keys
sweep_asks bucket prefix (Deleting k ks) = DeleteObjects bucket (take 1000 (k ∷ ks))

-- The sweep that deletes these keys, or None if there are none: no request is sent for no keys.
abbrev pub deleting : List (List ℕ) → Option Sweep
deleting [] = None
deleting (k ∷ ks) = Some (Deleting k ks)

-- The sweep after a page. It is over if no key passes the test.
abbrev pub swept : (List ℕ → Bool) → Walked (List ℕ) → Option Sweep
swept goes (More keys) = Some (Listing keys)
swept goes (Whole keys) = deleting (filter goes keys)

-- The sweep after a reply, or None if it is over; `goes` says which keys to delete.
abbrev pub sweep_hears : (List ℕ → Bool) → Sweep → Reply → Option Sweep
sweep_hears goes (Listing keys) r = swept goes (walked keys r)
sweep_hears goes (Deleting k ks) r = deleting (drop 1000 (k ∷ ks))

-- Every key passes.
abbrev pub all_go : List ℕ → Bool
all_go key = true
