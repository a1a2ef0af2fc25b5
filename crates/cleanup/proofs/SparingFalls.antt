-- The bound on the requests that a sparing clean has left falls.
use Rattle.cleanup.proofs.Falling.{of_some}
use Rattle.cleanup.proofs.Pages.{Moved, page_moves}
use Rattle.cleanup.specs.CleansEnd.{SparingsEnd}
use Rattle.cleanup.specs.SparingFits.{FitsSparing, NamesFew, most_commits}
use Rattle.cleanup.specs.SparingLeft.{listing_left, named_most, reading_left, sparing_left_at, walking_left}
use Rattle.job_model.specs.JobScript.{Script}
use Rattle.job_model.specs.Jobs.{Job}
use Rattle.job_protocol.specs.AtWork.{job_script}
use Rattle.job_protocol.specs.Sparing.{Aborting, Deleting, Naming, Reading, Removing, Sparing, SparingOver, Walking, aborting, deleting}
use Rattle.job_protocol.specs.Sparing.{names, reading_on, record_names, record_request, removing, sparing_asks, sparing_hears, walking}
use Rattle.list_walk.proofs.Counting.{one_most}
use Rattle.list_walk.proofs.Falling.{walk_laws}
use Rattle.list_walk.proofs.Growing.{growth}
use Rattle.list_walk.specs.Left.{adds_key, files_left, keys_left}
use Rattle.list_walk.specs.Walks.{More, Walked, Whole, last_of, page_after, walked}
use Rattle.magic_paths.specs.Places.{is_record}
use Rattle.s3_types.specs.Answer.{answer, answer_at, apply, found}
use Rattle.s3_types.specs.Pages.{begins}
use Rattle.s3_types.specs.Store.{BucketContent, Scene}
use Rattle.s3_types.specs.declared.request.Committer.{Committer}
use Rattle.s3_types.specs.declared.request.Request.{Request}
use Rattle.s3_types.specs.declared.request.Request.TheVariants.{AbortUpload, ClusterDelete, DeleteObjects, GetObject}
use Rattle.s3_types.specs.declared.request.UploadRef.{UploadRef}
use Rattle.std.proofs.Common.{Err, List, None, Ok, Option, Some, ap, arith, drop, length, length-append, length-drop, not, refl, subst, sym}
use Rattle.std.proofs.Common.{take, ℕ, [], ◌++◌, ◌+◌, ◌-◌, ◌<◌, ◌∷◌, ◌≡◌, ◌≤◌}
use Rattle.std.proofs.lemmas.List.Filters.{length-filter_both}
use Rattle.std.specs.List.{filter}
use Rattle.std.specs.Prelude.{IfSome}
use Rattle.std.specs.FinMap as fin
use Rattle.pending_json.specs.Reading as reading
use Rattle.magic_paths.specs.Layout as layout

-- ---- the numbers alone

-- The facts about numbers for a committer.
record Numbers (c : Committer) : Type 0 where
  -- One more place was read, which named no more uploads than it may.
  read_less : (places named new all : ℕ) → new ≤ named_most c
      → reading_left c places (named + new) all < reading_left c (1 + places) named all
  -- A page was walked.
  walk_less : (known more known' more' : ℕ) → known' + more' ≤ known + more → more' < more
      → walking_left c known' more' < walking_left c known more
  -- All was listed, and no more places will be read.
  list_less : (places all most : ℕ) → places ≤ all → all ≤ most → reading_left c places 0 all < listing_left c most
  list_walked : (known more n : ℕ) → n < listing_left c (known + more) → n < walking_left c known more
  none_left : (named all : ℕ) → named + all ≤ reading_left c 0 named all
  -- One more item is to be listed.
  one_more : (n n' : ℕ) → n' ≤ n + 1 → listing_left c n' ≤ listing_left c n + (2 + most_commits)
  key_more : (known more more' : ℕ) → more' ≤ more + 1 → walking_left c known more' ≤ walking_left c known more + (3 + most_commits)
  some_walking : (known more : ℕ) → 0 < walking_left c known more
  some_listing : (n : ℕ) → 0 < listing_left c n
  some_reading : (places named all : ℕ) → 0 < reading_left c (1 + places) named all

numbers : (c : Committer) → Numbers c
numbers c = grind arith

-- ---- the bound after a step

deleting_left : (j : Job) (ks : List (List ℕ)) (s : Scene) → sparing_left_at j (deleting ks) s ≡ length ks
deleting_left j ks s = grind arith

removing_left : (j : Job) (ps : List (List ℕ)) (s : Scene) → sparing_left_at j (removing ps) s ≡ length ps
removing_left j ps s = grind arith

aborting_left : (j : Job) (us : List UploadRef) (all : List (List ℕ)) (s : Scene)
    → sparing_left_at j (aborting j.committer us all) s ≡ length us + length all
aborting_left j us all s = grind arith

reading_on_left : (j : Job) (named : List UploadRef) (ps all : List (List ℕ)) (s : Scene)
    → sparing_left_at j (reading_on j.committer named ps all) s ≤ reading_left j.committer (length ps) (length named) (length all)
reading_on_left j named ps all s = grind arith

-- ---- the uploads that an answer names

object_few : (o : Option BucketContent) (next minimum : ℕ) (b k : List ℕ) → length (names (answer_at o next minimum (GetObject b k))) ≤ 1
object_few None next minimum b k = omega arith
object_few (Some c) next minimum b k = elim (fin.get c.objects k) as (λ o. length (names (found o)) ≤ 1) [
  | Some x ↦ elim (reading.pending_of x.bytes) as (λ r. length (record_names r) ≤ 1) [ Ok p ↦ omega arith | Err f ↦ omega arith ]
  | None ↦ omega arith
]

named_few : (c : Committer) (w : Script) (p : List ℕ) (s : Scene) → NamesFew (answer s (record_request c w p))
    → length (names (answer s (record_request c w p))) ≤ named_most c
named_few c w p s h = grind arith

-- ---- the bound falls

listed_left : (j : Job) (ps all : List (List ℕ)) (most : ℕ) (s : Scene) → length ps ≤ length all → length all ≤ most
    → sparing_left_at j (reading_on j.committer [] ps all) s < listing_left j.committer most
listed_left j ps all most s h g = grind arith

abbrev to_come : Job → List (List ℕ) → Scene → ℕ
to_come j keys s = keys_left j.dest.bucket (layout.magic_prefix j.dest.key j.job) (last_of keys) s

walked_left : (j : Job) (keys : List (List ℕ)) (s : Scene) (x : Walked (List ℕ))
    → Moved j.dest.bucket (layout.magic_prefix j.dest.key j.job) s (length keys + to_come j keys s) (to_come j keys s) x
    → sparing_left_at j (walking j.committer x) s < sparing_left_at j (Walking keys) s
walked_left j keys s (More ks) h = (numbers j.committer).walk_less (length keys) (to_come j keys s) (length ks) (to_come j ks s) h.0 h.1
walked_left j keys s (Whole ks) h =
    let few = length-filter_both is_record (λ k. not (is_record k)) (λ k. refl) ks in
    (numbers j.committer).list_walked (length keys) (to_come j keys s) (sparing_left_at j
    (reading_on j.committer [] (filter is_record ks) ks) s)
    (listed_left j (filter is_record ks) ks (length keys + to_come j keys s) s (omega (arith, few)) h)

abbrev Falls : Job → Sparing → Scene → Request → Type 0
Falls j x s r = FitsSparing x (answer s r) → sparing_left_at j (sparing_hears (job_script j) x (answer s r)) (apply s r) < sparing_left_at j
    x s

falls_at : (j : Job) (x : Sparing) (s : Scene) → IfSome (sparing_asks (job_script j) x) (Falls j x s)
falls_at j (Walking keys) s = λ h.
    let w = walked keys (answer s (page_after j.dest.bucket (layout.magic_prefix j.dest.key j.job) keys)) in
    subst (λ z. sparing_left_at j (walking j.committer w) z < sparing_left_at j (Walking keys) s)
    (sym (walk_laws.still j.dest.bucket (layout.magic_prefix j.dest.key j.job) keys s))
    (walked_left j keys s w (page_moves j.dest.bucket (layout.magic_prefix j.dest.key j.job) keys s h))
falls_at j Naming s = λ h.
    let paths = filter (begins (layout.cluster_prefix j.job)) (fin.keys s.files) in
    listed_left j paths paths (files_left (layout.cluster_prefix j.job) s) s (omega arith) (omega arith)
falls_at j (Reading named p ps all) s = λ h.
    let q = record_request j.committer (job_script j) p in
    let new = names (answer s q) in
    let r = reading_on_left j (named ++ new) ps all (apply s q) in
    let e = ap (λ n. reading_left j.committer (length ps) n (length all)) (length-append named new) in
    let n = (numbers j.committer).read_less (length ps) (length named) (length new) (length all)
    (named_few j.committer (job_script j) p s h) in
    omega (arith, r, e, n)
falls_at j (Aborting u us all) s = λ h. let e = aborting_left j us all (apply s (AbortUpload j.dest.bucket u.key u.upload)) in omega
    (arith, e)
falls_at j (Deleting k ks) s = λ h.
    let e = deleting_left j (drop 1000 (k ∷ ks)) (apply s (DeleteObjects j.dest.bucket (take 1000 (k ∷ ks)))) in
    let d : length (drop 1000 (k ∷ ks)) ≡ length (k ∷ ks) - 1000 = length-drop 1000 (k ∷ ks) in
    omega (arith, e, d)
falls_at j (Removing p ps) s = λ h. let e = removing_left j ps (apply s (ClusterDelete p)) in omega (arith, e)
falls_at j (SparingOver end) s = tt

-- ---- the bound is positive while there is a request, and rises by no more than allowed

some_left : (j : Job) (x : Sparing) (s : Scene) → IfSome (sparing_asks (job_script j) x) (λ r. 0 < sparing_left_at j x s)
some_left j x s = grind arith

no_rise_at : (j : Job) (x : Sparing) (s : Scene) → IfSome (sparing_asks (job_script j) x)
    (λ r. sparing_left_at j x (apply s r) ≤ sparing_left_at j x s)
no_rise_at j (Walking keys) s = let i = ap (sparing_left_at j (Walking keys))
    (walk_laws.still j.dest.bucket (layout.magic_prefix j.dest.key j.job) keys s) in omega (arith, i)
no_rise_at j (SparingOver end) s = tt
no_rise_at j _ s = omega arith

others_at : (j : Job) (x : Sparing) (s : Scene) (r : Request) → sparing_left_at j x (apply s r) ≤ sparing_left_at j x s + (3 + most_commits)
others_at j (Walking keys) s r =
    let g = growth.keys j.dest.bucket (layout.magic_prefix j.dest.key j.job) (last_of keys) s r in
    let o = one_most (adds_key r) in
    (numbers j.committer).key_more (length keys) (to_come j keys s) (to_come j keys (apply s r)) (omega (arith, g, o))
others_at j Naming s r =
    let g = growth.files (layout.cluster_prefix j.job) s r in
    let l = (numbers j.committer).one_more (files_left (layout.cluster_prefix j.job) s)
    (files_left (layout.cluster_prefix j.job) (apply s r)) g in
    omega (arith, l)
others_at j (Reading named p ps all) s r = omega arith
others_at j _ s r = omega arith

pub sparings_end : SparingsEnd
sparings_end = record {
  falls = λ m s r b e h. of_some (Falls m.plan m.operation s) _ r e (falls_at m.plan m.operation s) h;
  falls_worn = λ m s r e. of_some (λ r. 0 < sparing_left_at m.plan m.operation s) _ r e (some_left m.plan m.operation s);
  no_rise = λ m s r e. of_some (λ r. sparing_left_at m.plan m.operation (apply s r) ≤ sparing_left_at m.plan m.operation s) _ r e
      (no_rise_at m.plan m.operation s);
  others = λ m s r. others_at m.plan m.operation s r;
}
