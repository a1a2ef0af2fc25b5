-- What changes leave of a store.
use Rattle.journal_log.proofs.Imaged.{on_and_on}
use Rattle.journal_log.proofs.Journals.{others_leave}
use Rattle.journal_log.specs.Changes.{content_after}
use Rattle.log_format.specs.Change.{is_changing}
use Rattle.s3_types.specs.Answer.{apply_at, apply_store}
use Rattle.s3_types.specs.Requests.{is_cluster}
use Rattle.s3_types.specs.Store.{BucketContent, Content, opening}
use Rattle.s3_types.specs.declared.request.Request.{Request}
use Rattle.s3_types.specs.declared.request.Request.TheVariants.{ClusterDelete, ClusterGet, ClusterList, ClusterPut, ClusterRename}
use Rattle.s3_types.specs.declared.request.Request.TheVariants.{GetObject, HeadObject, ListPage, ListParts, ListUploads}
use Rattle.std.proofs.Common.{List, None, Option, Some, ap, arith, false, refl, true, [], ◌<◌, ◌^◌, ◌∙◌, ◌≡◌}
use Rattle.std.specs.FinMap as fin

-- ---- one request

-- A request to the cluster leaves of a store what a read of the bucket without a name leaves.
unnamed : (c : Content) (o : Option BucketContent) (r : Request) → is_cluster r ≡ true → apply_at o c r ≡ apply_at o c (GetObject [] [])
unnamed c None r h = refl
unnamed c (Some b) (ClusterPut path bytes) h = refl
unnamed c (Some b) (ClusterRename source target) h = refl
unnamed c (Some b) (ClusterGet path) h = refl
unnamed c (Some b) (ClusterDelete path) h = refl
unnamed c (Some b) (ClusterList p) h = refl
unnamed c (Some b) _ h = absurd (cc)

read : (c : Content) → apply_store c (GetObject [] []) ≡ c
read c = others_leave (opening c) (GetObject [] []) refl

-- A request that is not changing leaves the store as it is.
pub others : (c : Content) (r : Request) → is_changing r ≡ false → apply_store c r ≡ c
others c (GetObject n k) h = others_leave (opening c) (GetObject n k) h
others c (HeadObject n k) h = others_leave (opening c) (HeadObject n k) h
others c (ListPage n p t after limit) h = others_leave (opening c) (ListPage n p t after limit) h
others c (ListParts n k id) h = others_leave (opening c) (ListParts n k id) h
others c (ListUploads n p after limit) h = others_leave (opening c) (ListUploads n p after limit) h
others c (ClusterPut path bytes) h = unnamed c (fin.get c.buckets []) (ClusterPut path bytes) refl ∙ read c
others c (ClusterRename source target) h = unnamed c (fin.get c.buckets []) (ClusterRename source target) refl ∙ read c
others c (ClusterGet path) h = unnamed c (fin.get c.buckets []) (ClusterGet path) refl ∙ read c
others c (ClusterDelete path) h = unnamed c (fin.get c.buckets []) (ClusterDelete path) refl ∙ read c
others c (ClusterList p) h = unnamed c (fin.get c.buckets []) (ClusterList p) refl ∙ read c
others c _ h = absurd (cc)

-- A changing request is one to the store, not to the cluster.
pub of_store : (r : Request) → is_changing r ≡ true → is_cluster r ≡ false
of_store (ClusterPut path bytes) h = absurd (cc)
of_store (ClusterRename source target) h = absurd (cc)
of_store (ClusterGet path) h = absurd (cc)
of_store (ClusterDelete path) h = absurd (cc)
of_store (ClusterList p) h = absurd (cc)
of_store _ h = refl

-- A counter that is too high stays too high.
pub high : (c d : Content) (rs : List Request) → content_after c rs ≡ d → 2 ^ 62 < c.next → 2 ^ 62 < d.next
high c d rs e h = omega (arith, h, (on_and_on c rs).later, ap (λ (x : Content). x.next) e)
