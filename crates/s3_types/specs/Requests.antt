-- Whether a request goes to the store or to the cluster, and whether it may change anything.
use Rattle.s3_types.specs.declared.request.Request.{Request}
use Rattle.s3_types.specs.declared.request.Request.TheVariants.{ClusterDelete, ClusterGet, ClusterList, ClusterPut, ClusterRename}
use Rattle.s3_types.specs.declared.request.Request.TheVariants.{GetObject, HeadObject, ListPage, ListParts, ListUploads}
use Rattle.std.specs.Prelude.{Bool, false, true}

-- True if the request goes to the cluster file system and not to the store.
abbrev pub is_cluster : Request → Bool
is_cluster (ClusterPut path bytes) = true
is_cluster (ClusterRename source target) = true
is_cluster (ClusterGet path) = true
is_cluster (ClusterDelete path) = true
is_cluster (ClusterList p) = true
is_cluster _ = false

-- True if the request only reads.
abbrev pub only_reads : Request → Bool
only_reads (GetObject n k) = true
only_reads (HeadObject n k) = true
only_reads (ListPage n p delimited after limit) = true
only_reads (ListParts n k id) = true
only_reads (ListUploads n p after limit) = true
only_reads (ClusterGet path) = true
only_reads (ClusterList p) = true
only_reads _ = false
