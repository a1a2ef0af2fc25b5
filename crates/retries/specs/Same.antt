-- Whether two requests are equal.
use Rattle.text_and_lists.specs.Order.{text_eq}
use Rattle.s3_types.specs.declared.request.NamedPart.{NamedPart}
use Rattle.s3_types.specs.declared.request.Request.{Request}
use Rattle.s3_types.specs.declared.request.Request.TheVariants.{AbortUpload, ClusterDelete, ClusterGet, ClusterList, ClusterPut}
use Rattle.s3_types.specs.declared.request.Request.TheVariants.{ClusterRename, CompleteUpload, CopyObject, CreateUpload, DeleteObject}
use Rattle.s3_types.specs.declared.request.Request.TheVariants.{DeleteObjects, GetObject, HeadObject, ListPage, ListParts, ListUploads}
use Rattle.s3_types.specs.declared.request.Request.TheVariants.{MakeBucket, PutObject, UploadPart}
use Rattle.s3_types.specs.declared.request.UploadRef.{UploadRef}
use Rattle.std.specs.Prelude.{Bool, List, None, Option, Some, false, nat_eq, true, [], ◌&&◌, ◌∷◌}

-- True if the lists have equal members, one by one.
abbrev pub same_list : {X : Type 0} → (X → X → Bool) → List X → List X → Bool
same_list same [] [] = true
same_list same (x ∷ xs) (y ∷ ys) = same x y && same_list same xs ys
same_list same _ _ = false

-- True if the two optional values are equal.
abbrev pub same_option : {X : Type 0} → (X → X → Bool) → Option X → Option X → Bool
same_option same None None = true
same_option same (Some x) (Some y) = same x y
same_option same _ _ = false

-- True if the two truth values are equal.
abbrev pub same_bool : Bool → Bool → Bool
same_bool true b = b
same_bool false true = false
same_bool false false = true

-- True if the two named parts of a completion are equal.
abbrev pub same_part : NamedPart → NamedPart → Bool
same_part p q = nat_eq p.number q.number && (text_eq p.tag.digits q.tag.digits && nat_eq p.tag.parts q.tag.parts)

-- True if the two uploads have the same key and id.
abbrev pub same_ref : UploadRef → UploadRef → Bool
same_ref r s = text_eq r.key s.key && nat_eq r.upload s.upload

-- True if the requests are of one kind and their fields are equal.
abbrev pub same_request : Request → Request → Bool
same_request (MakeBucket n) (MakeBucket m) = text_eq n m
same_request (PutObject b k x h) (PutObject c l y g) = text_eq b c && (text_eq k l && (text_eq x y && same_option nat_eq h g))
same_request (GetObject b k) (GetObject c l) = text_eq b c && text_eq k l
same_request (HeadObject b k) (HeadObject c l) = text_eq b c && text_eq k l
same_request (DeleteObject b k) (DeleteObject c l) = text_eq b c && text_eq k l
same_request (DeleteObjects b ks) (DeleteObjects c ls) = text_eq b c && same_list text_eq ks ls
same_request (CopyObject b s t) (CopyObject c u v) = text_eq b c && (text_eq s u && text_eq t v)
same_request (ListPage b p d a n) (ListPage c q e z m) = text_eq b c && (text_eq p q && (same_bool d e && (text_eq a z && nat_eq n m)))
same_request (CreateUpload b k) (CreateUpload c l) = text_eq b c && text_eq k l
same_request (UploadPart b k i n x) (UploadPart c l j m y) = text_eq b c && (text_eq k l && (nat_eq i j && (nat_eq n m && text_eq x y)))
same_request (CompleteUpload b k i ps) (CompleteUpload c l j qs) = text_eq b c && (text_eq k l && (nat_eq i j && same_list same_part ps qs))
same_request (AbortUpload b k i) (AbortUpload c l j) = text_eq b c && (text_eq k l && nat_eq i j)
same_request (ListParts b k i) (ListParts c l j) = text_eq b c && (text_eq k l && nat_eq i j)
same_request (ListUploads b p a n) (ListUploads c q z m) = text_eq b c && (text_eq p q && (same_option same_ref a z && nat_eq n m))
same_request (ClusterPut p x) (ClusterPut q y) = text_eq p q && text_eq x y
same_request (ClusterRename s t) (ClusterRename u v) = text_eq s u && text_eq t v
same_request (ClusterGet p) (ClusterGet q) = text_eq p q
same_request (ClusterDelete p) (ClusterDelete q) = text_eq p q
same_request (ClusterList p) (ClusterList q) = text_eq p q
same_request _ _ = false
