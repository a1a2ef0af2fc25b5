-- Requests that are the same by the test are equal.
use Rattle.text_and_lists.proofs.Members.{eq_nat as number_is, false_true, nat_true, text_is, text_true}
use Rattle.text_and_lists.specs.Order.{text_eq}
use Rattle.retries.specs.Same.{same_bool, same_list, same_option, same_part, same_ref, same_request}
use Rattle.s3_types.specs.Tags.{Spelled}
use Rattle.s3_types.specs.declared.request.NamedPart.{NamedPart}
use Rattle.s3_types.specs.declared.request.Request.{Request}
use Rattle.s3_types.specs.declared.request.Request.TheVariants.{AbortUpload, ClusterDelete, ClusterGet, ClusterList, ClusterPut}
use Rattle.s3_types.specs.declared.request.Request.TheVariants.{ClusterRename, CompleteUpload, CopyObject, CreateUpload, DeleteObject}
use Rattle.s3_types.specs.declared.request.Request.TheVariants.{DeleteObjects, GetObject, HeadObject, ListPage, ListParts, ListUploads}
use Rattle.s3_types.specs.declared.request.Request.TheVariants.{MakeBucket, PutObject, UploadPart}
use Rattle.s3_types.specs.declared.request.UploadRef.{UploadRef}
use Rattle.std.proofs.Common.{Bool, List, Option, ap, arith, nat_eq, refl, true, ℕ, [], ◌&&◌, ◌∙◌, ◌∷◌, ◌≡◌}
use Rattle.std.proofs.lemmas.Bool.{and_from as and_true, and_parts as both}

number_self : (n : ℕ) → nat_eq n n ≡ true
number_self n = nat_true n n refl

text_self : (a : List ℕ) → text_eq a a ≡ true
text_self a = text_true a a refl

bool_is : (a b : Bool) → same_bool a b ≡ true → a ≡ b
bool_is a b h = grind arith

bool_self : (a : Bool) → same_bool a a ≡ true
bool_self a = grind arith

list_is : {X : Type 0} (same : X → X → Bool) → ((x y : X) → same x y ≡ true → x ≡ y) → (xs ys : List X) → same_list same xs ys ≡ true
    → xs ≡ ys
list_is same h [] [] e = refl
list_is same h [] (y ∷ ys) e = absurd (false_true refl e)
list_is same h (x ∷ xs) [] e = absurd (false_true refl e)
list_is same h (x ∷ xs) (y ∷ ys) e = let s = both _ _ e in ap (λ v. v ∷ xs) (h x y s.0) ∙ ap (λ v. y ∷ v) (list_is same h xs ys s.1)

list_self : {X : Type 0} (same : X → X → Bool) → ((x : X) → same x x ≡ true) → (xs : List X) → same_list same xs xs ≡ true
list_self same h [] = refl
list_self same h (x ∷ xs) = and_true _ _ (h x) (list_self same h xs)

option_is : {X : Type 0} (same : X → X → Bool) → ((x y : X) → same x y ≡ true → x ≡ y) → (a b : Option X) → same_option same a b ≡ true
    → a ≡ b
option_is same h a b g = grind arith

option_self : {X : Type 0} (same : X → X → Bool) → ((x : X) → same x x ≡ true) → (a : Option X) → same_option same a a ≡ true
option_self same h a = grind arith

part_is : (p q : NamedPart) → same_part p q ≡ true → p ≡ q
part_is p q e =
    let a = both _ _ e in
    let b = both _ _ a.1 in
    ap (λ (t : Spelled). record { number = p.number; tag = t }) (ap (λ d. record { digits = d; parts = p.tag.parts })
    (text_is p.tag.digits q.tag.digits b.0) ∙ ap (λ n. record { digits = q.tag.digits; parts = n })
    (number_is p.tag.parts q.tag.parts b.1))
    ∙ ap (λ n. record { number = n; tag = q.tag }) (number_is p.number q.number a.0)

part_self : (p : NamedPart) → same_part p p ≡ true
part_self p = and_true _ _ (number_self p.number) (and_true _ _ (text_self p.tag.digits) (number_self p.tag.parts))

ref_is : (r s : UploadRef) → same_ref r s ≡ true → r ≡ s
ref_is r s e = let a = both _ _ e in ap (λ k. record { key = k; upload = r.upload }) (text_is r.key s.key a.0) ∙ ap
    (λ n. record { key = s.key; upload = n }) (number_is r.upload s.upload a.1)

ref_self : (r : UploadRef) → same_ref r r ≡ true
ref_self r = and_true _ _ (text_self r.key) (number_self r.upload)

-- Two equal pairs of texts give equal values.
pair_is : {Y : Type 0} (f : List ℕ → List ℕ → Y) (b c k l : List ℕ) → text_eq b c && text_eq k l ≡ true → f b k ≡ f c l
pair_is f b c k l e = let s = both _ _ e in ap (λ v. f v k) (text_is b c s.0) ∙ ap (f c) (text_is k l s.1)

-- Two equal pairs of texts with equal numbers give equal values.
upload_is : {Y : Type 0} (f : List ℕ → List ℕ → ℕ → Y) (b c k l : List ℕ) (i j : ℕ) → text_eq b c && (text_eq k l && nat_eq i j) ≡ true
    → f b k i ≡ f c l j
upload_is f b c k l i j e = let s = both _ _ e in let t = both _ _ s.1 in ap (λ v. f v k i) (text_is b c s.0) ∙ ap (λ v. f c v i)
    (text_is k l t.0) ∙ ap (f c l) (number_is i j t.1)

pub same_is : (r q : Request) → same_request r q ≡ true → r ≡ q
same_is (MakeBucket n) (MakeBucket m) e = ap MakeBucket (text_is n m e)
same_is (PutObject b k x h) (PutObject c l y g) e = let s = both _ _ e in let t = both _ _ s.1 in let u = both _ _ t.1 in
    ap (λ v. PutObject v k x h) (text_is b c s.0) ∙ ap (λ v. PutObject c v x h) (text_is k l t.0) ∙ ap (λ v. PutObject c l v h)
    (text_is x y u.0) ∙ ap (PutObject c l y) (option_is nat_eq number_is h g u.1)
same_is (GetObject b k) (GetObject c l) e = pair_is GetObject b c k l e
same_is (HeadObject b k) (HeadObject c l) e = pair_is HeadObject b c k l e
same_is (DeleteObject b k) (DeleteObject c l) e = pair_is DeleteObject b c k l e
same_is (DeleteObjects b ks) (DeleteObjects c ls) e = let s = both _ _ e in ap (λ v. DeleteObjects v ks) (text_is b c s.0) ∙ ap
    (DeleteObjects c) (list_is text_eq text_is ks ls s.1)
same_is (CopyObject b s t) (CopyObject c u v) e = let w = both _ _ e in ap (λ x. CopyObject x s t) (text_is b c w.0) ∙ pair_is
    (CopyObject c) s u t v w.1
same_is (ListPage b p d a n) (ListPage c q f z m) e = let s = both _ _ e in let t = both _ _ s.1 in let u = both _ _ t.1 in let v = both _ _
    u.1 in
    ap (λ x. ListPage x p d a n) (text_is b c s.0) ∙ ap (λ x. ListPage c x d a n) (text_is p q t.0) ∙ ap (λ x. ListPage c q x a n)
    (bool_is d f u.0) ∙ ap (λ x. ListPage c q f x n) (text_is a z v.0) ∙ ap (ListPage c q f z) (number_is n m v.1)
same_is (CreateUpload b k) (CreateUpload c l) e = pair_is CreateUpload b c k l e
same_is (UploadPart b k i n x) (UploadPart c l j m y) e = let s = both _ _ e in let t = both _ _ s.1 in let u = both _ _ t.1 in let v = both
    _ _ u.1 in
    ap (λ z. UploadPart z k i n x) (text_is b c s.0) ∙ ap (λ z. UploadPart c z i n x) (text_is k l t.0) ∙ ap (λ z. UploadPart c l z n x)
    (number_is i j u.0) ∙ ap (λ z. UploadPart c l j z x) (number_is n m v.0) ∙ ap (UploadPart c l j m) (text_is x y v.1)
same_is (CompleteUpload b k i ps) (CompleteUpload c l j qs) e = let s = both _ _ e in let t = both _ _ s.1 in let u = both _ _ t.1 in
    ap (λ v. CompleteUpload v k i ps) (text_is b c s.0) ∙ ap (λ v. CompleteUpload c v i ps) (text_is k l t.0) ∙ ap
    (λ v. CompleteUpload c l v ps) (number_is i j u.0) ∙ ap (CompleteUpload c l j) (list_is same_part part_is ps qs u.1)
same_is (AbortUpload b k i) (AbortUpload c l j) e = upload_is AbortUpload b c k l i j e
same_is (ListParts b k i) (ListParts c l j) e = upload_is ListParts b c k l i j e
same_is (ListUploads b p a n) (ListUploads c q z m) e = let s = both _ _ e in let t = both _ _ s.1 in let u = both _ _ t.1 in
    ap (λ v. ListUploads v p a n) (text_is b c s.0) ∙ ap (λ v. ListUploads c v a n) (text_is p q t.0) ∙ ap (λ v. ListUploads c q v n)
    (option_is same_ref ref_is a z u.0) ∙ ap (ListUploads c q z) (number_is n m u.1)
same_is (ClusterPut p x) (ClusterPut q y) e = pair_is ClusterPut p q x y e
same_is (ClusterRename s t) (ClusterRename u v) e = pair_is ClusterRename s u t v e
same_is (ClusterGet p) (ClusterGet q) e = ap ClusterGet (text_is p q e)
same_is (ClusterDelete p) (ClusterDelete q) e = ap ClusterDelete (text_is p q e)
same_is (ClusterList p) (ClusterList q) e = ap ClusterList (text_is p q e)
same_is _ _ e = absurd (false_true refl e)

pub same_self : (r : Request) → same_request r r ≡ true
same_self (MakeBucket n) = text_self n
same_self _ = search (and_true, text_self, number_self, bool_self, list_self, part_self, option_self, ref_self) depth 9
