-- A request that only reads changes nothing.
use Rattle.text_and_lists.proofs.Members.{false_true, text_exact}
use Rattle.text_and_lists.proofs.Tree.{insert_same}
use Rattle.text_and_lists.specs.Order.{text_total}
use Rattle.s3_types.specs.Answer.{apply, apply_at, apply_in, bucket_of, draws}
use Rattle.s3_types.specs.Requests.{only_reads}
use Rattle.s3_types.specs.Store.{BucketContent, Content, Scene}
use Rattle.s3_types.specs.declared.request.Request.{Request}
use Rattle.s3_types.specs.declared.request.Request.TheVariants.{ClusterGet, ClusterList, GetObject, HeadObject, ListPage, ListParts}
use Rattle.s3_types.specs.declared.request.Request.TheVariants.{ListUploads}
use Rattle.std.proofs.Common.{List, None, Option, Some, ap, cond, false, refl, true, ℕ, [], ◌+◌, ◌∙◌, ◌≡◌}
use Rattle.std.specs.FinMap as fin

same_bucket : (c : Content) (n : List ℕ) (r : Request) (o : Option BucketContent) → fin.get c.buckets (bucket_of r) ≡ o → draws r ≡ false
    → ((b : BucketContent) → apply_in b c.next c.minimum r ≡ b) → apply_at o c r ≡ c
same_bucket c n r None e d h = refl
same_bucket c n r (Some b) e d h =
    ap (λ x. record { buckets = fin.insert c.buckets (bucket_of r) x; next = cond (draws r) (c.next + 1) c.next; minimum = c.minimum })
    (h b)
    ∙ ap (λ t. record { buckets = fin.insert c.buckets (bucket_of r) b; next = cond t (c.next + 1) c.next; minimum = c.minimum }) d
    ∙ ap (λ m. record { buckets = m; next = c.next; minimum = c.minimum }) (insert_same text_total text_exact c.buckets (bucket_of r) b e)

reads_store : (s : Scene) (r : Request) → draws r ≡ false → ((b : BucketContent) → apply_in b s.content.next s.content.minimum r ≡ b)
    → record { content = apply_at (fin.get s.content.buckets (bucket_of r)) s.content r; files = s.files } ≡ s
reads_store s r d h = ap (λ c. record { content = c; files = s.files }) (same_bucket s.content [] r
    (fin.get s.content.buckets (bucket_of r)) refl d h)

pub reads_nothing : (s : Scene) (r : Request) → only_reads r ≡ true → apply s r ≡ s
reads_nothing s (GetObject n k) h = reads_store s (GetObject n k) refl (λ b. refl)
reads_nothing s (HeadObject n k) h = reads_store s (HeadObject n k) refl (λ b. refl)
reads_nothing s (ListPage n p t after limit) h = reads_store s (ListPage n p t after limit) refl (λ b. refl)
reads_nothing s (ListParts n k id) h = reads_store s (ListParts n k id) refl (λ b. refl)
reads_nothing s (ListUploads n p after limit) h = reads_store s (ListUploads n p after limit) refl (λ b. refl)
reads_nothing s (ClusterGet path) h = refl
reads_nothing s (ClusterList p) h = refl
reads_nothing s _ h = absurd (false_true refl h)
