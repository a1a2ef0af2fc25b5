-- The stores with which a job may begin.
use Rattle.durable_store.proofs.Found.{few_ids}
use Rattle.job_world.specs.Worlds.{MayBegin}
use Rattle.journal_log.proofs.Imaged.{new, one}
use Rattle.s3_types.specs.Answer.{apply_store, made}
use Rattle.s3_types.specs.Names.{is_bucket}
use Rattle.s3_types.specs.Store.{BucketContent, Content, new_bucket, new_content}
use Rattle.s3_types.specs.declared.limits.TheConstants.{MOST_MINIMUM}
use Rattle.s3_types.specs.declared.request.Request.TheVariants.{MakeBucket}
use Rattle.std.proofs.Common.{Bool, List, None, Option, Some, arith, cond, false, refl, subst, sym, true, ℕ, ◌^◌, ◌≡◌, ◌≤◌}
use Rattle.store_image.specs.Content.{IsContent}
use Rattle.std.specs.FinMap as map

-- A job may begin with a store that can be written as an image.
pub image_begins : (c : Content) → IsContent c → MayBegin c
image_begins c h = record { few = few_ids c h }

few_made : (c : Content) (name : List ℕ) (o : Option BucketContent) → c.next ≤ 2 ^ 62 → (made c name o).next ≤ 2 ^ 62
few_made c name (Some b) h = h
few_made c name None h = by (is_bucket name)
  where
    by : (b : Bool) → (cond b (record { buckets = map.insert c.buckets name new_bucket; next = c.next; minimum = c.minimum }) c).next ≤ 2 ^
        62
    by true = h
    by false = h

-- A new store in which a bucket was made can be written as an image too.
pub new_image : (name : List ℕ) (c : Content) → c ≡ apply_store (new_content MOST_MINIMUM) (MakeBucket name) → IsContent c
new_image name c e =
    let first = new_content MOST_MINIMUM in
    subst IsContent (sym e) (one first (MakeBucket name) (new MOST_MINIMUM refl) tt
    (few_made first name (map.get first.buckets name) (omega arith)))
