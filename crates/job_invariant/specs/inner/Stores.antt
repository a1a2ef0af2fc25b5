-- Definitions beside those of `Stores` that no public contract cites.
use Rattle.job_invariant.specs.Stores.{IsKnown, at_id, at_key}
use Rattle.job_model.specs.Attempts.{Who}
use Rattle.job_model.specs.JobScript.{Script}
use Rattle.job_model.specs.Known.{Drawn}
use Rattle.magic_paths.specs.Layout.{cluster_prefix, magic_prefix}
use Rattle.s3_types.specs.Multipart.{is_part_number, with_part}
use Rattle.s3_types.specs.Pages.{begins}
use Rattle.s3_types.specs.Store.{Scene, Upload}
use Rattle.s3_types.specs.declared.object.Object.{Object}
use Rattle.std.specs.Prelude.{Bool, List, None, Option, Some, cond, false, true, ℕ, ◌&&◌, ◌+◌, ◌<◌, ◌≡◌, ◌≤◌}
use Rattle.store_frame.specs.Held.{HasBucket}
use Rattle.text_and_lists.specs.Order.{text_eq}
use Rattle.std.specs.FinMap as fin

-- Nothing changes below the job's magic directory, below its directory in the cluster, or at an upload that an attempt knows and the driver
-- has not ended.
pub record Leaves (w : Script) (drawn : Who → List Drawn) (ended : ℕ → Bool) (s t : Scene) : Type 0 where
  pub there : HasBucket t.content w.dest.bucket
  pub least : t.content.minimum ≡ s.content.minimum
  pub later : s.content.next ≤ t.content.next
  pub objects : (k : List ℕ) → begins (magic_prefix w.dest.key w.job) k ≡ true → at_key w t.content k ≡ at_key w s.content k
  pub uploads : (id : ℕ) → IsKnown drawn id → ended id ≡ false → at_id w t.content id ≡ at_id w s.content id
  pub fresh : (id : ℕ) (x : Upload) → at_id w t.content id ≡ Some x → id < t.content.next
  pub files : (p : List ℕ) → begins (cluster_prefix w.job) p ≡ true → fin.get t.files p ≡ fin.get s.files p

-- An object is put at a key, and nothing else changes.
pub record Puts (w : Script) (s t : Scene) (key : List ℕ) (x : Object) : Type 0 where
  pub there : HasBucket t.content w.dest.bucket
  pub least : t.content.minimum ≡ s.content.minimum
  pub next : t.content.next ≡ s.content.next
  pub here : at_key w t.content key ≡ Some x
  pub others : (k : List ℕ) → (k ≡ key → ⊥) → at_key w t.content k ≡ at_key w s.content k
  pub uploads : (id : ℕ) → at_id w t.content id ≡ at_id w s.content id
  pub files : t.files ≡ s.files

-- Only the upload at this id changes.
pub record Turns (w : Script) (s t : Scene) (id : ℕ) (x : Option Upload) : Type 0 where
  pub there : HasBucket t.content w.dest.bucket
  pub least : t.content.minimum ≡ s.content.minimum
  pub next : t.content.next ≡ s.content.next
  pub here : at_id w t.content id ≡ x
  pub others : (u : ℕ) → (u ≡ id → ⊥) → at_id w t.content u ≡ at_id w s.content u
  pub objects : (k : List ℕ) → at_key w t.content k ≡ at_key w s.content k
  pub files : t.files ≡ s.files

-- An upload is begun for a key under the next id, and nothing else changes.
pub record Draws (w : Script) (s t : Scene) (key : List ℕ) : Type 0 where
  pub there : HasBucket t.content w.dest.bucket
  pub least : t.content.minimum ≡ s.content.minimum
  pub next : t.content.next ≡ s.content.next + 1
  pub here : at_id w t.content s.content.next ≡ Some (record { key = key; parts = fin.empty })
  pub others : (u : ℕ) → (u ≡ s.content.next → ⊥) → at_id w t.content u ≡ at_id w s.content u
  pub objects : (k : List ℕ) → at_key w t.content k ≡ at_key w s.content k
  pub files : t.files ≡ s.files

-- The upload at an id after a part was sent to it with this key, number and bytes.
abbrev pub part_left : List ℕ → ℕ → List ℕ → Option Upload → Option Upload
part_left key number bytes None = None
part_left key number bytes (Some u) = cond (text_eq u.key key && is_part_number number) (Some (with_part u number bytes)) (Some u)

-- The upload at an id after a completion or abort with this key.
abbrev pub end_left : List ℕ → Option Upload → Option Upload
end_left key None = None
end_left key (Some u) = cond (text_eq u.key key) None (Some u)
