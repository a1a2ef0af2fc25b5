-- A deletion, on the tree.
use Rattle.bucket_ops.specs.Asks.{objects_at}
use Rattle.bucket_ops.specs.Phases.{GivesIn}
use Rattle.fs_ops.proofs.StepLaws.{same_scene}
use Rattle.fs_ops.specs.code.Delete.{DeleteAnswer, Deletion, Removed, gives}
use Rattle.fs_ops.specs.inner.Delete.{ends}
use Rattle.fs_tree.proofs.Above.{key_no_marker}
use Rattle.fs_tree.proofs.Dropping.{drops_dir, drops_file}
use Rattle.fs_tree.specs.Answers.{Deletes}
use Rattle.fs_tree.specs.Changes.{IsMarked, marker_if, parent}
use Rattle.fs_tree.specs.declared.answers.FsRefusal.TheVariants.{IsRoot, NoSuchBucket, NotEmpty, NotFound}
use Rattle.path_keys.specs.Paths.{is_key}
use Rattle.s3_types.specs.Store.{Objects, Scene}
use Rattle.std.proofs.Common.{Bool, Err, List, Ok, inl, inr, refl, subst, true, ℕ, [], ◌∷◌, ◌≡◌}

pub no_cons : {x : ℕ} {p : List ℕ} → x ∷ p ≡ [] → ⊥
no_cons e = cc

abbrev deletion : Bool → List ℕ → Deletion
deletion recursive p = record { path = p; recursive = recursive }

removed : (recursive : Bool) (x : ℕ) (p : List ℕ) (z n m : Objects) → is_key (x ∷ p) ≡ true → Removed (deletion recursive (x ∷ p)) z n
    → IsMarked (marker_if (parent (x ∷ p))) n m → Deletes recursive (x ∷ p) z (Ok tt) m
removed recursive x p z n m k (inl h) g =
    let f = subst (λ n. IsMarked (marker_if (parent (x ∷ p))) n m) h.1 g in
    inl (record { file = h.0; tree = drops_file (x ∷ p) z m f (key_no_marker x p k) h.0; marked = f })
removed recursive x p z n m k (inr h) g =
    inr (record { directory = (h.0, h.1); empty = h.2; tree = drops_dir x p z n m h.3 g h.1; without = n; emptied = h.3; marked = g })

-- What a deletion gives is the deletion on the tree.
pub deletes : (recursive : Bool) (p : List ℕ) (z : Objects) (a : DeleteAnswer) (m : Objects) → is_key p ≡ true
    → ends (deletion recursive p) z a m
    → Deletes recursive p z a m
deletes recursive [] z (Ok x) m k h = elim h.1 [ inl g ↦ absurd g.0.1 | inr g ↦ absurd g.0 ]
deletes recursive [] z (Err IsRoot) m k h = (refl, h.1)
deletes recursive [] z (Err NotFound) m k h = absurd h.0
deletes recursive [] z (Err NotEmpty) m k h = absurd h.1
deletes recursive [] z (Err r) m k h = absurd h
deletes recursive (y ∷ p) z (Ok x) m k h = removed recursive y p z h.0 m k h.1 h.2
deletes recursive (y ∷ p) z (Err IsRoot) m k h = absurd (no_cons h.0)
deletes recursive (y ∷ p) z (Err NotFound) m k h = h
deletes recursive (y ∷ p) z (Err NotEmpty) m k h = (h.0, (h.1, (h.2.0, h.2.1, h.2.3, h.2.4)), h.2, h.3)
deletes recursive (y ∷ p) z (Err r) m k h = absurd h

-- The same in a bucket, for a path with a valid key.
pub deletes_in : (b : List ℕ) (o : Deletion) (z : Scene) (a : DeleteAnswer) (s : Scene) → is_key o.path ≡ true
    → GivesIn b (gives o) (Err NoSuchBucket) z a s → GivesIn b (Deletes o.recursive o.path) (Err NoSuchBucket) z a s
deletes_in b o z a s k h = same_scene (objects_at z b) z s b (λ m n. gives o m a n) (λ m n. Deletes o.recursive o.path m a n)
    (a ≡ Err NoSuchBucket) (λ m n g. g.0 k) h
