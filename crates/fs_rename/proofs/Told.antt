-- A rename, on the tree.
use Rattle.text_and_lists.proofs.Members.{in_front, none_some}
use Rattle.text_and_lists.specs.Members.{IsIn}
use Rattle.bucket_ops.specs.Asks.{objects_at}
use Rattle.bucket_ops.specs.Phases.{AlwaysIn, GivesIn}
use Rattle.bucket_ops.specs.Sweeping.{IsDeleting}
use Rattle.dir_markers.specs.Markers.{marker_of}
use Rattle.fs_ops.proofs.StepLaws.{same_scene}
use Rattle.fs_rename.proofs.Inside.{inside_elements, no_marker}
use Rattle.fs_rename.proofs.Placed.{dir_apart, dir_free, dir_from, dir_moved, dir_to, file_apart, file_free, file_from, file_moved, file_to}
use Rattle.fs_rename.proofs.Whole.{AreWhole, is_whole, was_free, whole_copying, whole_emptying, whole_marked}
use Rattle.fs_rename.specs.inner.Copies.{AreFree, IsOneOf, Move, copied_all, moves_of, sources}
use Rattle.fs_rename.specs.inner.Meaning.{IsOnWay, IsSource, MayGo, always, gives, moved}
use Rattle.fs_rename.specs.code.Rename.{Answer, Renaming}
use Rattle.fs_tree.proofs.Above.{key_no_marker}
use Rattle.fs_tree.proofs.Begins.{begins_trans}
use Rattle.fs_tree.proofs.Moving.{moves_dir, moves_file, place_above, place_apart}
use Rattle.fs_tree.specs.Changes.{IsMarked, marker_if, parent}
use Rattle.fs_tree.specs.Moves.{IsDirMoved, IsFileMoved, IsFreePlace, IsMove, IsPlace, IsWhole, MayStand}
use Rattle.fs_tree.specs.Renames.{Renames, RenamesDir, RenamesFile}
use Rattle.fs_tree.specs.Tree.{HasDir, HasFile, IsAbsent, IsDirectory, NoneBelow, is_marker}
use Rattle.fs_tree.specs.declared.rename.RenameRefusal.TheVariants.{NoSuchBucket}
use Rattle.path_keys.specs.Paths.{is_key}
use Rattle.s3_types.specs.Answer.{without}
use Rattle.s3_types.specs.Pages.{begins}
use Rattle.s3_types.specs.Store.{Objects, Scene}
use Rattle.std.proofs.Common.{Bool, Err, List, None, Ok, Option, Some, arith, false, inl, inr, subst, sym, take, true, ℕ, [], ◌∷◌, ◌≡◌, ◌⊎◌}
use Rattle.std.specs.FinMap as fin

-- ---- the source is not the root

pub no_root : (d : Bool) (z : Objects) → IsSource d z [] → ⊥
no_root d z h = grind arith

pub stands : (d : Bool) (z : Objects) (x : ℕ) (p : List ℕ) → IsSource d z (x ∷ p) → HasFile z (x ∷ p) ⊎ IsDirectory z (x ∷ p)
stands d z x p h = grind arith

-- ---- at every point

-- Some moves are made, or all are and some of the old keys are deleted, or all are and the marker is put as it must be.
whole_of : (u : Option (List ℕ)) (z : Objects) (ps : List Move) (m : Objects) → AreFree z ps
    → ((k : List ℕ) → u ≡ Some k → IsIn k (sources ps) → ⊥)
    → ((n : ℕ) × (m ≡ copied_all z (take n ps))) ⊎ (((left : List (List ℕ)) × IsDeleting (copied_all z ps) (sources ps) left m) ⊎ IsMarked u
    (without (copied_all z ps) (sources ps)) m)
    → AreWhole u z ps m
whole_of u z ps m h g e = grind (arith, AreWhole, whole_copying, whole_emptying, in_front, whole_marked)

module _ (x : ℕ) (p t : List ℕ) (z : Objects) where
  abbrev O : Renaming
  O = record { source = x ∷ p; target = t }

  whole : (d i : Bool) (q : List ℕ) (m : Objects) → is_marker (x ∷ p) ≡ false → MayGo O z d i q → IsOnWay O z d q m → IsWhole (x ∷ p) q z m
  whole d i [] m f g w = absurd g.ready.free
  whole false i (y ∷ q) m f g w =
      let h = g.ready.begun.source in
      is_whole (x ∷ p) (y ∷ q) z m (moves_of false (x ∷ p) (y ∷ q) z) (file_to z x p y q h) (file_from z x p y q h)
      (whole_of (marker_if (parent (x ∷ p))) z (moves_of false (x ∷ p) (y ∷ q) z) m (file_free z x p y q h g.ready.free.0)
      (file_apart z x p y q f) w)
  whole true i (y ∷ q) m f g w =
      let h = g.ready.begun.source in
      is_whole (x ∷ p) (y ∷ q) z m (moves_of true (x ∷ p) (y ∷ q) z) (dir_to z x p y q h) (dir_from z x p y q h)
      (whole_of (marker_if (parent (x ∷ p))) z (moves_of true (x ∷ p) (y ∷ q) z) m (dir_free z x p y q g.ready.free.1) (dir_apart z x p y q)
      w)

  pub free_place : (d i : Bool) (q : List ℕ) → MayGo O z d i q → IsFreePlace z (x ∷ p) t q
  free_place d i q g = record {
    source = record { stands = stands d z x p g.ready.begun.source; apart = g.ready.begun.apart };
    place =
        g.ready.place;
    free = g.ready.free;
  }

  -- a move is of a key of the source
  pub moves_from : (d i : Bool) (q : List ℕ) → MayGo O z d i q → (k l : List ℕ) → IsOneOf k l (moves_of d (x ∷ p) q z)
      → IsMove z (x ∷ p) q k l
  moves_from d i [] g k l h = absurd g.ready.free
  moves_from false i (y ∷ q) g k l h = file_from z x p y q g.ready.begun.source k l h
  moves_from true i (y ∷ q) g k l h = dir_from z x p y q g.ready.begun.source k l h

  -- if the marker above is put, nothing was there
  pub was_free_above : (d i : Bool) (q k : List ℕ) → is_marker (x ∷ p) ≡ false → MayGo O z d i q → marker_if (parent (x ∷ p)) ≡ Some k
      → NoneBelow (moved O z d q) k → fin.get z k ≡ None
  was_free_above d i [] k f g e none = absurd g.ready.free
  was_free_above false i (y ∷ q) k f g e none =
      was_free None z (moves_of false (x ∷ p) (y ∷ q) z) (file_free z x p y q g.ready.begun.source g.ready.free.0) k none
      (file_apart z x p y q f k e)
  was_free_above true i (y ∷ q) k f g e none =
      was_free None z (moves_of true (x ∷ p) (y ∷ q) z) (dir_free z x p y q g.ready.free.1) k none (dir_apart z x p y q k e)

  may_stand : (m : Objects) → is_marker (x ∷ p) ≡ false → always O z m → MayStand (x ∷ p) t z m
  may_stand m f (inl e) = inl e
  may_stand m f (inr h) = inr (h.2, free_place h.0 h.1 h.2 h.3, whole h.0 h.1 h.2 m f h.3 h.4)

  -- ---- at the end

  renames_file : (y : ℕ) (q : List ℕ) (n m : Objects) → n ≡ moved O z false (y ∷ q) → is_marker (x ∷ p) ≡ false → is_marker (y ∷ q) ≡ false
      → HasFile z (x ∷ p) → IsAbsent z (y ∷ q) → HasDir z (parent (y ∷ q)) → IsMarked (marker_if (parent (x ∷ p))) n m
      → RenamesFile (x ∷ p) (y ∷ q) z m
  renames_file y q n m e f g h a up w =
      let is_moved : IsFileMoved (x ∷ p) (y ∷ q) z n = subst (IsFileMoved (x ∷ p) (y ∷ q) z) (sym e)
      (file_moved z x p y q (file_free z x p y q h a.0)) in
      record { file = h; tree = moves_file (x ∷ p) (y ∷ q) z n m is_moved w a.0 up f g h; moved = n; placed = is_moved; marked = w }

  not_above : (y : ℕ) (q : List ℕ) → IsDirectory z (x ∷ p) → IsAbsent z (y ∷ q) → begins (marker_of (y ∷ q)) (marker_of (x ∷ p)) ≡ true → ⊥
  not_above y q h a b = none_some (a.1 h.1.0 (begins_trans (marker_of (y ∷ q)) (marker_of (x ∷ p)) h.1.0 b h.1.1)) h.1.3

  renames_dir : (y : ℕ) (q : List ℕ) (n m : Objects) → n ≡ moved O z true (y ∷ q) → IsFreePlace z (x ∷ p) t (y ∷ q) → IsDirectory z (x ∷ p)
      → HasDir z (parent (y ∷ q)) → IsMarked (marker_if (parent (x ∷ p))) n m → RenamesDir (x ∷ p) (y ∷ q) z m
  renames_dir y q n m e g h up w =
      let is_moved : IsDirMoved (x ∷ p) (y ∷ q) z n =
      subst (IsDirMoved (x ∷ p) (y ∷ q) z) (sym e)
      (dir_moved z x p y q (dir_free z x p y q g.free.1) g.free.1 (place_apart z x p t (y ∷ q) g.source g.place g.free)
      (not_above y q h g.free)) in
      record { directory = h; tree = moves_dir x p y q z n m is_moved w g.free.1 up h.1; moved = n; placed = is_moved; marked = w }

  place_no_marker : (q : List ℕ) → is_key (x ∷ p) ≡ true → is_key t ≡ true → IsPlace z (x ∷ p) t q → is_marker q ≡ false
  place_no_marker q h g e = grind (arith, no_marker, inside_elements, key_no_marker)

  renames_by : (d i : Bool) (q : List ℕ) (n m : Objects) → is_key (x ∷ p) ≡ true → is_key t ≡ true → MayGo O z d i q → n ≡ moved O z d q
      → IsMarked (marker_if (parent (x ∷ p))) n m → RenamesFile (x ∷ p) q z m ⊎ RenamesDir (x ∷ p) q z m
  renames_by d i [] n m k l g e w = absurd g.ready.free
  renames_by false i (y ∷ q) n m k l g e w =
      inl (renames_file y q n m e (key_no_marker x p k) (place_no_marker (y ∷ q) k l g.ready.place) g.ready.begun.source g.ready.free
      (place_above z (x ∷ p) t (y ∷ q) g.ready.place) w)
  renames_by true i (y ∷ q) n m k l g e w =
      inr (renames_dir y q n m e (free_place true i (y ∷ q) g) g.ready.begun.source (place_above z (x ∷ p) t (y ∷ q) g.ready.place) w)

  path_renames : (a : Answer) (m : Objects) → is_key (x ∷ p) ≡ true → is_key t ≡ true → gives O z a m → Renames (x ∷ p) t z a m
  path_renames (Ok u) m k l h = (
    h.1.2,
    free_place h.1.0 h.1.1 h.1.2 h.1.3,
    h.1.3.fit,
    renames_by h.1.0 h.1.1 h.1.2 h.0 m k l h.1.3 h.1.4
        h.2,
  )
  path_renames (Err r) m k l h = h

-- What a rename gives is the rename on the tree.
renames : (p t : List ℕ) (z : Objects) (a : Answer) (m : Objects) → is_key p ≡ true → is_key t ≡ true
    → gives (record { source = p; target = t }) z a m → Renames p t z a m
renames p t z a m h g e = grind (arith, no_root, path_renames)

-- At every point each object of the source is whole.
stand_whole : (p t : List ℕ) (z m : Objects) → is_key p ≡ true → always (record { source = p; target = t }) z m → MayStand p t z m
stand_whole [] t z m k (inl e) = inl e
stand_whole [] t z m k (inr h) = absurd (no_root h.0 z h.3.ready.begun.source)
stand_whole (x ∷ p) t z m k h = may_stand x p t z m (key_no_marker x p k) h

-- ---- in the bucket

pub renames_in : (b : List ℕ) (o : Renaming) (z : Scene) (a : Answer) (s : Scene) → is_key o.source ≡ true → is_key o.target ≡ true
    → GivesIn b (gives o) (Err NoSuchBucket) z a s → GivesIn b (Renames o.source o.target) (Err NoSuchBucket) z a s
renames_in b o z a s k l h =
    same_scene (objects_at z b) z s b (λ m n. gives o m a n) (λ m n. Renames o.source o.target m a n) (a ≡ Err NoSuchBucket)
    (λ m n g. renames o.source o.target m a n k l g) h

pub whole_in : (b : List ℕ) (o : Renaming) (z s : Scene) → is_key o.source ≡ true → AlwaysIn b (always o) z s
    → AlwaysIn b (MayStand o.source o.target) z s
whole_in b o z s k h = same_scene (objects_at z b) z s b (λ m n. always o m n) (λ m n. MayStand o.source o.target m n) (Unit {0})
    (λ m n g. stand_whole o.source o.target m n k g) h
