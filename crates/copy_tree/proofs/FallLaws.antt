-- A copy ends.
use Rattle.text_and_lists.specs.Order.{text_eq}
use Rattle.bucket_ops.proofs.Sweeps.{length_keys}
use Rattle.bucket_ops.proofs.Walks.{walk_falls, walk_fits}
use Rattle.bucket_ops.specs.Asks.{edited, reply_in}
use Rattle.bucket_ops.specs.Looks.{look_of}
use Rattle.bucket_ops.specs.Walking.{walk_left}
use Rattle.bucket_ops.specs.inner.Walking.{LessWalked}
use Rattle.bucket_ops.specs.declared.look.Look.{Look}
use Rattle.copy_tree.proofs.PartLaws.{all_counted}
use Rattle.copy_tree.specs.code.Copy.{CopyPaths, asks, climb}
use Rattle.copy_tree.specs.inner.Copy.{begun, compared, copies, count_of, differ, here, listed, on, on_climb}
use Rattle.copy_tree.specs.inner.Copy.{on_compare, on_copied, on_read, on_shown, on_walked, overlaps, pairs, parts_of, same_header}
use Rattle.copy_tree.specs.inner.Meaning.{holds, left}
use Rattle.copy_tree.specs.declared.stages.CopyStage.{CopyStage}
use Rattle.copy_tree.specs.declared.stages.CopyStage.TheVariants.{Copy, Here, Source, Target, Up, Walk, WalkTarget}
use Rattle.copy_tree.specs.declared.stages.Parts.{Parts}
use Rattle.fs_ops.proofs.AtPathLaws.{still_look}
use Rattle.fs_ops.proofs.Climbing.{IsShorter, climbed_falls, climbing_falls}
use Rattle.fs_ops.specs.Places.{look_asks, prefix_of}
use Rattle.fs_ops.specs.code.Climbs.{climbed, climbing}
use Rattle.fs_ops.specs.declared.climb.Climbed.{Climbed}
use Rattle.fs_rename.proofs.CopyLaws.{copying_falls}
use Rattle.fs_rename.specs.Copies.{copied_next, has_more}
use Rattle.fs_rename.specs.inner.Copies.{LessCopies, copies_left}
use Rattle.fs_rename.specs.declared.copying.CopyStep.{CopyStep}
use Rattle.fs_tree.specs.declared.copy.CopyCount.{CopyCount}
use Rattle.list_walk.specs.Walks.{More, Walked, Whole, keys_on}
use Rattle.operations.specs.Plans.{Falls}
use Rattle.operations.specs.declared.plan.Step.TheVariants.{Next}
use Rattle.s3_types.specs.Store.{Objects}
use Rattle.s3_types.specs.declared.reply.PageEntry.{PageEntry}
use Rattle.s3_types.specs.declared.reply.Reply.{Reply}
use Rattle.s3_types.specs.declared.reply.Reply.TheVariants.{Object as Found}
use Rattle.std.proofs.Common.{arith, refl, subst, sym}
use Rattle.std.proofs.lemmas.Bool.{ltb-true}
use Rattle.std.proofs.lemmas.List.{length-drop}
use Rattle.std.specs.Prelude.{Bool, List, Option, cond, drop, false, length, nat_lt, true, ℕ, [], ◌&&◌, ◌*◌, ◌+◌, ◌<◌, ◌∷◌, ◌≡◌}

module _ (o : CopyPaths) (m : Objects) where
  -- ---- the copies

  fall_begun : (c : Parts) (n : ℕ) → length c.keys < n → Falls (left o) (begun c) m n
  fall_begun c n h = (elim c.keys as (λ ks. length ks < n → Falls (left o) (copies (count_of c) ks c.places) m n)
      [ [] ↦ λ h. tt | k ∷ ks ↦ λ h. omega (arith, h) ]) h

  fall_copied : (c : CopyStep) (count : CopyCount) (n : ℕ) → LessCopies c n → Falls (left o) (on_copied count c) m n
  fall_copied c count n h = grind arith

  -- ---- the pairs

  fall_pairs : (c : Parts) (r : List (List ℕ)) (n : ℕ) → 2 * length c.stood + length c.keys + 2 < n → Falls (left o) (pairs c r) m n
  fall_pairs c r n h = grind arith

  fall_read : (c : Parts) (n : ℕ) (r : Reply) → Falls (left o) (on_read c n r) m (left o (Source c n) m)
  fall_read c n (Found b h) = omega arith
  fall_read c n r = tt

  fall_agreed : (c : Parts) (n : ℕ) (b : Bool) → nat_lt 1 (length (drop n c.stood)) ≡ b
      → Falls (left o) (cond b (Next (Source c (n + 1))) (begun c)) m (2 * length (drop n c.stood) + length c.keys + 1)
  fall_agreed c n true e = omega (arith, ltb-true 1 (length (drop n c.stood)) e, length-drop n c.stood, length-drop (n + 1) c.stood)
  fall_agreed c n false e = fall_begun c (2 * length (drop n c.stood) + length c.keys + 1) (omega arith)

  fall_compare : (c : Parts) (n : ℕ) (b : List ℕ) (h : Option ℕ) (r : Reply)
      → Falls (left o) (on_compare c n b h r) m (2 * length (drop n c.stood) + length c.keys + 1)
  fall_compare c n b h (Found d g) = elim (text_eq b d && same_header h g) as
      (λ b. Falls (left o) (compared c n b) m (2 * length (drop n c.stood) + length c.keys + 1)) [
        | true ↦ fall_agreed c n (nat_lt 1 (length (drop n c.stood))) refl
        | false ↦ elim (drop n c.stood_at) as (λ r. Falls (left o) (differ r) m (2 * length (drop n c.stood) + length c.keys + 1))
            [ [] ↦ tt | l ∷ ls ↦ tt ]
      ]
  fall_compare c n b h r = tt

  -- ---- the walk below the target

  fall_shown : (ks ls : List (List ℕ)) (w : Walked PageEntry) (n : ℕ) → LessWalked (prefix_of o.target) m w n
      → Falls (left o) (on_shown ks ls w) m (n + 2 * length ks + 2)
  fall_shown ks ls (More w) n h = omega (arith, h)
  fall_shown ks ls (Whole es) n h =
      fall_pairs (parts_of ks ls es) (parts_of ks ls es).stood (n + 2 * length ks + 2) (omega (arith, h, all_counted ks ls es))

  fall_show : (ks ls : List (List ℕ)) (w : List PageEntry)
      → Falls (left o) (on o (WalkTarget ks ls w) (reply_in m (asks o (WalkTarget ks ls w)))) m (left o (WalkTarget ks ls w) m)
  fall_show ks ls w = grind (arith, walk_fits, fall_shown, walk_falls)

  -- ---- the paths above the target

  -- the bound after they were looked at
  abbrev Behind : List (List ℕ) → ℕ
  Behind ks = walk_left (prefix_of o.target) [] m + 2 * length ks + 3

  fall_climb : (ks : List (List ℕ)) (c : Climbed) (k n : ℕ) → IsShorter c k → k + Behind ks < n → Falls (left o) (on_climb o ks c) m n
  fall_climb ks c k n h g = grind arith

  -- ---- the source

  fall_listed : (ks : List (List ℕ)) (n : ℕ) → length ks < n
      → Falls (left o) (listed o ks) m (2 * n + length (climb o.target) + walk_left (prefix_of o.target) [] m + 3)
  fall_listed [] n h = tt
  fall_listed (k ∷ ks) n h = fall_climb (k ∷ ks) (climbing (climb o.target)) (length (climb o.target))
      (2 * n + length (climb o.target) + walk_left (prefix_of o.target) [] m + 3) (climbing_falls (climb o.target)) (omega (arith, h))

  fall_walked : (w : Walked PageEntry) (n : ℕ) → LessWalked (prefix_of o.source) m w n
      → Falls (left o) (on_walked o w) m (2 * n + length (climb o.target) + walk_left (prefix_of o.target) [] m + 3)
  fall_walked (More w) n h = omega (arith, h)
  fall_walked (Whole es) n h = fall_listed (keys_on es) n (let l = length_keys es in omega (arith, h, l))

  fall_walk : (w : List PageEntry) → Falls (left o) (on o (Walk w) (reply_in m (asks o (Walk w)))) m (left o (Walk w) m)
  fall_walk w = grind (arith, walk_fits, fall_walked, walk_falls)

  fall_here : (b : Bool) (l : Look) → Falls (left o) (here b l) m (left o Here m)
  fall_here b l = grind arith

-- ---- each stage

pub falls : (o : CopyPaths) (z : Objects) (s : CopyStage) (m : Objects) → holds o z s m
    → Falls (left o) (on o s (reply_in m (asks o s))) (edited (asks o s) m) (left o s m)
falls o z Here m h =
    subst (λ n. Falls (left o) (on o Here (reply_in m (asks o Here))) n (left o Here m)) (sym (still_look o.source m))
    (fall_here o m (overlaps o) (look_of (reply_in m (look_asks o.source))))
falls o z (Walk w) m h = fall_walk o m w
falls o z (Up ks c) m h =
    let l = look_of (reply_in m (asks o (Up ks c))) in
    fall_climb o m ks (climbed c l) (length c.rest) (left o (Up ks c) m) (climbed_falls c l) (omega arith)
falls o z (WalkTarget ks ls w) m h = fall_show o m ks ls w
falls o z (Source c n) m h = fall_read o (edited (asks o (Source c n)) m) c n (reply_in m (asks o (Source c n)))
falls o z (Target c n b g) m h = fall_compare o (edited (asks o (Target c n b g)) m) c n b g (reply_in m (asks o (Target c n b g)))
falls o z (Copy c count) m h = fall_copied o (edited (asks o (Copy c count)) m) (copied_next (has_more c) c) count (copies_left c)
    (copying_falls c h.2.some)

pub stays : (o : CopyPaths) (s : CopyStage) (m : Objects) → left o s (edited (asks o s) m) ≡ left o s m
stays o s m = grind arith
