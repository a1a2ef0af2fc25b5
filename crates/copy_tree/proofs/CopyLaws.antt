-- The stages of a copy keep what they promise.
use Rattle.text_and_lists.proofs.Members.{none_some}
use Rattle.bucket_ops.specs.Asks.{edited, reply_in}
use Rattle.bucket_ops.specs.Phases.{IsPhases, MayAsk}
use Rattle.copy_tree.proofs.FallLaws.{falls, stays}
use Rattle.copy_tree.proofs.MoveLaws.{in_part}
use Rattle.copy_tree.proofs.Moved.{is_new}
use Rattle.copy_tree.proofs.StepLaws.{each, reads, sent_copy}
use Rattle.copy_tree.specs.code.Copy.{Answer, CopyPaths, asks, first}
use Rattle.copy_tree.specs.inner.Copy.{goes, on}
use Rattle.copy_tree.specs.code.Meaning.{sends}
use Rattle.copy_tree.specs.inner.Meaning.{always, gives, holds, left}
use Rattle.copy_tree.specs.declared.stages.CopyStage.{CopyStage}
use Rattle.copy_tree.specs.declared.stages.CopyStage.TheVariants.{Copy, Here, Source, Target}
use Rattle.fs_ops.proofs.AtPathLaws.{looks_there}
use Rattle.fs_ops.proofs.StepLaws.{phases_of}
use Rattle.fs_tree.specs.Copies.{Copies, CopiesTree, IsCopiedInPart, IsOverlap, MayCopy, MayStandCopied}
use Rattle.fs_tree.specs.Tree.{Stands}
use Rattle.fs_tree.specs.declared.copy.CopyCount.{CopyCount}
use Rattle.fs_tree.specs.declared.copy.CopyRefusal.TheVariants.{Differs, NoSuchBucket, OtherBucket, Overlap}
use Rattle.operations.specs.Plans.{Goes}
use Rattle.s3_types.specs.Store.{Objects}
use Rattle.std.proofs.Common.{arith, inl, inr, refl, subst, sym, ◌∙◌}
use Rattle.std.specs.Prelude.{Err, List, Ok, drop, ℕ, [], ◌∷◌, ◌≡◌}
use Rattle.std.specs.FinMap as fin

-- ---- if one path is a root, the first look ends the copy

abbrev On : CopyPaths → Objects → CopyStage → Objects → Type 0
On o z s m = Goes (holds o z) (gives o z) (on o s (reply_in m (asks o s))) (edited (asks o s) m)

at_root : (o : CopyPaths) (z : Objects) → IsOverlap o.source o.target → ((m : Objects) → m ≡ z → On o z Here m)
    → (s : CopyStage) (m : Objects) → holds o z s m → On o z s m
at_root o z h g s m e = grind arith

steps : (p t : List ℕ) (z : Objects) (s : CopyStage) (m : Objects) → holds (record { source = p; target = t }) z s m
    → On (record { source = p; target = t }) z s m
steps [] t z s m h = at_root (record { source = []; target = t }) z (inl refl) (λ m h. (inl refl, h)) s m h
steps (x ∷ p) [] z s m h = at_root (record { source = x ∷ p; target = [] }) z (inr refl) (λ m h. (inr refl, h)) s m h
steps (x ∷ p) (y ∷ t) z s m h = each z x p y t s m h

asks_at : (p t : List ℕ) (z : Objects) (s : CopyStage) (m : Objects) → holds (record { source = p; target = t }) z s m
    → sends (record { source = p; target = t }) z (asks (record { source = p; target = t }) s)
asks_at p t z Here m h = inl (looks_there p)
asks_at p t z (Source c n) m h = inl (reads (drop n c.stood))
asks_at p t z (Target c n b g) m h = inl (reads (drop n c.stood_at))
asks_at [] t z (Copy c count) m h = absurd (h.0.place.source.apart (inl refl))
asks_at (x ∷ p) [] z (Copy c count) m h = absurd (h.0.place.source.apart (inr refl))
asks_at (x ∷ p) (y ∷ t) z (Copy c count) m h = sent_copy z x p y t c m h.0 h.2
asks_at p t z _ m h = inl refl

-- ---- at every point

during : (p t : List ℕ) (z : Objects) (s : CopyStage) (m : Objects) → holds (record { source = p; target = t }) z s m
    → MayStandCopied p t z m
during p t z Here m h = inl h
during [] t z (Copy c count) m h = absurd (h.0.place.source.apart (inl refl))
during (x ∷ p) [] z (Copy c count) m h = absurd (h.0.place.source.apart (inr refl))
during (x ∷ p) (y ∷ t) z (Copy c count) m h =
    inr (h.0, subst (IsCopiedInPart (x ∷ p) (y ∷ t) z) (sym h.2.copied) (in_part z x p y t h.0.place.source.directory h.0 c.from))
during p t z _ m h = inl h.0

-- ---- at the end

module _ (x : ℕ) (p : List ℕ) (y : ℕ) (t : List ℕ) (z m : Objects) (count : CopyCount) (h : MayCopy z (x ∷ p) (y ∷ t))
    (g : CopiesTree (x ∷ p) (y ∷ t) z count m) where
  old_stays : (q : List ℕ) → Stands z q → fin.get m q ≡ fin.get z q
  old_stays q s = elim (is_new x p y t z q h.place.source.directory) [
    | inl w ↦ elim (h.agree w.0 q w.1) [ inl n ↦ absurd (none_some n s.1) | inr e ↦ g.copies w.0 q w.1 ∙ sym e ]
    | inr f ↦ g.others q f
  ]

  all_copied : IsCopiedInPart (x ∷ p) (y ∷ t) z m
  all_copied = record {
    new = λ k l i n. inr (g.copies k l i);
    in_order = λ k l j i a b n less e. g.copies j i b;
    old =
        old_stays;
    others = g.others;
  }

at_end : (p t : List ℕ) (z : Objects) (a : Answer) (m : Objects) → Copies p t z a m → MayStandCopied p t z m
at_end p t z (Err OtherBucket) m h = absurd h
at_end p t z (Err NoSuchBucket) m h = absurd h
at_end p t z (Err Overlap) m h = inl h.1
at_end p t z (Err (Differs l)) m h = inl h.3
at_end p t z (Err r) m h = inl h.2
at_end [] t z (Ok count) m h = absurd (h.0.place.source.apart (inl refl))
at_end (x ∷ p) [] z (Ok count) m h = absurd (h.0.place.source.apart (inr refl))
at_end (x ∷ p) (y ∷ t) z (Ok count) m h = inr (h.0, all_copied x p y t z m count h.0 h.1)

-- ---- the laws

pub copy_laws : IsPhases {O = CopyPaths} first asks goes holds gives always left (Err NoSuchBucket)
copy_laws = phases_of (Err NoSuchBucket) (record {
  begin = λ o z. refl;
  goes_on = λ o z s m h. steps o.source o.target z s m h;
  falls = falls;
  stays = λ o z s m h. stays o s m;
  during = λ o z s m h. during o.source o.target z s m h;
  at_end = λ o z a m h. at_end o.source o.target z a m h;
})

pub copy_asked : MayAsk {O = CopyPaths} asks holds sends
copy_asked o z s m h = asks_at o.source o.target z s m h
