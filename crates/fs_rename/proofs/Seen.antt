-- What the looks of a rename show.
use Rattle.text_and_lists.proofs.Members.{none_or_some, text_is, text_true}
use Rattle.text_and_lists.specs.Members.{IsIn, RisesFrom}
use Rattle.text_and_lists.specs.Order.{text_cmp, text_eq}
use Rattle.bucket_ops.proofs.Below.{below_stands, stands_below}
use Rattle.bucket_ops.specs.Asks.{reply_in}
use Rattle.bucket_ops.specs.Looks.{look_of}
use Rattle.bucket_ops.specs.Walking.{keys_below}
use Rattle.bucket_ops.specs.declared.look.Look.TheVariants.{Nothing as NothingThere, There}
use Rattle.dir_markers.specs.Markers.{marker_of}
use Rattle.fs_ops.proofs.Looks.{IsSeen, at_key, below_key, told}
use Rattle.fs_ops.proofs.Showing.{cmp_behind}
use Rattle.fs_ops.specs.Places.{NoFileAt}
use Rattle.fs_rename.specs.inner.Meaning.{NoFileIf}
use Rattle.fs_rename.specs.code.Rename.{asks_at, inside_asks, is_root}
use Rattle.fs_rename.specs.inner.Rename.{first_is, kind_of, seen_inside}
use Rattle.fs_rename.specs.declared.stages.Kind.{Kind}
use Rattle.fs_rename.specs.declared.stages.Kind.TheVariants.{Directory, File, Nothing}
use Rattle.fs_tree.proofs.Begins.{begins_all}
use Rattle.fs_tree.proofs.Moving.{rest_after}
use Rattle.fs_tree.specs.Tree.{HasFile, IsAbsent, IsDirectory, Stands}
use Rattle.s3_types.specs.Pages.{begins, listed, text_in}
use Rattle.s3_types.specs.Store.{Objects}
use Rattle.s3_types.specs.declared.object.Object.{Object}
use Rattle.s3_types.specs.declared.reply.PageEntry.{PageEntry}
use Rattle.std.proofs.Common.{Bool, List, None, Option, Some, ap, false, if◌then◌else◌, inl, inr, map, refl, subst, sym, take, true, ℕ, []}
use Rattle.std.proofs.Common.{◌++◌, ◌∙◌, ◌∷◌, ◌≡◌}
use Rattle.std.proofs.lemmas.Bool.{false≢true}
use Rattle.std.proofs.lemmas.List.{append-nil}
use Rattle.std.specs.Ordering.{is_lt}
use Rattle.store_frame.proofs.Flat.{behind, listed_rises}
use Rattle.std.specs.FinMap as fin

-- Holds if this kind is what exists at a path.
abbrev pub TellsKind : Objects → List ℕ → Kind → Type 0
TellsKind z p File = HasFile z p
TellsKind z p Directory = IsDirectory z p
TellsKind z p Nothing = IsAbsent z p

-- Holds if the kind is known and true, or not known and no file exists.
abbrev pub Tells : Objects → List ℕ → Option Kind → Type 0
Tells z p (Some k) = TellsKind z p k
Tells z p None = NoFileAt z p

-- A look at a path, or below it.
pub place_tells : (z : Objects) (p : List ℕ) (b : Bool) → NoFileIf b z p
    → Tells z p (kind_of (is_root p) b (look_of (reply_in z (asks_at p b))))
place_tells z [] b n = (tt, tt)
place_tells z (x ∷ p) false n = at_key (λ l. Tells z (x ∷ p) (kind_of false false l)) z (x ∷ p) (λ s. s) (λ s. s)
place_tells z (x ∷ p) true n = below_key (λ l. Tells z (x ∷ p) (kind_of false true l)) x (marker_of p) z (λ s. (n, s)) (λ s. (n, s))

-- ---- the first key that begins with a path is the path itself, if it exists

-- A text that begins with another is not less.
not_less : (p k : List ℕ) → begins p k ≡ true → is_lt (text_cmp k p) ≡ true → ⊥
not_less p k b l =
    let r = rest_after p k b in
    behind_empty r.0 (ap is_lt (sym (cmp_behind p r.0 []) ∙ ap (text_cmp (p ++ r.0)) (append-nil p) ∙ ap (λ v. text_cmp v p) (sym r.1)) ∙ l)
  where
    behind_empty : (r : List ℕ) → is_lt (text_cmp r []) ≡ true → ⊥
    behind_empty [] l = false≢true l
    behind_empty (y ∷ r) l = false≢true l

module _ (z : Objects) (x : ℕ) (p : List ℕ) where
  abbrev Q : List ℕ
  Q = x ∷ p

  first_tells : (l : List PageEntry) → listed Q false [] z ≡ l → IsSeen (first_is Q (take 1 l)) (Stands z Q) (fin.get z Q ≡ None)
  first_tells [] e = elim (none_or_some (fin.get z Q)) [
    | inl n ↦ n
    | inr s ↦ absurd
        (subst (λ l. IsIn Q (map text_in l)) e (stands_below x p z Q s.0 (begins_all Q) s.1))
  ]
  first_tells (y ∷ l) e = by (text_eq (text_in y) Q) refl
    where
      is_there : IsIn (text_in y) (keys_below Q z)
      is_there = subst (λ l. IsIn (text_in y) (map text_in l)) (sym e) (inl refl)

      rises : RisesFrom (text_in y) (map text_in l)
      rises = (subst (λ l. RisesFrom [] (map text_in l)) e (listed_rises Q [] z)).1

      none : (text_in y ≡ Q → ⊥) → (v : Object) → fin.get z Q ≡ Some v → ⊥
      none f v s = elim (subst (λ l. IsIn Q (map text_in l)) e (stands_below x p z Q v (begins_all Q) s)) [
        | inl g ↦ f (sym g)
        | inr i ↦ not_less Q (text_in y) (below_stands Q z (text_in y) is_there).0 (behind (text_in y) Q (map text_in l) rises i)
      ]

      by : (b : Bool) → text_eq (text_in y) Q ≡ b → IsSeen (if b then There else NothingThere) (Stands z Q) (fin.get z Q ≡ None)
      by true t = subst (Stands z) (text_is (text_in y) Q t) (below_stands Q z (text_in y) is_there).1
      by false t = elim (none_or_some (fin.get z Q)) [
        | inl n ↦ n
        | inr s ↦ absurd
            (none (λ g. false≢true (sym t ∙ text_true (text_in y) Q g)) s.0 s.1)
      ]

  -- a look at a path that may be over the limit of keys, or below it
  pub inside_tells : (b : Bool) → NoFileIf b z Q → Tells z Q (kind_of false b (seen_inside (Some Q) b (reply_in z (inside_asks Q b))))
  inside_tells false n =
      told (Stands z Q) (fin.get z Q ≡ None) (λ l. Tells z Q (kind_of false false l)) (first_is Q (take 1 (listed Q false [] z)))
      (first_tells (listed Q false [] z) refl)
      (λ s. s) (λ s. s)
  inside_tells true n = place_tells z Q true n
