-- Of the moves those are kept whose new key exists, or those whose new key does not.
use Rattle.text_and_lists.proofs.Less.{irrefl, lt, lt_not, lt_trans}
use Rattle.text_and_lists.proofs.Members.{false_true, text_is, text_true}
use Rattle.text_and_lists.specs.Members.{IsIn, RisesFrom}
use Rattle.text_and_lists.specs.Order.{text_cmp, text_total}
use Rattle.bucket_ops.proofs.Below.{below_stands, stands_below}
use Rattle.bucket_ops.proofs.Rising.{lower}
use Rattle.bucket_ops.specs.Walking.{all_below}
use Rattle.copy_tree.specs.inner.Parts.{chosen, from_text, is_first, is_wanted, kept}
use Rattle.fs_rename.specs.inner.Copies.{IsOneOf, Move, sources, targets}
use Rattle.fs_tree.specs.Tree.{Stands}
use Rattle.s3_types.specs.Pages.{begins, text_in}
use Rattle.s3_types.specs.Store.{Objects}
use Rattle.s3_types.specs.declared.object.Object.{Object}
use Rattle.s3_types.specs.declared.reply.PageEntry.{PageEntry}
use Rattle.std.proofs.Common.{ap, arith, inl, inr, refl, subst, sym, ◌∙◌}
use Rattle.std.proofs.lemmas.Bool.{false≢true}
use Rattle.std.specs.Prelude.{Bool, List, None, Option, Some, cond, false, length, map, true, ℕ, [], ◌++◌, ◌+◌, ◌∷◌, ◌≡◌, ◌≤◌}
use Rattle.store_frame.proofs.Flat.{behind, listed_rises}
use Rattle.std.specs.FinMap as fin

-- ---- entries from a text

module _ (l : List ℕ) where
  from_rises : (b : List ℕ) (es : List PageEntry) → RisesFrom b (map text_in es) → (c : List ℕ) × RisesFrom c (map text_in (from_text l es))
  from_rises b [] h = (b, tt)
  from_rises b (e ∷ es) h = elim (lt text_cmp (text_in e) l) as (λ s. (c : List ℕ) × RisesFrom c
      (map text_in (cond s (from_text l es) (e ∷ es)))) [
        | true ↦ from_rises (text_in e) es h.1
        | false ↦ (b, h)
      ]

  from_in : (t : List ℕ) (es : List PageEntry) → IsIn t (map text_in (from_text l es)) → IsIn t (map text_in es)
  from_in t [] i = i
  from_in t (e ∷ es) i = by (lt text_cmp (text_in e) l) i (from_in t es)
    where
      by : (s : Bool) → IsIn t (map text_in (cond s (from_text l es) (e ∷ es)))
          → (IsIn t (map text_in (from_text l es)) → IsIn t (map text_in es)) → IsIn t (map text_in (e ∷ es))
      by s h g = grind arith

  from_has : (t : List ℕ) (es : List PageEntry) → lt text_cmp t l ≡ false → IsIn t (map text_in es) → IsIn t (map text_in (from_text l es))
  from_has t [] f i = i
  from_has t (e ∷ es) f i = by (lt text_cmp (text_in e) l) refl i (from_has t es f)
    where
      by : (s : Bool) → lt text_cmp (text_in e) l ≡ s → IsIn t (map text_in (e ∷ es))
          → (IsIn t (map text_in es) → IsIn t (map text_in (from_text l es))) → IsIn t (map text_in (cond s (from_text l es) (e ∷ es)))
      by s h g e = grind arith

  first_has : (b : List ℕ) (es : List PageEntry) → RisesFrom b (map text_in es) → IsIn l (map text_in es)
      → is_first l (from_text l es) ≡ true
  first_has b [] h i = absurd i
  first_has b (e ∷ es) h i = by (lt text_cmp (text_in e) l) refl i (first_has (text_in e) es h.1)
    where
      by : (s : Bool) → lt text_cmp (text_in e) l ≡ s → IsIn l (map text_in (e ∷ es))
          → (IsIn l (map text_in es) → is_first l (from_text l es) ≡ true) → is_first l (cond s (from_text l es) (e ∷ es)) ≡ true
      by true g (inl s) old = absurd (false_true (irrefl text_total l) (ap (λ t. lt text_cmp t l) s ∙ g))
      by true g (inr j) old = old j
      by false g (inl s) old = text_true (text_in e) l (sym s)
      by false g (inr j) old = absurd (false_true g (behind (text_in e) l (map text_in es) h.1 j))

  first_in : (es : List PageEntry) → is_first l es ≡ true → IsIn l (map text_in es)
  first_in [] h = absurd (false≢true h)
  first_in (e ∷ es) h = inl (sym (text_is (text_in e) l h))

-- ---- what a listing shows

-- Each entry exists, and each existing key below the prefix and after a text has an entry.
pub record Shows (q : List ℕ) (z : Objects) (b : List ℕ) (es : List PageEntry) : Type 0 where
  pub low : List ℕ
  pub rises : RisesFrom low (map text_in es)
  pub each : (t : List ℕ) → IsIn t (map text_in es) → Stands z t
  pub all : (t : List ℕ) → begins q t ≡ true → lt text_cmp b t ≡ true → Stands z t → IsIn t (map text_in es)

pub all_shown : (x : ℕ) (q : List ℕ) (z : Objects) → Shows (x ∷ q) z [] (all_below (x ∷ q) z)
all_shown x q z = grind (arith, listed_rises, below_stands, stands_below)

module _ (q : List ℕ) (z : Objects) where
  -- holds if a new key exists (true), or is absent (false)
  abbrev pub IsTold : Bool → List ℕ → Type 0
  IsTold true l = Stands z l
  IsTold false l = fin.get z l ≡ None

  shown_on : (b l : List ℕ) (es : List PageEntry) → lt text_cmp b l ≡ true → Shows q z b es → Shows q z l (from_text l es)
  shown_on b l es h s = record {
    low = (from_rises l s.low es s.rises).0;
    rises = (from_rises l s.low es s.rises).1;
    each = λ t i. s.each t (from_in l t es i);
    all = λ t g m o. from_has l t es (lt_not text_total l t m) (s.all t g (lt_trans text_total b l t h m) o);
  }

  -- the first entry from a new key on shows which
  first_tells : (b l : List ℕ) (es : List PageEntry) → lt text_cmp b l ≡ true → begins q l ≡ true → Shows q z b es
      → IsTold (is_first l (from_text l es)) l
  first_tells b l es h g s = by (is_first l (from_text l es)) refl
    where
      none : (o : Option Object) → fin.get z l ≡ o → is_first l (from_text l es) ≡ false → fin.get z l ≡ None
      none None e f = e
      none (Some v) e f = absurd (false_true f (first_has l s.low es s.rises (s.all l g h (v, e))))

      by : (t : Bool) → is_first l (from_text l es) ≡ t → IsTold t l
      by true e = s.each l (from_in l l es (first_in l (from_text l es) e))
      by false e = none (fin.get z l) refl e

  one_told : (s t : Bool) (l : List ℕ) → IsTold s l → IsTold t l → s ≡ t
  one_told s t l h g = grind arith

  wanted_is : (w t : Bool) → is_wanted w t ≡ true → t ≡ w
  wanted_is w t h = grind arith

  module _ (w : Bool) where
    -- the targets rise, come after a text and are below the prefix
    abbrev Below : List ℕ → List Move → Type 0
    Below b ps = RisesFrom b (targets ps) × ((l : List ℕ) → IsIn l (targets ps) → begins q l ≡ true)

    pub kept_each : (b : List ℕ) (ps : List Move) (es : List PageEntry) → Below b ps → Shows q z b es → (k l : List ℕ)
        → IsOneOf k l (kept w ps es) → IsOneOf k l ps × IsTold w l
    kept_each b [] es h s k l i = absurd i
    kept_each b (p ∷ ps) es h s k l i = by (is_wanted w (is_first p.1 (from_text p.1 es))) refl i
        (kept_each p.1 ps (from_text p.1 es) (h.0.1, λ l i. h.1 l (inr i)) (shown_on b p.1 es h.0.0 s) k l)
      where
        by : (t : Bool) → is_wanted w (is_first p.1 (from_text p.1 es)) ≡ t
            → IsOneOf k l (cond t (p ∷ []) [] ++ kept w ps (from_text p.1 es))
            → (IsOneOf k l (kept w ps (from_text p.1 es)) → IsOneOf k l ps × IsTold w l) → IsOneOf k l (p ∷ ps) × IsTold w l
        by true e (inl m) old = (
          inl m,
          subst (IsTold w) (sym m.1)
              (subst (λ t. IsTold t p.1) (wanted_is w (is_first p.1 (from_text p.1 es)) e)
              (first_tells b p.1 es h.0.0 (h.1 p.1 (inl refl)) s)),
        )
        by true e (inr j) old = let r = old j in (inr r.0, r.1)
        by false e j old = let r = old j in (inr r.0, r.1)

    pub kept_has : (b : List ℕ) (ps : List Move) (es : List PageEntry) → Below b ps → Shows q z b es → (k l : List ℕ) → IsOneOf k l ps
        → IsTold w l → IsOneOf k l (kept w ps es)
    kept_has b [] es h s k l i o = absurd i
    kept_has b (p ∷ ps) es h s k l i o = by (is_wanted w (is_first p.1 (from_text p.1 es))) refl i
        (λ j. kept_has p.1 ps (from_text p.1 es) (h.0.1, λ l i. h.1 l (inr i)) (shown_on b p.1 es h.0.0 s) k l j o)
      where
        same : l ≡ p.1 → is_wanted w (is_first p.1 (from_text p.1 es)) ≡ true
        same e =
            let told = one_told (is_first p.1 (from_text p.1 es)) w p.1 (first_tells b p.1 es h.0.0 (h.1 p.1 (inl refl)) s)
            (subst (IsTold w) e o) in
            ap (is_wanted w) told ∙ (elim w as (λ w. is_wanted w w ≡ true) [ true ↦ refl | false ↦ refl ])

        by : (t : Bool) → is_wanted w (is_first p.1 (from_text p.1 es)) ≡ t → IsOneOf k l (p ∷ ps)
            → (IsOneOf k l ps → IsOneOf k l (kept w ps (from_text p.1 es)))
            → IsOneOf k l (cond t (p ∷ []) [] ++ kept w ps (from_text p.1 es))
        by t h g e = grind (arith, same)

-- ---- the keys and the new keys of what is kept

chosen_by : (f : Move → List ℕ) (w : Bool) (ps : List Move) (es : List PageEntry)
    → chosen w (map f ps) (targets ps) es ≡ map f (kept w ps es)
chosen_by f w [] es = refl
chosen_by f w (p ∷ ps) es = by (is_wanted w (is_first p.1 (from_text p.1 es))) (chosen_by f w ps (from_text p.1 es))
  where
    by : (t : Bool) → chosen w (map f ps) (targets ps) (from_text p.1 es) ≡ map f (kept w ps (from_text p.1 es))
        → cond t (f p ∷ []) [] ++ chosen w (map f ps) (targets ps) (from_text p.1 es) ≡ map f
        (cond t (p ∷ []) [] ++ kept w ps (from_text p.1 es))
    by t h = grind arith

pub chosen_sources : (w : Bool) (ps : List Move) (es : List PageEntry) → chosen w (sources ps) (targets ps) es ≡ sources (kept w ps es)
chosen_sources w ps es = chosen_by (λ (p : Move). p.0) w ps es

pub chosen_targets : (w : Bool) (ps : List Move) (es : List PageEntry) → chosen w (targets ps) (targets ps) es ≡ targets (kept w ps es)
chosen_targets w ps es = chosen_by (λ (p : Move). p.1) w ps es

-- They rise as all do.
kept_rise : (f : Move → List ℕ) (w : Bool) (b : List ℕ) (ps : List Move) (es : List PageEntry) → RisesFrom b (map f ps)
    → RisesFrom b (map f (kept w ps es))
kept_rise f w b [] es h = tt
kept_rise f w b (p ∷ ps) es h = elim (is_wanted w (is_first p.1 (from_text p.1 es))) as
    (λ t. RisesFrom b (map f (cond t (p ∷ []) [] ++ kept w ps (from_text p.1 es)))) [
      | true ↦ (h.0, kept_rise f w (f p) ps (from_text p.1 es) h.1)
      | false ↦ lower b (f p) (map f (kept w ps (from_text p.1 es))) h.0 (kept_rise f w (f p) ps (from_text p.1 es) h.1)
    ]

pub sources_rise : (w : Bool) (b : List ℕ) (ps : List Move) (es : List PageEntry) → RisesFrom b (sources ps)
    → RisesFrom b (sources (kept w ps es))
sources_rise w b ps es h = kept_rise (λ (p : Move). p.0) w b ps es h

pub targets_rise : (w : Bool) (b : List ℕ) (ps : List Move) (es : List PageEntry) → RisesFrom b (targets ps)
    → RisesFrom b (targets (kept w ps es))
targets_rise w b ps es h = kept_rise (λ (p : Move). p.1) w b ps es h

-- Together they are no more than all keys.
pub all_counted : (ks ls : List (List ℕ)) (es : List PageEntry) → length (chosen true ks ls es) + length (chosen false ks ls es) ≤ length ks
all_counted [] ls es = omega arith
all_counted (k ∷ ks) [] es = omega arith
all_counted (k ∷ ks) (l ∷ ls) es = by (is_first l (from_text l es)) (all_counted ks ls (from_text l es))
  where
    by : (t : Bool) → length (chosen true ks ls (from_text l es)) + length (chosen false ks ls (from_text l es)) ≤ length ks
        → length (cond (is_wanted true t) (k ∷ []) [] ++ chosen true ks ls (from_text l es)) + length
        (cond (is_wanted false t) (k ∷ []) [] ++ chosen false ks ls (from_text l es)) ≤ length (k ∷ ks)
    by true h = omega (arith, h)
    by false h = omega (arith, h)
