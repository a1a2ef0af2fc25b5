-- What a listing without a delimiter has: each object below a prefix and after a text, once and in order, with its length.
use Rattle.text_and_lists.proofs.Less.{irrefl, lt, lt_back, lt_trans}
use Rattle.text_and_lists.proofs.Members.{false_true, in_filter, in_map, some_is, text_exact}
use Rattle.text_and_lists.proofs.Tree.{map_sorted}
use Rattle.text_and_lists.specs.Members.{IsIn, RisesFrom, last_from}
use Rattle.text_and_lists.specs.Order.{text_cmp, text_total}
use Rattle.bucket_ops.proofs.Rising.{lower}
use Rattle.fs_ops.proofs.Children.{folded_sub}
use Rattle.s3_types.proofs.Begins.{from_prefix}
use Rattle.s3_types.specs.Pages.{begins, entry_of, listed, text_in}
use Rattle.s3_types.specs.Store.{Objects}
use Rattle.s3_types.specs.declared.object.Object.{Object}
use Rattle.s3_types.specs.declared.reply.PageEntry.{PageEntry}
use Rattle.s3_types.specs.declared.reply.PageEntry.TheVariants.{Object as Single}
use Rattle.std.proofs.Common.{ap, inl, inr, refl, subst, sym, ◌∙◌}
use Rattle.std.specs.List.{filter}
use Rattle.std.specs.Ordering.{is_lt}
use Rattle.std.specs.Prelude.{Bool, List, None, Some, cond, false, length, map, true, ℕ, [], ◌++◌, ◌∷◌, ◌≡◌}
use Rattle.std.specs.declared.cmp.Ordering.{Ordering}
use Rattle.std.specs.declared.cmp.Ordering.TheVariants.{Equal, Greater, Less}
use Rattle.store_frame.proofs.Flat.{found_at, listed_all, listed_rises}
use Rattle.std.specs.FinMap as fin

-- The listing has each existing object below a prefix and after a text, once, in order, with its length in bytes.
pub record IsListing (q l : List ℕ) (z : Objects) (es : List PageEntry) : Type 0 where
  pub rises : RisesFrom l (map text_in es)
  pub each : (e : PageEntry) → IsIn e es → (k : List ℕ) × (o : Object) × (e ≡ Single k (length o.bytes)) × (begins q k ≡ true)
      × (fin.get z k ≡ Some o)
  pub all : (k : List ℕ) (o : Object) → fin.get z k ≡ Some o → begins q k ≡ true → lt text_cmp l k ≡ true
      → IsIn (Single k (length o.bytes)) es

-- ---- texts in order

-- A text is less than another one that begins with it.
pub above : (k j : List ℕ) → begins k j ≡ true → (j ≡ k → ⊥) → lt text_cmp k j ≡ true
above k j b n = by (text_cmp k j) refl
  where
    by : (r : Ordering) → text_cmp k j ≡ r → lt text_cmp k j ≡ true
    by Less e = ap is_lt e
    by Equal e = absurd (n (sym (text_exact k j e)))
    by Greater e = absurd (false_true (from_prefix k j b) (lt_back text_total k j ∙ ap Rattle.std.specs.Ordering.is_gt e))

-- What rises from some text, and is greater than b, rises from b.
pub rises_from : (l b : List ℕ) (ks : List (List ℕ)) → RisesFrom l ks → ((k : List ℕ) → IsIn k ks → lt text_cmp b k ≡ true) → RisesFrom b ks
rises_from l b [] h g = tt
rises_from l b (k ∷ ks) h g = (g k (inl refl), h.1)

pub rises_end : (l x : List ℕ) (ks : List (List ℕ)) → RisesFrom l ks → lt text_cmp l x ≡ true
    → ((k : List ℕ) → IsIn k ks → lt text_cmp k x ≡ true) → RisesFrom l (ks ++ x ∷ [])
rises_end l x [] h b g = (b, tt)
rises_end l x (k ∷ ks) h b g = (h.0, rises_end k x ks h.1 (g k (inl refl)) (λ q i. g q (inr i)))

pub last_less : (l x : List ℕ) (ks : List (List ℕ)) → lt text_cmp l x ≡ true → ((k : List ℕ) → IsIn k ks → lt text_cmp k x ≡ true)
    → lt text_cmp (last_from l ks) x ≡ true
last_less l x [] b g = b
last_less l x (k ∷ ks) b g = last_less k x ks (g k (inl refl)) (λ q i. g q (inr i))

-- A part of a list that rises also rises.
pub rises_some : (p : List ℕ → Bool) (l : List ℕ) (ks : List (List ℕ)) → RisesFrom l ks → RisesFrom l (filter p ks)
rises_some p l [] h = tt
rises_some p l (k ∷ ks) h = elim (p k) as (λ b. RisesFrom l (cond b (k ∷ filter p ks) (filter p ks))) [
  | true ↦ (h.0, rises_some p k ks h.1)
  | false ↦ lower l k (filter p ks) h.0 (rises_some p k ks h.1)
]

pub rises_filter : {X : Type 0} (f : X → List ℕ) (p : X → Bool) (l : List ℕ) (xs : List X) → RisesFrom l (map f xs)
    → RisesFrom l (map f (filter p xs))
rises_filter f p l [] h = tt
rises_filter {X = X} f p l (x ∷ xs) h = elim (p x) as (λ b. RisesFrom l (map f (cond b (x ∷ filter p xs) (filter p xs)))) [
  | true ↦ (h.0, rises_filter f p (f x) xs h.1)
  | false ↦ lower l (f x) (map f (filter p xs)) h.0 (rises_filter f p (f x) xs h.1)
]

-- ---- a listing is one

-- a key and its object
abbrev Entry : Type 0
Entry = List ℕ × Object

module _ (q l : List ℕ) (z : Objects) where
  listed_each : (e : PageEntry) → IsIn e (listed q false l z) → (k : List ℕ) × (o : Object) × (e ≡ Single k (length o.bytes))
      × (begins q k ≡ true) × (fin.get z k ≡ Some o)
  listed_each e i =
      let below : List Entry = filter (λ (x : Entry). begins q x.0) (fin.entries z) in
      let a = in_filter (λ x. is_lt (text_cmp l (text_in x))) e (map (entry_of q false) below)
      (folded_sub None (filter (λ x. is_lt (text_cmp l (text_in x))) (map (entry_of q false) below)) e i) in
      let c = in_map (entry_of q false) e below a.0 in
      let d = in_filter (λ (x : Entry). begins q x.0) c.0 (fin.entries z) c.1 in
      (c.0.0, c.0.1, c.2, d.1, fin.get-entries z c.0.0 ∙ found_at (fin.entries z) c.0 (map_sorted text_cmp z) d.0)

  listed_has : (k : List ℕ) (o : Object) → fin.get z k ≡ Some o → begins q k ≡ true → lt text_cmp l k ≡ true
      → IsIn (Single k (length o.bytes)) (listed q false l z)
  listed_has k o g b t =
      let a = in_map text_in k (listed q false l z) (listed_all q l z k o g b t) in
      let w = listed_each a.0 a.1 in
      let key : w.0 ≡ k = sym (a.2 ∙ ap text_in w.2) in
      let same : w.1 ≡ o = some_is (sym w.4 ∙ ap (fin.get z) key ∙ g) in
      subst (λ e. IsIn e (listed q false l z)) (w.2 ∙ ap (λ k. Single k (length w.1.bytes)) key ∙ ap
      (λ (o : Object). Single k (length o.bytes)) same) a.1

  pub is_listing : IsListing q l z (listed q false l z)
  is_listing = record { rises = listed_rises q l z; each = listed_each; all = listed_has }

-- What is listed after the first entry is a listing from there.
pub behind_first : (q l : List ℕ) (z : Objects) (e : PageEntry) (es : List PageEntry) → IsListing q l z (e ∷ es)
    → IsListing q (text_in e) z es
behind_first q l z e es h = record {
  rises = h.rises.1;
  each = λ f i. h.each f (inr i);
  all = λ k o g b t. by k (length o.bytes) t (h.all k o g b (lt_trans text_total l (text_in e) k h.rises.0 t));
}
  where
    by : (k : List ℕ) (n : ℕ) → lt text_cmp (text_in e) k ≡ true → IsIn (Single k n) (e ∷ es) → IsIn (Single k n) es
    by k n t (inl i) = absurd (false_true (irrefl text_total k) (ap (λ e. lt text_cmp (text_in e) k) i ∙ t))
    by k n t (inr i) = i
