-- Objects after those of one bucket have changed.
use Rattle.audit_claims.specs.Claims.{Tags}
use Rattle.audit_claims.specs.Etags.{TagMap}
use Rattle.audit_objects.specs.Objects.{ObjectMap, at, delete, put, same_place, tags_in}
use Rattle.text_and_lists.proofs.Members.{text_is, text_true}
use Rattle.text_and_lists.proofs.Tree.{get_made, insert_same, made_insert}
use Rattle.text_and_lists.specs.Order.{text_cmp, text_eq, text_ties, text_total}
use Rattle.std.proofs.Common.{Bool, List, None, Option, Some, ap, cond, false, get_or, length, refl, sym, take, true, ℕ, [], ◌&&◌, ◌+◌, ◌<◌}
use Rattle.std.proofs.Common.{◌||◌, ◌∙◌, ◌∷◌, ◌≡◌}
use Rattle.std.proofs.lemmas.List.Folds.{list_any_more}
use Rattle.std.proofs.lemmas.Map.Lookups.{exact_bytes}
use Rattle.std.proofs.lemmas.Slice.Eq.{bytes_eq-Decides}
use Rattle.std.specs.BTreeMap.{is_at}
use Rattle.std.specs.List.{list_any}
use Rattle.std.specs.Map.{lookup}
use Rattle.std.specs.Ordering.{eq_by_cmp}
use Rattle.std.specs.Str.{bytes_eq}
use Rattle.std.specs.FinMap as map

-- ---- truth values and texts

same_truth : (a b : Bool) → (a ≡ true → b ≡ true) → (b ≡ true → a ≡ true) → a ≡ b
same_truth true b f g = sym (f refl)
same_truth false true f g = g refl
same_truth false false f g = refl

-- The order says that two texts are the same exactly if they have the same bytes.
alike : (q k : List ℕ) → eq_by_cmp text_cmp q k ≡ bytes_eq k q
alike q k =
    sym (text_ties q k)
    ∙ same_truth (text_eq q k) (bytes_eq k q) (λ h. (bytes_eq-Decides k q).1 (sym (text_is q k h)))
    (λ h. text_true q k (sym ((bytes_eq-Decides k q).0 h)))

-- True if the key is one of these.
abbrev pub is_one_of : (keys : List (List ℕ)) → List ℕ → Bool
is_one_of keys k = list_any (λ key. bytes_eq key k) keys

-- A test of a bucket and one of a key.
is_place : (keys : List (List ℕ)) (bucket b k : List ℕ)
    → list_any (λ key. same_place bucket key b k) keys ≡ (bytes_eq bucket b && is_one_of keys k)
is_place keys bucket b k = by (bytes_eq bucket b) keys
  where
    by : (c : Bool) (keys : List (List ℕ)) → list_any (λ key. c && bytes_eq key k) keys ≡ (c && is_one_of keys k)
    by true keys = refl
    by false [] = refl
    by false (x ∷ xs) = by false xs

-- ---- one bucket

-- One key is put.
pub one_put : (tags new : TagMap) (key : List ℕ) (etags : Tags) → new ≡ map.insert tags key etags → (k : List ℕ)
    → map.get new k ≡ cond (bytes_eq key k) (Some etags) (map.get tags k)
one_put tags new key etags e k =
    ap (λ (m : TagMap). map.get m k) e ∙ map.get-insert text_total tags key etags k
    ∙ ap (λ b. cond b (Some etags) (map.get tags k)) (alike k key)

-- One key is put where there was none.
pub first_put : (new : TagMap) (key : List ℕ) (etags : Tags) → new ≡ map.insert map.empty key etags → (k : List ℕ)
    → map.get new k ≡ cond (bytes_eq key k) (Some etags) None
first_put new key etags e k =
    one_put map.empty new key etags e k ∙ ap (cond (bytes_eq key k) (Some etags)) (map.get-empty text_cmp k)

or_none : (b : Bool) → b ≡ (b || false)
or_none true = refl
or_none false = refl

-- One key is removed.
pub one_removed : (tags new : TagMap) (key : List ℕ) → new ≡ map.remove tags key → (k : List ℕ)
    → map.get new k ≡ cond (is_one_of (key ∷ []) k) None (map.get tags k)
one_removed tags new key e k =
    ap (λ (m : TagMap). map.get m k) e ∙ map.get-remove text_total tags key k
    ∙ ap (λ b. cond b None (map.get tags k)) (alike k key ∙ or_none (bytes_eq key k))

removed_also : (a b : Bool) (o : Option Tags) → cond (b || false) None (cond a None o) ≡ cond (a || b) None o
removed_also true true o = refl
removed_also true false o = refl
removed_also false true o = refl
removed_also false false o = refl

-- One more key of a list is removed.
pub next_removed : (old tags new : TagMap) (keys : List (List ℕ)) (i : ℕ) (key : List ℕ) → i < length keys → key ≡ get_or keys i key
    → ((k : List ℕ) → map.get tags k ≡ cond (is_one_of (take i keys) k) None (map.get old k)) → new ≡ map.remove tags key → (k : List ℕ)
    → map.get new k ≡ cond (is_one_of (take (i + 1) keys) k) None (map.get old k)
next_removed old tags new keys i key w is so_far e k =
    one_removed tags new key e k ∙ ap (cond (is_one_of (key ∷ []) k) None) (so_far k)
    ∙ removed_also (is_one_of (take i keys) k) (bytes_eq key k) (map.get old k)
    ∙ ap (λ b. cond b None (map.get old k))
    (ap (λ (x : List ℕ). is_one_of (take i keys) k || bytes_eq x k) is ∙ sym (list_any_more (λ x. bytes_eq x k) keys i key w))

-- ---- the map that a tree's entries make

abbrev Rows : Type 0
Rows = List (List ℕ × TagMap)

module _ (es : Rows) (m : ObjectMap) (bucket : List ℕ) (is : map.from_entries {R = text_cmp} es ≡ m) where
  -- The keys and tags at a bucket's name.
  pub found : (o : Option TagMap) → o ≡ lookup (is_at (text_cmp bucket)) es → map.get m bucket ≡ o
  found o e = ap (λ (n : ObjectMap). map.get n bucket) (sym is) ∙ get_made text_total es bucket ∙ sym e

  -- The tags at a key of the bucket.
  pub tags_found : (o : Option TagMap) (k : List ℕ) → o ≡ lookup (is_at (text_cmp bucket)) es → at m bucket k ≡ tags_in o k
  tags_found o k e = ap (λ (t : Option TagMap). tags_in t k) (found o e)

  module _ (fs : Rows) (new : TagMap)
      (h : (q : List ℕ)
      → lookup (is_at (text_cmp q)) fs ≡ cond (is_at (text_cmp bucket) q) (Some new) (lookup (is_at (text_cmp q)) es)) where
    written : map.from_entries {R = text_cmp} fs ≡ map.insert m bucket new
    written = made_insert text_total exact_bytes es fs bucket new h ∙ ap (λ (n : ObjectMap). map.insert n bucket new) is

    -- The bucket is unchanged.
    pub unwritten : (old : TagMap) → Some old ≡ lookup (is_at (text_cmp bucket)) es → new ≡ old → map.from_entries {R = text_cmp} fs ≡ m
    unwritten old was e =
        written ∙ ap (map.insert m bucket) e ∙ insert_same text_total exact_bytes m bucket old (found (Some old) was)

    module _ (old : Option TagMap) (was : map.get m bucket ≡ old) (test : List ℕ → Bool) (o : Option Tags)
        (now : (k : List ℕ) → map.get new k ≡ cond (test k) o (tags_in old k)) where
      -- At some keys of the bucket the objects are new.
      changed : (b k : List ℕ) → at (map.from_entries {R = text_cmp} fs) b k ≡ cond (bytes_eq bucket b && test k) o (at m b k)
      changed b k =
          ap (λ (n : ObjectMap). at n b k) written
          ∙ ap (λ (t : Option TagMap). tags_in t k)
          (map.get-insert text_total m bucket new b ∙ ap (λ c. cond c (Some new) (map.get m b)) (alike b bucket))
          ∙ by (bytes_eq bucket b) refl
        where
          by : (c : Bool) → bytes_eq bucket b ≡ c
              → tags_in (cond c (Some new) (map.get m b)) k ≡ cond (c && test k) o (at m b k)
          by true e =
              now k
              ∙ ap (λ (t : Option TagMap). cond (test k) o (tags_in t k)) (sym was ∙ ap (map.get m) ((bytes_eq-Decides bucket b).0 e))
          by false e = refl

    -- An object is put into the bucket.
    pub has_put : (old : Option TagMap) → map.get m bucket ≡ old → (key : List ℕ) (etags : Tags)
        → ((k : List ℕ) → map.get new k ≡ cond (bytes_eq key k) (Some etags) (tags_in old k))
        → (b k : List ℕ) → at (map.from_entries {R = text_cmp} fs) b k ≡ put bucket key etags (at m) b k
    has_put old was key etags now = changed old was (bytes_eq key) (Some etags) now

    -- Objects of the bucket are deleted.
    pub has_deleted : (old : TagMap) → Some old ≡ lookup (is_at (text_cmp bucket)) es → (keys : List (List ℕ))
        → ((k : List ℕ) → map.get new k ≡ cond (is_one_of keys k) None (map.get old k))
        → (b k : List ℕ) → at (map.from_entries {R = text_cmp} fs) b k ≡ delete bucket keys (at m) b k
    has_deleted old was keys now b k =
        changed (Some old) (found (Some old) was) (is_one_of keys) None now b k
        ∙ ap (λ c. cond c None (at m b k)) (sym (is_place keys bucket b k))

  -- Nothing is deleted in a bucket that does not exist.
  pub none_deleted : (fs : Rows) → fs ≡ es → None ≡ lookup (is_at (text_cmp bucket)) es → (keys : List (List ℕ)) (b k : List ℕ)
      → at (map.from_entries {R = text_cmp} fs) b k ≡ delete bucket keys (at m) b k
  none_deleted fs e none keys b k =
      ap (λ (l : Rows). at (map.from_entries {R = text_cmp} l) b k) e ∙ ap (λ (n : ObjectMap). at n b k) is
      ∙ by (bytes_eq bucket b) refl
      ∙ ap (λ c. cond c None (at m b k)) (sym (is_place keys bucket b k))
    where
      by : (c : Bool) → bytes_eq bucket b ≡ c → at m b k ≡ cond (c && is_one_of keys k) None (at m b k)
      by true e = nothing ∙ stays (is_one_of keys k)
        where
          nothing : at m b k ≡ None
          nothing = ap (λ (c : List ℕ). at m c k) (sym ((bytes_eq-Decides bucket b).0 e)) ∙ tags_found None k none

          stays : (c : Bool) → None ≡ cond c None (at m b k)
          stays true = refl
          stays false = sym nothing
      by false e = refl
