-- The paths that begin with a text are next to one another.
use Rattle.text_and_lists.proofs.Bools.{contrary}
use Rattle.text_and_lists.proofs.Less.{le_le, le_not, lt, lt_not}
use Rattle.text_and_lists.specs.Order.{text_cmp, text_total}
use Rattle.cluster_fs.specs.inner.Cluster.{Follows}
use Rattle.s3_types.proofs.Begins.{between, from_prefix}
use Rattle.s3_types.specs.Pages.{begins}
use Rattle.std.proofs.Common.{Bool, List, ap, cond, false, not, refl, subst, sym, true, ℕ, [], ◌&&◌, ◌∙◌, ◌∷◌, ◌≡◌}
use Rattle.std.proofs.Math.Bool.{and-true}
use Rattle.std.proofs.lemmas.Bool.{false≢true, not-true}
use Rattle.std.proofs.lemmas.Map.Keys.{sorted_head, sorted_tail}
use Rattle.std.specs.BTreeMap.Range.{entries_between}
use Rattle.std.specs.List.{filter}
use Rattle.std.specs.List.Sorted.{IsStrictlySortedBy}
use Rattle.std.specs.Map.{keys_of}
use Rattle.std.specs.Ordering.{is_le, is_lt}
use Rattle.std.specs.declared.ops.Bound.TheVariants.{Included, Unbounded}

none_after : (p k : List ℕ) (ks : List (List ℕ)) → lt text_cmp k p ≡ false → begins p k ≡ false → Follows k ks → filter (begins p) ks ≡ []
none_after p k [] g n h = refl
none_after p k (q ∷ ks) g n h =
    let m : begins p q ≡ false = contrary (begins p q) (λ t. sym n ∙ between p k q g h.0 t) in
    ap (λ b. cond b (q ∷ filter (begins p) ks) (filter (begins p) ks)) m ∙ none_after p q ks (le_le text_total p k q g h.0) m h.1

-- After a path that does not begin with p, no path begins with p.
pub none_left : (p k : List ℕ) (ks : List (List ℕ)) → Follows p (k ∷ ks) → begins p k ≡ false → filter (begins p) (k ∷ ks) ≡ []
none_left p k ks h n = ap (λ b. cond b (k ∷ filter (begins p) ks) (filter (begins p) ks)) n ∙ none_after p k ks h.0 n h.1

pub follows_rest : (p k : List ℕ) (ks : List (List ℕ)) → Follows p (k ∷ ks) → Follows p ks
follows_rest p k [] h = tt
follows_rest p k (q ∷ ks) h = (le_le text_total p k q h.0 h.1.0, h.1.1)

-- ---- from a prefix on

abbrev from_on : List ℕ → List ℕ → Bool
from_on p k = is_le (text_cmp p k) && true

is_from : (p k : List ℕ) → from_on p k ≡ not (lt text_cmp k p)
is_from p k = and-true _ ∙ le_not text_total p k

keys_between : {X : Type 0} (p : List ℕ) (es : List (List ℕ × X))
    → keys_of (entries_between text_cmp (Included p) Unbounded es) ≡ filter (from_on p) (keys_of es)
keys_between p [] = refl
keys_between {X} p (e ∷ es) = by (from_on p e.0) (keys_between p es)
  where
    by : (b : Bool) → keys_of (entries_between text_cmp (Included p) Unbounded es) ≡ filter (from_on p) (keys_of es)
        → keys_of (cond b (e ∷ entries_between text_cmp (Included p) Unbounded es) (entries_between text_cmp (Included p) Unbounded es)) ≡
        cond b (e.0 ∷ filter (from_on p) (keys_of es)) (filter (from_on p) (keys_of es))
    by true ih = ap (λ l. e.0 ∷ l) ih
    by false ih = ih

lower : (p k : List ℕ) (ks : List (List ℕ)) → lt text_cmp k p ≡ false → Follows k ks → Follows p ks
lower p k [] l h = tt
lower p k (q ∷ ks) l h = (le_le text_total p k q l h.0, h.1)

kept_follows : (f : List ℕ → Bool) (k : List ℕ) (ks : List (List ℕ)) → IsStrictlySortedBy text_cmp (k ∷ ks) → Follows k (filter f ks)
kept_follows f k [] s = tt
kept_follows f k (q ∷ ks) s = by (kept_follows f q ks (sorted_tail text_cmp k (q ∷ ks) s)) (f q)
  where
    less : lt text_cmp q k ≡ false
    less = lt_not text_total k q (ap is_lt (sorted_head text_cmp k (q ∷ ks) s).0)

    by : Follows q (filter f ks) → (b : Bool) → Follows k (cond b (q ∷ filter f ks) (filter f ks))
    by ih true = (less, ih)
    by ih false = lower k q (filter f ks) less ih

follow_from : (p : List ℕ) (ks : List (List ℕ)) → IsStrictlySortedBy text_cmp ks → Follows p (filter (from_on p) ks)
follow_from p [] s = tt
follow_from p (k ∷ ks) s = by (follow_from p ks (sorted_tail text_cmp k ks s)) (from_on p k) refl
  where
    by : Follows p (filter (from_on p) ks) → (b : Bool) → from_on p k ≡ b
        → Follows p (cond b (k ∷ filter (from_on p) ks) (filter (from_on p) ks))
    by ih true t = (not-true _ (sym (is_from p k) ∙ t), kept_follows (from_on p) k ks s)
    by ih false t = ih

-- The paths before p do not begin with p.
all_from : (p : List ℕ) (ks : List (List ℕ)) → filter (begins p) (filter (from_on p) ks) ≡ filter (begins p) ks
all_from p [] = refl
all_from p (k ∷ ks) = by (begins p k) refl (from_on p k) refl (all_from p ks)
  where
    by : (b : Bool) → begins p k ≡ b → (f : Bool) → from_on p k ≡ f → filter (begins p) (filter (from_on p) ks) ≡ filter (begins p) ks
        → filter (begins p) (cond f (k ∷ filter (from_on p) ks) (filter (from_on p) ks)) ≡ cond b (k ∷ filter (begins p) ks)
        (filter (begins p) ks)
    by true t true u ih = ap (λ b. cond b (k ∷ filter (begins p) (filter (from_on p) ks)) (filter (begins p) (filter (from_on p) ks))) t ∙
        ap (λ l. k ∷ l) ih
    by true t false u ih = absurd (false≢true (sym u ∙ is_from p k ∙ ap not (from_prefix p k t)))
    by false t true u ih = ap (λ b. cond b (k ∷ filter (begins p) (filter (from_on p) ks)) (filter (begins p) (filter (from_on p) ks))) t ∙
        ih
    by false t false u ih = ih

-- The entries of a tree from p on.
pub record IsRest {X : Type 0} (p : List ℕ) (es rest : List (List ℕ × X)) : Type 0 where
  pub follows : Follows p (keys_of rest)
  pub all : filter (begins p) (keys_of rest) ≡ filter (begins p) (keys_of es)

pub is_rest : {X : Type 0} (p : List ℕ) (es rest : List (List ℕ × X)) → IsStrictlySortedBy text_cmp (keys_of es)
    → rest ≡ entries_between text_cmp (Included p) Unbounded es → IsRest p es rest
is_rest p es rest s e = subst (IsRest p es) (sym e) (record {
  follows = subst (Follows p) (sym (keys_between p es)) (follow_from p (keys_of es) s);
  all = ap (filter (begins p)) (keys_between p es) ∙ all_from p (keys_of es);
})
