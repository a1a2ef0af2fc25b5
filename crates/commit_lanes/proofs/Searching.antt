-- The search for a key that two tasks write, upload by upload.
use Rattle.text_and_lists.proofs.Bools.{contrary}
use Rattle.text_and_lists.proofs.Less.{irrefl, lt_trans}
use Rattle.text_and_lists.proofs.Members.{eq_nat, false_true, nat_true, same_or_other, text_false, text_true}
use Rattle.text_and_lists.specs.Order.{text_cmp, text_eq, text_total}
use Rattle.commit_lanes.proofs.ReadFiles.{item_at}
use Rattle.commit_lanes.proofs.Trying.{take_next}
use Rattle.commit_lanes.specs.Clashes.{IsBest, Item, items_from}
use Rattle.commit_lanes.specs.inner.Clashes.{Finds, IsOwner, clash_of, is_better}
use Rattle.commit_lanes.specs.declared.sharing.Clash.{Clash}
use Rattle.job_protocol.proofs.Members.{in_append, in_last, in_left, in_map, in_push}
use Rattle.job_protocol.specs.LaneTable.{In}
use Rattle.pending_json.specs.Pending.{Pending}
use Rattle.pending_json.specs.declared.records.PendingSet.{PendingSet}
use Rattle.std.proofs.Common.{Bool, List, None, Option, Some, ap, append_assoc, arith, cond, false, get_or, inl, inr, length}
use Rattle.std.proofs.Common.{length-take-le, map, nat_eq, not, refl, subst, suc, sym, take, true, ℕ, [], ◌++◌, ◌+◌, ◌<◌, ◌||◌, ◌∙◌, ◌∷◌}
use Rattle.std.proofs.Common.{◌≡◌, ◌≤◌, ◌⊎◌}
use Rattle.std.proofs.lemmas.List.{append-nil, map-append}
use Rattle.std.proofs.lemmas.Option.{slice_get_within}
use Rattle.std.specs.HashMap.{HashMap, Updates, get}
use Rattle.std.specs.Option.{unwrap_or}
use Rattle.std.specs.Ordering.{is_lt}

below : (a b : ℕ) → a ≤ b → (a ≡ b) ⊎ (a < b)
below a b h = grind arith

key_is : {k l : List ℕ} {t u : ℕ} → (let i : Item = (k, t) in i) ≡ (l, u) → k ≡ l
key_is e = ap (λ (i : Item). i.0) e

task_is : {k l : List ℕ} {t u : ℕ} → (let i : Item = (k, t) in i) ≡ (l, u) → t ≡ u
task_is e = ap (λ (i : Item). i.1) e

-- ---- the owners

-- An upload to another key changes no owner.
other_owner : (items : List Item) (q k : List ℕ) (x : ℕ) (o : Option ℕ) → (q ≡ k → ⊥) → IsOwner items k o
    → IsOwner (items ++ (q, x) ∷ []) k o
other_owner items q k x None ne h = λ v i. elim (in_push (k, v) items (q, x) i) [ inl j ↦ h v j | inr e ↦ ne (key_is e) ]
other_owner items q k x (Some t) ne h = (
  in_left (k, t) items ((q, x) ∷ []) h.0,
  λ v i. elim (in_push (k, v) items (q, x) i)
      [ inl j ↦ h.1 v j | inr e ↦ absurd (ne (key_is e)) ],
)

-- The first upload to a key.
first_owner : (items : List Item) (q : List ℕ) (x : ℕ) → IsOwner items q None → IsOwner (items ++ (q, x) ∷ []) q (Some x)
first_owner items q x h = (
  in_last items (q, x),
  λ v i. elim (in_push (q, v) items (q, x) i)
      [ inl j ↦ absurd (h v j) | inr e ↦ let f : x ≡ v = task_is e in omega arith ],
)

-- A later upload to a key.
later_owner : (items : List Item) (q : List ℕ) (x f : ℕ) → f ≤ x → IsOwner items q (Some f) → IsOwner (items ++ (q, x) ∷ []) q (Some f)
later_owner items q x f le h = (
  in_left (q, f) items ((q, x) ∷ []) h.0,
  λ v i. elim (in_push (q, v) items (q, x) i)
      [ inl j ↦ h.1 v j | inr e ↦ let g : x ≡ v = task_is e in omega arith ],
)

-- ---- the key found so far

-- The first upload to a key.
best_new : (items : List Item) (q : List ℕ) (x : ℕ) (best : Option Clash) → IsOwner items q None → IsBest items best
    → IsBest (items ++ (q, x) ∷ []) best
best_new items q x best h g = grind (arith, in_push, key_is, task_is, in_left)

-- The same upload once more.
again_in : (items : List Item) (i j : Item) → In j items → In i (items ++ j ∷ []) → In i items
again_in items i j h m = elim (in_push i items j m) [ inl a ↦ a | inr e ↦ let P : Item → Type 0 = λ l. In l items in subst P e h ]

best_same : (items : List Item) (q : List ℕ) (x : ℕ) (best : Option Clash) → In (q, x) items → IsBest items best
    → IsBest (items ++ (q, x) ∷ []) best
best_same items q x None at h = λ k v y less i j. h k v y less (again_in items (k, v) (q, x) at i) (again_in items (k, y) (q, x) at j)
best_same items q x (Some c) at h = record {
  order = h.order;
  first = in_left (c.key, c.first) items ((q, x) ∷ []) h.first;
  second = in_left (c.key, c.second) items ((q, x) ∷ []) h.second;
  least_tasks = λ v less i. h.least_tasks v less (again_in items (c.key, v) (q, x) at i);
  least_key = λ k v y less i j. h.least_key k v y less (again_in items (k, v) (q, x) at i) (again_in items (k, y) (q, x) at j);
}

-- A key that is no better than the one found so far.
best_kept : (items : List Item) (q : List ℕ) (x : ℕ) (c : Clash) → ((k : List ℕ) (v : ℕ) → In (k, v) items → v ≤ x)
    → is_lt (text_cmp q c.key) ≡ false → IsBest items (Some c) → IsBest (items ++ (q, x) ∷ []) (Some c)
best_kept items q x c h g e = grind (arith, in_left, in_push, task_is, key_is)

-- A key that two tasks write among these items is not below a better key.
old_later : (items : List Item) (q k : List ℕ) (v y : ℕ) (best : Option Clash) → is_better q best ≡ true → IsBest items best → v < y
    → In (k, v) items → In (k, y) items → is_lt (text_cmp k q) ≡ false
old_later items q k v y None better h less a b = absurd (h k v y less a b)
old_later items q k v y (Some c) better h less a b = contrary (is_lt (text_cmp k q))
    (λ e. sym (h.least_key k v y less a b) ∙ lt_trans text_total k q c.key e better)

no_older : (items : List Item) (q : List ℕ) (f v : ℕ) (best : Option Clash) → is_better q best ≡ true → IsBest items best → f < v
    → In (q, f) items → In (q, v) items → ⊥
no_older items q f v best h g e p r = grind arith

-- A better key.
best_better : (items : List Item) (q : List ℕ) (x f : ℕ) (best : Option Clash) → ((k : List ℕ) (v : ℕ) → In (k, v) items → v ≤ x)
    → (f ≡ x → ⊥) → IsOwner items q (Some f) → is_better q best ≡ true → IsBest items best
    → IsBest (items ++ (q, x) ∷ []) (Some (record { key = q; first = f; second = x }))
best_better items q x f best most ne owner better h =
    let le : f ≤ x = most q f owner.0 in
    let less_x : f < x = elim (below f x le) [ inl e ↦ absurd (ne e) | inr l ↦ l ] in
    record {
      order = less_x;
      first = in_left (q, f) items ((q, x) ∷ []) owner.0;
      second = in_last items (q, x);
      least_tasks = λ v less i. elim (in_push (q, v) items (q, x) i) [
        | inl j ↦ elim (below f v (owner.1 v j)) [ inl e ↦ sym e | inr l ↦ absurd (no_older items q f v best better h l owner.0 j) ]
        | inr e ↦ let g : x ≡ v = task_is e in absurd (omega arith)
      ];
      least_key = λ k v y less i j.
          let P : List ℕ → Type 0 = λ l. is_lt (text_cmp l q) ≡ false in
          elim (in_push (k, v) items (q, x) i) [
            | inl a ↦ elim (in_push (k, y) items (q, x) j) [
              | inl b ↦ old_later items q k v y best better h less a b
              | inr e ↦ subst P
                  (key_is e) (irrefl text_total q)
            ]
            | inr e ↦ subst P (key_is e) (irrefl text_total q)
          ];
    }

-- ---- one more upload

abbrev AtMost : List Item → ℕ → Type 0
AtMost items x = (k : List ℕ) (v : ℕ) → In (k, v) items → v ≤ x

-- One more upload, to a new key.
pub finds_new : (items : List Item) (q : List ℕ) (x : ℕ) (owner owner' : List ℕ → Option ℕ) (best : Option Clash) → owner q ≡ None
    → owner' q ≡ Some x → ((k : List ℕ) → (q ≡ k → ⊥) → owner' k ≡ owner k)
    → Finds items owner best → Finds (items ++ (q, x) ∷ []) owner' best
finds_new items q x owner owner' best none some others f =
    let N : Option ℕ → Type 0 = λ o. IsOwner items q o in
    let n = subst N none (f.owners q) in
    record {
      owners = λ k. elim (same_or_other q k) [
        | inl e ↦ let P : List ℕ → Type 0 = λ l. IsOwner (items ++ (q, x) ∷ []) l (owner' l) in let S : Option ℕ
            → Type 0 = λ o. IsOwner (items ++ (q, x) ∷ []) q o in subst P e (subst S (sym some) (first_owner items q x n))
        | inr ne ↦ let S : Option ℕ → Type 0 = λ o. IsOwner (items ++ (q, x) ∷ []) k o in subst S (sym (others k ne))
            (other_owner items q k x (owner k) ne (f.owners k))
      ];
      best = best_new items q x best n f.best;
    }

same_owners : (items : List Item) (q : List ℕ) (x f : ℕ) (owner : List ℕ → Option ℕ) → owner q ≡ Some f → f ≤ x
    → ((k : List ℕ) → IsOwner items k (owner k)) → (k : List ℕ) → IsOwner (items ++ (q, x) ∷ []) k (owner k)
same_owners items q x f owner some le h k = elim (same_or_other q k) [
  | inl e ↦
      let P : List ℕ → Type 0 = λ l. IsOwner (items ++ (q, x) ∷ []) l (owner l) in
      let S : Option ℕ → Type 0 = λ o. IsOwner (items ++ (q, x) ∷ []) q o in
      let N : Option ℕ → Type 0 = λ o. IsOwner items q o in
      subst P e (subst S (sym some) (later_owner items q x f le (subst N some (h q))))
  | inr ne ↦ other_owner items q k x (owner k) ne (h k)
]

owner_in : (items : List Item) (q : List ℕ) (f : ℕ) (owner : List ℕ → Option ℕ) → owner q ≡ Some f
    → ((k : List ℕ) → IsOwner items k (owner k)) → IsOwner items q (Some f)
owner_in items q f owner some h = let N : Option ℕ → Type 0 = λ o. IsOwner items q o in subst N some (h q)

-- One more upload, to a key that is no better.
pub finds_kept : (items : List Item) (q : List ℕ) (x f : ℕ) (owner : List ℕ → Option ℕ) (best : Option Clash) → owner q ≡ Some f
    → AtMost items x → is_better q best ≡ false → Finds items owner best → Finds (items ++ (q, x) ∷ []) owner best
finds_kept items q x f owner None some most not s = absurd (false_true not refl)
finds_kept items q x f owner (Some c) some most not s = record {
  owners = same_owners items q x f owner some
      (most q f (owner_in items q f owner some s.owners).0) s.owners;
  best = best_kept items q x c most not s.best;
}

-- One more upload, to a better key that another task writes.
pub finds_better : (items : List Item) (q : List ℕ) (x f : ℕ) (owner : List ℕ → Option ℕ) (best : Option Clash) → owner q ≡ Some f
    → AtMost items x → (f ≡ x → ⊥) → is_better q best ≡ true → Finds items owner best
    → Finds (items ++ (q, x) ∷ []) owner (Some (record { key = q; first = f; second = x }))
finds_better items q x f owner best some most ne better s =
    let o = owner_in items q f owner some s.owners in
    record {
      owners = same_owners items q x f owner some (most q f o.0) s.owners;
      best = best_better items q x f best most ne o better
          s.best;
    }

-- ---- the results of calls

finds_by : (items : List Item) (q : List ℕ) (x f : ℕ) (owner : List ℕ → Option ℕ) (best : Option Clash) (b c : Bool) → nat_eq f x ≡ b
    → is_better q best ≡ c → owner q ≡ Some f → AtMost items x → Finds items owner best
    → Finds (items ++ (q, x) ∷ []) owner (cond (b || not c) best (Some (record { key = q; first = f; second = x })))
finds_by items q x f owner best true c e g some most s =
    record {
      owners = same_owners items q x x owner (some ∙ ap Some (eq_nat f x e)) (omega arith) s.owners;
      best = best_same items q x best
          (owner_in items q x owner (some ∙ ap Some (eq_nat f x e)) s.owners).0 s.best;
    }
finds_by items q x f owner best false false e g some most s = finds_kept items q x f owner best some most g s
finds_by items q x f owner best false true e g some most s = finds_better items q x f owner best some most
    (λ i. false_true e (nat_true f x i)) g s

-- The owner of the key stays the same, or becomes this task.
owner_stays : {S : Type 0} (q : List ℕ) (x : ℕ) (o : Option ℕ) (m n : HashMap (List ℕ) ℕ S) → get text_eq m q ≡ o
    → Updates text_eq m n q (Some (unwrap_or o x)) → get text_eq n q ≡ Some (unwrap_or o x)
owner_stays q x o m n e up = up.0 q ∙ ap (λ b. cond b (Some (unwrap_or o x)) (get text_eq m q)) (text_true q q refl)

-- The owners of other keys stay the same.
others_stay : {S : Type 0} (q k : List ℕ) (w : Option ℕ) (m n : HashMap (List ℕ) ℕ S) → Updates text_eq m n q w → (q ≡ k → ⊥)
    → get text_eq n k ≡ get text_eq m k
others_stay q k w m n up ne = up.0 k ∙ ap (λ b. cond b w (get text_eq m k)) (text_false q k ne)

-- Owners that are the same at each key.
same_finds : (items : List Item) (owner owner' : List ℕ → Option ℕ) (best : Option Clash) → ((k : List ℕ) → owner' k ≡ owner k)
    → Finds items owner best → Finds items owner' best
same_finds items owner owner' best same f = record {
  owners = λ k. let S : Option ℕ → Type 0 = λ o. IsOwner items k o in subst S
      (sym (same k)) (f.owners k);
  best = f.best;
}

finds_at : {S : Type 0} (items : List Item) (q : List ℕ) (x : ℕ) (o : Option ℕ) (m n : HashMap (List ℕ) ℕ S) (best : Option Clash)
    → get text_eq m q ≡ o → Updates text_eq m n q (Some (unwrap_or o x)) → AtMost items x → Finds items (get text_eq m) best
    → Finds (items ++ (q, x) ∷ []) (get text_eq n) (clash_of q (unwrap_or o x) x best)
finds_at items q x None m n best e up most s =
    let B : Bool → Type 0 = λ b. Finds (items ++ (q, x) ∷ []) (get text_eq n)
    (cond (b || not (is_better q best)) best (Some (record { key = q; first = x; second = x }))) in
    subst B (sym (nat_true x x refl)) (finds_new items q x (get text_eq m) (get text_eq n) best e (owner_stays q x None m n e up)
    (λ k ne. others_stay q k (Some x) m n up ne) s)
finds_at items q x (Some f) m n best e up most s =
    same_finds (items ++ (q, x) ∷ []) (get text_eq m) (get text_eq n) (clash_of q f x best)
    (λ k. elim (same_or_other q k) [
      | inl is ↦ let P : List ℕ → Type 0 = λ l. get text_eq n l ≡ get text_eq m l in subst P is (owner_stays q x (Some f) m n e up ∙ sym e)
      | inr ne ↦ others_stay q k (Some f) m n up ne
    ])
    (finds_by items q x f (get text_eq m) best (nat_eq f x) (is_better q best) refl refl e most s)

-- One more upload; this task or an earlier one is the owner of its key.
pub finds_one : {S : Type 0} (items : List Item) (q : List ℕ) (x first : ℕ) (m n : HashMap (List ℕ) ℕ S) (best best' : Option Clash)
    → first ≡ unwrap_or (get text_eq m q) x → Updates text_eq m n q (Some (unwrap_or (get text_eq m q) x)) → best' ≡ clash_of q first x best
    → AtMost items x → Finds items (get text_eq m) best → Finds (items ++ (q, x) ∷ []) (get text_eq n) best'
finds_one items q x first m n best best' h g e f p = grind (arith, finds_at)

-- ---- all uploads of a task

most_of : (items : List Item) (t : ℕ) (cs : List Pending) → AtMost items t → AtMost (items ++ map (λ c. (c.destination, t)) cs) t
most_of items t cs most k v i = elim (in_append (let x : Item = (k, v) in x) items (map (λ c. (c.destination, t)) cs) i) [
  | inl a ↦ most k v a
  | inr b ↦ let r = in_map {X = Pending} {Y = Item} (λ c. (c.destination, t)) cs (k, v) b in let e : t ≡ v = ap (λ (x : Item). x.1) r.2 in
      omega arith
]

pub adds_one : (items : List Item) (cs : List Pending) (i j t : ℕ) (c : Pending) (k : List ℕ) (owner owner' : List ℕ → Option ℕ)
    (best best' : Option Clash) → i < length cs → j ≡ suc i → c ≡ get_or cs i c → k ≡ c.destination
    → ((all : List Item) → AtMost all t → Finds all owner best → Finds (all ++ (k, t) ∷ []) owner' best') → AtMost items t
    → Finds (items ++ map (λ c. (c.destination, t)) (take i cs)) owner best
    → Finds (items ++ map (λ c. (c.destination, t)) (take j cs)) owner' best'
adds_one items cs i j t c k owner owner' best best' h s at key step most f =
    let F : List Item → Type 0 = λ v. Finds v owner' best' in
    let g : Pending → Item = λ c. (c.destination, t) in
    let K : List ℕ → Type 0 = λ v. Finds ((items ++ map g (take i cs)) ++ (v, t) ∷ []) owner' best' in
    let N : ℕ → Type 0 = λ n. Finds (items ++ map g (take n cs)) owner' best' in
    let whole : (items ++ map g (take i cs)) ++ g c ∷ [] ≡ items ++ map g (take (suc i) cs) = append_assoc items (map g (take i cs))
    (g c ∷ []) ∙ ap (λ v. items ++ v) (sym (ap (map g) (take_next cs i c h at) ∙ map-append g (take i cs) (c ∷ []))) in
    subst N (sym s) (subst F whole (subst K key (step (items ++ map g (take i cs)) (most_of items t (take i cs) most) f)))

-- ---- all sets

items_more : (t : ℕ) (ss : List PendingSet) (s : PendingSet)
    → items_from t (ss ++ s ∷ []) ≡ items_from t ss ++ map (λ c. (c.destination, t + length ss)) s.commits
items_more t [] s =
    let z : t ≡ t + 0 = omega arith in append-nil (map (λ c. (c.destination, t)) s.commits) ∙ ap
    (λ n. map (λ (c : Pending). let i : Item = (c.destination, n) in i) s.commits) z
items_more t (x ∷ xs) s =
    let z : t + 1 + length xs ≡ t + suc (length xs) = omega arith in
    ap (λ v. map (λ c. (c.destination, t)) x.commits ++ v) (items_more (t + 1) xs s ∙ ap
    (λ n. items_from (t + 1) xs ++ map (λ (c : Pending). let i : Item = (c.destination, n) in i) s.commits) z)
    ∙ sym (append_assoc (map (λ c. (c.destination, t)) x.commits) (items_from (t + 1) xs)
    (map (λ c. (c.destination, t + suc (length xs))) s.commits))

items_below : (ss : List PendingSet) (n : ℕ) → length ss ≡ n → AtMost (items_from 0 ss) n
items_below ss n e k v i =
    let r = item_at 0 ss k v i in
    let same : v ≡ 0 + r.0 = r.3 in
    let low : r.0 < length ss = slice_get_within ss r.0 r.1 r.4 in
    omega arith

pub adds_set : (ss : List PendingSet) (i j : ℕ) (s : PendingSet) (cs : List Pending) (owner owner' : List ℕ → Option ℕ)
    (best best' : Option Clash) → i < length ss → j ≡ suc i → s ≡ get_or ss i s → cs ≡ s.commits
    → ((all : List Item) → AtMost all i → Finds all owner best → Finds (all ++ map (λ c. (c.destination, i)) cs) owner' best')
    → Finds (items_from 0 (take i ss)) owner best → Finds (items_from 0 (take j ss)) owner' best'
adds_set ss i j s cs owner owner' best best' h g at e step f =
    let N : ℕ → Type 0 = λ n. Finds (items_from 0 (take n ss)) owner' best' in
    let F : List Item → Type 0 = λ v. Finds v owner' best' in
    let C : List Pending → Type 0 = λ v. Finds (items_from 0 (take i ss) ++ map (λ c. (c.destination, i)) v) owner' best' in
    let len : length (take i ss) ≡ i = length-take-le i ss (omega arith) in
    let z : i ≡ 0 + length (take i ss) = omega arith in
    let T : ℕ → Type 0 = λ n. Finds (items_from 0 (take i ss) ++ map (λ c. (c.destination, n)) s.commits) owner' best' in
    let whole : items_from 0 (take i ss) ++ map (λ c. (c.destination, 0 + length (take i ss))) s.commits ≡ items_from 0 (take (suc i) ss) =
    sym (ap (items_from 0) (take_next ss i s h at) ∙ items_more 0 (take i ss) s) in
    subst N (sym g) (subst F whole (subst T z (subst C e (step (items_from 0 (take i ss)) (items_below (take i ss) i len) f))))
