-- The index agrees with the uploads.
use Rattle.text_and_lists.proofs.Tree.{entries_empty, tied}
use Rattle.text_and_lists.specs.Order.{text_cmp, text_total}
use Rattle.multipart.specs.inner.Index.{keyed, keyed_of}
use Rattle.multipart.specs.inner.Listing.{AreOwn}
use Rattle.s3_types.specs.Multipart.{ref_cmp, ref_of, refs, with_part}
use Rattle.s3_types.specs.Store.{Upload, Uploads}
use Rattle.s3_types.specs.declared.request.UploadRef.{UploadRef}
use Rattle.std.proofs.Common.{Bool, List, None, Option, Some, T, ap, arith, cond, false, map, refl, subst, sym, true, ℕ, [], ◌&&◌, ◌∙◌, ◌∷◌}
use Rattle.std.proofs.Common.{◌≡◌}
use Rattle.std.proofs.Math.Bool.{and-false, and-true}
use Rattle.std.proofs.lemmas.Cmp.{on_total, then_total}
use Rattle.std.proofs.lemmas.Map.Lookups.{CmpEqualImpliesEq, exact_bytes, exact_pairs, exact_unsigned}
use Rattle.std.specs.Cmp.{IsTotalOrder, nat_cmp_total}
use Rattle.std.specs.FinMap.{FinMap, empty, entries, entries-insert, entries_sorted, from_entries, get, get-entries, get-from_entries}
use Rattle.std.specs.FinMap.{get-insert, get-remove, insert, remove, same_map}
use Rattle.std.specs.FinMap.Entries.{find, is_sorted}
use Rattle.std.specs.Map.{keys_of}
use Rattle.std.specs.Option.{IsSomeAnd}
use Rattle.std.specs.Ordering.{eq_by_cmp, is_eq, is_lt, nat_cmp, ordering_then}
use Rattle.std.specs.Prelude.{Err, Ok, OnErr, OnOk, Result}
use Rattle.std.specs.declared.alloc.AllocError.{AllocError}
use Rattle.std.specs.declared.cmp.Ordering.{Ordering}
use Rattle.std.specs.declared.cmp.Ordering.TheVariants.{Equal, Greater, Less}
use Rattle.std.specs.FinMap.Entries as list

pub refs_total : IsTotalOrder ref_cmp
refs_total = then_total (on_total (λ r. r.key) text_total) (on_total (λ r. r.upload) nat_cmp_total)

pub exact_refs : CmpEqualImpliesEq ref_cmp
exact_refs a b h = ap (λ (p : List ℕ × ℕ). record { key = p.0; upload = p.1 })
    (exact_pairs text_cmp nat_cmp exact_bytes exact_unsigned (a.key, a.upload) (b.key, b.upload) h)

both_tied : (r s : Ordering) → is_eq (ordering_then r s) ≡ (is_eq r && is_eq s)
both_tied r s = grind arith

-- If the ids are equal, two places are equal exactly if their keys are.
ties : (r : UploadRef) (i : ℕ) (u : Upload) → is_eq (nat_cmp r.upload i) ≡ true
    → is_eq (ref_cmp r (record { key = u.key; upload = i })) ≡ is_eq (text_cmp r.key u.key)
ties r i u t = both_tied (text_cmp r.key u.key) (nat_cmp r.upload i) ∙ ap (λ b. is_eq (text_cmp r.key u.key) && b) t ∙ and-true _

parts : (r : UploadRef) (i : ℕ) (u : Upload) → is_eq (nat_cmp r.upload i) ≡ false
    → is_eq (ref_cmp r (record { key = u.key; upload = i })) ≡ false
parts r i u t = both_tied (text_cmp r.key u.key) (nat_cmp r.upload i) ∙ ap (λ b. is_eq (text_cmp r.key u.key) && b) t ∙ and-false _

-- The key of an upload, if it is the one at this place.
abbrev mark : UploadRef → Option Upload → Option (List ℕ)
mark r None = None
mark r (Some u) = cond (is_eq (text_cmp r.key u.key)) (Some u.key) None

not_later : (i : ℕ) (x : ℕ) (es : List (ℕ × Upload)) → i ≡ x → T (list.below_all nat_cmp x es) → find nat_cmp i es ≡ None
not_later i x [] e h = refl
not_later i x (f ∷ es) e h = by (not_later i x es e) (is_lt (nat_cmp x f.0)) refl h
  where
    not_tied : (r : Ordering) → is_lt r ≡ true → is_eq r ≡ false
    not_tied r h = grind arith

    by : (T (list.below_all nat_cmp x es) → find nat_cmp i es ≡ None) → (b : Bool) → is_lt (nat_cmp x f.0) ≡ b
        → T (b && list.below_all nat_cmp x es) → find nat_cmp i (f ∷ es) ≡ None
    by ih true t h =
        ap (λ b. cond b (Some f.1) (find nat_cmp i es)) (ap (λ i. eq_by_cmp nat_cmp i f.0) e ∙ not_tied _ t) ∙ ih h
    by ih false t h = absurd h

found : (es : List (ℕ × Upload)) → T (is_sorted nat_cmp es) → (r : UploadRef)
    → find ref_cmp r (map keyed_of es) ≡ mark r (find nat_cmp r.upload es)
found [] s r = refl
found (e ∷ es) s r = by (is_eq (nat_cmp r.upload e.0)) refl (list.below_all nat_cmp e.0 es) refl s (found es)
  where
    by : (b : Bool) → is_eq (nat_cmp r.upload e.0) ≡ b → (c : Bool) → list.below_all nat_cmp e.0 es ≡ c → T (c && is_sorted nat_cmp es)
        → (T (is_sorted nat_cmp es) → (r : UploadRef) → find ref_cmp r (map keyed_of es) ≡ mark r (find nat_cmp r.upload es))
        → find ref_cmp r (map keyed_of (e ∷ es)) ≡ mark r (find nat_cmp r.upload (e ∷ es))
    by b h c g e f = grind (arith, parts, ties, not_later, exact_unsigned, tied)

get_keyed : (m : Uploads) (r : UploadRef) → get (keyed m) r ≡ mark r (get m r.upload)
get_keyed m r = get-from_entries refs_total (map keyed_of (entries m)) r ∙ found (entries m) (entries_sorted m) r ∙ ap (mark r)
    (sym (get-entries m r.upload))

pub keyed_empty : empty ≡ keyed empty
keyed_empty = ap (λ es. from_entries (map keyed_of es)) (sym (entries_empty nat_cmp))

same : (m n : FinMap ref_cmp (List ℕ)) → ((r : UploadRef) → get m r ≡ get n r) → m ≡ n
same m n h = same_map refs_total exact_refs m n h

-- A new upload adds its place to the index.
pub keyed_insert : (m : Uploads) (i : ℕ) (u : Upload) → get m i ≡ None
    → keyed (insert m i u) ≡ insert (keyed m) (record { key = u.key; upload = i }) u.key
keyed_insert m i u h = same _ _ (λ r.
    get_keyed (insert m i u) r ∙ ap (mark r) (get-insert nat_cmp_total m i u r.upload)
    ∙ by r (is_eq (nat_cmp r.upload i)) refl
    ∙ sym (get-insert refs_total (keyed m) (record { key = u.key; upload = i }) u.key r ∙ ap
    (cond (eq_by_cmp ref_cmp r (record { key = u.key; upload = i })) (Some u.key)) (get_keyed m r)))
  where
    by : (r : UploadRef) (b : Bool) → is_eq (nat_cmp r.upload i) ≡ b
        → mark r (cond (is_eq (nat_cmp r.upload i)) (Some u) (get m r.upload)) ≡ cond
        (is_eq (ref_cmp r (record { key = u.key; upload = i }))) (Some u.key) (mark r (get m r.upload))
    by r true t =
        ap (λ b. mark r (cond b (Some u) (get m r.upload))) t
        ∙ ap (cond (is_eq (text_cmp r.key u.key)) (Some u.key)) (sym (ap (mark r) (ap (get m) (exact_unsigned _ _ (tied _ t)) ∙ h)))
        ∙ sym (ap (λ b. cond b (Some u.key) (mark r (get m r.upload))) (ties r i u t))
    by r false t =
        ap (λ b. mark r (cond b (Some u) (get m r.upload))) t
        ∙ sym (ap (λ b. cond b (Some u.key) (mark r (get m r.upload))) (parts r i u t))

no_mark : (b : Bool) (o : Option (List ℕ)) → None ≡ cond b None (cond b o None)
no_mark b o = grind arith

-- The end of an upload removes its place from the index.
pub keyed_remove : (m : Uploads) (i : ℕ) (u : Upload) → get m i ≡ Some u
    → keyed (remove m i) ≡ remove (keyed m) (record { key = u.key; upload = i })
keyed_remove m i u h = same _ _ (λ r.
    get_keyed (remove m i) r ∙ ap (mark r) (get-remove nat_cmp_total m i r.upload)
    ∙ by r (is_eq (nat_cmp r.upload i)) refl
    ∙ sym (get-remove refs_total (keyed m) (record { key = u.key; upload = i }) r ∙ ap
    (cond (eq_by_cmp ref_cmp r (record { key = u.key; upload = i })) None) (get_keyed m r)))
  where
    by : (r : UploadRef) (b : Bool) → is_eq (nat_cmp r.upload i) ≡ b
        → mark r (cond (is_eq (nat_cmp r.upload i)) None (get m r.upload)) ≡ cond (is_eq (ref_cmp r (record { key = u.key; upload = i })))
        None (mark r (get m r.upload))
    by r true t =
        ap (λ b. mark r (cond b None (get m r.upload))) t
        ∙ no_mark (is_eq (text_cmp r.key u.key)) (Some u.key)
        ∙ ap (cond (is_eq (text_cmp r.key u.key)) None) (sym (ap (mark r) (ap (get m) (exact_unsigned _ _ (tied _ t)) ∙ h)))
        ∙ sym (ap (λ b. cond b None (mark r (get m r.upload))) (ties r i u t))
    by r false t =
        ap (λ b. mark r (cond b None (get m r.upload))) t
        ∙ sym (ap (λ b. cond b None (mark r (get m r.upload))) (parts r i u t))

-- An upload that keeps its key leaves the index as it is.
pub keyed_replace : (m : Uploads) (i : ℕ) (u w : Upload) → get m i ≡ Some u → w.key ≡ u.key → keyed (insert m i w) ≡ keyed m
keyed_replace m i u w h k = same _ _ (λ r. get_keyed (insert m i w) r ∙ ap (mark r) (get-insert nat_cmp_total m i w r.upload) ∙ by r
    (is_eq (nat_cmp r.upload i)) refl ∙ sym (get_keyed m r))
  where
    by : (r : UploadRef) (b : Bool) → is_eq (nat_cmp r.upload i) ≡ b
        → mark r (cond (is_eq (nat_cmp r.upload i)) (Some w) (get m r.upload)) ≡ mark r (get m r.upload)
    by r true t =
        ap (λ b. mark r (cond b (Some w) (get m r.upload))) t
        ∙ ap (λ k. cond (is_eq (text_cmp r.key k)) (Some k) None) k
        ∙ sym (ap (mark r) (ap (get m) (exact_unsigned _ _ (tied _ t)) ∙ h))
    by r false t = ap (λ b. mark r (cond b (Some w) (get m r.upload))) t

-- A part that is put in, or not, leaves the index as it is.
pub keyed_part : (r : Result (Unit {0}) AllocError) (m n : Uploads) (i x : ℕ) (b : List ℕ)
    → OnOk r (IsSomeAnd (get m i) (λ u. n ≡ insert m i (with_part u x b))) → OnErr r (n ≡ m) → keyed n ≡ keyed m
keyed_part (Err e) m n i x b ok err = ap keyed err
keyed_part (Ok _) m n i x b ok err = by (get m i) refl ok
  where
    by : (o : Option Upload) → get m i ≡ o → IsSomeAnd o (λ u. n ≡ insert m i (with_part u x b)) → keyed n ≡ keyed m
    by None e h = absurd h
    by (Some u) e h = ap keyed h ∙ keyed_replace m i u (with_part u x b) e refl

-- ---- the places of the index

-- The entries with the unit value in place of theirs.
abbrev bare : List (UploadRef × List ℕ) → List (UploadRef × Unit {0})
bare es = map (λ e. (e.0, tt)) es

bare_put : (r : UploadRef) (k : List ℕ) (es : List (UploadRef × List ℕ)) → list.put ref_cmp r tt (bare es) ≡ bare (list.put ref_cmp r k es)
bare_put r k [] = refl
bare_put r k (e ∷ es) = by (ref_cmp r e.0) (bare_put r k es)
  where
    by : (o : Ordering) → list.put ref_cmp r tt (bare es) ≡ bare (list.put ref_cmp r k es)
        → list.by_order o ((r, tt) ∷ bare (e ∷ es)) ((e.0, tt) ∷ bare es) ((e.0, tt) ∷ list.put ref_cmp r tt (bare es)) ≡ bare
        (list.by_order o ((r, k) ∷ e ∷ es) ((e.0, k) ∷ es) (e ∷ list.put ref_cmp r k es))
    by o h = grind arith

entries_bare : (es : List (ℕ × Upload)) → entries (from_entries {R = ref_cmp} (map ref_of es)) ≡ bare
    (entries (from_entries {R = ref_cmp} (map keyed_of es)))
entries_bare [] = entries_empty ref_cmp ∙ sym (ap bare (entries_empty ref_cmp))
entries_bare (e ∷ es) =
    entries-insert refs_total (from_entries (map ref_of es)) (ref_of e).0 tt
    ∙ ap (list.put ref_cmp (ref_of e).0 tt) (entries_bare es)
    ∙ bare_put (keyed_of e).0 e.1.key (entries (from_entries (map keyed_of es)))
    ∙ sym (ap bare (entries-insert refs_total (from_entries (map keyed_of es)) (keyed_of e).0 e.1.key))

keys_bare : (es : List (UploadRef × List ℕ)) → keys_of es ≡ map (λ e. e.0) (bare es)
keys_bare [] = refl
keys_bare (e ∷ es) = ap (λ l. e.0 ∷ l) (keys_bare es)

-- The index has the places of the listing.
pub keys_keyed : (m : Uploads) → keys_of (entries (keyed m)) ≡ map (λ e. e.0) (entries (refs m))
keys_keyed m = keys_bare (entries (keyed m)) ∙ ap (map (λ e. e.0)) (sym (entries_bare (entries m)))

put_own : (r : UploadRef) (es : List (UploadRef × List ℕ)) → AreOwn es → AreOwn (list.put ref_cmp r r.key es)
put_own r [] h = (refl, tt)
put_own r (e ∷ es) h = by (ref_cmp r e.0) refl (put_own r es h.1)
  where
    by : (o : Ordering) → ref_cmp r e.0 ≡ o → AreOwn (list.put ref_cmp r r.key es)
        → AreOwn (list.by_order o ((r, r.key) ∷ e ∷ es) ((e.0, r.key) ∷ es) (e ∷ list.put ref_cmp r r.key es))
    by Less t ih = (refl, h)
    by Equal t ih = (ap (λ (s : UploadRef). s.key) (exact_refs r e.0 t), h.1)
    by Greater t ih = (h.0, ih)

made_own : (es : List (ℕ × Upload)) → AreOwn (entries (from_entries {R = ref_cmp} (map keyed_of es)))
made_own [] = subst AreOwn (sym (entries_empty ref_cmp)) tt
made_own (e ∷ es) = subst AreOwn (sym (entries-insert refs_total (from_entries (map keyed_of es)) (keyed_of e).0 e.1.key))
    (put_own (keyed_of e).0 (entries (from_entries (map keyed_of es))) (made_own es))

-- Each place of the index is stored with its own key.
pub keyed_own : (m : Uploads) → AreOwn (entries (keyed m))
keyed_own m = made_own (entries m)
