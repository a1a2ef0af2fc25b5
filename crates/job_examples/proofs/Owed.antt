-- What must hold after each entry of a run over a store as lists, as tests that compute.
use Rattle.text_and_lists.proofs.Bools.{not_so}
use Rattle.text_and_lists.proofs.Members.{some_is, text_exact, text_is, true_or_false}
use Rattle.text_and_lists.proofs.Tree.{tied}
use Rattle.text_and_lists.specs.Order.{text_cmp, text_eq, text_ties, text_total}
use Rattle.job_examples.proofs.Books.{Book, content_of, is_ours}
use Rattle.job_examples.proofs.Checks.{Listed, dest, files_are, implied, objects_at, same_files, views, visible, without_files}
use Rattle.job_examples.proofs.Sights.{Saw, opens, opens_is, saw, seen_of, sees_by}
use Rattle.job_model.specs.JobScript.{Script}
use Rattle.job_protocol.specs.Conflicts.{keeps_of}
use Rattle.job_protocol.specs.Outputs.{Picks, is_clash, is_decided, is_picked, wanted, wanted_at}
use Rattle.job_protocol.specs.Records.{mark_text}
use Rattle.job_protocol.specs.Seen.{Times, see_all}
use Rattle.job_protocol.specs.View.{Same, object_at, view}
use Rattle.job_spec.specs.Headline.{Always, Kept, done, or_else}
use Rattle.magic_paths.specs.Layout.{success_key}
use Rattle.s3_types.specs.declared.journal.Entry.{Entry}
use Rattle.s3_types.specs.declared.object.Object.{Object}
use Rattle.std.proofs.Common.{Bool, List, None, Option, Some, ap, arith, codes, cond, false, inl, inr, is_some, length, not, refl, subst}
use Rattle.std.proofs.Common.{suc, sym, take, true, zero, ℕ, [], ◌&&◌, ◌++◌, ◌||◌, ◌∙◌, ◌∷◌, ◌≡◌, ◌≤◌, ◌⊎◌}
use Rattle.std.proofs.lemmas.Bool.{and_parts, false≢true, or_cases}
use Rattle.std.specs.FinMap.Entries.{find, find-put, find-where_key, put, where_key}
use Rattle.std.specs.List.{list_all}
use Rattle.std.specs.Map.{lookup}
use Rattle.std.specs.Ordering.{eq_by_cmp}

-- ---- tests of lists

abbrev pub is_at : Option (List ℕ) → List ℕ → Bool
is_at None b = false
is_at (Some c) b = text_eq c b

pub at_is : (o : Option (List ℕ)) (b : List ℕ) → is_at o b ≡ true → o ≡ Some b
at_is None b h = absurd (false≢true h)
at_is (Some c) b h = ap Some (text_is c b h)

pub found_in : (test : List ℕ × List ℕ → Bool) (fs : Listed) → list_all test fs ≡ true → (p b : List ℕ) → find text_cmp p fs ≡ Some b
    → test (p, b) ≡ true
found_in test [] h p b e = absurd (cc)
found_in test (f ∷ fs) h p b e =
    let a = and_parts (test f) _ h in
    elim (true_or_false (eq_by_cmp text_cmp p f.0)) [
      | inl k ↦ subst (λ (x : List ℕ × List ℕ). test x ≡ true) (λ i.
          (sym (text_exact p f.0 (tied _ k)) i, some_is (sym (ap (λ c. cond c (Some f.1) (find text_cmp p fs)) k) ∙ e) i)) a.0
      | inr k ↦ found_in test fs a.1 p b (sym (ap (λ c. cond c (Some f.1) (find text_cmp p fs)) k) ∙ e)
    ]

-- The entries, put one after another.
abbrev pub sorted : Listed → Listed
sorted [] = []
sorted (e ∷ es) = put text_cmp e.0 e.1 (sorted es)

find_sorted : (es : Listed) (q : List ℕ) → find text_cmp q (sorted es) ≡ find text_cmp q es
find_sorted [] q = refl
find_sorted (e ∷ es) q = find-put text_cmp text_total q e.0 e.1 (sorted es) ∙ ap (cond (eq_by_cmp text_cmp q e.0) (Some e.1))
    (find_sorted es q)

find_behind : (xs ys : Listed) (p : List ℕ) → or_else (lookup (text_eq p) xs) (find text_cmp p ys) ≡ find text_cmp p (xs ++ ys)
find_behind [] ys p = refl
find_behind (x ∷ xs) ys p = ap (λ c. or_else (cond c (Some x.1) (lookup (text_eq p) xs)) (find text_cmp p ys)) (text_ties p x.0)
    ∙ elim (eq_by_cmp text_cmp p x.0) as (λ c. or_else (cond c (Some x.1) (lookup (text_eq p) xs)) (find text_cmp p ys) ≡ cond c (Some x.1)
    (find text_cmp p (xs ++ ys))) [ true ↦ refl | false ↦ find_behind xs ys p ]

-- ---- what must hold after an entry, over the files of the opening

abbrev pub is_allowed : Script → Picks → Listed → List ℕ × List ℕ → Bool
is_allowed w picks os f = is_at (find text_cmp f.0 os) f.1 || is_at (wanted_at w picks f.0) f.1

abbrev pub is_kept : Script → Picks → Listed → List ℕ × List ℕ → Bool
is_kept w picks vs f = not (keeps_of w picks f.0) || (is_some (wanted_at w picks f.0) || is_at (find text_cmp f.0 vs) f.1)

-- The test of what readers see, by whether the commit has begun and its attempts are chosen.
abbrev pub is_viewed : Bool → Script → Listed → Picks → Listed → Bool
is_viewed false w os picks vs = same_files vs os
is_viewed true w os picks vs = list_all (is_allowed w picks os) vs && list_all (is_kept w picks vs) os

abbrev pub done_list : Script → Picks → Listed → Listed
done_list w picks os = sorted (wanted w picks ++ where_key text_cmp (keeps_of w picks) os)

abbrev pub says : Script → Picks → Option Object → Bool
says w picks None = true
says w picks (Some o) = text_eq o.bytes (mark_text w picks)

abbrev pub marker_in : Saw → Option Object
marker_in x = find text_cmp (success_key (codes "out")) x.book.objects

-- True if the job is complete. The test applies only if `_SUCCESS` exists.
abbrev pub is_whole : Bool → Script → Listed → Saw → Bool
is_whole false w os x = true
is_whole true w os x = is_picked w x.picks && (not (is_clash w x.picks) && (same_files (visible x.book.objects) (done_list w x.picks os) &&
    says w x.picks (marker_in x)))

abbrev pub is_good : Script → Listed → Saw → Bool
is_good w os x = is_viewed (x.begun && is_decided w x.picks) w os x.picks (visible x.book.objects) && is_whole
    (x.put_mark && is_some (marker_in x)) w os x

says_is : (w : Script) (picks : Picks) (o : Option Object) (y : Object) → says w picks o ≡ true → o ≡ Some y → y.bytes ≡ mark_text w picks
says_is w picks None y h e = absurd (cc)
says_is w picks (Some z) y h e = ap (λ (v : Object). v.bytes) (sym (some_is e)) ∙ text_is z.bytes (mark_text w picks) h

module _ (w : Script) (to : w.dest ≡ dest) (b : Book) where
  shows : (c : Book) (p : List ℕ) → view w.dest (content_of c) p ≡ find text_cmp p (visible c.objects)
  shows c p = ap (λ d. view d (content_of c) p) to ∙ views c p

  stands : (c : Book) → object_at (content_of c) w.dest.bucket (success_key w.dest.key) ≡ find text_cmp (success_key (codes "out"))
      c.objects
  stands c = ap (λ d. object_at (content_of c) d.bucket (success_key d.key)) to ∙ objects_at c (success_key (codes "out"))

  abbrev os : Listed
  os = visible b.objects

  same : (x : Saw) → visible x.book.objects ≡ os → Same (view w.dest (content_of x.book)) (view w.dest (content_of b))
  same x e p = shows x.book p ∙ ap (λ l. find text_cmp p l) e ∙ sym (shows b p)

  allowed : (x : Saw) → list_all (is_allowed w x.picks os) (visible x.book.objects) ≡ true → (p bytes : List ℕ)
      → view w.dest (content_of x.book) p ≡ Some bytes → (view w.dest (content_of b) p ≡ Some bytes) ⊎ (wanted_at w x.picks p ≡ Some bytes)
  allowed x h p bytes e = elim (or_cases _ _ (found_in (is_allowed w x.picks os) (visible x.book.objects) h p bytes
      (sym (shows x.book p) ∙ e))) [
        | inl g ↦ inl (shows b p ∙ at_is (find text_cmp p os) bytes g)
        | inr g ↦ inr (at_is (wanted_at w x.picks p) bytes g)
      ]

  stays : (x : Saw) → list_all (is_kept w x.picks (visible x.book.objects)) os ≡ true → (p bytes : List ℕ)
      → view w.dest (content_of b) p ≡ Some bytes → keeps_of w x.picks p ≡ true → wanted_at w x.picks p ≡ None
      → view w.dest (content_of x.book) p ≡ Some bytes
  stays x h p bytes e k n = shows x.book p
      ∙ at_is _ bytes (subst (λ o. (is_some o || is_at (find text_cmp p (visible x.book.objects)) bytes) ≡ true) n
      (implied _ _ (found_in (is_kept w x.picks (visible x.book.objects)) os h p bytes (sym (shows b p) ∙ e)) k))

  done_is : (x : Saw) (p : List ℕ) → done w x.picks (view w.dest (content_of b)) p ≡ find text_cmp p (done_list w x.picks os)
  done_is x p =
      ap (λ o. or_else (wanted_at w x.picks p) (cond (keeps_of w x.picks p) o None)) (shows b p)
      ∙ ap (λ o. or_else (wanted_at w x.picks p) o) (sym
      (find-where_key text_cmp (keeps_of w x.picks) p (λ q t. ap (keeps_of w x.picks) (sym (text_exact p q t))) os))
      ∙ find_behind (wanted w x.picks) (where_key text_cmp (keeps_of w x.picks) os) p
      ∙ sym (find_sorted (wanted w x.picks ++ where_key text_cmp (keeps_of w x.picks) os) p)

  kept : (x : Saw) → is_good w os x ≡ true → Kept w (content_of b) (seen_of x)
  kept x h =
      let vs = visible x.book.objects in
      let g = and_parts (is_viewed (x.begun && is_decided w x.picks) w os x.picks vs) _ h in
      let by = λ (c : Bool) (e : (x.begun && is_decided w x.picks) ≡ c). subst (λ d. is_viewed d w os x.picks vs ≡ true) e g.0 in
      record {
        before = λ u. same x (files_are vs os (by false (λ i. u i && is_decided w x.picks)));
        between = λ u.
            let both = λ (d : is_decided w x.picks ≡ true). and_parts (list_all (is_allowed w x.picks os) vs) _ (by true (λ i. u i && d i))
            in
            record {
              untouched = λ d. same x (files_are vs os (by false (λ i. u i && d i)));
              only = λ d. allowed x (both d).0;
              kept = λ d.
                  stays x (both d).1;
            };
        whole = λ u.
            let m = and_parts (is_picked w x.picks) _ (subst (λ c. is_whole c w os x ≡ true)
            (sym (ap (λ o. x.put_mark && is_some o) (stands x.book)) ∙ u) g.1) in
            let n = and_parts (not (is_clash w x.picks)) _ m.1 in
            let r = and_parts (same_files vs (done_list w x.picks os)) _ n.1 in
            record {
              picked = m.0;
              apart = not_so _ n.0;
              files = λ p. shows x.book p ∙ ap (λ l. find text_cmp p l) (files_are _ _ r.0) ∙ sym
                  (done_is x p);
              mark = λ o e. says_is w x.picks (marker_in x) o r.1 (sym (stands x.book) ∙ e);
            };
      }

-- ---- after all entries

abbrev pub all_good : Script → Times → Listed → Saw → List Entry → Bool
all_good w k os x [] = is_good w os x
all_good w k os x (e ∷ es) = is_good w os x && (is_ours e.request && all_good w k os (saw w k x e) es)

kept_from : (w : Script) (to : w.dest ≡ dest) (k : Times) (b : Book) (x : Saw) (es : List Entry)
    → all_good w k (visible b.objects) x es ≡ true → (m : ℕ) → m ≤ length es → Kept w (content_of b) (see_all w k (seen_of x) (take m es))
kept_from w to k b x [] h zero l = kept w to b x h
kept_from w to k b x [] h (suc m) l = absurd (omega arith)
kept_from w to k b x (e ∷ es) h zero l = kept w to b x (and_parts (is_good w (visible b.objects) x) _ h).0
kept_from w to k b x (e ∷ es) h (suc m) l =
    let p = and_parts (is_good w (visible b.objects) x) _ h in
    let q = and_parts (is_ours e.request) _ p.1 in
    let rest : Kept w (content_of b) (see_all w k (seen_of (saw w k x e)) (take m es)) = kept_from w to k b (saw w k x e) es q.1 m
    (omega arith) in
    subst (λ s. Kept w (content_of b) (see_all w k s (take m es))) (sym (sees_by w k x e q.0)) rest

pub always : (w : Script) (to : w.dest ≡ dest) (k : Times) (b : Book) (es : List Entry)
    → all_good w k (visible b.objects) (opens (without_files b)) es ≡ true → Always w k (content_of (without_files b)) es
always w to k b es h m l = subst (λ s. Kept w (content_of (without_files b)) (see_all w k s (take m es))) (sym (opens_is b))
    (kept_from w to k (without_files b) (opens (without_files b)) es h m l)
