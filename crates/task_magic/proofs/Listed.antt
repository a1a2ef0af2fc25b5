-- The files whose records are among the keys of a listing.
use Rattle.text_and_lists.proofs.Members.{nat_true, text_false}
use Rattle.text_and_lists.proofs.Naturals.{below_so, suc_not, suc_same, zero_not}
use Rattle.text_and_lists.specs.Order.{text_eq}
use Rattle.job_model.specs.Files.{File}
use Rattle.job_model.specs.Jobs.{Task}
use Rattle.job_protocol.specs.AtWork.{task_script, who_of}
use Rattle.job_protocol.specs.Outputs.{files}
use Rattle.job_protocol.specs.Records.{attempt_dir}
use Rattle.job_protocol.specs.TaskCommits.{attempt_prefix, in_order, least_missing, least_of}
use Rattle.magic_paths.proofs.Tails.{below_is}
use Rattle.path_keys.specs.Paths.{below}
use Rattle.std.proofs.Common.{Bool, List, None, Option, Some, add-one, ap, append_assoc, arith, codes, cond, drop, false, get_or, length}
use Rattle.std.proofs.Common.{length-append, map, nat_eq, nat_lt, option_map, refl, replicate, slice_get, subst, suc, sym, true, zero, ℕ}
use Rattle.std.proofs.Common.{[], ◌++◌, ◌+◌, ◌<◌, ◌||◌, ◌∙◌, ◌∷◌, ◌≡◌, ◌≤◌}
use Rattle.std.proofs.Math.Bool.{or-false, or-true}
use Rattle.std.proofs.Math.Seq.{drop-cons}
use Rattle.std.proofs.lemmas.Bool.{true≢false}
use Rattle.std.proofs.lemmas.Grind.{flat_map-append}
use Rattle.std.proofs.lemmas.List.{append-nil, append_cancel_left, append_cancel_right, drop_all, get_or-map, length-map, map-append}
use Rattle.std.proofs.lemmas.List.Folds.{list_all-append, list_any-append}
use Rattle.std.proofs.lemmas.List.Quantifiers.{position-Some}
use Rattle.std.proofs.lemmas.Map.Keys.{IsDistinct-head, IsDistinct-tail}
use Rattle.std.proofs.lemmas.Option.{slice_get-get_or, slice_get_within}
use Rattle.std.specs.Cmp.Lexicographic.{bytes_decides}
use Rattle.std.specs.List.{AllByRecursion, IsDistinct, filter, list_any, position}
use Rattle.std.specs.Map.{keys_of, lookup}
use Rattle.std.specs.Prelude.{IfSome, is_some, slice_set}
use Rattle.task_magic.specs.Committing.{AreRecords, record_of}
use Rattle.task_magic.specs.inner.Committing.{IsPlaceOf, IsRecordAt, is_at, least_unseen, places_in, records_in, seen_in}
use Rattle.task_magic.specs.inner.Committing.{set_at}
use Rattle.task_requests.proofs.Told.{own_files}
use Rattle.task_requests.specs.Publishing.{are_places, picked}
use Rattle.job_model.specs.declared.ends.TaskEnd.TheVariants as ends

-- ---- tests on texts

pub same_test : (x y u v : List ℕ) → (x ≡ y → u ≡ v) → (u ≡ v → x ≡ y) → text_eq x y ≡ text_eq u v
same_test x y u v f g = by (text_eq x y) (text_eq u v) refl refl
  where
    by : (b c : Bool) → text_eq x y ≡ b → text_eq u v ≡ c → b ≡ c
    by true true d e = refl
    by true false d e = absurd (true≢false (sym ((bytes_decides u v).1 (f ((bytes_decides x y).0 d))) ∙ e))
    by false true d e = absurd (true≢false (sym ((bytes_decides x y).1 (g ((bytes_decides u v).0 e))) ∙ d))
    by false false d e = refl

-- ---- the key of a record

record_is : (t : Task) (path : List ℕ) → below (attempt_dir (task_script t) (who_of t)) path ≡ attempt_prefix (task_script t) (who_of t) ++
    path
record_is t path =
    let dir = attempt_dir (task_script t) (who_of t) in
    let long : 1 ≤ length dir = simp length-append (omega arith) in
    below_is dir path long ∙ sym (append_assoc dir (codes "/") path)

-- The record of a file has the key of the record of this path exactly if the file has this path.
pub record_test : (t : Task) (f : File) (key prefix path : List ℕ) → prefix ≡ attempt_prefix (task_script t) (who_of t)
    → IsRecordAt prefix key path → text_eq (record_of t f) key ≡ text_eq path f.0
record_test t f key prefix path p h =
    let root = attempt_prefix (task_script t) (who_of t) in
    let mine : record_of t f ≡ root ++ (f.0 ++ codes ".pending") = record_is t (f.0 ++ codes ".pending") in
    let there : key ≡ root ++ (path ++ codes ".pending") = h ∙ ap (λ (l : List ℕ). l ++ (path ++ codes ".pending")) p in
    same_test (record_of t f) key path f.0
    (λ e. sym (append_cancel_right f.0 path (codes ".pending") (append_cancel_left root _ _ (sym mine ∙ (e ∙ there)))))
    (λ e. mine ∙ (ap (λ (l : List ℕ). root ++ (l ++ codes ".pending")) (sym e) ∙ sym there))

-- A key that is not a record's belongs to no file.
pub record_none : (t : Task) (f : File) (key prefix : List ℕ) → prefix ≡ attempt_prefix (task_script t) (who_of t)
    → ((path : List ℕ) → IsRecordAt prefix key path → ⊥) → text_eq (record_of t f) key ≡ false
record_none t f key prefix p h =
    text_false (record_of t f) key (λ e. h f.0 (sym e ∙ (record_is t (f.0 ++ codes ".pending") ∙ ap
    (λ (l : List ℕ). l ++ (f.0 ++ codes ".pending")) (sym p))))

pub record_as : (p q k l x y : List ℕ) → IsRecordAt p k x → p ≡ q → k ≡ l → x ≡ y → IsRecordAt q l y
record_as p q k l x y h e f g = sym f ∙ (h ∙ (ap (λ (z : List ℕ). z ++ (x ++ codes ".pending")) e ∙ ap
    (λ (z : List ℕ). q ++ (z ++ codes ".pending")) g))

pub no_record_as : (p q k l : List ℕ) → ((path : List ℕ) → IsRecordAt p k path → ⊥) → p ≡ q → k ≡ l → (path : List ℕ) → IsRecordAt q l path
    → ⊥
no_record_as p q k l h e f path g = h path (record_as q p l k path path g (sym e) (sym f) refl)

-- ---- the place of a path

all_at : (P : List ℕ → Type 0) (es : List File) (j : ℕ) (f : File) → AllByRecursion P (keys_of es) → slice_get es j ≡ Some f → P f.0
all_at P [] j f h e = absurd (omega (arith, slice_get_within [] j f e))
all_at P (x ∷ es) zero f h e = let same : x ≡ f = cc in subst (λ (y : File). P y.0) same h.0
all_at P (x ∷ es) (suc j) f h e = all_at P es j f h.1 e

at_place : (p : List ℕ) (es : List File) (i j : ℕ) (f : File) → IsDistinct text_eq (keys_of es) → i < length es
    → text_eq p (get_or (keys_of es) i []) ≡ true → slice_get es j ≡ Some f → text_eq p f.0 ≡ nat_eq i j
at_place p [] i j f d w h e = absurd (omega arith)
at_place p (x ∷ es) zero zero f d w h e = let same : x ≡ f = cc in subst (λ (y : File). text_eq p y.0 ≡ true) same h
at_place p (x ∷ es) zero (suc j) f d w h e =
    subst (λ q. text_eq q f.0 ≡ false) (sym ((bytes_decides p x.0).0 h)) (all_at (λ k. text_eq x.0 k ≡ false) es j f
    (IsDistinct-head text_eq x.0 (keys_of es) d) e) ∙ sym (zero_not j)
at_place p (x ∷ es) (suc i) zero f d w h e =
    let same : x ≡ f = cc in
    subst (λ (y : File). text_eq p y.0 ≡ false) same (text_false p x.0
    (λ q. true≢false (sym (subst (λ z. text_eq z (get_or (keys_of es) i []) ≡ true) q h) ∙ other es i
    (IsDistinct-head text_eq x.0 (keys_of es) d) (omega arith)))) ∙ sym (suc_not i)
  where
    other : (l : List File) (k : ℕ) → AllByRecursion (λ y. text_eq x.0 y ≡ false) (keys_of l) → k < length l
        → text_eq x.0 (get_or (keys_of l) k []) ≡ false
    other [] k a b = absurd (omega arith)
    other (y ∷ l) zero a b = a.0
    other (y ∷ l) (suc k) a b = other l k a.1 (omega arith)
at_place p (x ∷ es) (suc i) (suc j) f d w h e = at_place p es i j f (IsDistinct-tail text_eq x.0 (keys_of es) d) (omega arith) h e ∙ sym
    (suc_same i j)

none_at : (p : List ℕ) (es : List File) (j : ℕ) (f : File) → is_some (lookup (text_eq p) es) ≡ false → slice_get es j ≡ Some f
    → text_eq p f.0 ≡ false
none_at p [] j f h e = absurd (omega (arith, slice_get_within [] j f e))
none_at p (x ∷ es) j f h e = by (text_eq p x.0) refl (none_at p es) j e
  where
    first : (b : Bool) → text_eq p x.0 ≡ b → is_some (cond b (Some x.1) (lookup (text_eq p) es)) ≡ false
    first b g = sym (ap (λ (c : Bool). is_some (cond c (Some x.1) (lookup (text_eq p) es))) g) ∙ h

    by : (b : Bool) → text_eq p x.0 ≡ b → ((j : ℕ) (f : File) → is_some (lookup (text_eq p) es) ≡ false → slice_get es j ≡ Some f
        → text_eq p f.0 ≡ false) → (j : ℕ) → slice_get (x ∷ es) j ≡ Some f → text_eq p f.0 ≡ false
    by true g r j e = absurd (true≢false (first true g))
    by false g r zero e = let same : x ≡ f = cc in subst (λ (y : File). text_eq p y.0 ≡ false) same g
    by false g r (suc j) e = r j f (first false g) e

-- The index of a path is the place of the file with this path, and of no other.
path_place : (p : List ℕ) (es : List File) (r : Option ℕ) (j : ℕ) (f : File) → r ≡ position (text_eq p) (keys_of es)
    → is_some r ≡ is_some (lookup (text_eq p) es) → IsDistinct text_eq (keys_of es) → slice_get es j ≡ Some f → text_eq p f.0 ≡ is_at r j
path_place p es None j f h s d e = none_at p es j f (sym s) e
path_place p es (Some i) j f h s d e =
    let found = position-Some (text_eq p) (keys_of es) i [] (sym h) in
    at_place p es i j f d (omega (arith, length-map es (λ (f : File). f.0), found.0)) found.1 e

pub path_found : (p : List ℕ) (es fs : List File) (r : Option ℕ) (j : ℕ) (f : File) → es ≡ fs → r ≡ position (text_eq p) (keys_of es)
    → is_some r ≡ is_some (lookup (text_eq p) es) → IsDistinct text_eq (keys_of es) → slice_get fs j ≡ Some f → text_eq p f.0 ≡ is_at r j
path_found p es fs r j f h i s d e = path_place p es r j f i s d (ap (λ (l : List File). slice_get l j) h ∙ e)

-- ---- the files that a key chooses

abbrev pub PicksAt : (File → Bool) → List File → Option ℕ → Type 0
PicksAt g fs r = (j : ℕ) (f : File) → slice_get fs j ≡ Some f → g f ≡ is_at r j

filter_by : (g : File → Bool) (x : File) (fs : List File) (b : Bool) → g x ≡ b → filter g (x ∷ fs) ≡ cond b (x ∷ filter g fs) (filter g fs)
filter_by g x fs b e = ap (λ (c : Bool). cond c (x ∷ filter g fs) (filter g fs)) e

behind_none : (g : File → Bool) (x : File) (fs : List File) → PicksAt g (x ∷ fs) None → PicksAt g fs None
behind_none g x fs h j f e = h (suc j) f e

behind_zero : (g : File → Bool) (x : File) (fs : List File) → PicksAt g (x ∷ fs) (Some zero) → PicksAt g fs None
behind_zero g x fs h j f e = h (suc j) f e ∙ zero_not j

behind_suc : (g : File → Bool) (x : File) (fs : List File) (i : ℕ) → PicksAt g (x ∷ fs) (Some (suc i)) → PicksAt g fs (Some i)
behind_suc g x fs i h j f e = h (suc j) f e ∙ suc_same i j

picks_none : (g : File → Bool) (fs : List File) → PicksAt g fs None → filter g fs ≡ []
picks_none g [] h = refl
picks_none g (x ∷ fs) h = filter_by g x fs false (h zero x refl) ∙ picks_none g fs (behind_none g x fs h)

picks_some : (g : File → Bool) (fs : List File) (i : ℕ) → i < length fs → PicksAt g fs (Some i) → filter g fs ≡ get_or fs i ([], []) ∷ []
picks_some g [] i w h = absurd (omega arith)
picks_some g (x ∷ fs) zero w h = filter_by g x fs true (h zero x refl) ∙ ap (λ (l : List File). x ∷ l)
    (picks_none g fs (behind_zero g x fs h))
picks_some g (x ∷ fs) (suc i) w h = filter_by g x fs false (h zero x refl ∙ suc_not i) ∙ picks_some g fs i (omega arith)
    (behind_suc g x fs i h)

one_more : (t : Task) (keys : List (List ℕ)) (k : List ℕ)
    → in_order (task_script t) (who_of t) (keys ++ k ∷ []) ≡ in_order (task_script t) (who_of t) keys ++ filter
    (λ f. text_eq (record_of t f) k) t.files
one_more t keys k =
    let g : List ℕ → List File = λ k. filter (λ f. text_eq (record_of t f) k) (files (task_script t) (who_of t)) in
    flat_map-append g keys (k ∷ [])
    ∙ ap (λ (l : List File). in_order (task_script t) (who_of t) keys ++ l) (append-nil (g k) ∙ ap
    (λ (l : List File). filter (λ f. text_eq (record_of t f) k) l) (own_files t))

-- A key of no file adds no file, and the key of a file adds that file.
ordered_none : (t : Task) (keys : List (List ℕ)) (k : List ℕ) (places : List ℕ)
    → picked t.files places ≡ in_order (task_script t) (who_of t) keys → IsPlaceOf t k None
    → picked t.files places ≡ in_order (task_script t) (who_of t) (keys ++ k ∷ [])
ordered_none t keys k places e h =
    e ∙ sym (one_more t keys k ∙ (ap (λ (l : List File). in_order (task_script t) (who_of t) keys ++ l)
    (picks_none (λ f. text_eq (record_of t f) k) t.files h) ∙ append-nil (in_order (task_script t) (who_of t) keys)))

ordered_some : (t : Task) (keys : List (List ℕ)) (k : List ℕ) (places : List ℕ) (i : ℕ)
    → picked t.files places ≡ in_order (task_script t) (who_of t) keys → i < length t.files → IsPlaceOf t k (Some i)
    → picked t.files (places ++ i ∷ []) ≡ in_order (task_script t) (who_of t) (keys ++ k ∷ [])
ordered_some t keys k places i e w h =
    map-append (λ i. get_or t.files i ([], [])) places (i ∷ [])
    ∙ (ap (λ (l : List File). l ++ get_or t.files i ([], []) ∷ []) e
    ∙ sym (one_more t keys k ∙ ap (λ (l : List File). in_order (task_script t) (who_of t) keys ++ l)
    (picks_some (λ f. text_eq (record_of t f) k) t.files i w h)))

places_more : (count : ℕ) (places : List ℕ) (i : ℕ) → are_places count places ≡ true → i < count
    → are_places count (places ++ i ∷ []) ≡ true
places_more count places i h w =
    let within : nat_lt i count ≡ true = below_so i count w in
    list_all-append (λ i. nat_lt i count) places (i ∷ []) ∙ rw (h, within) refl

-- ---- the keys of the records

record_there : (t : Task) (k : List ℕ) (i : ℕ) → i < length t.files → IsPlaceOf t k (Some i) → record_of t (get_or t.files i ([], [])) ≡ k
record_there t k i w h = (bytes_decides (record_of t (get_or t.files i ([], []))) k).0
    (h i (get_or t.files i ([], [])) (slice_get-get_or t.files i ([], []) w) ∙ nat_true i i refl)

pub records_with : (t : Task) (keys : List (List ℕ)) (places : List ℕ) (k : List ℕ) (place : Option ℕ) → AreRecords t keys places
    → IfSome place (λ i. i < length t.files) → IsPlaceOf t k place → AreRecords t (keys ++ records_in place k) (places ++ places_in place)
records_with t keys places k None e w h = append-nil keys ∙ (e ∙ sym
    (ap (λ (l : List ℕ). map (record_of t) (picked t.files l)) (append-nil places)))
records_with t keys places k (Some i) e w h =
    ap (λ (l : List (List ℕ)). l ++ k ∷ []) e
    ∙ (ap (λ (x : List ℕ). map (record_of t) (picked t.files places) ++ x ∷ []) (sym (record_there t k i w h))
    ∙ sym (ap (map (record_of t)) (map-append (λ i. get_or t.files i ([], [])) places (i ∷ [])) ∙ map-append (record_of t)
    (picked t.files places) (get_or t.files i ([], []) ∷ [])))

-- ---- the files whose records were listed

seen_by : (g : File → Bool) (h : File → Bool) (x : File) (fs : List File) (b : Bool) (rest : List Bool) → h x ≡ b
    → map (λ f. g f || h f) fs ≡ rest → map (λ f. g f || h f) (x ∷ fs) ≡ (g x || b) ∷ rest
seen_by g h x fs b rest e r = ap (λ (c : Bool). (g x || c) ∷ map (λ f. g f || h f) fs) e ∙ ap (λ (l : List Bool). (g x || b) ∷ l) r

seen_none : (g h : File → Bool) (fs : List File) → PicksAt h fs None → map (λ f. g f || h f) fs ≡ map g fs
seen_none g h [] p = refl
seen_none g h (x ∷ fs) p = seen_by g h x fs false (map g fs) (p zero x refl) (seen_none g h fs (behind_none h x fs p)) ∙ ap
    (λ (b : Bool). b ∷ map g fs) (or-false (g x))

seen_some : (g h : File → Bool) (fs : List File) (i : ℕ) → i < length fs → PicksAt h fs (Some i)
    → map (λ f. g f || h f) fs ≡ slice_set (map g fs) i true
seen_some g h [] i w p = absurd (omega arith)
seen_some g h (x ∷ fs) zero w p = seen_by g h x fs true (map g fs) (p zero x refl) (seen_none g h fs (behind_zero h x fs p)) ∙ ap
    (λ (b : Bool). b ∷ map g fs) (or-true (g x))
seen_some g h (x ∷ fs) (suc i) w p =
    seen_by g h x fs false (slice_set (map g fs) i true) (p zero x refl ∙ suc_not i)
    (seen_some g h fs i (omega arith) (behind_suc h x fs i p)) ∙ ap (λ (b : Bool). b ∷ slice_set (map g fs) i true) (or-false (g x))

map_same : (g h : File → Bool) (fs : List File) → ((f : File) → g f ≡ h f) → map g fs ≡ map h fs
map_same g h [] e = refl
map_same g h (x ∷ fs) e = ap (λ (b : Bool). b ∷ map g fs) (e x) ∙ ap (λ (l : List Bool). h x ∷ l) (map_same g h fs e)

seen_more : (t : Task) (keys : List (List ℕ)) (k : List ℕ)
    → seen_in t (keys ++ k ∷ []) ≡ map (λ f. list_any (text_eq (record_of t f)) keys || text_eq (record_of t f) k) t.files
seen_more t keys k =
    map_same (λ f. list_any (text_eq (record_of t f)) (keys ++ k ∷ [])) (λ f. list_any (text_eq (record_of t f)) keys || text_eq
    (record_of t f) k) t.files
    (λ f. list_any-append (text_eq (record_of t f)) keys (k ∷ []) ∙ ap (λ (b : Bool). list_any (text_eq (record_of t f)) keys || b)
    (or-false (text_eq (record_of t f) k)))

-- ---- one more key

pub ordered_with : (t : Task) (keys more : List (List ℕ)) (k : List ℕ) (places : List ℕ) (place : Option ℕ) → more ≡ keys ++ k ∷ []
    → picked t.files places ≡ in_order (task_script t) (who_of t) keys → IfSome place (λ i. i < length t.files) → IsPlaceOf t k place
    → picked t.files (places ++ places_in place) ≡ in_order (task_script t) (who_of t) more
ordered_with t keys more k places None m e w h = ap (picked t.files) (append-nil places) ∙
    (ordered_none t keys k places e h ∙ ap (in_order (task_script t) (who_of t)) (sym m))
ordered_with t keys more k places (Some i) m e w h = ordered_some t keys k places i e w h ∙ ap (in_order (task_script t) (who_of t)) (sym m)

pub seen_with : (t : Task) (keys more : List (List ℕ)) (k : List ℕ) (seen : List Bool) (place : Option ℕ) → more ≡ keys ++ k ∷ []
    → seen ≡ seen_in t keys → IfSome place (λ i. i < length t.files) → IsPlaceOf t k place → set_at seen place ≡ seen_in t more
seen_with t keys more k seen None m e w h =
    (e ∙ sym (seen_more t keys k ∙ seen_none (λ f. list_any (text_eq (record_of t f)) keys) (λ f. text_eq (record_of t f) k) t.files h)) ∙
    ap (seen_in t) (sym m)
seen_with t keys more k seen (Some i) m e w h =
    (ap (λ (l : List Bool). slice_set l i true) e
    ∙ sym (seen_more t keys k ∙ seen_some (λ f. list_any (text_eq (record_of t f)) keys) (λ f. text_eq (record_of t f) k) t.files i w h)) ∙
    ap (seen_in t) (sym m)

pub places_with : (count : ℕ) (places : List ℕ) (place : Option ℕ) → are_places count places ≡ true → IfSome place (λ i. i < count)
    → are_places count (places ++ places_in place) ≡ true
places_with count places None h w = ap (are_places count) (append-nil places) ∙ h
places_with count places (Some i) h w = places_more count places i h w

pub within_seen : (t : Task) (keys : List (List ℕ)) (seen : List Bool) (place : Option ℕ) → seen ≡ seen_in t keys
    → IfSome place (λ i. i < length t.files) → IfSome place (λ i. i < length seen)
within_seen t keys seen None e w = tt
within_seen t keys seen (Some i) e w = let n = (ap length e ∙ length-map t.files (λ f. list_any (text_eq (record_of t f)) keys)) in omega
    (arith, n, w)

pub nothing_seen : (t : Task) (fs : List File) → replicate (length fs) false ≡ map (λ f. list_any (text_eq (record_of t f)) []) fs
nothing_seen t [] = refl
nothing_seen t (x ∷ fs) = ap (λ (l : List Bool). false ∷ l) (nothing_seen t fs)

-- ---- the least missing key

pub missing_by : (keys : List (List ℕ)) (g : File → List ℕ) (fs : List File)
    → least_missing keys (map g fs) ≡ least_unseen (map (λ f. list_any (text_eq (g f)) keys) fs) (map g fs)
missing_by keys g [] = refl
missing_by keys g (x ∷ fs) = by (missing_by keys g fs) (list_any (text_eq (g x)) keys)
  where
    by : least_missing keys (map g fs) ≡ least_unseen (map (λ f. list_any (text_eq (g f)) keys) fs) (map g fs) → (b : Bool)
        → cond b (least_missing keys (map g fs)) (Some (least_of (least_missing keys (map g fs)) (g x))) ≡ least_unseen
        (b ∷ map (λ f. list_any (text_eq (g f)) keys) fs) (g x ∷ map g fs)
    by r true = r
    by r false = ap (λ l. Some (least_of l (g x))) r

-- The list from an index on is its item there and the rest.
cut_at : {X : Type 0} (xs : List X) (i : ℕ) (d : X) → i < length xs → drop i xs ≡ get_or xs i d ∷ drop (i + 1) xs
cut_at xs i d w = drop-cons xs i d w ∙ ap (λ n. get_or xs i d ∷ drop n xs) (sym (add-one i))

unseen_at : (seen : List Bool) (ks : List (List ℕ)) (i : ℕ) → i < length seen → i < length ks
    → least_unseen (drop i seen) (drop i ks) ≡ least_unseen (get_or seen i false ∷ drop (i + 1) seen) (get_or ks i [] ∷ drop (i + 1) ks)
unseen_at seen ks i w v = ap (λ l. least_unseen l (drop i ks)) (cut_at seen i false w) ∙ ap
    (λ l. least_unseen (get_or seen i false ∷ drop (i + 1) seen) l) (cut_at ks i [] v)

module _ (t : Task) (seen : List Bool) (left i : ℕ) (least : Option (List ℕ)) (n : left ≡ i + 1) (w : left ≤ length seen)
    (same : length seen ≡ length t.files)
    (e : (let ks = map (record_of t) t.files in least ≡ least_unseen (drop left seen) (drop left ks))) where
  unseen_here : (b : Bool) → get_or seen i false ≡ b
      → (let ks = map (record_of t) t.files in least_unseen (drop i seen) (drop i ks) ≡ least_unseen (b ∷ drop left seen)
      (record_of t (get_or t.files i ([], [])) ∷ drop left ks))
  unseen_here b h =
      let ks = map (record_of t) t.files in
      unseen_at seen ks i (omega arith) (omega (arith, length-map t.files (record_of t)))
      ∙ (ap (λ c. least_unseen (c ∷ drop (i + 1) seen) (get_or ks i [] ∷ drop (i + 1) ks)) h
      ∙ (ap (λ k. least_unseen (b ∷ drop (i + 1) seen) (k ∷ drop (i + 1) ks)) (get_or-map (record_of t) t.files i ([], []) [] (omega arith))
      ∙ ap (λ m. least_unseen (b ∷ drop m seen) (record_of t (get_or t.files i ([], [])) ∷ drop m ks)) (sym n)))

  pub least_seen : get_or seen i false ≡ true → least ≡ least_unseen (drop i seen) (drop i (map (record_of t) t.files))
  least_seen h = e ∙ sym (unseen_here true h)

  pub least_other : (key new : List ℕ) → get_or seen i false ≡ false → key ≡ record_of t (get_or t.files i ([], []))
      → new ≡ least_of least key → Some new ≡ least_unseen (drop i seen) (drop i (map (record_of t) t.files))
  least_other key new h k m =
      ap (λ x. Some x) m ∙ (ap (λ x. Some (least_of least x)) k ∙ (ap (λ o. Some (least_of o (record_of t (get_or t.files i ([], []))))) e ∙
      sym (unseen_here false h)))

pub nothing_left : (seen : List Bool) (ks : List (List ℕ)) (left : ℕ) → length seen ≤ left
    → None ≡ least_unseen (drop left seen) (drop left ks)
nothing_left seen ks left h = ap (λ l. least_unseen l (drop left ks)) (sym (drop_all left seen h))

pub gone_least : (t : Task) (seen : List Bool) (left : ℕ) (least o : Option (List ℕ)) → left ≡ 0
    → least ≡ least_unseen (drop left seen) (drop left (map (record_of t) t.files)) → least ≡ o
    → option_map (λ name. ends.Gone name) o ≡ option_map (λ name. ends.Gone name) (least_unseen seen (map (record_of t) t.files))
gone_least t seen left least o e h g = ap (option_map (λ name. ends.Gone name))
    (sym g ∙ (h ∙ ap (λ n. least_unseen (drop n seen) (drop n (map (record_of t) t.files))) e))
