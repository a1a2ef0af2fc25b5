-- The paths of an attempt's files, as parts of keys.
use Rattle.text_and_lists.proofs.Bools.{contrary}
use Rattle.text_and_lists.proofs.Lists.{short_number}
use Rattle.text_and_lists.proofs.Pieces.{join_parts, one_part}
use Rattle.text_and_lists.proofs.Split.{lone_from}
use Rattle.text_and_lists.specs.Parts.{is_other, parts_from, parts_of}
use Rattle.job_model.specs.Files.{File}
use Rattle.job_model.specs.Jobs.{Job, Task}
use Rattle.job_model.specs.Legal.{IsGiven, bytes_of}
use Rattle.job_model.specs.Paths.{begins_hidden, is_dest_key, is_full, is_path}
use Rattle.job_model.specs.Placed.{unique_name, with_id, with_id_last}
use Rattle.job_model.specs.Plans.{ArePlaced, IsJob, IsPlaced, IsTask}
use Rattle.magic_paths.proofs.Elements.{id_others}
use Rattle.magic_paths.proofs.Kept.{some_parts}
use Rattle.magic_paths.proofs.Tails.{below_is}
use Rattle.magic_paths.specs.Layout.{attempt_key}
use Rattle.path_keys.proofs.Beneath.{elements_append}
use Rattle.path_keys.specs.Paths.{Path, below}
use Rattle.s3_types.specs.Names.{are_elements, is_element, is_job_id}
use Rattle.std.proofs.Common.{Bool, List, Option, Some, ap, arith, codes, false, inl, inr, length, length-append, refl, slice_get, subst}
use Rattle.std.proofs.Common.{suc, sym, true, zero, ℕ, [], ◌++◌, ◌+◌, ◌<◌, ◌==◌, ◌^◌, ◌∙◌, ◌∷◌, ◌≡◌, ◌≤◌}
use Rattle.std.proofs.lemmas.Bool.{and_parts, leb-true, or_parts}
use Rattle.std.proofs.lemmas.List.Folds.{list_all-append}
use Rattle.std.proofs.lemmas.Option.{same_Some}
use Rattle.std.proofs.lemmas.Slice.Eq.{bytes_eq-Decides}
use Rattle.std.specs.List.{join_with_byte, list_all, list_any}
use Rattle.std.specs.Prelude.{IfSome, bytes_eq, option_map}
use Rattle.task_requests.specs.Writing.{IsFile, IsNamed, dir_of}

-- ---- one of the files

pub placed_at : (id : List ℕ) (before files : List File) (i : ℕ) (f : File) → ArePlaced id before files → slice_get files i ≡ Some f
    → IsPlaced id f.0
placed_at id before [] i f a e = absurd (cc)
placed_at id before (g ∷ fs) zero f a e = let same : g ≡ f = cc in subst (λ (x : File). IsPlaced id x.0) same a.0
placed_at id before (g ∷ fs) (suc i) f a e = placed_at id (before ++ g ∷ []) fs i f a.3 e

-- ---- parts without a separator

abbrev AreOther : List (List ℕ) → Bool
AreOther parts = list_all (λ part. list_all (is_other 47) part) parts

others_from : (part text : List ℕ) → list_all (is_other 47) part ≡ true → AreOther (parts_from 47 part text) ≡ true
unfolding parts_from
others_from part [] h = rw h refl
others_from part (x ∷ text) h = by (x == 47) refl (others_from [] text refl) (others_from (part ++ x ∷ []) text)
  where
    by : (b : Bool) → (x == 47) ≡ b → AreOther (parts_from 47 [] text) ≡ true
        → (list_all (is_other 47) (part ++ x ∷ []) ≡ true → AreOther (parts_from 47 (part ++ x ∷ []) text) ≡ true)
        → AreOther (parts_from 47 part (x ∷ text)) ≡ true
    by true e old new = rw (e, h, old) refl
    by false e old new = rw e (new (list_all-append (is_other 47) part (x ∷ []) ∙ rw (h, e) refl))

-- ---- elements

element_so : (e : List ℕ) → is_full e ≡ true → begins_hidden e ≡ false → is_element e ≡ true
element_so e h g = grind arith

elements_so : (es : List (List ℕ)) → list_all is_full es ≡ true → list_any begins_hidden es ≡ false → list_all is_element es ≡ true
elements_so [] full h = refl
elements_so (e ∷ es) full h =
    let p = and_parts (is_full e) (list_all is_full es) full in
    let q = or_parts (begins_hidden e) (list_any begins_hidden es) h in
    rw (element_so e p.0 q.0, elements_so es p.1 q.1) refl

full_parts : (path : List ℕ) → is_path path ≡ true → list_all is_full (parts_of 47 path) ≡ true
full_parts path h = (and_parts _ _ (and_parts _ _ h).0).1

short_given : (path : List ℕ) → IsGiven path → length path ≤ 400
short_given path g = leb-true (length path) 400 (and_parts _ _ (and_parts _ _ (and_parts _ _ g.stated).0).0).1

-- ---- a path made unique

named_others : (id name : List ℕ) → list_all (is_other 47) id ≡ true → list_all (is_other 47) name ≡ true
    → list_all (is_other 47) (with_id id name) ≡ true
named_others id [] i h = rw i refl
named_others id (x ∷ name) i h = by (x == 46) refl (named_others id name i (and_parts (is_other 47 x) _ h).1)
  where
    by : (b : Bool) → (x == 46) ≡ b → list_all (is_other 47) (with_id id name) ≡ true
        → list_all (is_other 47) (with_id id (x ∷ name)) ≡ true
    by true e old = rw e (list_all-append (is_other 47) id (x ∷ name) ∙ rw (i, h) refl)
    by false e old = let p = and_parts (is_other 47 x) (list_all (is_other 47) name) h in rw (e, p.0, old) refl

named_element : (id name : List ℕ) → is_full name ≡ true → begins_hidden name ≡ false → is_element (with_id id name) ≡ true
named_element id name h g = grind arith

unique_elements_of : (id e : List ℕ) (es : List (List ℕ)) → list_all (is_other 47) id ≡ true → AreOther (e ∷ es) ≡ true
    → list_all is_full (e ∷ es) ≡ true → list_any begins_hidden (e ∷ es) ≡ false
    → are_elements (join_with_byte 47 (with_id_last id (e ∷ es))) ≡ true
unique_elements_of id e [] i o full h =
    let p = and_parts (list_all (is_other 47) e) true o in
    let q = and_parts (is_full e) true full in
    let r = or_parts (begins_hidden e) false h in
    ap (list_all is_element) (one_part 47 (with_id id e) (named_others id e i p.0)) ∙ rw (named_element id e q.0 r.0) refl
unique_elements_of id e (f ∷ es) i o full h =
    let p = and_parts (list_all (is_other 47) e) (AreOther (f ∷ es)) o in
    let q = and_parts (is_full e) (list_all is_full (f ∷ es)) full in
    let r = or_parts (begins_hidden e) (list_any begins_hidden (f ∷ es)) h in
    let old = unique_elements_of id f es i p.1 q.1 r.1 in
    let first : are_elements e ≡ true = ap (list_all is_element) (one_part 47 e p.0) ∙ rw (element_so e q.0 r.0) refl in
    behind (with_id_last id (f ∷ es)) old first
  where
    behind : (l : List (List ℕ)) → are_elements (join_with_byte 47 l) ≡ true → are_elements e ≡ true
        → are_elements (join_with_byte 47 (e ∷ l)) ≡ true
    behind [] old first = first
    behind (x ∷ l) old first = elements_append e (join_with_byte 47 (x ∷ l)) first old

unique_elements : (id path : List ℕ) (es : List (List ℕ)) → parts_of 47 path ≡ es → list_all (is_other 47) id ≡ true → IsGiven path
    → are_elements (unique_name path id) ≡ true
unique_elements id path [] e i g = ap (λ l. are_elements (join_with_byte 47 (with_id_last id l))) e ∙ absurd (some_parts path e)
unique_elements id path (x ∷ es) e i g =
    ap (λ l. are_elements (join_with_byte 47 (with_id_last id l))) e
    ∙ unique_elements_of id x es i (ap AreOther (sym e) ∙ others_from [] path refl)
    (ap (list_all is_full) (sym e) ∙ full_parts path g.stated) (ap (list_any begins_hidden) (sym e) ∙ g.shown)

pub placed_elements : (id path : List ℕ) → is_job_id id ≡ true → IsPlaced id path → are_elements path ≡ true
placed_elements id path i (inl g) = elements_so (parts_of 47 path) (full_parts path g.stated) g.shown
placed_elements id path i (inr u) = ap are_elements u.2 ∙ unique_elements id u.0 (parts_of 47 u.0) refl (id_others id i) u.1

-- ---- lengths

length_named : (id name : List ℕ) → length (with_id id name) ≡ length name + (1 + length id)
length_named id [] = omega arith
length_named id (x ∷ name) = by (x == 46) refl (length_named id name)
  where
    by : (b : Bool) → (x == 46) ≡ b → length (with_id id name) ≡ length name + (1 + length id)
        → length (with_id id (x ∷ name)) ≡ length (x ∷ name) + (1 + length id)
    by true e old = rw e (simp length-append (omega arith))
    by false e old = rw e (omega (arith, old))

joined_more : (e l m : List ℕ) (k : ℕ) → length l ≡ length m + k → length (e ++ 47 ∷ l) ≡ length (e ++ 47 ∷ m) + k
joined_more e l m k h = simp length-append (omega arith)

length_unique : (id e : List ℕ) (es : List (List ℕ))
    → length (join_with_byte 47 (with_id_last id (e ∷ es))) ≡ length (join_with_byte 47 (e ∷ es)) + (1 + length id)
length_unique id e [] = length_named id e
length_unique id e (f ∷ []) = simp length-append (omega (arith, length_named id f))
length_unique id e (f ∷ g ∷ es) = joined_more e (join_with_byte 47 (with_id_last id (f ∷ g ∷ es))) (join_with_byte 47 (f ∷ g ∷ es))
    (1 + length id) (length_unique id f (g ∷ es))

id_short : (id : List ℕ) → is_job_id id ≡ true → length id ≤ 64
id_short id h = leb-true _ _ (and_parts _ _ (and_parts _ _ h).0).1

short_unique : (id path : List ℕ) (es : List (List ℕ)) → parts_of 47 path ≡ es → is_job_id id ≡ true → IsGiven path
    → length (unique_name path id) ≤ 465
short_unique id path [] e i g = subst (λ (l : List (List ℕ)). length (join_with_byte 47 (with_id_last id l)) ≤ 465) (sym e) (omega arith)
short_unique id path (x ∷ es) e i g =
    let whole : join_with_byte 47 (x ∷ es) ≡ path = ap (join_with_byte 47) (sym e) ∙ join_parts 47 path in
    let l : length (join_with_byte 47 (x ∷ es)) ≡ length path = ap length whole in
    let few = id_short id i in
    let short = short_given path g in
    let all = length_unique id x es in
    subst (λ (l : List (List ℕ)). length (join_with_byte 47 (with_id_last id l)) ≤ 465) (sym e) (omega arith)

pub placed_short : (id path : List ℕ) → is_job_id id ≡ true → IsPlaced id path → length path ≤ 465
placed_short id path i (inl g) = let s = short_given path g in omega arith
placed_short id path i (inr u) = subst (λ (l : List ℕ). length l ≤ 465) (sym u.2) (short_unique id u.0 (parts_of 47 u.0) refl i u.1)

-- ---- a record's path

not_same : (xs ys : List ℕ) → (xs ≡ ys → ⊥) → bytes_eq xs ys ≡ false
not_same xs ys other = contrary (bytes_eq xs ys) (λ h. absurd (other ((bytes_eq-Decides xs ys).0 h)))

long_element : (e : List ℕ) → 3 ≤ length e → is_element e ≡ true
long_element e h = grind (arith, not_same)

pending_element : (part : List ℕ) → is_element (part ++ codes ".pending") ≡ true
pending_element part = long_element (part ++ codes ".pending") (simp length-append (omega arith))

pending_from : (part text : List ℕ) → list_all is_element (parts_from 47 part text) ≡ true
    → list_all is_element (parts_from 47 part (text ++ codes ".pending")) ≡ true
unfolding parts_from
pending_from part [] h = ap (list_all is_element) (lone_from 47 part (codes ".pending") refl) ∙ rw (pending_element part) refl
pending_from part (x ∷ text) h = by (x == 47) refl (pending_from [] text) (pending_from (part ++ x ∷ []) text)
  where
    by : (b : Bool) → (x == 47) ≡ b → (list_all is_element (parts_from 47 [] text) ≡ true
        → list_all is_element (parts_from 47 [] (text ++ codes ".pending")) ≡ true)
        → (list_all is_element (parts_from 47 (part ++ x ∷ []) text) ≡ true
        → list_all is_element (parts_from 47 (part ++ x ∷ []) (text ++ codes ".pending")) ≡ true)
        → list_all is_element (parts_from 47 part (x ∷ text ++ codes ".pending")) ≡ true
    by true e old new =
        let k : list_all is_element (part ∷ parts_from 47 [] text) ≡ true = rw e at h in
        let p = and_parts (is_element part) (list_all is_element (parts_from 47 [] text)) k in
        rw (e, p.0, old p.1) refl
    by false e old new = let k : list_all is_element (parts_from 47 (part ++ x ∷ []) text) ≡ true = rw e at h in rw e (new k)

-- ---- keys below an attempt's directory

short_dir : (dest id : List ℕ) (task attempt : ℕ) → length dest ≤ 400 → is_job_id id ≡ true → task < 2 ^ 32 → attempt < 2 ^ 32
    → (1 ≤ length (attempt_key dest id task attempt)) × (length (attempt_key dest id task attempt) ≤ 520)
short_dir dest id task attempt d h t a = (
  simp length-append (omega arith),
  simp length-append
      (omega (arith, id_short id h, short_number task t, short_number attempt a)),
)

dest_short : (key : List ℕ) → is_dest_key key ≡ true → (1 ≤ length key) × (length key ≤ 400)
dest_short key h = grind arith

joined_short : (root path : List ℕ) → length root ≤ 520 → length path ≤ 473 → length (root ++ 47 ∷ path) ≤ 1024
joined_short root path h g = simp length-append (omega arith)

-- The key of a file below a destination has at most 1,024 bytes.
pub target_short : (j : Job) (path : List ℕ) → IsJob j → IsPlaced j.job path → length (below j.dest.key path) ≤ 1024
target_short j path h p =
    let d = dest_short j.dest.key h.dest.below in
    let short = placed_short j.job path h.job p in
    subst (λ (l : List ℕ). length l ≤ 1024) (sym (below_is j.dest.key path d.0)) (simp length-append (omega (arith, d.1, short)))

-- The key of a file below the attempt's directory has at most 1,024 bytes.
pub dir_short : (t : Task) (dir : Path) (path : List ℕ) → IsJob t.job → IsTask t → dir ≡ dir_of t → length path ≤ 473
    → length (below dir.key path) ≤ 1024
dir_short t dir path j k e short =
    let task : t.task < t.job.tasks = k.task in
    let tasks : t.job.tasks ≤ 1000 = j.tasks in
    let attempt : t.attempt ≤ 99 = k.attempt in
    let d = dest_short t.job.dest.key j.dest.below in
    let r = short_dir t.job.dest.key t.job.job t.task t.attempt d.1 j.job (omega arith) (omega arith) in
    let root = attempt_key t.job.dest.key t.job.job t.task t.attempt in
    let is : below dir.key path ≡ root ++ 47 ∷ path = ap (λ (p : Path). below p.key path) e ∙ below_is root path r.0 in
    subst (λ (l : List ℕ). length l ≤ 1024) (sym is) (joined_short root path r.1 short)

pub named_elements : (t : Task) (path : List ℕ) → IsNamed t path → are_elements path ≡ true
named_elements t path n = placed_elements t.job.job path n.job.job n.placed

pub named_short : (t : Task) (j : Job) (path : List ℕ) → IsNamed t path → j ≡ t.job → length (below j.dest.key path) ≤ 1024
named_short t j path n e = subst (λ (x : Job). length (below x.dest.key path) ≤ 1024) (sym e) (target_short t.job path n.job n.placed)

pub marker_short : (t : Task) (dir : Path) (path : List ℕ) → IsNamed t path → dir ≡ dir_of t → length (below dir.key path) ≤ 1024
marker_short t dir path n e = let short = placed_short t.job.job path n.job.job n.placed in dir_short t dir path n.job n.task e
    (omega arith)

pub record_short : (t : Task) (dir : Path) (path name : List ℕ) → IsNamed t path → dir ≡ dir_of t → name ≡ path ++ codes ".pending"
    → length (below dir.key name) ≤ 1024
record_short t dir path name n e s =
    let short = placed_short t.job.job path n.job.job n.placed in
    let long : length name ≤ 473 = subst (λ (l : List ℕ). length l ≤ 473) (sym s) (simp length-append (omega arith)) in
    dir_short t dir name n.job n.task e long

pub record_elements : (t : Task) (path name : List ℕ) → IsNamed t path → name ≡ path ++ codes ".pending" → are_elements name ≡ true
record_elements t path name n s = ap are_elements s ∙ (pending_from [] path (named_elements t path n))

-- ---- a file of the plan

short_at : (files : List File) (i : ℕ) (f : File) → slice_get files i ≡ Some f → length f.1 ≤ bytes_of files
short_at [] i f e = absurd (cc)
short_at (g ∷ fs) zero f e = let same : length g.1 ≡ length f.1 = ap (λ (x : File). length x.1) (same_Some g f e) in omega arith
short_at (g ∷ fs) (suc i) f e = let old = short_at fs i f e in omega arith

pub file_found : {X : Type 0} (t : Task) (i : ℕ) (g : X → File) (o : Option X) (es : List File) → option_map g o ≡ slice_get es i
    → es ≡ t.files → IsJob t.job → IsTask t → IfSome o (λ x. IsFile t (g x))
file_found t i g o es h e f p = grind (arith, short_at, placed_at)
