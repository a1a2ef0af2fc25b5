-- The files that the chosen attempts of the sets write.
use Rattle.text_and_lists.proofs.Members.{some_is}
use Rattle.text_and_lists.specs.Order.{text_cmp, text_eq}
use Rattle.commit_lanes.proofs.Placing.{places_length}
use Rattle.commit_lanes.proofs.Trying.{take_next}
use Rattle.commit_lanes.proofs.Undoing.{drop_nth}
use Rattle.commit_lanes.specs.Clashes.{Item, items_from}
use Rattle.commit_lanes.specs.Places.{places_from}
use Rattle.commit_lanes.specs.ReadSets.{AreRead, HasAll}
use Rattle.commit_lanes.specs.Relatives.{relative_of}
use Rattle.commit_lanes.specs.inner.Relatives.{paths_below}
use Rattle.commit_lanes.specs.declared.places.Place.{Place}
use Rattle.job_model.specs.Attempts.{Who, same_name}
use Rattle.job_model.specs.Files.{File, has_path}
use Rattle.job_model.specs.Jobs.{Job}
use Rattle.job_model.specs.Placed.{placed}
use Rattle.job_protocol.proofs.Members.{in_append, in_left, in_map, in_right, map_in}
use Rattle.job_protocol.specs.AtWork.{declared_of, job_script, read_script}
use Rattle.job_protocol.specs.JobCommits.{Marking, Sets, all_commits, commit_asks, picks_of, set_request}
use Rattle.job_protocol.specs.LaneTable.{In}
use Rattle.job_protocol.specs.Lanes.{nth}
use Rattle.job_protocol.specs.Outputs.{files, files_picked, ordered, wanted, wanted_below, wanted_paths}
use Rattle.path_keys.specs.Paths.{Path}
use Rattle.pending_json.specs.Pending.{Pending}
use Rattle.pending_json.specs.Trees.{success_tree}
use Rattle.pending_json.specs.declared.records.PendingSet.{PendingSet}
use Rattle.s3_types.specs.declared.request.Committer.{Committer}
use Rattle.s3_types.specs.declared.request.Committer.TheVariants.{Magic}
use Rattle.s3_types.specs.declared.request.Request.{Request}
use Rattle.s3_types.specs.declared.request.Request.TheVariants.{ClusterGet, GetObject, PutObject}
use Rattle.serde_json.specs.Written.{compact_text}
use Rattle.std.proofs.Common.{Bool, List, None, Option, Some, ap, arith, cond, drop, false, inl, inr, is_some, length, map, nat_eq, refl}
use Rattle.std.proofs.Common.{slice_get, subst, suc, sym, take, true, zero, ℕ, [], ◌&&◌, ◌++◌, ◌+◌, ◌<◌, ◌∙◌, ◌∷◌, ◌≡◌, ◌≤◌}
use Rattle.std.proofs.Math.ListN.{drop_of_length-le}
use Rattle.std.proofs.lemmas.Bool.Decides.{nat_tests}
use Rattle.std.proofs.lemmas.Grind.{flat_map-append}
use Rattle.std.proofs.lemmas.List.{append-nil, map-append, take_all}
use Rattle.std.proofs.lemmas.Option.{get_or_from_slice_get}
use Rattle.std.proofs.lemmas.Result.{IfOk-weaker}
use Rattle.std.specs.BTreeSet.{insert_key}
use Rattle.std.specs.Cmp.Lexicographic.{bytes_decides}
use Rattle.std.specs.List.{flat_map}
use Rattle.std.specs.Map.{lookup}
use Rattle.std.specs.Option.{option_map, unwrap_or}
use Rattle.std.specs.Prelude.{IfOk, Result}
use Rattle.magic_paths.specs.Layout as layout

-- An upload's file, whose bytes are not known.
abbrev pub file_of : Path → Pending → File
file_of dest c = (relative_of dest c.destination, [])

-- ---- the files of a chosen attempt

abbrev TasksFrom : ℕ → Sets → Type 0
TasksFrom n sets = (t : ℕ) (s : PendingSet) → slice_get sets t ≡ Some s → s.task ≡ n + t

same_of : (a b c d : ℕ) → a ≡ b → c ≡ d → nat_eq a b && nat_eq c d ≡ true
same_of a b c d e f = grind (arith, nat_tests)

other_of : (a b : ℕ) (c : Bool) → b < a → nat_eq a b && c ≡ false
other_of a b c h = grind (arith, nat_tests)

abbrev who : ℕ → ℕ → Who
who t a = record { task = t; attempt = a }

found_at : (dest : Path) (n : ℕ) (sets : Sets) (t : ℕ) (s : PendingSet) → TasksFrom n sets → slice_get sets t ≡ Some s
    → lookup (same_name (who (n + t) s.attempt)) (map (declared_of dest) sets) ≡ Some (map (file_of dest) s.commits)
found_at dest n [] t s h e = absurd (cc)
found_at dest n (x ∷ xs) zero s h e =
    let i : x ≡ s = some_is e in
    let k : x.task ≡ n + 0 = h zero x refl in
    ap (λ b. cond b (Some (map (file_of dest) x.commits)) (lookup (same_name (who (n + 0) s.attempt)) (map (declared_of dest) xs)))
    (same_of (n + 0) x.task s.attempt x.attempt (sym k) (ap (λ (v : PendingSet). v.attempt) (sym i))) ∙ ap
    (λ (v : PendingSet). Some (map (file_of dest) v.commits)) i
found_at dest n (x ∷ xs) (suc t) s h e =
    let k : x.task ≡ n + 0 = h zero x refl in
    let later : (i : ℕ) (v : PendingSet) → slice_get xs i ≡ Some v
    → v.task ≡ n + 1 + i = λ i v g. (let m : v.task ≡ n + suc i = h (suc i) v g in omega arith) in
    let r = found_at dest (n + 1) xs t s later e in
    let P : ℕ → Type 0 = λ m. lookup (same_name (who m s.attempt)) (map (declared_of dest) xs) ≡ Some (map (file_of dest) s.commits) in
    let q : n + 1 + t ≡ n + suc t = omega arith in
    ap (λ b. cond b (Some (map (file_of dest) x.commits)) (lookup (same_name (who (n + suc t) s.attempt)) (map (declared_of dest) xs)))
    (other_of (n + suc t) x.task (nat_eq s.attempt x.attempt) (omega arith)) ∙ subst P q r

same_files : (fs : List File) → map (λ f. (f.0, f.1)) fs ≡ fs
same_files [] = refl
same_files (f ∷ fs) = ap (λ v. f ∷ v) (same_files fs)

tasks_of : (j : Job) (sets : Sets) → AreRead j sets → TasksFrom 0 sets
tasks_of j sets each = λ t s e. (let k : s.task ≡ t = (each t s e).task in omega arith)

-- A chosen attempt's files are those of its set.
pub files_at : (j : Job) (sets : Sets) (t : ℕ) (s : PendingSet) → AreRead j sets → slice_get sets t ≡ Some s
    → files_picked (read_script j sets) t (picks_of sets t) ≡ map (file_of j.dest) s.commits
files_at j sets t s each e =
    let F : Option PendingSet → Type 0 = λ o. files_picked (read_script j sets) t (option_map (λ v. v.attempt) o) ≡ map (file_of j.dest)
    s.commits in
    let L : Option (List File) → Type 0 = λ o. unwrap_or (option_map (placed false j.job) o) [] ≡ map (file_of j.dest) s.commits in
    let P : ℕ → Type 0 = λ m. lookup (same_name (who m s.attempt)) (map (declared_of j.dest) sets) ≡ Some (map (file_of j.dest) s.commits)
    in
    let z : 0 + t ≡ t = omega arith in
    subst F (sym e) (subst L (sym (subst P z (found_at j.dest 0 sets t s (tasks_of j sets each) e)))
    (same_files (map (file_of j.dest) s.commits)))

-- ---- all files

get_at : (sets : Sets) (n : ℕ) → n < length sets → (s : PendingSet) × (slice_get sets n ≡ Some s)
get_at [] n h = absurd (omega arith)
get_at (x ∷ xs) zero h = (x, refl)
get_at (x ∷ xs) (suc n) h = get_at xs n (omega arith)

abbrev files_in : Path → PendingSet → List File
files_in dest s = map (file_of dest) s.commits

wanted_of : (j : Job) (sets : Sets) (n : ℕ) → AreRead j sets → n ≤ length sets
    → wanted_below (read_script j sets) (picks_of sets) n ≡ flat_map (files_in j.dest) (take n sets)
wanted_of j sets zero each h = refl
wanted_of j sets (suc n) each h =
    let r = get_at sets n (omega arith) in
    let a = files_at j sets n r.0 each r.1 in
    let b = wanted_of j sets n each (omega arith) in
    let c : flat_map (files_in j.dest) (take n sets ++ r.0 ∷ []) ≡ flat_map (files_in j.dest) (take n sets) ++ (files_in j.dest r.0 ++ []) =
    flat_map-append (files_in j.dest) (take n sets) (r.0 ∷ []) in
    ap (λ v. v ++ files_picked (read_script j sets) n (picks_of sets n)) b
    ∙ ap (λ v. flat_map (files_in j.dest) (take n sets) ++ v) (a ∙ sym (append-nil (files_in j.dest r.0)))
    ∙ sym c
    ∙ ap (flat_map (files_in j.dest)) (sym (take_next sets n r.0 (omega arith) (sym (get_or_from_slice_get sets n r.0 r.0 r.1))))

paths_in : (dest : Path) (cs : List Pending) → map (λ f. f.0) (map (file_of dest) cs) ≡ map (λ c. relative_of dest c.destination) cs
paths_in dest [] = refl
paths_in dest (c ∷ cs) = ap (λ v. relative_of dest c.destination ∷ v) (paths_in dest cs)

paths_all : (dest : Path) (sets : Sets) → map (λ f. f.0) (flat_map (files_in dest) sets) ≡ map (λ c. relative_of dest c.destination)
    (all_commits sets)
paths_all dest [] = refl
paths_all dest (s ∷ ss) =
    map-append (λ (f : File). f.0) (files_in dest s) (flat_map (files_in dest) ss)
    ∙ ap (λ v. v ++ map (λ f. f.0) (flat_map (files_in dest) ss)) (paths_in dest s.commits)
    ∙ ap (λ v. map (λ c. relative_of dest c.destination) s.commits ++ v) (paths_all dest ss)
    ∙ sym (map-append (λ (c : Pending). relative_of dest c.destination) s.commits (all_commits ss))

-- The wanted paths are those of the uploads.
pub wanted_are : (j : Job) (sets : Sets) → AreRead j sets → length sets ≡ j.tasks
    → map (λ f. f.0) (wanted (read_script j sets) (picks_of sets)) ≡ map (λ c. relative_of j.dest c.destination) (all_commits sets)
wanted_are j sets h g = grind (arith, wanted_of, take_all, paths_all)

-- ---- who writes what

pub has_in : (dest : Path) (cs : List Pending) (p : List ℕ) → has_path (map (file_of dest) cs) p ≡ true → (c : Pending) × In c cs
    × (relative_of dest c.destination ≡ p)
has_in dest [] p h = absurd (cc)
has_in dest (c ∷ cs) p h = by (text_eq p (relative_of dest c.destination)) refl h (has_in dest cs p)
  where
    by : (b : Bool) → text_eq p (relative_of dest c.destination) ≡ b
        → is_some (cond b (Some (let e : List ℕ = [] in e)) (lookup (text_eq p) (map (file_of dest) cs))) ≡ true
        → (has_path (map (file_of dest) cs) p ≡ true → (d : Pending) × In d cs × (relative_of dest d.destination ≡ p)) → (d : Pending)
        × In d (c ∷ cs) × (relative_of dest d.destination ≡ p)
    by true e h later = (c, inl refl, sym ((bytes_decides p (relative_of dest c.destination)).0 e))
    by false e h later = let r = later h in (r.0, inr r.1, r.2)

pub in_has : (dest : Path) (cs : List Pending) (c : Pending) → In c cs
    → has_path (map (file_of dest) cs) (relative_of dest c.destination) ≡ true
in_has dest [] c i = absurd i
in_has dest (d ∷ cs) c (inl e) =
    let P : Pending → Type 0 = λ v. has_path (map (file_of dest) (d ∷ cs)) (relative_of dest v.destination) ≡ true in
    subst P e (ap (λ b. is_some (cond b (Some (let e : List ℕ = [] in e)) (lookup (text_eq (relative_of dest d.destination))
    (map (file_of dest) cs))))
    ((bytes_decides (relative_of dest d.destination) (relative_of dest d.destination)).1 refl))
in_has dest (d ∷ cs) c (inr i) = by (text_eq (relative_of dest c.destination) (relative_of dest d.destination)) (in_has dest cs c i)
  where
    by : (b : Bool) → has_path (map (file_of dest) cs) (relative_of dest c.destination) ≡ true
        → is_some (cond b (Some (let e : List ℕ = [] in e)) (lookup (text_eq (relative_of dest c.destination)) (map (file_of dest) cs))) ≡
        true
    by b h = grind arith

-- An item is an upload of a set together with the set's task.
pub item_at : (n : ℕ) (sets : Sets) (k : List ℕ) (t : ℕ) → In (let i : Item = (k, t) in i) (items_from n sets) → (i : ℕ) × (s : PendingSet)
    × (c : Pending) × (t ≡ n + i) × (slice_get sets i ≡ Some s) × In c s.commits × (c.destination ≡ k)
item_at n [] k t h = absurd h
item_at n (s ∷ ss) k t h = elim (in_append (let i : Item = (k, t) in i) (map (λ c. (c.destination, n)) s.commits)
    (items_from (n + 1) ss) h) [
      | inl a ↦
          let r = in_map {X = Pending} {Y = Item} (λ c. (c.destination, n)) s.commits (k, t) a in
          let e : n ≡ t = ap (λ (i : Item). i.1) r.2 in
          (0, s, r.0, (omega arith), refl, r.1, ap (λ (i : Item). i.0) r.2)
      | inr b ↦
          let r = item_at (n + 1) ss k t b in
          let e : t ≡ n + 1 + r.0 = r.3 in
          (suc r.0, r.1, r.2, (omega arith), r.4, r.5, r.6)
    ]

pub at_item : (n : ℕ) (sets : Sets) (i : ℕ) (s : PendingSet) (c : Pending) → slice_get sets i ≡ Some s → In c s.commits
    → In (let x : Item = (c.destination, n + i) in x) (items_from n sets)
at_item n [] i s c e m = absurd (cc)
at_item n (x ∷ xs) zero s c e m =
    let S : PendingSet → Type 0 = λ v. In c v.commits in
    let z : n ≡ n + 0 = omega arith in
    let P : ℕ → Type 0 = λ t. In (let y : Item = (c.destination, t) in y) (items_from n (x ∷ xs)) in
    subst P z (in_left (c.destination, n) (map (λ c. (c.destination, n)) x.commits) (items_from (n + 1) xs)
    (map_in {X = Pending} {Y = Item} (λ c. (c.destination, n)) x.commits c (subst S (sym (some_is e)) m)))
at_item n (x ∷ xs) (suc i) s c e m =
    let z : n + 1 + i ≡ n + suc i = omega arith in
    let P : ℕ → Type 0 = λ t. In (let y : Item = (c.destination, t) in y) (items_from n (x ∷ xs)) in
    subst P z (in_right (c.destination, n + 1 + i) (map (λ c. (c.destination, n)) x.commits) (items_from (n + 1) xs)
    (at_item (n + 1) xs i s c e m))

-- The wanted paths, in order.
pub wanted_ordered : (j : Job) (sets : Sets) → AreRead j sets → length sets ≡ j.tasks
    → ordered (paths_below j.dest (all_commits sets)) ≡ wanted_paths (read_script j sets) (picks_of sets)
wanted_ordered j sets each all = ap ordered (sym (wanted_are j sets each all))

-- ---- the marker's paths, from the last upload on

paths_none : (dest : Path) (all : List Pending) (n : ℕ) → n ≡ length all → [] ≡ ordered (paths_below dest (drop n all))
paths_none dest all n e = ap (λ v. ordered (paths_below dest v)) (sym (drop_of_length-le all {i = n} (omega arith)))

pub paths_begin : (dest : Path) (sets : Sets) (places : List Place) (keys : List (List ℕ)) → places ≡ places_from 0 sets → keys ≡ []
    → keys ≡ ordered (paths_below dest (drop (length places) (all_commits sets)))
paths_begin dest sets places keys e f = f ∙ paths_none dest (all_commits sets) (length places) (ap length e ∙ places_length 0 sets)

pub path_within : (sets : Sets) (places : List Place) (n : ℕ) → places ≡ places_from 0 sets → n < length places
    → n < length (all_commits sets)
path_within sets places n e h = let f : length places ≡ length (all_commits sets) = ap length e ∙ places_length 0 sets in omega arith

pub paths_more : (dest : Path) (sets : Sets) (n m : ℕ) (keys new : List (List ℕ)) (path d : List ℕ) (u : Pending)
    → n < length (all_commits sets) → m ≡ n + 1 → keys ≡ ordered (paths_below dest (drop m (all_commits sets)))
    → new ≡ insert_key text_cmp keys path → path ≡ relative_of dest d → d ≡ u.destination → u ≡ nth (all_commits sets) n
    → new ≡ ordered (paths_below dest (drop n (all_commits sets)))
paths_more dest sets n m keys new path d u h g e f p q r = grind (arith, drop_nth)

-- ---- requests

pub get_asked : {E : Type 0} (r : Result Request E) (b c k l : List ℕ) → IfOk r (λ q. q ≡ GetObject b k) → b ≡ c → k ≡ l
    → IfOk r (λ q. q ≡ GetObject c l)
get_asked r b c k l h g e = grind arith

pub cluster_asked : {E : Type 0} (r : Result Request E) (k l : List ℕ) → IfOk r (λ q. q ≡ ClusterGet k) → k ≡ l
    → IfOk r (λ q. q ≡ ClusterGet l)
cluster_asked r k l h e = let K : List ℕ → Type 0 = λ v. IfOk r (λ q. q ≡ ClusterGet v) in subst K e h

pub wanted_listed : {E : Type 0} (r : Result (List (List ℕ)) E) (j : Job) (sets : Sets) (places : List Place) (keys : List (List ℕ))
    → IfOk r (λ l. l ≡ keys) → keys ≡ ordered (paths_below j.dest (all_commits sets)) → HasAll j sets places
    → IfOk r (λ l. l ≡ wanted_paths (read_script j sets) (picks_of sets))
wanted_listed r j sets places keys h g all =
    IfOk-weaker r (λ l. l ≡ keys) (λ l. l ≡ wanted_paths (read_script j sets) (picks_of sets))
    (λ l e. e ∙ (g ∙ wanted_ordered j sets all.each all.all)) h

-- The read of a set for this committer.
pub stored_asked : {E : Type 0} (r : Result Request E) (j : Job) (t : ℕ) (c : Committer) → c ≡ Magic → c ≡ j.committer
    → IfOk r (λ q. q ≡ GetObject j.dest.bucket (layout.set_key j.dest.key j.job t))
    → IfOk r (λ q. q ≡ set_request j.committer (job_script j) t)
stored_asked r j t c m e h = let P : Committer → Type 0 = λ x. IfOk r (λ q. q ≡ set_request x (job_script j) t) in subst P (sym m ∙ e) h

pub staged_asked : {E : Type 0} (r : Result Request E) (j : Job) (t : ℕ) (c : Committer) → (c ≡ Magic → ⊥) → c ≡ j.committer
    → IfOk r (λ q. q ≡ ClusterGet (layout.staged_set_path j.job t)) → IfOk r (λ q. q ≡ set_request j.committer (job_script j) t)
staged_asked r j t c h g e = grind arith

pub mark_put : {E : Type 0} (r : Result Request E) (j : Job) (sets : Sets) (bucket key bytes job : List ℕ) (files : List (List ℕ))
    → IfOk r (λ q. q ≡ PutObject bucket key bytes None) → bucket ≡ j.dest.bucket → key ≡ layout.success_key j.dest.key
    → bytes ≡ compact_text (success_tree (record { job = job; committer = j.committer; files = files; stamp = j.stamp })) → job ≡ j.job
    → files ≡ wanted_paths (read_script j sets) (picks_of sets)
    → IfOk r (λ q. Some q ≡ commit_asks (read_script j sets) (Marking sets 0))
mark_put r j sets bucket key bytes job files h g e f p q = grind arith
