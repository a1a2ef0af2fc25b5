-- If no two chosen attempts write the same path, their uploads go to different keys.
use Rattle.commit_lanes.proofs.Placing.{nth_get, nth_left, nth_right}
use Rattle.commit_lanes.proofs.SamePaths.{item_writes}
use Rattle.commit_lanes.specs.Clashes.{Item, NoClash, items_from}
use Rattle.commit_lanes.specs.ReadSets.{AreRead}
use Rattle.commit_lanes.specs.Relatives.{relative_of}
use Rattle.job_model.specs.Jobs.{Job}
use Rattle.job_protocol.proofs.LaneEnds.{requests_apart}
use Rattle.job_protocol.proofs.Members.{in_append, in_left, in_right, map_in}
use Rattle.job_protocol.proofs.Shared.{shared_none}
use Rattle.job_protocol.specs.AtWork.{read_script}
use Rattle.job_protocol.specs.JobCommits.{Sets, all_commits, picks_of}
use Rattle.job_protocol.specs.LaneTable.{In, RequestsApart}
use Rattle.job_protocol.specs.Lanes.{nth}
use Rattle.job_protocol.specs.Outputs.{same_path}
use Rattle.pending_json.specs.Pending.{Pending}
use Rattle.pending_json.specs.declared.records.PendingSet.{PendingSet}
use Rattle.std.proofs.Common.{List, None, Some, ap, arith, inl, inr, length, length-append, map, refl, slice_get, subst, suc, sym, zero, ℕ}
use Rattle.std.proofs.Common.{[], ◌++◌, ◌+◌, ◌-◌, ◌<◌, ◌∙◌, ◌∷◌, ◌≡◌, ◌≤◌}
use Rattle.std.proofs.lemmas.Bool.{cases_lt}

-- Two uploads of a set go to different keys.
abbrev SetsApart : Sets → Type 0
SetsApart sets = (i : ℕ) (s : PendingSet) → slice_get sets i ≡ Some s → (m n : ℕ) (c d : Pending) → slice_get s.commits m ≡ Some c
    → slice_get s.commits n ≡ Some d → c.destination ≡ d.destination → m ≡ n

in_nth : (ps : List Pending) (n : ℕ) → n < length ps → In (nth ps n) ps
in_nth [] n h = absurd (omega arith)
in_nth (p ∷ ps) zero h = inl refl
in_nth (p ∷ ps) (suc n) h = inr (in_nth ps n (omega arith))

-- An upload of later sets belongs to a later task.
later_item : (k : ℕ) (sets : Sets) (c : Pending) → In c (all_commits sets) → (t : ℕ) × (k ≤ t)
    × In (let i : Item = (c.destination, t) in i) (items_from k sets)
later_item k [] c h = absurd h
later_item k (s ∷ ss) c h = elim (in_append c s.commits (all_commits ss) h) [
  | inl a ↦ (
    k,
    (omega arith),
    in_left (c.destination, k) (map (λ c. (c.destination, k)) s.commits) (items_from (k + 1) ss)
        (map_in {X = Pending} {Y = Item} (λ c. (c.destination, k)) s.commits c a),
  )
  | inr b ↦ let r = later_item (k + 1) ss c b in let l : k + 1 ≤ r.0 = r.1 in
      (r.0, (omega arith), in_right (c.destination, r.0) (map (λ c. (c.destination, k)) s.commits) (items_from (k + 1) ss) r.2)
]

-- An upload of this set and one of a later set go to different keys.
never : (k : ℕ) (s : PendingSet) (ss : Sets) (c d : Pending) → NoClash (items_from k (s ∷ ss)) → In c s.commits → In d (all_commits ss)
    → c.destination ≡ d.destination → ⊥
never k s ss c d absent i j e =
    let r = later_item (k + 1) ss d j in
    let l : k + 1 ≤ r.0 = r.1 in
    let P : List ℕ → Type 0 = λ v. In (let x : Item = (v, r.0) in x) (items_from (k + 1) ss) in
    absent c.destination k r.0 (omega arith) (in_left (c.destination, k) (map (λ c. (c.destination, k)) s.commits) (items_from (k + 1) ss)
    (map_in {X = Pending} {Y = Item} (λ c. (c.destination, k)) s.commits c i))
    (in_right (c.destination, r.0) (map (λ c. (c.destination, k)) s.commits) (items_from (k + 1) ss) (subst P (sym e) r.2))

keys_apart : (k : ℕ) (sets : Sets) → SetsApart sets → NoClash (items_from k sets) → (m n : ℕ) → m < length (all_commits sets)
    → n < length (all_commits sets) → (nth (all_commits sets) m).destination ≡ (nth (all_commits sets) n).destination → m ≡ n
keys_apart k [] apart absent m n low high e = absurd (omega arith)
keys_apart k (s ∷ ss) apart absent m n low high e =
    let all : length (s.commits ++ all_commits ss) ≡ length s.commits + length (all_commits ss) = length-append s.commits (all_commits ss)
    in
    let rest : NoClash (items_from (k + 1) ss) = λ q v x l i j. absent q v x l
    (in_right (q, v) (map (λ c. (c.destination, k)) s.commits) (items_from (k + 1) ss) i)
    (in_right (q, x) (map (λ c. (c.destination, k)) s.commits) (items_from (k + 1) ss) j) in
    elim (cases_lt m (length s.commits)) [
      | inl a ↦ elim (cases_lt n (length s.commits)) [
        | inl b ↦ apart 0 s refl m n (nth s.commits m) (nth s.commits n) (nth_get s.commits m a) (nth_get s.commits n b)
            (ap (λ (v : Pending). v.destination) (sym (nth_left s.commits (all_commits ss) m a)) ∙ e ∙ ap (λ (v : Pending). v.destination)
            (nth_left s.commits (all_commits ss) n b))
        | inr b ↦ absurd (never k s ss (nth s.commits m) (nth (all_commits ss) (n - length s.commits)) absent (in_nth s.commits m a)
            (in_nth (all_commits ss) (n - length s.commits) (omega arith))
            (ap (λ (v : Pending). v.destination) (sym (nth_left s.commits (all_commits ss) m a)) ∙ e ∙ ap (λ (v : Pending). v.destination)
            (nth_right s.commits (all_commits ss) n b)))
      ]
      | inr a ↦ elim (cases_lt n (length s.commits)) [
        | inl b ↦ absurd (never k s ss (nth s.commits n) (nth (all_commits ss) (m - length s.commits)) absent (in_nth s.commits n b)
            (in_nth (all_commits ss) (m - length s.commits) (omega arith))
            (ap (λ (v : Pending). v.destination) (sym (nth_left s.commits (all_commits ss) n b)) ∙ sym e ∙ ap
            (λ (v : Pending). v.destination) (nth_right s.commits (all_commits ss) m a)))
        | inr b ↦
            let r : m - length s.commits ≡ n - length s.commits = keys_apart (k + 1) ss (λ i x g. apart (suc i) x g) rest
            (m - length s.commits) (n - length s.commits) (omega arith) (omega arith)
            (ap (λ (v : Pending). v.destination) (sym (nth_right s.commits (all_commits ss) m a)) ∙ e ∙ ap (λ (v : Pending). v.destination)
            (nth_right s.commits (all_commits ss) n b)) in
            omega arith
      ]
    ]

-- If no two tasks write the same path, no two of the uploads go to the same key.
no_clash : (j : Job) (sets : Sets) → AreRead j sets → length sets ≡ j.tasks → same_path (read_script j sets) (picks_of sets) ≡ None
    → NoClash (items_from 0 sets)
no_clash j sets each all none = λ q v x less a b.
    let f = item_writes j sets q v each a in
    let g = item_writes j sets q x each b in
    let l : x < j.tasks = (let l : x < length sets = g.within in omega arith) in
    shared_none (read_script j sets) (picks_of sets) none (relative_of j.dest q) v x less l f.writes_it g.writes_it

pub sets_apart : (j : Job) (sets : Sets) → AreRead j sets → length sets ≡ j.tasks → same_path (read_script j sets) (picks_of sets) ≡ None
    → RequestsApart sets
sets_apart j sets each all none = requests_apart sets (keys_apart 0 sets (λ i s g. (each i s g).apart) (no_clash j sets each all none))
