-- The places of uploads.
use Rattle.text_and_lists.proofs.Lists.{get_left}
use Rattle.commit_lanes.specs.Places.{places_from, row}
use Rattle.commit_lanes.specs.declared.places.Place.{Place}
use Rattle.job_protocol.specs.JobCommits.{Sets, all_commits}
use Rattle.job_protocol.specs.Lanes.{nth}
use Rattle.pending_json.specs.Pending.{Pending}
use Rattle.pending_json.specs.declared.records.PendingSet.{PendingSet}
use Rattle.std.proofs.Common.{List, Some, ap, arith, get_or, inl, inr, length, length-append, refl, slice_get, subst, suc, sym, zero, ℕ, []}
use Rattle.std.proofs.Common.{◌++◌, ◌+◌, ◌-◌, ◌<◌, ◌∙◌, ◌∷◌, ◌≡◌, ◌≤◌}
use Rattle.std.proofs.lemmas.Bool.{cases_lt}
use Rattle.std.proofs.lemmas.Option.{get_or_from_slice_get, slice_get_within}

-- An upload is at this place.
pub record IsAt (n : ℕ) (sets : Sets) (p : Place) (c : Pending) : Type 0 where
  pub set : PendingSet
  pub low : n ≤ p.set
  pub there : slice_get sets (p.set - n) ≡ Some set
  pub upload : slice_get set.commits p.index ≡ Some c

pub row_length : (set n : ℕ) → length (row set n) ≡ n
row_length set zero = refl
row_length set (suc n) = length-append (row set n) (record { set = set; index = n } ∷ []) ∙
    (let e : length (row set n) ≡ n = row_length set n in omega arith)

same_get : {X : Type 0} (xs : List X) (m n : ℕ) → m ≡ n → slice_get xs m ≡ slice_get xs n
same_get xs m n e = ap (slice_get xs) e

get_right : {X : Type 0} (xs ys : List X) (n : ℕ) → length xs ≤ n → slice_get (xs ++ ys) n ≡ slice_get ys (n - length xs)
get_right [] ys n h = same_get ys n (n - 0) (omega arith)
get_right (x ∷ xs) ys zero h = absurd (omega arith)
get_right (x ∷ xs) ys (suc n) h = get_right xs ys n (omega arith) ∙ same_get ys (n - length xs) (suc n - suc (length xs)) (omega arith)

row_get : (set n k : ℕ) → k < n → slice_get (row set n) k ≡ Some (record { set = set; index = k })
row_get set zero k h = absurd (omega arith)
row_get set (suc n) k h = elim (cases_lt k n) [
  | inl l ↦ get_left (row set n) (record { set = set; index = n } ∷ []) k (record { set = set; index = k }) (row_get set n k l)
  | inr g ↦
      let e : k ≡ n = omega arith in
      let len : length (row set n) ≡ n = row_length set n in
      get_right (row set n) (record { set = set; index = n } ∷ []) k (omega arith) ∙ same_get (record { set = set; index = n } ∷ [])
      (k - length (row set n)) 0 (omega arith) ∙ ap (λ i. Some (let p : Place = record { set = set; index = i } in p)) (sym e)
]

pub nth_get : (ps : List Pending) (n : ℕ) → n < length ps → slice_get ps n ≡ Some (nth ps n)
nth_get [] n h = absurd (omega arith)
nth_get (p ∷ ps) zero h = refl
nth_get (p ∷ ps) (suc n) h = nth_get ps n (omega arith)

same_nth : (xs : List Pending) (m n : ℕ) → m ≡ n → nth xs m ≡ nth xs n
same_nth xs m n e = ap (nth xs) e

pub nth_left : (xs ys : List Pending) (n : ℕ) → n < length xs → nth (xs ++ ys) n ≡ nth xs n
nth_left [] ys n h = absurd (omega arith)
nth_left (x ∷ xs) ys zero h = refl
nth_left (x ∷ xs) ys (suc n) h = nth_left xs ys n (omega arith)

pub nth_right : (xs ys : List Pending) (n : ℕ) → length xs ≤ n → nth (xs ++ ys) n ≡ nth ys (n - length xs)
nth_right [] ys n h = same_nth ys n (n - 0) (omega arith)
nth_right (x ∷ xs) ys zero h = absurd (omega arith)
nth_right (x ∷ xs) ys (suc n) h = nth_right xs ys n (omega arith) ∙ same_nth ys (n - length xs) (suc n - suc (length xs)) (omega arith)

-- Each upload has its place.
pub placed_at : (k : ℕ) (sets : Sets) (n : ℕ) → n < length (all_commits sets) → (p : Place) × (slice_get (places_from k sets) n ≡ Some p)
    × IsAt k sets p (nth (all_commits sets) n)
placed_at k [] n h = absurd (omega arith)
placed_at k (s ∷ ss) n h =
    let len : length (row k (length s.commits)) ≡ length s.commits = row_length k (length s.commits) in
    let all : length (s.commits ++ all_commits ss) ≡ length s.commits + length (all_commits ss) = length-append s.commits (all_commits ss)
    in
    elim (cases_lt n (length s.commits)) [
      | inl l ↦ (
        record { set = k; index = n },
        get_left (row k (length s.commits)) (places_from (k + 1) ss) n (record { set = k; index = n }) (row_get k (length s.commits) n l),
        record {
          set = s;
          low = omega arith;
          there = same_get (s ∷ ss) (k - k) 0 (omega arith);
          upload = nth_get s.commits n l ∙ ap Some (sym (nth_left s.commits (all_commits ss) n l));
        },
      )
      | inr g ↦
          let r = placed_at (k + 1) ss (n - length s.commits) (omega arith) in
          let low : k + 1 ≤ r.0.set = r.2.low in (
            r.0,
            get_right (row k (length s.commits)) (places_from (k + 1) ss) n (omega arith) ∙ same_get (places_from (k + 1) ss)
                (n - length (row k (length s.commits))) (n - length s.commits) (omega arith) ∙ r.1,
            record {
              set = r.2.set;
              low = omega arith;
              there = same_get (s ∷ ss) (r.0.set - k) (suc (r.0.set - (k + 1))) (omega arith) ∙ r.2.there;
              upload = r.2.upload ∙ ap Some (sym (nth_right s.commits (all_commits ss) n g));
            },
          )
    ]

-- There are as many places as uploads.
pub places_length : (k : ℕ) (sets : Sets) → length (places_from k sets) ≡ length (all_commits sets)
places_length k [] = refl
places_length k (s ∷ ss) =
    length-append (row k (length s.commits)) (places_from (k + 1) ss)
    ∙ (let a : length (row k (length s.commits)) ≡ length s.commits = row_length k (length s.commits) in
    let b : length (places_from (k + 1) ss) ≡ length (all_commits ss) = places_length (k + 1) ss in
    let c : length (row k (length s.commits)) + length (places_from (k + 1) ss) ≡ length s.commits + length (all_commits ss) = omega arith
    in
    c)
    ∙ sym (length-append s.commits (all_commits ss))

-- The entries of the tables of places, of sets and of a set's uploads for upload `n`.
record PlacedHere (sets : Sets) (places : List Place) (n : ℕ) (p : Place) : Type 0 where
  pub within : n < length places
  pub held : PendingSet
  pub there : slice_get sets p.set ≡ Some held
  pub upload : slice_get held.commits p.index ≡ Some (nth (all_commits sets) n)

placed_here : (sets : Sets) (places : List Place) (n : ℕ) (p : Place) → places ≡ places_from 0 sets → n < length (all_commits sets)
    → p ≡ get_or places n p → PlacedHere sets places n p
placed_here sets places n p e h i =
    let r = placed_at 0 sets n h in
    let there : slice_get places n ≡ Some r.0 = ap (λ v. slice_get v n) e ∙ r.1 in
    let same : r.0 ≡ p = sym (get_or_from_slice_get places n r.0 p there) ∙ sym i in
    let P : Place → Type 0 = λ v. PlacedHere sets places n v in
    subst P same (record {
      within = slice_get_within places n r.0 there;
      held = r.2.set;
      there = same_get sets r.0.set (r.0.set - 0)
          (omega arith) ∙ r.2.there;
      upload = r.2.upload;
    })

pub set_within : (sets : Sets) (places : List Place) (n : ℕ) (p : Place) → places ≡ places_from 0 sets → n < length (all_commits sets)
    → p ≡ get_or places n p → p.set < length sets
set_within sets places n p e h i = let r = placed_here sets places n p e h i in slice_get_within sets p.set r.held r.there

held_is : (sets : Sets) (places : List Place) (n : ℕ) (p : Place) (s : PendingSet) → (r : PlacedHere sets places n p)
    → s ≡ get_or sets p.set s → r.held ≡ s
held_is sets places n p s r g = sym (get_or_from_slice_get sets p.set r.held s r.there) ∙ sym g

pub upload_within : (sets : Sets) (places : List Place) (n : ℕ) (p : Place) (s : PendingSet) → places ≡ places_from 0 sets
    → n < length (all_commits sets) → p ≡ get_or places n p → s ≡ get_or sets p.set s → p.index < length s.commits
upload_within sets places n p s e h i g =
    let r = placed_here sets places n p e h i in
    let L : PendingSet → Type 0 = λ v. p.index < length v.commits in
    subst L (held_is sets places n p s r g) (slice_get_within r.held.commits p.index (nth (all_commits sets) n) r.upload)

pub upload_is : (sets : Sets) (places : List Place) (n : ℕ) (p : Place) (s : PendingSet) (c : Pending) → places ≡ places_from 0 sets
    → n < length (all_commits sets) → p ≡ get_or places n p → s ≡ get_or sets p.set s → c ≡ get_or s.commits p.index c
    → c ≡ nth (all_commits sets) n
upload_is sets places n p s c e h i g k =
    let r = placed_here sets places n p e h i in
    let G : PendingSet → Type 0 = λ v. slice_get v.commits p.index ≡ Some (nth (all_commits sets) n) in
    k ∙ get_or_from_slice_get s.commits p.index (nth (all_commits sets) n) c (subst G (held_is sets places n p s r g) r.upload)
