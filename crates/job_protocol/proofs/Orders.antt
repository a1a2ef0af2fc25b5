-- The head of the table is the next upload, in terms of numbers.
use Rattle.job_model.specs.JobScript.{Script}
use Rattle.job_protocol.proofs.LaneTables.{Begins, either_so, fetched_so, fetching_so, swept_so, tabled_start, tabled_tells}
use Rattle.job_protocol.proofs.Members.{in_push}
use Rattle.job_protocol.proofs.Tables.{after_low, follow_cases, in_first, not_done}
use Rattle.job_protocol.specs.JobCommits.{Commit, Completing, Fetching, Replacing, Reverting, Sets, all_commits, commit_hears}
use Rattle.job_protocol.specs.JobCommits.{commit_misses, commit_start, commit_tells, completing, is_no_magic, reverting, set_read}
use Rattle.job_protocol.specs.LaneOrder.{IsNext, after_lane, distance, lane_after, next_lane}
use Rattle.job_protocol.specs.LaneTable.{After, In, Table, Tabled, ahead}
use Rattle.job_protocol.specs.Lanes.{Turn, dealt, first_turns, follow, fresh_turn}
use Rattle.list_walk.specs.Walks.{sweep_hears}
use Rattle.retries.specs.Operation.{run}
use Rattle.s3_types.specs.declared.journal.Entry.{Entry}
use Rattle.s3_types.specs.declared.journal.Outcome.{Outcome}
use Rattle.s3_types.specs.declared.reply.Reply.{Reply}
use Rattle.s3_types.specs.declared.request.Request.{Request}
use Rattle.std.proofs.Common.{Bool, List, None, ap, append-nil, arith, inl, inr, length, min, mod-eq_of_lt, mod-lt, refl, subst, suc, sym}
use Rattle.std.proofs.Common.{zero, ℕ, [], ◌%◌, ◌++◌, ◌+◌, ◌<◌, ◌∙◌, ◌∷◌, ◌≡◌, ◌≤◌}
use Rattle.std.proofs.Math.Nat.{add-mod_right}
use Rattle.std.proofs.lemmas.Bool.Decides.{nat_tests}

-- Holds if the turns are in this order.
abbrev InOrder : ℕ → ℕ → List Turn → Type 0
InOrder lanes from [] = Unit {0}
InOrder lanes from (x ∷ xs) = ((y : Turn) → In y xs → distance lanes from (x.number % lanes) < distance lanes from (y.number % lanes))
    × InOrder lanes from xs

abbrev Ordered : Script → ℕ → Commit → Type 0
Ordered w from (Completing sets x xs done) = (from < w.lanes) × InOrder w.lanes from (x ∷ xs)
Ordered w from (Fetching sets m) = from ≡ 0
Ordered w from (Replacing sets p ps s m) = from ≡ 0
Ordered w from _ = Unit {0}

-- ---- lanes by remainders

lane_ahead : (lanes a k : ℕ) → ahead lanes a k % lanes ≡ a % lanes
lane_ahead lanes a zero = refl
lane_ahead lanes a (suc k) = add-mod_right (ahead lanes a k) lanes ∙ lane_ahead lanes a k

lane_after_is : (lanes a n : ℕ) → After lanes a n → a % lanes ≡ n % lanes
lane_after_is lanes a n h = sym (lane_ahead lanes a h.0) ∙ ap (λ v. v % lanes) h.1

-- ---- distances

later_both : (lanes t a b c : ℕ) → t < lanes → a < lanes → b < lanes → c < lanes → distance lanes t a < distance lanes t b
    → distance lanes t b < distance lanes t c → distance lanes (after_lane lanes a) b < distance lanes (after_lane lanes a) c
later_both lanes t a b c h i j k l m = grind (arith, nat_tests)

-- The lane that just sent comes last.
last_lane : (lanes t a b : ℕ) → t < lanes → a < lanes → b < lanes → distance lanes t a < distance lanes t b
    → distance lanes (after_lane lanes a) b < distance lanes (after_lane lanes a) a
last_lane lanes t a b h i j l = grind (arith, nat_tests)

after_within : (lanes a : ℕ) → a < lanes → after_lane lanes a < lanes
after_within lanes a h = grind (arith, nat_tests)

order_push : (lanes t : ℕ) (xs : List Turn) (y : Turn) → InOrder lanes t xs
    → ((x : Turn) → In x xs → distance lanes t (x.number % lanes) < distance lanes t (y.number % lanes)) → InOrder lanes t (xs ++ y ∷ [])
order_push lanes t [] y o h = (λ z i. absurd i, tt)
order_push lanes t (x ∷ xs) y o h = (
  λ z i. elim (in_push z xs y i) [
    | inl j ↦ o.0 z j
    | inr e ↦ let P : Turn → Type 0 = λ v. distance lanes t (x.number % lanes) < distance lanes t (v.number % lanes) in subst P e
        (h x (inl refl))
  ],
  order_push lanes t xs y o.1 (λ z i. h z (inr i)),
)

-- The other lanes keep their order.
order_later : (lanes t a : ℕ) (xs : List Turn) → 0 < lanes → t < lanes → a < lanes
    → ((y : Turn) → In y xs → distance lanes t a < distance lanes t (y.number % lanes)) → InOrder lanes t xs
    → InOrder lanes (after_lane lanes a) xs
order_later lanes t a [] some h i first o = tt
order_later lanes t a (x ∷ xs) some h i first o = (
  λ y j. later_both lanes t a (x.number % lanes) (y.number % lanes) h i (mod-lt x.number some) (mod-lt y.number some) (first x (inl refl))
      (o.0 y j),
  order_later lanes t a xs some h i (λ y j. first y (inr j)) o.1,
)

-- The lane that just sent goes to the end.
order_again : (lanes t : ℕ) (x y : Turn) (xs : List Turn) → 0 < lanes → t < lanes → y.number % lanes ≡ x.number % lanes
    → InOrder lanes t (x ∷ xs) → InOrder lanes (after_lane lanes (x.number % lanes)) (xs ++ y ∷ [])
order_again lanes t x y xs h g e f = grind (arith, order_push, order_later, last_lane)

order_first : (lanes m : ℕ) → m ≤ lanes → InOrder lanes 0 (first_turns m)
order_first lanes zero h = tt
order_first lanes (suc m) h = order_push lanes 0 (first_turns m) (fresh_turn m) (order_first lanes m (omega arith)) (λ x i.
    let low : x.number < m = (in_first m x i).0 in
    let a : x.number % lanes ≡ x.number = mod-eq_of_lt (omega arith) in
    let b : m % lanes ≡ m = mod-eq_of_lt (omega arith) in
    grind (arith, nat_tests, a, b, low))

-- ---- the table is in order

ordered_completing : (w : Script) (from : ℕ) (sets : Sets) (xs : List Turn) (done : List ℕ) → from < w.lanes → InOrder w.lanes from xs
    → Ordered w from (completing sets xs done)
ordered_completing w from sets xs done h o = grind arith

ordered_reverting : (w : Script) (from : ℕ) (qs : List Request) → Ordered w from (reverting qs)
ordered_reverting w from qs = grind arith

begins : (w : Script) → 0 < w.lanes → Begins w (Ordered w 0)
begins w some = record {
  reads = λ sets. refl;
  deletes = λ sets p ps s. refl;
  completes = λ sets. ordered_completing w 0 sets (dealt w.lanes (length (all_commits sets))) [] some
      (order_first w.lanes (min w.lanes (length (all_commits sets))) (omega arith));
  ends = λ p t u. tt;
}

ordered_follow : (lanes total t : ℕ) (x : Turn) (xs : List Turn) → 0 < lanes → t < lanes → InOrder lanes t (x ∷ xs)
    → InOrder lanes (after_lane lanes (x.number % lanes)) (xs ++ follow lanes total x.number)
ordered_follow lanes total t x xs some h o =
    let P : List Turn → Type 0 = λ v. InOrder lanes (after_lane lanes (x.number % lanes)) (xs ++ v) in
    let Q : List Turn → Type 0 = λ v. InOrder lanes (after_lane lanes (x.number % lanes)) v in
    elim (follow_cases lanes total x.number) [
      | inl i ↦ subst P (sym i.1) (order_again lanes t x (fresh_turn (x.number + lanes)) xs some h (add-mod_right x.number lanes) o)
      | inr i ↦ subst P (sym i.1) (subst Q (sym (append-nil xs)) (order_later lanes t (x.number % lanes) xs some h (mod-lt x.number some)
          o.0 o.1))
    ]

ordered_heard : (w : Script) (from : ℕ) (c : Commit) (r : Reply) → 0 < w.lanes → Ordered w from c
    → Ordered w (next_lane w.lanes from c) (commit_hears w c r)
ordered_heard w from (Fetching sets m) r some o = rw o (fetched_so w (Ordered w 0) (begins w some) sets (set_read r))
ordered_heard w from (Replacing sets p ps s m) r some o = rw o (swept_so w (Ordered w 0) (begins w some) sets p ps
    (sweep_hears (is_no_magic w) s r))
ordered_heard w from (Completing sets x xs done) r some o =
    ordered_completing w (after_lane w.lanes (x.number % w.lanes)) sets (xs ++ follow w.lanes (length (all_commits sets)) x.number)
    (x.number ∷ done) (after_within w.lanes (x.number % w.lanes) (mod-lt x.number some))
    (ordered_follow w.lanes (length (all_commits sets)) from x xs some o.0 o.1)
ordered_heard w from (Reverting q qs m) r some o = ordered_reverting w from qs
ordered_heard w from _ r some o = tt

ordered_missed : (w : Script) (from : ℕ) (c : Commit) (lost : Bool) → 0 < w.lanes → Ordered w from c
    → Ordered w (next_lane w.lanes from c) (commit_misses w c lost)
ordered_missed w from c lost h g = grind (arith, either_so, ordered_completing, after_within, order_again, ordered_reverting)

ordered_tells : (w : Script) (from : ℕ) (c : Commit) (o : Outcome) → 0 < w.lanes → Ordered w from c
    → Ordered w (next_lane w.lanes from c) (commit_tells w c o)
ordered_tells w from c o h g = grind (arith, ordered_heard, ordered_missed)

ordered_run : (w : Script) (es : List Entry) (c : Commit) (from : ℕ) → 0 < w.lanes → Ordered w from c
    → Ordered w (lane_after w c from es) (run (commit_tells w) c es)
ordered_run w [] c from some o = o
ordered_run w (e ∷ es) c from some o = ordered_run w es (commit_tells w c e.outcome) (next_lane w.lanes from c) some
    (ordered_tells w from c e.outcome some o)

tabled_run : (w : Script) (es : List Entry) (c : Commit) → 0 < w.lanes → Tabled w c → Tabled w (run (commit_tells w) c es)
tabled_run w [] c some t = t
tabled_run w (e ∷ es) c some t = tabled_run w es (commit_tells w c e.outcome) some (tabled_tells w c e.outcome some t)

-- ---- the head is the next upload

head_is_next : (lanes retries total from : ℕ) (x : Turn) (xs : List Turn) (done : List ℕ) → 0 < lanes → InOrder lanes from (x ∷ xs)
    → Table lanes retries total (x ∷ xs) done → IsNext lanes total done from x.number
head_is_next lanes retries total from x xs done some o t =
    record {
      within = t.within x (inl refl);
      unanswered = not_done x t (inl refl);
      least = λ m low same. elim (t.cover m (let b : x.number < total = t.within x (inl refl) in omega arith)) [
        | inl d ↦ d
        | inr r ↦ elim r.1 [
          | inl e ↦ let n : r.0.number ≤ m = after_low lanes r.0.number m r.2 in let same : x.number ≡ r.0.number = ap
              (λ (v : Turn). v.number) e in absurd (omega arith)
          | inr j ↦ let b : distance lanes from (x.number % lanes) < distance lanes from (r.0.number % lanes) = o.0 r.0 j in
              let e : distance lanes from (r.0.number % lanes) ≡ distance lanes from (x.number % lanes) = ap (distance lanes from)
              (lane_after_is lanes r.0.number m r.2 ∙ same) in absurd (omega arith)
        ]
      ];
      nearest = λ m low undone. elim (t.cover m low) [
        | inl d ↦ absurd (undone d)
        | inr r ↦
            let e : distance lanes from (r.0.number % lanes) ≡ distance lanes from (m % lanes) = ap (distance lanes from)
            (lane_after_is lanes r.0.number m r.2) in
            elim r.1 [
              | inl i ↦ let f : distance lanes from (x.number % lanes) ≡ distance lanes from (r.0.number % lanes) = ap
                  (λ (v : Turn). distance lanes from (v.number % lanes)) i in omega arith
              | inr j ↦ let b : distance lanes from (x.number % lanes) < distance lanes from (r.0.number % lanes) = o.0 r.0 j in omega arith
            ]
      ];
    }

-- The driver completes next the next upload in the cyclic order of the lanes.
pub sends_in_order : (w : Script) → 0 < w.lanes → (es : List Entry) (sets : Sets) (x : Turn) (xs : List Turn) (done : List ℕ)
    → run (commit_tells w) (commit_start w None) es ≡ Completing sets x xs done
    → IsNext w.lanes (length (all_commits sets)) done (lane_after w (commit_start w None) 0 es) x.number
sends_in_order w some es sets x xs done is =
    let from = lane_after w (commit_start w None) 0 es in
    let O : Commit → Type 0 = λ v. Ordered w from v in
    let T : Commit → Type 0 = λ v. Tabled w v in
    let o : (from < w.lanes) × InOrder w.lanes from (x ∷ xs) = subst O is (ordered_run w es (commit_start w None) 0 some
    (fetching_so w (Ordered w 0) (begins w some) [])) in
    let t : Table w.lanes w.retries (length (all_commits sets)) (x ∷ xs) done = subst T is
    (tabled_run w es (commit_start w None) some (tabled_start w None some)) in
    head_is_next w.lanes w.retries (length (all_commits sets)) from x xs done some o.1 t
