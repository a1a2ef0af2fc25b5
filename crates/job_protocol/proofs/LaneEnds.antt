-- The counters of a job's commit agree with its entries, and it ends by its first request that ran out of retries.
use Rattle.text_and_lists.proofs.Members.{none_some, some_is, true_or_false}
use Rattle.job_model.specs.JobScript.{Script}
use Rattle.job_model.specs.declared.ends.CommitEnd.{CommitEnd}
use Rattle.job_model.specs.declared.ends.FaultStage.{FaultStage}
use Rattle.job_protocol.proofs.Hands.{Counted, HeldRequest, Quiet, hand_heard, hand_missed, hand_worn, quiet_at_first, quiet_counted}
use Rattle.job_protocol.proofs.Hands.{quiet_heard}
use Rattle.job_protocol.proofs.Hands.{worn_first_still}
use Rattle.job_protocol.proofs.LaneTables.{Begins, either_so, fetched_so, fetching_so, swept_so, tabled_start, tabled_tells}
use Rattle.job_protocol.proofs.Members.{in_map}
use Rattle.job_protocol.proofs.Tables.{dealt_fresh, follow_cases, lt_or_not, next_apart, numbers_apart}
use Rattle.job_protocol.specs.JobCommits.{Commit, CommitOver, Completing, Fetching, Marking, Replacing, Reverting, Sets, all_commits}
use Rattle.job_protocol.specs.JobCommits.{commit_asks, commit_hears, commit_misses, commit_over, commit_start, commit_tells, completing}
use Rattle.job_protocol.specs.JobCommits.{is_no_magic, picks_of, reverting, set_read, set_request, stage_of, worn_completion}
use Rattle.job_protocol.specs.LaneTable.{AllSound, In, RequestsApart, Sound, Table, Tabled}
use Rattle.job_protocol.specs.Lanes.{Turn, again, completion, follow, fresh_turn, nth, revert}
use Rattle.job_protocol.specs.OperationLaws.{EndIs}
use Rattle.job_protocol.specs.Records.{mark_text}
use Rattle.list_walk.specs.Walks.{Sweep, sweep_asks, sweep_hears}
use Rattle.retries.proofs.SameRequest.{same_is, same_self}
use Rattle.retries.specs.Operation.{Follows, run}
use Rattle.retries.specs.Same.{same_request}
use Rattle.retries.specs.Worn.{IsFirstWorn, NoneWorn, WornFirst, was_answered}
use Rattle.s3_types.specs.declared.journal.Entry.{Entry}
use Rattle.s3_types.specs.declared.journal.Outcome.{Outcome}
use Rattle.s3_types.specs.declared.reply.Reply.{Reply}
use Rattle.s3_types.specs.declared.request.Committer.{Committer}
use Rattle.s3_types.specs.declared.request.Request.{Request}
use Rattle.s3_types.specs.declared.request.Request.TheVariants.{CompleteUpload, PutObject}
use Rattle.std.proofs.Common.{Bool, List, None, Option, Some, ap, append-nil, append_assoc, arith, cond, false, inl, inr, length, map}
use Rattle.std.proofs.Common.{nat_lt, refl, subst, sym, true, ℕ, [], ◌++◌, ◌+◌, ◌<◌, ◌∙◌, ◌∷◌, ◌≡◌}
use Rattle.std.proofs.lemmas.List.{map-append}
use Rattle.magic_paths.specs.Layout as layout
use Rattle.job_model.specs.declared.ends.CommitEnd.TheVariants as commits
use Rattle.job_model.specs.declared.ends.FaultStage.TheVariants as stages

-- ---- the requests in progress

abbrev mark_request : Script → Sets → Request
mark_request w sets = PutObject w.dest.bucket (layout.success_key w.dest.key) (mark_text w (picks_of sets)) None

abbrev in_lane : Sets → Turn → HeldRequest
in_lane sets x = record { request = completion (nth (all_commits sets) x.number); missed = x.missed }

abbrev one : Request → ℕ → List HeldRequest
one r m = record { request = r; missed = m } ∷ []

abbrev hand : Script → Commit → List HeldRequest
hand w (Fetching sets m) = one (set_request w.committer w (length sets)) m
hand w (Replacing sets p ps s m) = one (sweep_asks w.dest.bucket p s) m
hand w (Completing sets x xs finished) = map (in_lane sets) (x ∷ xs)
hand w (Marking sets m) = one (mark_request w sets) m
hand w _ = []

-- Holds if a request of this stage is the first that ran out of retries.
abbrev WornAt : ℕ → List Entry → FaultStage → Type 0
WornAt retries es stage = (q : Request) × IsFirstWorn retries es q × (stage_of q ≡ stage)

abbrev EndsAs : ℕ → List Entry → CommitEnd → Type 0
EndsAs retries es (commits.StoreFault stage) = WornAt retries es stage
EndsAs retries es _ = NoneWorn retries es

-- Holds if the state of the commit agrees with its entries.
abbrev Agreed : Script → List Entry → Commit → Type 0
Agreed w es (Reverting q qs m) = WornAt w.retries es stages.Complete
Agreed w es (CommitOver end) = EndsAs w.retries es end
Agreed w es (Fetching sets m) = Counted w.retries es (hand w (Fetching sets m))
Agreed w es (Replacing sets p ps s m) = Counted w.retries es (hand w (Replacing sets p ps s m))
Agreed w es (Completing sets x xs finished) = Counted w.retries es (hand w (Completing sets x xs finished))
Agreed w es (Marking sets m) = Counted w.retries es (hand w (Marking sets m))

pub read_stage : (c : Committer) (w : Script) (t : ℕ) → stage_of (set_request c w t) ≡ stages.Read
read_stage c w t = grind arith

delete_stage : (bucket p : List ℕ) (s : Sweep) → stage_of (sweep_asks bucket p s) ≡ stages.Delete
delete_stage bucket p s = grind arith

-- ---- stages that begin without a missed send

zero_once : (r : Request) (k : HeldRequest) → In k (one r 0) → k.missed ≡ 0
zero_once r k i = elim i [ inl e ↦ sym (ap (λ (v : HeldRequest). v.missed) e) | inr n ↦ absurd n ]

agreed_completing : (w : Script) (es : List Entry) (sets : Sets) (xs : List Turn) (done : List ℕ)
    → Counted w.retries es (map (in_lane sets) xs) → Agreed w es (completing sets xs done)
agreed_completing w es sets xs done h = grind arith

begins : (w : Script) (es : List Entry) → Quiet w.retries es → Begins w (Agreed w es)
begins w es h = grind (arith, quiet_counted, zero_once, agreed_completing, in_map, HeldRequest, dealt_fresh)

-- ---- the other turns have other requests

lane_apart : (w : Script) (sets : Sets) {x : Turn} {xs : List Turn} {done : List ℕ} → RequestsApart sets
    → Table w.lanes w.retries (length (all_commits sets)) (x ∷ xs) done → (k : HeldRequest) → In k (map (in_lane sets) xs)
    → same_request k.request (in_lane sets x).request ≡ false
lane_apart w sets {x = x} {xs = xs} apart t k i =
    let r = in_map (in_lane sets) xs k i in
    let S : HeldRequest → Type 0 = λ v. same_request v.request (in_lane sets x).request ≡ false in
    subst S r.2 (elim (true_or_false (same_request (in_lane sets r.0).request (in_lane sets x).request)) [
      | inl e ↦ absurd (numbers_apart x r.0 t r.1 (sym (apart r.0.number x.number (t.within r.0 (inr r.1)) (t.within x (inl refl)) e)))
      | inr e ↦ e
    ])

-- ---- one send

agreed_reverting : (w : Script) (es : List Entry) (qs : List Request) → WornAt w.retries es stages.Complete → Agreed w es (reverting qs)
agreed_reverting w es qs h = grind arith

worn_still : {r : ℕ} {es : List Entry} {stage : FaultStage} (e : Entry) → WornAt r es stage → WornAt r (es ++ e ∷ []) stage
worn_still e h = (h.0, worn_first_still e h.1, h.2)

agreed_answered : (w : Script) (sets : Sets) (es : List Entry) (x : Turn) (xs : List Turn) (done : List ℕ) (e : Entry)
    → was_answered e.outcome ≡ true → e.request ≡ (in_lane sets x).request
    → Table w.lanes w.retries (length (all_commits sets)) (x ∷ xs) done → RequestsApart sets
    → Counted w.retries es (map (in_lane sets) (x ∷ xs))
    → Counted w.retries (es ++ e ∷ []) (map (in_lane sets) (xs ++ follow w.lanes (length (all_commits sets)) x.number))
agreed_answered w sets es x xs done e told is t apart c =
    let all = all_commits sets in
    let C : List HeldRequest → Type 0 = λ v. Counted w.retries (es ++ e ∷ []) v in
    let F : List Turn → Type 0 = λ v. Counted w.retries (es ++ e ∷ []) (map (in_lane sets) xs ++ map (in_lane sets) v) in
    let next : Turn = fresh_turn (x.number + w.lanes) in
    subst C (sym (map-append (in_lane sets) xs (follow w.lanes (length all) x.number)))
    (elim (follow_cases w.lanes (length all) x.number) [
      | inl h ↦ subst F (sym h.1) (hand_heard (in_lane sets next ∷ []) (in_lane sets x) e c is (same_self (in_lane sets x).request) told
          (lane_apart w sets apart t) (λ k i. elim i [
            | inl f ↦ let N : HeldRequest → Type 0 = λ v. (v.missed ≡ 0)
                × ((l : HeldRequest) → In l (map (in_lane sets) xs) → l.request ≡ v.request → ⊥) in
                subst N f (
                  refl,
                  λ l at eq.
                      let r = in_map (in_lane sets) xs l at in
                      let S : Request → Type 0 = λ v. same_request (in_lane sets next).request v ≡ true in
                      let same : same_request (in_lane sets next).request (in_lane sets r.0).request ≡ true = subst S
                      (sym (ap (λ (v : HeldRequest). v.request) r.2 ∙ eq)) (same_self (in_lane sets next).request) in
                      next_apart x r.0 t r.1 (apart (x.number + w.lanes) r.0.number h.0 (t.within r.0 (inr r.1)) same),
                )
            | inr n ↦ absurd n
          ]))
      | inr h ↦ subst F (sym h.1) (hand_heard [] (in_lane sets x) e c is (same_self (in_lane sets x).request) told
          (lane_apart w sets apart t) (λ k i. absurd i))
    ])

quiet_one : (w : Script) (es : List Entry) (r : Request) (m : ℕ) (e : Entry) → Counted w.retries es (one r m) → Some r ≡ Some e.request
    → was_answered e.outcome ≡ true → Quiet w.retries (es ++ e ∷ [])
quiet_one w es r m e c asked told = quiet_heard (record { request = r; missed = m }) e c (sym (some_is asked)) (same_self r) told

agreed_heard : (w : Script) (es : List Entry) (c : Commit) (e : Entry) (r : Reply) → was_answered e.outcome ≡ true
    → commit_asks w c ≡ Some e.request → Sound c → Tabled w c → Agreed w es c → Agreed w (es ++ e ∷ []) (commit_hears w c r)
agreed_heard w es (Fetching sets m) e r told asked apart h a = fetched_so w (Agreed w (es ++ e ∷ []))
    (begins w (es ++ e ∷ []) (quiet_one w es (set_request w.committer w (length sets)) m e a asked told)) sets (set_read r)
agreed_heard w es (Replacing sets p ps s m) e r told asked apart h a = swept_so w (Agreed w (es ++ e ∷ []))
    (begins w (es ++ e ∷ []) (quiet_one w es (sweep_asks w.dest.bucket p s) m e a asked told)) sets p ps (sweep_hears (is_no_magic w) s r)
agreed_heard w es (Completing sets x xs done) e r told asked apart h a = agreed_completing w (es ++ e ∷ []) sets
    (xs ++ follow w.lanes (length (all_commits sets)) x.number) (x.number ∷ done)
    (agreed_answered w sets es x xs done e told (sym (some_is asked)) h apart a)
agreed_heard w es (Marking sets m) e r told asked apart h a = (quiet_one w es (mark_request w sets) m e a asked told).none
agreed_heard w es (Reverting q qs m) e r told asked apart h a = agreed_reverting w (es ++ e ∷ []) qs (worn_still e a)
agreed_heard w es (CommitOver end) e r told asked apart h a = absurd (none_some refl asked)

missed_one : (w : Script) (es : List Entry) (r : Request) (m : ℕ) (e : Entry) (next : Commit) (stage : FaultStage)
    → Counted w.retries es (one r m) → Some r ≡ Some e.request → was_answered e.outcome ≡ false → stage_of r ≡ stage
    → (Counted w.retries (es ++ e ∷ []) (one r (m + 1)) → Agreed w (es ++ e ∷ []) next)
    → Agreed w (es ++ e ∷ []) (cond (nat_lt m w.retries) next (CommitOver (commits.StoreFault stage)))
missed_one w es r m e next stage c asked missed of more =
    let k : HeldRequest = record { request = r; missed = m } in
    let P : Bool → Type 0 = λ b. Agreed w (es ++ e ∷ []) (cond b next (CommitOver (commits.StoreFault stage))) in
    elim (lt_or_not m w.retries) [
      | inl b ↦ subst P (sym b.0) (more (hand_missed k e c (sym (some_is asked)) (same_self r) missed b.1 (λ l i. absurd i)))
      | inr b ↦ subst P (sym b.0) (r, hand_worn k e c (sym (some_is asked)) (same_self r) missed b.1, of)
    ]

agreed_missed : (w : Script) (es : List Entry) (c : Commit) (e : Entry) (lost : Bool) → was_answered e.outcome ≡ false
    → commit_asks w c ≡ Some e.request → Sound c → Tabled w c → Agreed w es c → Agreed w (es ++ e ∷ []) (commit_misses w c lost)
agreed_missed w es (Fetching sets m) e lost missed asked apart h a = missed_one w es (set_request w.committer w (length sets)) m e
    (Fetching sets (m + 1)) stages.Read a asked missed (read_stage w.committer w (length sets)) (λ c. c)
agreed_missed w es (Replacing sets p ps s m) e lost missed asked apart h a = missed_one w es (sweep_asks w.dest.bucket p s) m e
    (Replacing sets p ps s (m + 1)) stages.Delete a asked missed (delete_stage w.dest.bucket p s) (λ c. c)
agreed_missed w es (Completing sets x xs done) e lost missed asked apart h a =
    let P : Bool → Type 0 = λ b. Agreed w (es ++ e ∷ []) (cond b (completing sets (xs ++ again x lost ∷ []) done)
    (worn_completion sets x xs done)) in
    let C : List HeldRequest → Type 0 = λ v. Counted w.retries (es ++ e ∷ []) v in
    elim (lt_or_not x.missed w.retries) [
      | inl b ↦ subst P (sym b.0) (agreed_completing w (es ++ e ∷ []) sets (xs ++ again x lost ∷ []) done (
          subst C (sym (map-append (in_lane sets) xs (again x lost ∷ []))) (hand_missed (in_lane sets x) e a (sym (some_is asked))
          (same_self (in_lane sets x).request) missed b.1 (lane_apart w sets apart h))))
      | inr b ↦ subst P (sym b.0) (agreed_reverting w (es ++ e ∷ []) (revert (all_commits sets) x.number xs done) (
        (in_lane sets x).request,
        hand_worn (in_lane sets x) e a (sym (some_is asked)) (same_self (in_lane sets x).request) missed b.1,
        refl,
      ))
    ]
agreed_missed w es (Marking sets m) e lost missed asked apart h a = missed_one w es (mark_request w sets) m e (Marking sets (m + 1))
    stages.Success a asked missed refl (λ c. c)
agreed_missed w es (Reverting q qs m) e lost missed asked apart h a =
    either_so (Agreed w (es ++ e ∷ [])) (nat_lt m w.retries) (Reverting q qs (m + 1)) (reverting qs) (worn_still e a)
    (agreed_reverting w (es ++ e ∷ []) qs (worn_still e a))
agreed_missed w es (CommitOver end) e lost missed asked apart h a = absurd (none_some refl asked)

agreed_tells : (w : Script) (es : List Entry) (c : Commit) (e : Entry) (o : Outcome) → e.outcome ≡ o → commit_asks w c ≡ Some e.request
    → Sound c → Tabled w c → Agreed w es c → Agreed w (es ++ e ∷ []) (commit_tells w c o)
agreed_tells w es c e o h g f p q = grind (arith, agreed_heard, agreed_missed)

-- ---- all sends

agreed_run : (w : Script) (done es : List Entry) (c : Commit) → 0 < w.lanes → AllSound w c es → Tabled w c → Agreed w done c
    → Follows (commit_asks w) (commit_tells w) c es → Agreed w (done ++ es) (run (commit_tells w) c es)
agreed_run w done [] c some s t a f = let P : List Entry → Type 0 = λ v. Agreed w v c in subst P (sym (append-nil done)) a
agreed_run w done (e ∷ es) c some s t a f =
    let k = commit_tells w c e.outcome in
    let P : List Entry → Type 0 = λ v. Agreed w v (run (commit_tells w) k es) in
    subst P (append_assoc done (e ∷ []) es) (agreed_run w (done ++ e ∷ []) es k some s.1 (tabled_tells w c e.outcome some t)
    (agreed_tells w done c e e.outcome refl f.0 s.0 t a) f.1)

end_by : (w : Script) (es : List Entry) (x : CommitEnd) → EndsAs w.retries es x → (worn : Option Request) × WornFirst w.retries es worn
    × EndIs worn x
end_by w es (commits.StoreFault stage) h = (Some h.0, h.1, ap commits.StoreFault (sym h.2))
end_by w es _ n = (None, n, tt)

end_is : (w : Script) (es : List Entry) (c : Commit) (end : CommitEnd) → Agreed w es c → commit_over c ≡ Some end → (worn : Option Request)
    × WornFirst w.retries es worn × EndIs worn end
end_is w es (CommitOver x) end a e = let P : CommitEnd → Type 0 = λ v. (worn : Option Request) × WornFirst w.retries es worn
    × EndIs worn v in subst P (some_is e) (end_by w es x a)
end_is w es _ end a e = absurd (none_some refl e)

pub ends_by_worn : (w : Script) → 0 < w.lanes → (es : List Entry) → Follows (commit_asks w) (commit_tells w) (commit_start w None) es
    → AllSound w (commit_start w None) es
    → (end : CommitEnd) → commit_over (run (commit_tells w) (commit_start w None) es) ≡ Some end → (worn : Option Request)
    × WornFirst w.retries es worn × EndIs worn end
ends_by_worn w some es f s end is = end_is w es (run (commit_tells w) (commit_start w None) es) end
    (agreed_run w [] es (commit_start w None) some s (tabled_start w None some)
    (fetching_so w (Agreed w []) (begins w [] (quiet_at_first w.retries)) []) f) is

-- ---- uploads of different keys

key_of : Request → List ℕ
key_of (CompleteUpload bucket key id parts) = key
key_of _ = []

pub requests_apart : (sets : Sets) → ((m n : ℕ) → m < length (all_commits sets) → n < length (all_commits sets)
    → (nth (all_commits sets) m).destination ≡ (nth (all_commits sets) n).destination → m ≡ n) → RequestsApart sets
unfolding key_of
requests_apart sets keys = λ m n low high e. keys m n low high (ap key_of
    (same_is (completion (nth (all_commits sets) m)) (completion (nth (all_commits sets) n)) e))
