-- A job commit ends as its own entries say.
use Rattle.text_and_lists.proofs.Lists.{get_before}
use Rattle.text_and_lists.proofs.Members.{none_some, some_is}
use Rattle.text_and_lists.proofs.Naturals.{below_is, below_not}
use Rattle.commit_lanes.specs.Fitting.{FitsCommit, SpellsSet}
use Rattle.commit_lanes.specs.CommitEnds.{AllFit, due, set_heard, sets_heard, start}
use Rattle.commit_lanes.proofs.KeysApart.{sets_apart}
use Rattle.commit_lanes.specs.ReadSets.{AreRead, IsSetOf}
use Rattle.commit_lanes.specs.Tables.{listed}
use Rattle.job_model.specs.JobScript.{Script}
use Rattle.job_model.specs.Jobs.{Job}
use Rattle.job_model.specs.declared.ends.CommitEnd.{CommitEnd}
use Rattle.job_protocol.proofs.LaneEnds.{ends_by_worn}
use Rattle.job_protocol.specs.AtWork.{Committing, commit_told, commit_wants, picked_after, read_script, sets_after, sets_in, with_pick}
use Rattle.job_protocol.specs.AtWork.{with_set}
use Rattle.job_protocol.specs.JobCommits.{Commit, CommitOver, Completing, Fetching, Marking, Replacing, Reverting, Sets, all_commits}
use Rattle.job_protocol.specs.JobCommits.{commit_asks, commit_hears, commit_misses, commit_over, commit_tells, completing, decided, fetched}
use Rattle.job_protocol.specs.JobCommits.{fetching, picks_of, replacing, reverting, set_read, set_request, worn_completion}
use Rattle.job_protocol.specs.LaneTable.{AllSound, RequestsApart, Sound}
use Rattle.job_protocol.specs.Lanes.{Turn, abort, again, chosen, deletion, in_turn, is_tried, is_unsent, revert, undo}
use Rattle.job_protocol.specs.OperationLaws.{EndIs}
use Rattle.job_protocol.specs.Outputs.{same_path}
use Rattle.list_walk.specs.Walks.{Sweep, sweep_asks}
use Rattle.pending_json.specs.Pending.{Pending}
use Rattle.pending_json.specs.declared.records.PendingSet.{PendingSet}
use Rattle.retries.proofs.First.{none_sent}
use Rattle.retries.specs.Operation.{Follows, run}
use Rattle.retries.specs.Worn.{WornFirst}
use Rattle.s3_types.specs.declared.journal.Entry.{Entry}
use Rattle.s3_types.specs.declared.journal.Outcome.{Outcome}
use Rattle.s3_types.specs.declared.journal.Outcome.TheVariants.{Answered, Slow}
use Rattle.s3_types.specs.declared.reply.Reply.{Reply}
use Rattle.s3_types.specs.declared.request.Committer.{Committer}
use Rattle.s3_types.specs.declared.request.Request.{Request}
use Rattle.s3_types.specs.declared.request.Request.TheVariants.{ClusterGet, GetObject}
use Rattle.std.proofs.Common.{Bool, List, None, Option, Some, ap, append-nil, append_assoc, arith, cond, false, inl, inr, length}
use Rattle.std.proofs.Common.{length-append, map, nat_lt, refl, slice_get, subst, sym, true, ℕ, [], ◌++◌, ◌+◌, ◌<◌, ◌∙◌, ◌∷◌, ◌≡◌, ◌≤◌, ◌⊎◌}
use Rattle.std.proofs.lemmas.Option.{slice_get_within}
use Rattle.job_model.specs.declared.ends.CommitEnd.TheVariants as ends
use Rattle.job_model.specs.declared.ends.FaultStage.TheVariants as stages

less_or_same : (a b : ℕ) → a < b + 1 → (a < b) ⊎ (a ≡ b)
less_or_same a b h = grind arith

get_last : (sets : Sets) (s : PendingSet) → slice_get (sets ++ s ∷ []) (length sets) ≡ Some s
get_last [] s = refl
get_last (x ∷ xs) s = get_last xs s

-- One more set, which is that of the next task.
pub read_more : (j : Job) (sets : Sets) (s : PendingSet) → AreRead j sets → IsSetOf j (length sets) s → AreRead j (sets ++ s ∷ [])
read_more j sets s each new = λ n x e.
    let len : length (sets ++ s ∷ []) ≡ length sets + 1 = length-append sets (s ∷ []) in
    let low : n < length (sets ++ s ∷ []) = slice_get_within (sets ++ s ∷ []) n x e in
    elim (less_or_same n (length sets) (omega arith)) [
      | inl l ↦ each n x (get_before sets (s ∷ []) n x l e)
      | inr same ↦
          let i : s ≡ x = some_is (sym (get_last sets s) ∙ ap (slice_get (sets ++ s ∷ [])) (sym same) ∙ e) in
          rw same (subst (IsSetOf j (length sets)) i new)
    ]

abbrev at : Job → List ℕ → Commit → Committing
at j p c = record { plan = j; picked = p; operation = c }

-- The path that two chosen attempts of these sets write.
abbrev shared_of : Job → Sets → Option CommitEnd
shared_of j s = same_path (read_script j s) (picks_of s)

-- An end that is no fault is the one that `due` names.
abbrev EndOk : Job → Sets → CommitEnd → Type 0
EndOk j s (ends.StoreFault stage) = Unit {0}
EndOk j s end = end ≡ due None None (shared_of j s)

-- ---- requests that read nothing

abbrev reads : Request → Bool
reads (GetObject bucket key) = true
reads (ClusterGet path) = true
reads _ = false

abbrev NoReads : List Request → Type 0
NoReads [] = Unit {0}
NoReads (q ∷ qs) = (reads q ≡ false) × NoReads qs

no_reads_join : (xs ys : List Request) → NoReads xs → NoReads ys → NoReads (xs ++ ys)
no_reads_join [] ys a b = b
no_reads_join (x ∷ xs) ys a b = (a.0, no_reads_join xs ys a.1 b)

no_reads_undo : (ps : List Pending) → NoReads (undo ps)
no_reads_undo [] = tt
no_reads_undo (p ∷ ps) = (refl, (refl, no_reads_undo ps))

no_reads_map : (f : Pending → Request) → ((p : Pending) → reads (f p) ≡ false) → (ps : List Pending) → NoReads (map f ps)
no_reads_map f h [] = tt
no_reads_map f h (p ∷ ps) = (h p, no_reads_map f h ps)

no_reads_revert : (all : List Pending) (n : ℕ) (xs : List Turn) (done : List ℕ) → NoReads (revert all n xs done)
no_reads_revert all n xs done = (
  refl,
  (
    refl,
    no_reads_join (undo (chosen (is_tried xs) 0 all)) _
        (no_reads_undo (chosen (is_tried xs) 0 all)) (no_reads_join (map deletion (in_turn all done)) _
        (no_reads_map deletion (λ p. refl) (in_turn all done)) (no_reads_map abort (λ p. refl) (chosen (is_unsent n xs done) 0 all))),
  ),
)

nothing_heard : (q : Request) (o : Outcome) → reads q ≡ false → set_heard q o ≡ None
nothing_heard q o e = grind arith

sweep_reads : (bucket prefix : List ℕ) (s : Sweep) → reads (sweep_asks bucket prefix s) ≡ false
sweep_reads bucket prefix s = grind arith

-- ---- after all sets are read

-- A commit that has read these sets.
abbrev IsLate : Job → Sets → Commit → Type 0
IsLate j s (Fetching sets m) = ⊥
IsLate j s (Replacing sets p ps w m) = (sets ≡ s) × RequestsApart s × (shared_of j s ≡ None)
IsLate j s (Completing sets x xs done) = (sets ≡ s) × RequestsApart s × (shared_of j s ≡ None)
IsLate j s (Marking sets m) = (sets ≡ s) × (shared_of j s ≡ None)
IsLate j s (Reverting q qs m) = NoReads (q ∷ qs)
IsLate j s (CommitOver end) = EndOk j s end

late_completing : (j : Job) (s sets : Sets) (xs : List Turn) (done : List ℕ) → sets ≡ s → RequestsApart s → shared_of j s ≡ None
    → IsLate j s (completing sets xs done)
late_completing j s sets xs done e apart none = grind arith

late_replacing : (j : Job) (s sets : Sets) (w : Script) (ps : List (List ℕ)) → sets ≡ s → RequestsApart s → shared_of j s ≡ None
    → IsLate j s (replacing w sets ps)
late_replacing j s sets w ps h g e = grind arith

late_reverting : (j : Job) (s : Sets) (qs : List Request) → NoReads qs → IsLate j s (reverting qs)
late_reverting j s qs n = grind arith

late_either : (j : Job) (s : Sets) (b : Bool) (c d : Commit) → IsLate j s c → IsLate j s d → IsLate j s (cond b c d)
late_either j s b c d h g = grind arith

late_heard : (j : Job) (s : Sets) (w : Script) (c : Commit) (r : Reply) → IsLate j s c → IsLate j s (commit_hears w c r)
late_heard j s w c r h = grind arith

late_missed : (j : Job) (s : Sets) (w : Script) (c : Commit) (lost : Bool) → IsLate j s c → IsLate j s (commit_misses w c lost)
late_missed j s w (Completing sets x xs done) lost h = late_either j s (nat_lt x.missed w.retries)
    (completing sets (xs ++ again x lost ∷ []) done) (worn_completion sets x xs done)
    (late_completing j s sets (xs ++ again x lost ∷ []) done h.0 h.1 h.2) (late_reverting j s (revert (all_commits sets) x.number xs done)
    (no_reads_revert (all_commits sets) x.number xs done))
late_missed j s w _ lost h = grind arith

late_next : (j : Job) (s : Sets) (w : Script) (c : Commit) (o : Outcome) → IsLate j s c → IsLate j s (commit_tells w c o)
late_next j s w c o h = grind (arith, late_heard, late_missed)

-- The script of these sets leads it to the same state.
late_tells : (j : Job) (s : Sets) (c : Commit) (o : Outcome) → IsLate j s c
    → commit_tells (read_script j (sets_after c o)) c o ≡ commit_tells (read_script j s) c o
late_tells j s c o h = grind arith

late_asks : (j : Job) (s : Sets) (c : Commit) → IsLate j s c → commit_asks (read_script j (sets_in c)) c ≡ commit_asks (read_script j s) c
late_asks j s c h = grind arith

late_sound : (j : Job) (s : Sets) (c : Commit) → IsLate j s c → Sound c
late_sound j s c h = grind arith

-- It reads no set any more.
late_quiet : (j : Job) (s : Sets) (p : List ℕ) (c : Commit) (e : Entry) → IsLate j s c → commit_wants (at j p c) ≡ Some e.request
    → reads e.request ≡ false
late_quiet j s p c e h f = grind (arith, sweep_reads)

-- ---- a run by one script

-- The run from `c` on is a run by the script of these sets, and its end is the one that they give.
record Ran (j : Job) (s : Sets) (p : List ℕ) (c : Commit) (es : List Entry) : Type 0 where
  pub follows : Follows (commit_asks (read_script j s)) (commit_tells (read_script j s)) c es
  pub sound : AllSound (read_script j s) c es
  pub same : run (commit_tells (read_script j s)) c es ≡ (run commit_told (at j p c) es).operation
  pub ends : (end : CommitEnd) → commit_over (run commit_told (at j p c) es).operation ≡ Some end → EndOk j s end

ran_step : (j : Job) (s : Sets) (p q : List ℕ) (c d : Commit) (e : Entry) (es : List Entry)
    → commit_asks (read_script j s) c ≡ Some e.request → Sound c → commit_tells (read_script j s) c e.outcome ≡ d
    → commit_told (at j p c) e.outcome ≡ at j q d → Ran j s q d es → Ran j s p c (e ∷ es)
ran_step j s p q c d e es h g f r u = grind arith

over_is : (j : Job) (s : Sets) (c : Commit) → IsLate j s c → (end : CommitEnd) → commit_over c ≡ Some end → EndOk j s end
over_is j s c h end e = grind arith

record Late (j : Job) (s : Sets) (p : List ℕ) (c : Commit) (es : List Entry) : Type 0 where
  pub ran : Ran j s p c es
  pub quiet : sets_heard es ≡ []

late_run : (j : Job) (s : Sets) (p : List ℕ) (c : Commit) (es : List Entry) → IsLate j s c → Follows commit_wants commit_told (at j p c) es
    → Late j s p c es
late_run j s p c [] h f = record { ran = record { follows = tt; sound = tt; same = refl; ends = over_is j s c h }; quiet = refl }
late_run j s p c (e ∷ es) h f =
    let d = commit_tells (read_script j (sets_after c e.outcome)) c e.outcome in
    let q = picked_after p c e.outcome in
    let r = late_run j s q d es (late_next j s (read_script j (sets_after c e.outcome)) c e.outcome h) f.1 in
    record {
      ran = ran_step j s p q c d e es (sym (late_asks j s c h) ∙ f.0) (late_sound j s c h) (sym (late_tells j s c e.outcome h)) refl r.ran;
      quiet = ap (λ v. listed v ++ sets_heard es) (nothing_heard e.request e.outcome (late_quiet j s p c e h f.0)) ∙ r.quiet;
    }

-- ---- while it reads

decided_late : (j : Job) (s : Sets) (o : Option CommitEnd) → AreRead j s → length s ≡ j.tasks → shared_of j s ≡ o
    → IsLate j s (decided (read_script j s) s o)
decided_late j s o h g e = grind (arith, late_replacing, sets_apart)

-- The run of a commit that has read these sets and reads on.
record Fetched (j : Job) (sets : Sets) (p : List ℕ) (c : Commit) (es : List Entry) : Type 0 where
  pub all : Sets
  pub ran : Ran j all p c es
  pub heard : all ≡ sets ++ sets_heard es

abbrev ReadsOn : Job → List Entry → Type 0
ReadsOn j es = (sets : Sets) (m : ℕ) (p : List ℕ) → AreRead j sets → length sets < j.tasks
    → Follows commit_wants commit_told (at j p (Fetching sets m)) es → AllFit (at j p (Fetching sets m)) es
    → Fetched j sets p (Fetching sets m) es

-- The run after a set, and that the script of all sets leads to the same state.
record AfterSet (j : Job) (s : Sets) (p : List ℕ) (c : Commit) (es : List Entry) : Type 0 where
  pub all : Sets
  pub ran : Ran j all p c es
  pub heard : all ≡ s ++ sets_heard es
  pub tells : fetching (read_script j all) s ≡ c

abbrev follow_set : Job → Sets → Bool → Commit
follow_set j s b = cond b (Fetching s 0) (decided (read_script j s) s (shared_of j s))

after_set : (j : Job) (es : List Entry) → ReadsOn j es → (s : Sets) (p : List ℕ) (b : Bool) → nat_lt (length s) j.tasks ≡ b → AreRead j s
    → length s ≤ j.tasks → Follows commit_wants commit_told (at j p (follow_set j s b)) es → AllFit (at j p (follow_set j s b)) es
    → AfterSet j s p (follow_set j s b) es
after_set j es later s p true e each few f k =
    let r = later s 0 p each (below_is (length s) j.tasks e) f k in
    record {
      all = r.all;
      ran = r.ran;
      heard = r.heard;
      tells = ap (λ v. cond v (Fetching s 0)
          (decided (read_script j r.all) s (same_path (read_script j r.all) (picks_of s)))) e;
    }
after_set j es later s p false e each few f k =
    let high : j.tasks ≤ length s = below_not (length s) j.tasks e in
    let r = late_run j s p (decided (read_script j s) s (shared_of j s)) es (decided_late j s (shared_of j s) each (omega arith) refl) f in
    record {
      all = s;
      ran = r.ran;
      heard = sym (append-nil s) ∙ ap (λ v. s ++ v) (sym r.quiet);
      tells = ap
          (λ v. cond v (Fetching s 0) (decided (read_script j s) s (shared_of j s))) e;
    }

-- The request of a read is the same for each script of the job.
asks_any : (c : Committer) (j : Job) (s t : Sets) (n : ℕ) → set_request c (read_script j s) n ≡ set_request c (read_script j t) n
asks_any c j s t n = grind arith

-- The set in an outcome, or None.
abbrev heard_of : Outcome → Option PendingSet
heard_of (Answered r) = set_read r
heard_of _ = None

heard_is : (c : Committer) (w : Script) (n : ℕ) (o : Outcome) → set_heard (set_request c w n) o ≡ heard_of o
heard_is c w n o = grind arith

missed_next : (j : Job) (es : List Entry) → ReadsOn j es → (sets : Sets) (m : ℕ) (p : List ℕ) (b : Bool) → AreRead j sets
    → length sets < j.tasks
    → Follows commit_wants commit_told (at j p (cond b (Fetching sets (m + 1)) (CommitOver (ends.StoreFault stages.Read)))) es
    → AllFit (at j p (cond b (Fetching sets (m + 1)) (CommitOver (ends.StoreFault stages.Read)))) es
    → Fetched j sets p (cond b (Fetching sets (m + 1)) (CommitOver (ends.StoreFault stages.Read))) es
missed_next j es later sets m p true each more f k = later sets (m + 1) p each more f k
missed_next j es later sets m p false each more f k =
    let r = late_run j sets p (CommitOver (ends.StoreFault stages.Read)) es tt f in
    record { all = sets; ran = r.ran; heard = sym (append-nil sets) ∙ ap (λ v. sets ++ v) (sym r.quiet) }

missed_step : (j : Job) (e : Entry) (es : List Entry) → ReadsOn j es → (sets : Sets) (m : ℕ) (p : List ℕ) (lost : Bool) → AreRead j sets
    → length sets < j.tasks → heard_of e.outcome ≡ None
    → ((w : Script) → commit_tells w (Fetching sets m) e.outcome ≡ commit_misses w (Fetching sets m) lost)
    → commit_told (at j p (Fetching sets m)) e.outcome ≡ at j p (commit_misses (read_script j sets) (Fetching sets m) lost)
    → Follows commit_wants commit_told (at j p (Fetching sets m)) (e ∷ es) → AllFit (at j p (Fetching sets m)) (e ∷ es)
    → Fetched j sets p (Fetching sets m) (e ∷ es)
missed_step j e es later sets m p lost each more none tells told f k =
    let w = read_script j sets in
    let r = missed_next j es later sets m p (nat_lt m j.retries) each more (rw told at f.1) (rw told at k.1) in
    let asked : set_request j.committer w (length sets) ≡ e.request = some_is f.0 in
    let unheard : set_heard e.request e.outcome ≡ None = ap (λ q. set_heard q e.outcome) (sym asked) ∙ heard_is j.committer w (length sets)
    e.outcome ∙ none in
    record {
      all = r.all;
      ran = ran_step j r.all p p (Fetching sets m) (commit_misses w (Fetching sets m) lost) e es
          (ap Some (asks_any j.committer j r.all sets (length sets)) ∙ f.0) tt (tells (read_script j r.all)) told r.ran;
      heard = r.heard ∙ ap (λ o. sets ++ (listed o ++ sets_heard es)) (sym unheard);
    }

abbrev told_set : Job → Sets → List ℕ → Option PendingSet → Committing
told_set j sets p o = at j (with_pick p o) (fetched (read_script j (with_set sets o)) sets o)

heard_step : (j : Job) (e : Entry) (es : List Entry) → ReadsOn j es → (sets : Sets) (m : ℕ) (p : List ℕ) (r : Reply) (o : Option PendingSet)
    → set_read r ≡ o → e.outcome ≡ Answered r → AreRead j sets → length sets < j.tasks → SpellsSet j (length sets) o
    → Follows commit_wants commit_told (at j p (Fetching sets m)) (e ∷ es) → AllFit (at j p (Fetching sets m)) (e ∷ es)
    → Fetched j sets p (Fetching sets m) (e ∷ es)
heard_step j e es later sets m p r None read is each more fit f k = absurd fit
heard_step j e es later sets m p r (Some s) read is each more fit f k =
    let w = read_script j sets in
    let one = sets ++ s ∷ [] in
    let len : length one ≡ length sets + 1 = length-append sets (s ∷ []) in
    let b = nat_lt (length one) j.tasks in
    let told : commit_told (at j p (Fetching sets m)) e.outcome ≡ at j (p ++ s.attempt ∷ []) (follow_set j one b) = ap
    (commit_told (at j p (Fetching sets m))) is ∙ ap (told_set j sets p) read in
    let a = after_set j es later one (p ++ s.attempt ∷ []) b refl (read_more j sets s each fit) (omega arith) (rw told at f.1)
    (rw told at k.1) in
    let asked : set_request j.committer w (length sets) ≡ e.request = some_is f.0 in
    let found : set_heard e.request e.outcome ≡ Some s = ap (set_heard e.request) is ∙ ap (λ q. set_heard q (Answered r)) (sym asked) ∙
    heard_is j.committer w (length sets) (Answered r) ∙ read in
    record {
      all = a.all;
      ran = ran_step j a.all p (p ++ s.attempt ∷ []) (Fetching sets m) (follow_set j one b) e es
          (ap Some (asks_any j.committer j a.all sets (length sets)) ∙ f.0) tt
          (ap (commit_tells (read_script j a.all) (Fetching sets m)) is ∙ ap (fetched (read_script j a.all) sets) read ∙ a.tells) told
          a.ran;
      heard = a.heard ∙ append_assoc sets (s ∷ []) (sets_heard es) ∙ ap (λ v. sets ++ (listed v ++ sets_heard es)) (sym found);
    }

fetch_step : (j : Job) (e : Entry) (es : List Entry) → ReadsOn j es → (o : Outcome) → e.outcome ≡ o → (sets : Sets) (m : ℕ) (p : List ℕ)
    → AreRead j sets → length sets < j.tasks
    → Follows commit_wants commit_told (at j p (Fetching sets m)) (e ∷ es) → AllFit (at j p (Fetching sets m)) (e ∷ es)
    → Fetched j sets p (Fetching sets m) (e ∷ es)
fetch_step j e es later (Answered r) is sets m p each more f k = heard_step j e es later sets m p r (set_read r) refl is each more
    (subst (FitsCommit (at j p (Fetching sets m))) is k.0) f k
fetch_step j e es later Slow is sets m p each more f k = missed_step j e es later sets m p false each more (ap heard_of is)
    (λ w. ap (commit_tells w (Fetching sets m)) is) (ap (commit_told (at j p (Fetching sets m))) is) f k
fetch_step j e es later o is sets m p each more f k = missed_step j e es later sets m p true each more (ap heard_of is)
    (λ w. ap (commit_tells w (Fetching sets m)) is) (ap (commit_told (at j p (Fetching sets m))) is) f k

fetch_run : (j : Job) (es : List Entry) → ReadsOn j es
fetch_run j [] = λ sets m p each more f k. record {
  all = sets;
  ran = record {
    follows = tt;
    sound = tt;
    same = refl;
    ends = λ end e. absurd
        (none_some refl e);
  };
  heard = sym (append-nil sets);
}
fetch_run j (e ∷ es) = λ sets m p each more f k. fetch_step j e es (fetch_run j es) e.outcome refl sets m p each more f k

-- ---- its end

due_by : (j : Job) (s : Sets) (worn : Option Request) (end : CommitEnd) → EndIs worn end → EndOk j s end
    → end ≡ due None worn (shared_of j s)
due_by j s worn end h ok = grind arith

none_read : (j : Job) → AreRead j []
none_read j = λ n s e. absurd (none_some refl e)

ends_from : (j : Job) (es : List Entry) → 0 < j.lanes → Follows commit_wants commit_told (start j None) es → AllFit (start j None) es
    → (end : CommitEnd) → commit_over (run commit_told (start j None) es).operation ≡ Some end
    → (worn : Option Request) × WornFirst j.retries es worn × (end ≡ due None worn (shared_of j (sets_heard es)))
ends_from j es some f k end e =
    let b = nat_lt 0 j.tasks in
    let a = after_set j es (fetch_run j es) [] [] b refl (none_read j) (omega arith) f k in
    let w = read_script j a.all in
    let at_end : commit_over (run (commit_tells w) (fetching w []) es) ≡ Some end = ap commit_over (rw a.tells a.ran.same) ∙ e in
    let r = ends_by_worn w some es (rw a.tells a.ran.follows) (rw a.tells a.ran.sound) end at_end in
    let H : Sets → Type 0 = λ v. end ≡ due None r.0 (shared_of j v) in
    (r.0, r.1, subst H a.heard (due_by j a.all r.0 end r.2 (a.ran.ends end e)))

missing_ends : (j : Job) (t : ℕ) (es : List Entry) → Follows commit_wants commit_told (start j (Some t)) es → (end : CommitEnd)
    → commit_over (run commit_told (start j (Some t)) es).operation ≡ Some end
    → (worn : Option Request) × WornFirst j.retries es worn × (end ≡ due (Some t) worn (shared_of j (sets_heard es)))
missing_ends j t [] f end e = (None, none_sent j.retries, sym (some_is e))
missing_ends j t (x ∷ es) f end e = absurd (none_some refl f.0)

pub commit_ends : (j : Job) (missing : Option ℕ) → 0 < j.lanes → (es : List Entry) → Follows commit_wants commit_told (start j missing) es
    → AllFit (start j missing) es → (end : CommitEnd) → commit_over (run commit_told (start j missing) es).operation ≡ Some end
    → (worn : Option Request) × WornFirst j.retries es worn
    × (end ≡ due missing worn (same_path (read_script j (sets_heard es)) (picks_of (sets_heard es))))
commit_ends j None some es f k end e = ends_from j es some f k end e
commit_ends j (Some t) some es f k end e = missing_ends j t es f end e
