-- A job commit has less left after each send.
use Rattle.text_and_lists.proofs.Less.{lt}
use Rattle.text_and_lists.proofs.Members.{none_some, some_is}
use Rattle.text_and_lists.proofs.Naturals.{below_is}
use Rattle.text_and_lists.specs.Order.{text_cmp}
use Rattle.commit_lanes.specs.Fitting.{FitsReply, SpellsSet}
use Rattle.commit_lanes.specs.CommitEnds.{CommitFalls, FitsFew, HasFew, ReadsFew, all_left, any_sweep, deletion_left, if_staging}
use Rattle.commit_lanes.specs.CommitEnds.{lanes_left}
use Rattle.commit_lanes.specs.CommitEnds.{left_of, prefixes_most, read_left, rise_of, turn_left, turns_left, widest}
use Rattle.job_model.specs.Attempts.{Who, same_name}
use Rattle.job_model.specs.JobScript.{Script}
use Rattle.job_model.specs.Jobs.{Job}
use Rattle.job_model.specs.Placed.{placed}
use Rattle.job_model.specs.declared.displaced.Displaced.{Displaced}
use Rattle.job_model.specs.declared.displaced.Displaced.TheVariants.{Everything, Nothing, Partitions}
use Rattle.job_model.specs.declared.ends.CommitEnd.{CommitEnd}
use Rattle.job_protocol.specs.AtWork.{Committing, commit_told, commit_wants, declared_of, read_script, sets_after, sets_in, with_set}
use Rattle.job_protocol.specs.Conflicts.{dirs_of, displaced, emptied, partitions}
use Rattle.job_protocol.specs.JobCommits.{Commit, CommitOver, Completing, Fetching, Marking, Replacing, Reverting, Sets, all_commits}
use Rattle.job_protocol.specs.JobCommits.{commit_asks, commit_hears, commit_misses, completing, decided, fetched, is_no_magic, picks_of}
use Rattle.job_protocol.specs.JobCommits.{replacing, reverting, set_read, set_request, swept, worn_completion}
use Rattle.job_protocol.specs.Lanes.{Turn, abort, again, chosen, dealt, deletion, first_turns, follow, fresh_turn, in_turn, is_tried}
use Rattle.job_protocol.specs.Lanes.{is_unsent, nth, revert, undo}
use Rattle.job_protocol.specs.Outputs.{Picks, files_picked, ordered, same_path, wanted_below, wanted_paths}
use Rattle.job_protocol.specs.TaskCommits.{partition_prefix}
use Rattle.list_walk.proofs.Counting.{count, count_more}
use Rattle.list_walk.proofs.Falling.{sweep_laws}
use Rattle.list_walk.proofs.Listing.{is_left, listed_count}
use Rattle.list_walk.specs.Fitting.{FitsSweep}
use Rattle.list_walk.specs.Left.{adds_key, keys_left, left_of as sweeps_left, one_if, sweep_left}
use Rattle.list_walk.specs.Walks.{Sweep, sweep_asks, sweep_hears, sweep_start}
use Rattle.path_keys.specs.Paths.{Path}
use Rattle.pending_json.specs.Pending.{Pending}
use Rattle.pending_json.specs.declared.records.PendingSet.{PendingSet}
use Rattle.s3_types.specs.Answer.{answer, apply}
use Rattle.s3_types.specs.Moment.{effect}
use Rattle.s3_types.specs.Store.{Scene}
use Rattle.s3_types.specs.declared.journal.Outcome.{Outcome}
use Rattle.s3_types.specs.declared.journal.Outcome.TheVariants.{Answered, ReplyLost, RequestLost, Slow}
use Rattle.s3_types.specs.declared.reply.Reply.{Reply}
use Rattle.s3_types.specs.declared.request.Committer.{Committer}
use Rattle.s3_types.specs.declared.request.Committer.TheVariants.{Magic}
use Rattle.s3_types.specs.declared.request.Mode.{Mode}
use Rattle.s3_types.specs.declared.request.Request.{Request}
use Rattle.std.proofs.Common.{Bool, List, None, Option, Some, ap, arith, cond, false, length, length-append, map, nat_lt, refl, subst, suc}
use Rattle.std.proofs.Common.{sym, true, zero, ℕ, [], ◌*◌, ◌++◌, ◌+◌, ◌-◌, ◌<◌, ◌∙◌, ◌∷◌, ◌≡◌, ◌≤◌}
use Rattle.std.proofs.lemmas.Bool.{and_parts}
use Rattle.std.proofs.lemmas.Grind.{flat_map-append}
use Rattle.std.proofs.lemmas.List.{append-nil, length-map}
use Rattle.std.specs.BTreeSet.{insert_key}
use Rattle.std.specs.Map.{lookup}
use Rattle.std.specs.Option.{option_map, unwrap_or}
use Rattle.job_model.specs.declared.ends.CommitEnd.TheVariants as ends
use Rattle.job_model.specs.declared.ends.FaultStage.TheVariants as stages

-- The request that the commit sends next.
abbrev asks : Job → Commit → Option Request
asks j c = commit_asks (read_script j (sets_in c)) c

-- ---- numbers

step_times : (a b k : ℕ) → a < b → a * k + k ≤ b * k
step_times a b k h = grind arith

times_le : (a b k : ℕ) → a ≤ b → a * k ≤ b * k
times_le a b k h = grind arith

next_times : (a k : ℕ) → (a + 1) * k ≡ a * k + k
next_times a k = omega arith

-- ---- turns

turns_join : (r total : ℕ) (xs ys : List Turn) → turns_left r total (xs ++ ys) ≡ turns_left r total xs + turns_left r total ys
turns_join r total [] ys = omega arith
turns_join r total (x ∷ xs) ys = let e : turns_left r total (xs ++ ys) ≡ turns_left r total xs + turns_left r total ys = turns_join r total
    xs ys in omega arith

turn_some : (r total : ℕ) (x : Turn) → 2 * r + 3 ≤ turn_left r total x
turn_some r total x = let h : 0 * (2 * r + 3) + (2 * r + 3) ≤ (1 + (total - x.number)) * (2 * r + 3) = step_times 0 (1 + (total - x.number))
    (2 * r + 3) (omega arith) in omega arith

-- A lane's next upload leaves less, by more than a request of a revert.
turn_next : (r total n lanes : ℕ) (missed : ℕ) → 0 < lanes → n + lanes < total
    → (1 + (total - (n + lanes))) * (2 * r + 3) + (r - 0) + (r + 1) < (1 + (total - n)) * (2 * r + 3) + missed
turn_next r total n lanes missed some low = let h : (1 + (total - (n + lanes))) * (2 * r + 3) + (2 * r + 3) ≤ (1 + (total - n)) *
    (2 * r + 3) = step_times (1 + (total - (n + lanes))) (1 + (total - n)) (2 * r + 3) (omega arith) in omega arith

follow_by : (r total lanes : ℕ) (x : Turn) (b : Bool) → nat_lt (x.number + lanes) total ≡ b → 0 < lanes
    → turns_left r total (cond b (fresh_turn (x.number + lanes) ∷ []) []) + (r + 1) < turn_left r total x
follow_by r total lanes x true e some = let h : (1 + (total - (x.number + lanes))) * (2 * r + 3) + (r - 0) + (r + 1) <
    (1 + (total - x.number)) * (2 * r + 3) + (r - x.missed) = turn_next r total x.number lanes (r - x.missed) some
    (below_is (x.number + lanes) total e) in omega arith
follow_by r total lanes x false e some = let h : 2 * r + 3 ≤ turn_left r total x = turn_some r total x in omega arith

-- ---- completing

completing_left : (most : ℕ) (j : Job) (sc : Scene) (sets : Sets) (xs : List Turn) (done : List ℕ)
    → left_of most j (completing sets xs done) sc ≤ lanes_left j.retries (length (all_commits sets)) xs (length done)
completing_left most j sc sets xs done = grind arith

answered_left : (most : ℕ) (j : Job) (sc : Scene) (sets : Sets) (x : Turn) (xs : List Turn) (done : List ℕ) → 0 < j.lanes
    → left_of most j (completing sets (xs ++ follow j.lanes (length (all_commits sets)) x.number) (x.number ∷ done)) sc < left_of most j
    (Completing sets x xs done) sc
answered_left most j sc sets x xs done h = grind (arith, completing_left, turns_join, follow_by, next_times)

again_left : (most : ℕ) (j : Job) (sc : Scene) (sets : Sets) (x : Turn) (xs : List Turn) (done : List ℕ) (lost : Bool)
    → x.missed < j.retries → left_of most j (completing sets (xs ++ again x lost ∷ []) done) sc < left_of most j (Completing sets x xs done)
    sc
again_left most j sc sets x xs done lost h = grind (arith, completing_left, turns_join)

-- ---- a revert

chosen_length : (test : ℕ → Bool) (n : ℕ) (all : List Pending) → length (chosen test n all) ≤ length all
chosen_length test n [] = omega arith
chosen_length test n (p ∷ ps) = grind (arith, chosen_length test (n + 1) ps)

undo_length : (ps : List Pending) → length (undo ps) ≡ 2 * length ps
undo_length [] = refl
undo_length (p ∷ ps) = let e : length (undo ps) ≡ 2 * length ps = undo_length ps in omega arith

in_turn_length : (all : List Pending) (ns : List ℕ) → length (in_turn all ns) ≡ length ns
in_turn_length all [] = refl
in_turn_length all (n ∷ ns) = length-append (in_turn all ns) (nth all n ∷ []) ∙
    (let e : length (in_turn all ns) ≡ length ns = in_turn_length all ns in omega arith)

revert_length : (all : List Pending) (n : ℕ) (xs : List Turn) (done : List ℕ)
    → length (revert all n xs done) ≤ 3 * length all + length done + 2
revert_length all n xs done =
    let tried = chosen (is_tried xs) 0 all in
    let unsent = chosen (is_unsent n xs done) 0 all in
    let a : length (undo tried ++ (map deletion (in_turn all done) ++ map abort unsent)) ≡ length (undo tried) + length
    (map deletion (in_turn all done) ++ map abort unsent) = length-append (undo tried)
    (map deletion (in_turn all done) ++ map abort unsent) in
    let b : length (map deletion (in_turn all done) ++ map abort unsent) ≡ length (map deletion (in_turn all done)) + length
    (map abort unsent) = length-append (map deletion (in_turn all done)) (map abort unsent) in
    let c : length (undo tried) ≡ 2 * length tried = undo_length tried in
    let d : length tried ≤ length all = chosen_length (is_tried xs) 0 all in
    let e : length (map deletion (in_turn all done)) ≡ length (in_turn all done) = length-map (in_turn all done) deletion in
    let f : length (in_turn all done) ≡ length done = in_turn_length all done in
    let g : length (map abort unsent) ≡ length unsent = length-map unsent abort in
    let h : length unsent ≤ length all = chosen_length (is_unsent n xs done) 0 all in
    omega arith

reverting_left : (most : ℕ) (j : Job) (sc : Scene) (qs : List Request) → left_of most j (reverting qs) sc ≤ length qs * (j.retries + 1)
reverting_left most j sc [] = omega arith
reverting_left most j sc (q ∷ qs) = let e : (length qs + 1) * (j.retries + 1) ≡ length qs * (j.retries + 1) + (j.retries + 1) = next_times
    (length qs) (j.retries + 1) in let f : suc (length qs) * (j.retries + 1) ≡ (length qs + 1) * (j.retries + 1) = omega arith in omega
    arith

worn_left : (most : ℕ) (j : Job) (sc : Scene) (sets : Sets) (x : Turn) (xs : List Turn) (done : List ℕ)
    → left_of most j (worn_completion sets x xs done) sc < left_of most j (Completing sets x xs done) sc
worn_left most j sc sets x xs done = grind (arith, reverting_left, times_le, revert_length)

-- ---- a set

first_left : (r total m : ℕ) → turns_left r total (first_turns m) ≤ m * ((1 + total) * (2 * r + 3) + r)
first_left r total zero = omega arith
first_left r total (suc m) =
    let a : turns_left r total (first_turns m ++ fresh_turn m ∷ []) ≡ turns_left r total (first_turns m) +
    (turn_left r total (fresh_turn m) + 0) = turns_join r total (first_turns m) (fresh_turn m ∷ []) in
    let b : turns_left r total (first_turns m) ≤ m * ((1 + total) * (2 * r + 3) + r) = first_left r total m in
    let c : (1 + (total - m)) * (2 * r + 3) ≤ (1 + total) * (2 * r + 3) = times_le (1 + (total - m)) (1 + total) (2 * r + 3) (omega arith)
    in
    let d : (m + 1) * ((1 + total) * (2 * r + 3) + r) ≡ m * ((1 + total) * (2 * r + 3) + r) + ((1 + total) * (2 * r + 3) + r) = next_times m
    ((1 + total) * (2 * r + 3) + r) in
    let e : suc m * ((1 + total) * (2 * r + 3) + r) ≡ (m + 1) * ((1 + total) * (2 * r + 3) + r) = omega arith in
    omega (arith, a, b, c, d, e)

dealt_left : (r lanes total : ℕ) → turns_left r total (dealt lanes total) ≤ lanes * ((1 + total) * (2 * r + 3) + r)
dealt_left r lanes total = grind (arith, first_left, times_le)

more_times : (lanes k r q t d s : ℕ) → lanes * ((1 + (t + d)) * k + r) + (3 * (t + d) + 3) * q + s ≡ lanes * ((1 + t) * k + r) + (3 * t + 3)
    * q + s + d * (lanes * k + 3 * q)
more_times lanes k r q t d s = omega arith

-- A set of at most `most` uploads adds at most this to the bound.
all_more : (r lanes most t d : ℕ) → d ≤ most → all_left r lanes (t + d) ≤ all_left r lanes t + most * (lanes * (2 * r + 3) + 3 * (r + 1))
all_more r lanes most t d h =
    let a : all_left r lanes (t + d) ≡ all_left r lanes t + d * (lanes * (2 * r + 3) + 3 * (r + 1)) = more_times lanes (2 * r + 3) r (r + 1)
    t d (r + 2) in
    let b : d * (lanes * (2 * r + 3) + 3 * (r + 1)) ≤ most * (lanes * (2 * r + 3) + 3 * (r + 1)) = times_le d most
    (lanes * (2 * r + 3) + 3 * (r + 1)) h in
    omega (arith, a, b)

-- ---- a deletion

-- A key below a prefix is a key of the bucket.
count_any : {E : Type 0} (t q : E → Bool) (es : List E) → ((e : E) → t e ≡ true → q e ≡ true) → count t es ≤ count q es
count_any t q [] h = omega arith
count_any t q (e ∷ es) h = grind (arith, count_more t e es, count_more q e es, count_any t q es h, h e)

keys_any : (b p : List ℕ) (s : Scene) → keys_left b p [] s ≤ keys_left b [] [] s
keys_any b p s = grind (arith, count_any, is_left, and_parts, lt, listed_count)

first_sweep : (j : Job) (p : List ℕ) (s : Scene) → sweep_left j.dest.bucket p sweep_start s ≤ any_sweep j s
first_sweep j p s = let k = keys_any j.dest.bucket p s in omega (arith, k)

-- A request that adds no key raises the bound of no sweep.
none_added : (j : Job) (s : Scene) (q : Request) → adds_key q ≡ false → any_sweep j (apply s q) ≤ any_sweep j s
none_added j s q e = let o = sweep_laws.others j.dest.bucket [] sweep_start s q in let z = ap one_if e in omega (arith, o, z)

sweep_adds : (bucket prefix : List ℕ) (w : Sweep) → adds_key (sweep_asks bucket prefix w) ≡ false
sweep_adds bucket prefix w = grind arith

read_adds : (c : Committer) (w : Script) (n : ℕ) → adds_key (set_request c w n) ≡ false
read_adds c w n = grind arith

-- Numbers.

right_le : (k a b : ℕ) → a ≤ b → k * a ≤ k * b
right_le k a b h = grind arith

three_le : (a b x y r : ℕ) → a ≤ b → x ≤ y → a * x * r ≤ b * y * r
three_le a b x y r h k = let one : a * x ≤ b * x = times_le a b x h in let two : b * x ≤ b * y = right_le b x y k in times_le (a * x)
    (b * y) r (omega arith)

staging_le : (c : Committer) (a b : ℕ) → a ≤ b → if_staging c a ≤ if_staging c b
staging_le c a b h = grind arith

deletion_le : (j : Job) (a b : ℕ) (s t : Scene) → a ≤ b → any_sweep j s ≤ any_sweep j t → deletion_left j a s ≤ deletion_left j b t
deletion_le j a b s t h k =
    let m : j.tasks * a ≤ j.tasks * b = right_le j.tasks a b h in
    staging_le j.committer _ _ (three_le (prefixes_most j a) (prefixes_most j b) (any_sweep j s) (any_sweep j t) (j.retries + 1)
    (omega arith) k)

-- ---- how many prefixes there are

insert_length : (xs : List (List ℕ)) (k : List ℕ) → length (insert_key text_cmp xs k) ≤ length xs + 1
insert_length [] k = omega arith
insert_length (x ∷ xs) k = grind (arith, insert_length xs k)

ordered_length : (ps : List (List ℕ)) → length (ordered ps) ≤ length ps
ordered_length [] = omega arith
ordered_length (p ∷ ps) = let a = insert_length (ordered ps) p in let b = ordered_length ps in omega (arith, a, b)

dirs_length : (ps : List (List ℕ)) → length (dirs_of ps) ≤ length ps
dirs_length [] = omega arith
dirs_length (p ∷ ps) = grind (arith, dirs_length ps)

looked_length : (most : ℕ) (id : List ℕ) (dest : Path) (a : Who) (sets : Sets)
    → length (unwrap_or (option_map (placed false id) (lookup (same_name a) (map (declared_of dest) sets))) []) ≤ widest most sets
looked_length most id dest a [] = omega arith
looked_length most id dest a (s ∷ ss) =
    let own : length (placed false id (declared_of dest s).1) ≡ length s.commits = length-map (declared_of dest s).1 _ ∙ length-map
    s.commits _ in
    grind (arith, own, looked_length most id dest a ss)

picked_length : (most : ℕ) (j : Job) (sets : Sets) (t : ℕ) (o : Option ℕ)
    → length (files_picked (read_script j sets) t o) ≤ widest most sets
picked_length most j sets t (Some a) = looked_length most j.job j.dest (record { task = t; attempt = a }) sets
picked_length most j sets t None = omega arith

below_length : (most : ℕ) (j : Job) (sets : Sets) (picks : Picks) (n : ℕ)
    → length (wanted_below (read_script j sets) picks n) ≤ n * widest most sets
below_length most j sets picks zero = omega arith
below_length most j sets picks (suc n) =
    let w = read_script j sets in
    let a = below_length most j sets picks n in
    let b = picked_length most j sets n (picks n) in
    let e : suc n * widest most sets ≡ n * widest most sets + widest most sets = omega arith in
    omega (arith, a, b, e, length-append (wanted_below w picks n) (files_picked w n (picks n)))

partitions_length : (most : ℕ) (j : Job) (sets : Sets) (picks : Picks)
    → length (partitions (wanted_paths (read_script j sets) picks)) ≤ j.tasks * widest most sets
partitions_length most j sets picks = grind (arith, ordered_length, dirs_length, length-map, below_length)

-- A set of at most `most` uploads does not raise `widest`.
widest_more : (most : ℕ) (sets : Sets) (s : PendingSet) → length s.commits ≤ most → widest most (sets ++ s ∷ []) ≤ widest most sets
widest_more most [] s h = omega arith
widest_more most (x ∷ xs) s h = let ih = widest_more most xs s h in omega (arith, ih)

-- ---- after the last set

module _ (most : ℕ) (j : Job) (sc : Scene) (sets : Sets) where
  abbrev all_now : ℕ
  all_now = all_left j.retries j.lanes (length (all_commits sets))

  begun_left : (w : Script) → w.lanes ≡ j.lanes → left_of most j (completing sets (dealt w.lanes (length (all_commits sets))) []) sc ≤
      all_now
  begun_left w h = grind (arith, completing_left, dealt_left)

  -- The bound of a commit that has these prefixes left.
  below_left : (w : Script) (ps : List (List ℕ)) → w.lanes ≡ j.lanes
      → left_of most j (replacing w sets ps) sc ≤ length ps * any_sweep j sc * (j.retries + 1) + j.retries + all_now
  below_left w [] e = let a = begun_left w e in omega (arith, a)
  below_left w (p ∷ ps) e =
      let f = first_sweep j p sc in
      let n : suc (length ps) * any_sweep j sc ≡ any_sweep j sc + length ps * any_sweep j sc = omega arith in
      let a : (sweep_left j.dest.bucket p sweep_start sc + length ps * any_sweep j sc) * (j.retries + 1) ≤ suc (length ps) * any_sweep j sc
      * (j.retries + 1) = times_le _ _ (j.retries + 1) (omega (arith, f, n)) in
      omega (arith, a)

  some_prefixes : (w : Script) (ps : List (List ℕ)) → w.lanes ≡ j.lanes → length ps ≤ prefixes_most j (widest most sets)
      → ((n : ℕ) → if_staging j.committer n ≡ n) → left_of most j (replacing w sets ps) sc ≤ all_now + j.retries + deletion_left j
      (widest most sets) sc
  some_prefixes w ps h g e = grind (arith, below_left, three_le)

  no_prefix : (w : Script) → w.lanes ≡ j.lanes → left_of most j (replacing w sets []) sc ≤ all_now + j.retries + deletion_left j
      (widest most sets) sc
  no_prefix w e = let a = begun_left w e in omega (arith, a)

  displacing : (c : Committer) (m : Mode) → (displaced c m ≡ Nothing → ⊥) → (n : ℕ) → if_staging c n ≡ n
  displacing Magic m h n = absurd (h refl)
  displacing _ m h n = refl

  replaced_left : (d : Displaced) → displaced j.committer j.mode ≡ d
      → left_of most j (replacing (read_script j sets) sets (emptied d j.dest
      (partitions (wanted_paths (read_script j sets) (picks_of sets))))) sc ≤ all_now + j.retries + deletion_left j (widest most sets) sc
  replaced_left Nothing e = no_prefix (read_script j sets) refl
  replaced_left Everything e = some_prefixes (read_script j sets) (emptied Everything j.dest []) refl (omega arith)
      (displacing j.committer j.mode (λ none. cc))
  replaced_left Partitions e =
      let w = read_script j sets in
      let ps = partitions (wanted_paths w (picks_of sets)) in
      let a = partitions_length most j sets (picks_of sets) in
      let b = length-map ps (partition_prefix w) in
      some_prefixes w (map (partition_prefix w) ps) refl (omega (arith, a, b)) (displacing j.committer j.mode (λ none. cc))

  decided_left : (o : Option CommitEnd) → left_of most j (decided (read_script j sets) sets o) sc ≤ all_now + j.retries + deletion_left j
      (widest most sets) sc
  decided_left (Some end) = omega arith
  decided_left None = replaced_left (displaced j.committer j.mode) refl

-- After a set there is less left than before it.
fetching_left : (most : ℕ) (j : Job) (sc now : Scene) (sets : Sets) (s : PendingSet) (m : ℕ) (b : Bool)
    → nat_lt (length (sets ++ s ∷ [])) j.tasks ≡ b → any_sweep j now ≤ any_sweep j sc → length s.commits ≤ most
    → left_of most j (cond b (Fetching (sets ++ s ∷ []) 0) (decided (read_script j (sets ++ s ∷ [])) (sets ++ s ∷ [])
    (same_path (read_script j (sets ++ s ∷ [])) (picks_of (sets ++ s ∷ []))))) now < left_of most j (Fetching sets m) sc
fetching_left most j sc now sets s m b e still few =
    let t = length (all_commits sets) in
    let r = j.retries in
    let all : length (all_commits (sets ++ s ∷ [])) ≡ t + length s.commits = ap length
    (flat_map-append (λ (x : PendingSet). x.commits) sets (s ∷ [])) ∙ length-append (all_commits sets) (s.commits ++ []) ∙ ap
    (λ l. t + length l) (append-nil s.commits) in
    let one : length (sets ++ s ∷ []) ≡ length sets + 1 = length-append sets (s ∷ []) in
    let grown : all_left r j.lanes (length (all_commits (sets ++ s ∷ []))) ≤ all_left r j.lanes t + most *
    (j.lanes * (2 * r + 3) + 3 * (r + 1)) = (let P : ℕ
    → Type 0 = λ n. all_left r j.lanes n ≤ all_left r j.lanes t + most * (j.lanes * (2 * r + 3) + 3 * (r + 1)) in subst P (sym all)
    (all_more r j.lanes most t (length s.commits) few)) in
    by b e grown one (deletion_le j (widest most (sets ++ s ∷ [])) (widest most sets) now sc (widest_more most sets s few) still)
  where
    by : (b : Bool) → nat_lt (length (sets ++ s ∷ [])) j.tasks ≡ b
        → all_left j.retries j.lanes (length (all_commits (sets ++ s ∷ []))) ≤ all_left j.retries j.lanes (length (all_commits sets)) + most
        * (j.lanes * (2 * j.retries + 3) + 3 * (j.retries + 1)) → length (sets ++ s ∷ []) ≡ length sets + 1
        → deletion_left j (widest most (sets ++ s ∷ [])) now ≤ deletion_left j (widest most sets) sc
        → left_of most j (cond b (Fetching (sets ++ s ∷ []) 0) (decided (read_script j (sets ++ s ∷ [])) (sets ++ s ∷ [])
        (same_path (read_script j (sets ++ s ∷ [])) (picks_of (sets ++ s ∷ []))))) now < left_of most j (Fetching sets m) sc
    by true e grown one less_deleted =
        let low : length (sets ++ s ∷ []) < j.tasks = below_is (length (sets ++ s ∷ [])) j.tasks e in
        let less : (1 + (j.tasks - length (sets ++ s ∷ []))) * read_left j.retries j.lanes most + read_left j.retries j.lanes most ≤
        (1 + (j.tasks - length sets)) * read_left j.retries j.lanes most = step_times (1 + (j.tasks - length (sets ++ s ∷ [])))
        (1 + (j.tasks - length sets)) (read_left j.retries j.lanes most) (omega arith) in
        omega (arith, grown, less, less_deleted)
    by false e grown one less_deleted =
        let less : 0 * read_left j.retries j.lanes most + read_left j.retries j.lanes most ≤ (1 + (j.tasks - length sets)) * read_left
        j.retries j.lanes most = step_times 0 (1 + (j.tasks - length sets)) (read_left j.retries j.lanes most) (omega arith) in
        let last = decided_left most j now (sets ++ s ∷ []) (same_path (read_script j (sets ++ s ∷ [])) (picks_of (sets ++ s ∷ []))) in
        omega (arith, last, grown, less, less_deleted)

-- ---- all outcomes

set_left : (most : ℕ) (j : Job) (sc now : Scene) (sets : Sets) (m : ℕ) (o : Option PendingSet) → any_sweep j now ≤ any_sweep j sc
    → SpellsSet j (length sets) o → HasFew most o → left_of most j (fetched (read_script j (with_set sets o)) sets o) now < left_of most j
    (Fetching sets m) sc
set_left most j sc now sets m None still fit few = absurd fit
set_left most j sc now sets m (Some s) still fit few = fetching_left most j sc now sets s m (nat_lt (length (sets ++ s ∷ [])) j.tasks) refl
    still few

-- A sweep that goes on, or is over below its prefix.
module _ (most : ℕ) (j : Job) (sc now : Scene) (sets : Sets) (p : List ℕ) (ps : List (List ℕ)) (w : Sweep) (m : ℕ)
    (still : any_sweep j now ≤ any_sweep j sc) where
  goes_left : (next : Sweep) → sweep_left j.dest.bucket p next now < sweep_left j.dest.bucket p w sc
      → left_of most j (Replacing sets p ps next 0) now < left_of most j (Replacing sets p ps w m) sc
  goes_left next h =
      let a : length ps * any_sweep j now ≤ length ps * any_sweep j sc = right_le (length ps) (any_sweep j now) (any_sweep j sc) still in
      let b = step_times (sweep_left j.dest.bucket p next now + length ps * any_sweep j now)
      (sweep_left j.dest.bucket p w sc + length ps * any_sweep j sc) (j.retries + 1) (omega (arith, h, a)) in
      omega (arith, b)

  next_left : 0 < sweep_left j.dest.bucket p w sc → left_of most j (replacing (read_script j sets) sets ps) now < left_of most j
      (Replacing sets p ps w m) sc
  next_left some =
      let a = below_left most j now sets (read_script j sets) ps refl in
      let b : length ps * any_sweep j now ≤ length ps * any_sweep j sc = right_le (length ps) (any_sweep j now) (any_sweep j sc) still in
      let c = step_times (length ps * any_sweep j now) (sweep_left j.dest.bucket p w sc + length ps * any_sweep j sc) (j.retries + 1)
      (omega (arith, some, b)) in
      omega (arith, a, c)

  after_left : (o : Option Sweep) → sweeps_left j.dest.bucket p o now < sweep_left j.dest.bucket p w sc
      → left_of most j (swept (read_script j sets) sets p ps o) now < left_of most j (Replacing sets p ps w m) sc
  after_left (Some next) h = goes_left next h
  after_left None h = next_left h

swept_left : (most : ℕ) (j : Job) (sc : Scene) (sets : Sets) (p : List ℕ) (ps : List (List ℕ)) (w : Sweep) (m : ℕ) (r : Reply)
    → FitsSweep w r → r ≡ answer sc (sweep_asks j.dest.bucket p w)
    → left_of most j (swept (read_script j sets) sets p ps (sweep_hears (is_no_magic (read_script j sets)) w r))
    (apply sc (sweep_asks j.dest.bucket p w)) < left_of most j (Replacing sets p ps w m) sc
swept_left most j sc sets p ps w m r fit due =
    let q = sweep_asks j.dest.bucket p w in
    let goes = is_no_magic (read_script j sets) in
    let P : Reply → Type 0 = λ x. sweeps_left j.dest.bucket p (sweep_hears goes w x) (apply sc q) < sweep_left j.dest.bucket p w sc in
    after_left most j sc (apply sc q) sets p ps w m (none_added j sc q (sweep_adds j.dest.bucket p w)) (sweep_hears goes w r)
    (subst P (sym due) (sweep_laws.falls j.dest.bucket p goes w sc (subst (FitsSweep w) due fit)))

heard_left : (most : ℕ) (j : Job) (sc : Scene) (c : Commit) (r : Reply) (q : Request) → 0 < j.lanes → asks j c ≡ Some q → FitsReply j c r
    → ReadsFew most c (Answered r) → r ≡ answer sc q
    → left_of most j (commit_hears (read_script j (sets_after c (Answered r))) c r) (apply sc q) < left_of most j c sc
heard_left most j sc (Fetching sets m) r q some asked fit few due =
    let adds : adds_key q ≡ false = ap adds_key (sym (some_is asked)) ∙ read_adds j.committer (read_script j sets) (length sets) in
    set_left most j sc (apply sc q) sets m (set_read r) (none_added j sc q adds) fit few
heard_left most j sc (Replacing sets p ps w m) r q some asked fit few due =
    let is : sweep_asks j.dest.bucket p w ≡ q = some_is asked in
    let P : Request → Type 0 = λ x. left_of most j (swept (read_script j sets) sets p ps
    (sweep_hears (is_no_magic (read_script j sets)) w r)) (apply sc x) < left_of most j (Replacing sets p ps w m) sc in
    subst P is (swept_left most j sc sets p ps w m r fit (due ∙ ap (answer sc) (sym is)))
heard_left most j sc (Completing sets x xs done) r q some asked fit few due = answered_left most j (apply sc q) sets x xs done some
heard_left most j sc (Marking sets m) r q some asked fit few due = omega arith
heard_left most j sc (Reverting y ys m) r q some asked fit few due = let h : left_of most j (reverting ys) sc ≤ length ys *
    (j.retries + 1) = reverting_left most j sc ys in let k : left_of most j (reverting ys) (apply sc q) ≤ length ys * (j.retries + 1) =
    reverting_left most j (apply sc q) ys in omega arith
heard_left most j sc (CommitOver end) r q some asked fit few due = absurd (none_some refl asked)

counted_left : (most : ℕ) (j : Job) (sc now : Scene) (b : Bool) (c d e : Commit) (m : ℕ) → nat_lt m j.retries ≡ b
    → (m < j.retries → left_of most j c now < left_of most j e sc) → left_of most j d now < left_of most j e sc
    → left_of most j (cond b c d) now < left_of most j e sc
counted_left most j sc now b c d e m h g f = grind arith

-- The commit received no reply to the request, whether or not the request took effect.
record Unheard (j : Job) (sc now : Scene) (c : Commit) : Type 0 where
  reads : (sets : Sets) (m : ℕ) → c ≡ Fetching sets m → any_sweep j now ≤ any_sweep j sc
  sweeps : (sets : Sets) (p : List ℕ) (ps : List (List ℕ)) (w : Sweep) (m : ℕ) → c ≡ Replacing sets p ps w m
      → (any_sweep j now ≤ any_sweep j sc) × (sweep_left j.dest.bucket p w now ≤ sweep_left j.dest.bucket p w sc)

missed_left : (most : ℕ) (j : Job) (sc now : Scene) (c : Commit) (lost : Bool) (q : Request) → asks j c ≡ Some q → Unheard j sc now c
    → left_of most j (commit_misses (read_script j (sets_in c)) c lost) now < left_of most j c sc
missed_left most j sc now (Fetching sets m) lost q asked u =
    let d = deletion_le j (widest most sets) (widest most sets) now sc (omega arith) (u.reads sets m refl) in
    counted_left most j sc now (nat_lt m j.retries) (Fetching sets (m + 1)) (CommitOver (ends.StoreFault stages.Read)) (Fetching sets m) m
    refl (λ h. omega (arith, h, d)) (omega arith)
missed_left most j sc now (Replacing sets p ps w m) lost q asked u =
    let h = u.sweeps sets p ps w m refl in
    let a : length ps * any_sweep j now ≤ length ps * any_sweep j sc = right_le (length ps) (any_sweep j now) (any_sweep j sc) h.0 in
    let b = times_le (sweep_left j.dest.bucket p w now + length ps * any_sweep j now)
    (sweep_left j.dest.bucket p w sc + length ps * any_sweep j sc) (j.retries + 1) (omega (arith, h.1, a)) in
    counted_left most j sc now (nat_lt m j.retries) (Replacing sets p ps w (m + 1)) (CommitOver (ends.StoreFault stages.Delete))
    (Replacing sets p ps w m) m refl (λ l. omega (arith, l, b)) (omega arith)
missed_left most j sc now (Completing sets x xs done) lost q asked u = counted_left most j sc now (nat_lt x.missed j.retries)
    (completing sets (xs ++ again x lost ∷ []) done) (worn_completion sets x xs done) (Completing sets x xs done) x.missed refl
    (again_left most j now sets x xs done lost) (worn_left most j now sets x xs done)
missed_left most j sc now (Marking sets m) lost q asked u = counted_left most j sc now (nat_lt m j.retries) (Marking sets (m + 1))
    (CommitOver (ends.StoreFault stages.Success)) (Marking sets m) m refl (λ h. omega arith) (omega arith)
missed_left most j sc now (Reverting y ys m) lost q asked u = counted_left most j sc now (nat_lt m j.retries) (Reverting y ys (m + 1))
    (reverting ys) (Reverting y ys m) m refl (λ h. omega arith) (let h : left_of most j (reverting ys) now ≤ length ys * (j.retries + 1) =
    reverting_left most j now ys in omega arith)
missed_left most j sc now (CommitOver end) lost q asked u = absurd (none_some refl asked)

same_unheard : (j : Job) (sc : Scene) (c : Commit) → Unheard j sc sc c
same_unheard j sc c = record { reads = λ sets m e. omega arith; sweeps = λ sets p ps w m e. (omega arith, omega arith) }

lost_unheard : (j : Job) (sc : Scene) (c : Commit) (q : Request) → asks j c ≡ Some q → Unheard j sc (apply sc q) c
lost_unheard j sc c q asked = record {
  reads = λ sets m e. none_added j sc q (ap adds_key (sym (some_is (sym (ap (asks j) e) ∙ asked))) ∙ read_adds j.committer
      (read_script j sets) (length sets));
  sweeps = λ sets p ps w m e.
      let is : sweep_asks j.dest.bucket p w ≡ q = some_is (sym (ap (asks j) e) ∙ asked) in
      let P : Request → Type 0 = λ x. sweep_left j.dest.bucket p w (apply sc x) ≤ sweep_left j.dest.bucket p w sc in
      (none_added j sc q (ap adds_key (sym is) ∙ sweep_adds j.dest.bucket p w), subst P is (sweep_laws.no_rise j.dest.bucket p w sc));
}

falls_by : (most : ℕ) (m : Committing) (s : Scene) (q : Request) (o : Outcome) → commit_wants m ≡ Some q → FitsFew most m o
    → ((a : Reply) → o ≡ Answered a → a ≡ answer s q)
    → left_of most m.plan (commit_told m o).operation (effect s q o) < left_of most m.plan m.operation s
falls_by most m s q (Answered r) asked h due = heard_left most m.plan s m.operation r q h.lanes asked h.fits h.few (due r refl)
falls_by most m s q Slow asked h due = missed_left most m.plan s s m.operation false q asked (same_unheard m.plan s m.operation)
falls_by most m s q RequestLost asked h due = missed_left most m.plan s s m.operation true q asked (same_unheard m.plan s m.operation)
falls_by most m s q ReplyLost asked h due = missed_left most m.plan s (apply s q) m.operation true q asked
    (lost_unheard m.plan s m.operation q asked)

-- ---- requests of others

grown_by : (p s t r a : ℕ) → t ≤ s + a → p * t * r ≤ p * s * r + p * r * a
grown_by p s t r a h =
    let one : p * t ≤ p * (s + a) = right_le p t (s + a) h in
    let two : p * t * r ≤ p * (s + a) * r = times_le (p * t) (p * (s + a)) r one in
    let three : p * (s + a) * r ≡ p * s * r + p * r * a = omega arith in
    omega arith

staging_grown : (c : Committer) (x y z a : ℕ) → x ≤ y + z * a → if_staging c x ≤ if_staging c y + if_staging c z * a
staging_grown c x y z a h = grind arith

others_by : (most : ℕ) (j : Job) (c : Commit) (s : Scene) (r : Request)
    → left_of most j c (apply s r) ≤ left_of most j c s + rise_of most j c * one_if (adds_key r)
others_by most j (Fetching sets m) s r =
    let a = one_if (adds_key r) in
    let n = prefixes_most j (widest most sets) in
    let k = j.retries + 1 in
    let h = staging_grown j.committer _ _ _ a (grown_by n (any_sweep j s) (any_sweep j (apply s r)) k a
    (sweep_laws.others j.dest.bucket [] sweep_start s r)) in
    omega (arith, h)
others_by most j (Replacing sets p ps w m) s r =
    let a = one_if (adds_key r) in
    let k = j.retries + 1 in
    let x = sweep_laws.others j.dest.bucket p w s r in
    let y = sweep_laws.others j.dest.bucket [] sweep_start s r in
    let z : length ps * any_sweep j (apply s r) ≤ length ps * (any_sweep j s + a) = right_le (length ps) (any_sweep j (apply s r))
    (any_sweep j s + a) y in
    let e : length ps * (any_sweep j s + a) ≡ length ps * any_sweep j s + length ps * a = omega arith in
    let f : (1 + length ps) * a ≡ a + length ps * a = omega arith in
    let t = times_le (sweep_left j.dest.bucket p w (apply s r) + length ps * any_sweep j (apply s r))
    (sweep_left j.dest.bucket p w s + length ps * any_sweep j s + (1 + length ps) * a) k (omega (arith, x, z, e, f)) in
    let g : (sweep_left j.dest.bucket p w s + length ps * any_sweep j s + (1 + length ps) * a) * k ≡
    (sweep_left j.dest.bucket p w s + length ps * any_sweep j s) * k + (1 + length ps) * k * a = omega arith in
    omega (arith, t, g)
others_by most j (Completing sets x xs done) s r = omega arith
others_by most j _ s r = omega arith

pub commit_falls : CommitFalls
commit_falls = grind (arith, falls_by, others_by)
