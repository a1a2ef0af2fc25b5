-- For a commit with these sets, the script that they give leads to the same requests as the job's.
use Rattle.text_and_lists.proofs.Members.{false_true, in_append, in_back, in_front, in_map, map_in, none_some, text_is, text_true}
use Rattle.text_and_lists.proofs.Members.{true_or_false}
use Rattle.text_and_lists.specs.Members.{IsIn}
use Rattle.text_and_lists.specs.Order.{text_eq}
use Rattle.commit_lanes.proofs.ReadFiles.{file_of, files_at}
use Rattle.commit_lanes.specs.Relatives.{relative_of}
use Rattle.conflict.proofs.Rising.{ordered_same}
use Rattle.job_invariant.proofs.JobCommitting.{one_more_set}
use Rattle.job_invariant.proofs.Replies.{set_answered}
use Rattle.job_invariant.proofs.Whose.{attempt}
use Rattle.job_invariant.specs.Driver.{FitsJobCommit, IsHeldSet, Reads}
use Rattle.job_invariant.specs.Facts.{Facts, knowing}
use Rattle.job_invariant.specs.Told.{Told}
use Rattle.job_model.specs.Attempts.{Who}
use Rattle.job_model.specs.Files.{File, has_path}
use Rattle.job_model.specs.JobScript.{Script}
use Rattle.job_model.specs.Known.{Drawn}
use Rattle.job_model.specs.Legal.{IsLegal}
use Rattle.job_model.specs.declared.ends.CommitEnd.{CommitEnd}
use Rattle.job_protocol.specs.AtWork.{job_of, read_script, sets_after, sets_in, with_set}
use Rattle.job_protocol.specs.JobCommits.{Commit, Fetching, Marking, Replacing, Sets, commit_asks, commit_start, commit_tells, decided}
use Rattle.job_protocol.specs.JobCommits.{fetched, fetching, picks_of, replaced, replacing, set_read, set_request, swept}
use Rattle.job_protocol.specs.Outputs.{Picks, files, files_picked, first_shared, same_path, shared_by, two_where, wanted, wanted_below}
use Rattle.job_protocol.specs.Outputs.{wanted_paths, writes}
use Rattle.job_protocol.specs.Records.{file_key, files_set, mark_text}
use Rattle.job_refinement.proofs.HeldSets.{are_read, path_back, same_read, uploads_of}
use Rattle.list_walk.specs.Walks.{Listing, Sweep}
use Rattle.pending_json.specs.Pending.{Pending}
use Rattle.pending_json.specs.Trees.{success_tree}
use Rattle.pending_json.specs.declared.records.PendingSet.{PendingSet}
use Rattle.s3_types.specs.Answer.{answer}
use Rattle.s3_types.specs.Moment.{IsHonestOutcome}
use Rattle.s3_types.specs.Store.{Scene}
use Rattle.s3_types.specs.declared.journal.Outcome.{Outcome}
use Rattle.s3_types.specs.declared.journal.Outcome.TheVariants.{Answered, Slow}
use Rattle.s3_types.specs.declared.reply.Reply.{Reply}
use Rattle.s3_types.specs.declared.request.Committer.{Committer}
use Rattle.s3_types.specs.declared.request.Mode.{Mode}
use Rattle.s3_types.specs.declared.request.Request.{Request}
use Rattle.s3_types.specs.declared.request.Request.TheVariants.{PutObject}
use Rattle.serde_json.specs.Written.{compact_text}
use Rattle.std.proofs.Common.{Bool, List, None, Option, Some, ap, arith, cond, false, inl, inr, is_some, length, map, nat_lt, refl}
use Rattle.std.proofs.Common.{slice_get, subst, suc, sym, true, zero, ℕ, [], ◌++◌, ◌<◌, ◌^◌, ◌∙◌, ◌∷◌, ◌≡◌, ◌≤◌}
use Rattle.std.proofs.lemmas.List.{map-append}
use Rattle.std.specs.Cmp.{both_ways}
use Rattle.std.specs.Map.{lookup}
use Rattle.std.specs.Option.{option_map, unwrap_or}
use Rattle.magic_paths.specs.Layout as layout

-- ---- files of the same paths

abbrev paths : List File → List (List ℕ)
paths fs = map (λ f. f.0) fs

record SamePaths (xs ys : List File) : Type 0 where
  pub there : (p : List ℕ) → IsIn p (paths xs) → IsIn p (paths ys)
  pub back : (p : List ℕ) → IsIn p (paths ys) → IsIn p (paths xs)

append_in : (p : List ℕ) (xs ys xs' ys' : List File) → (IsIn p (paths xs) → IsIn p (paths xs')) → (IsIn p (paths ys) → IsIn p (paths ys'))
    → IsIn p (paths (xs ++ ys)) → IsIn p (paths (xs' ++ ys'))
append_in p xs ys xs' ys' h g i =
    subst (IsIn p) (sym (map-append (λ (f : File). f.0) xs' ys'))
    (elim (in_append p (paths xs) (paths ys) (subst (IsIn p) (map-append (λ (f : File). f.0) xs ys) i)) [
      | inl a ↦ in_front p (paths xs') (paths ys') (h a)
      | inr b ↦ in_back p (paths xs') (paths ys') (g b)
    ])

same_append : (xs ys xs' ys' : List File) → SamePaths xs xs' → SamePaths ys ys' → SamePaths (xs ++ ys) (xs' ++ ys')
same_append xs ys xs' ys' h g = record {
  there = λ p i. append_in p xs ys xs' ys' (h.there p) (g.there p) i;
  back = λ p i. append_in p xs'
      ys' xs ys (h.back p) (g.back p) i;
}

-- A file has the path if the path is among theirs.
path_in : (fs : List File) (p : List ℕ) → has_path fs p ≡ true → IsIn p (paths fs)
path_in [] p h = absurd (false_true refl h)
path_in (f ∷ fs) p h = elim (true_or_false (text_eq p f.0)) [ inl e ↦ inl (text_is p f.0 e) | inr e ↦ inr (path_in fs p (rw e at h)) ]

in_path : (fs : List File) (p : List ℕ) → IsIn p (paths fs) → has_path fs p ≡ true
in_path [] p i = absurd i
in_path (f ∷ fs) p (inl e) = ap (λ b. is_some (cond b (Some f.1) (lookup (text_eq p) fs))) (text_true p f.0 e)
in_path (f ∷ fs) p (inr i) = grind (arith, in_path fs p i)

same_has : (xs ys : List File) → SamePaths xs ys → (p : List ℕ) → has_path xs p ≡ has_path ys p
same_has xs ys h p = both_ways (has_path xs p) (has_path ys p) (λ e. in_path ys p (h.there p (path_in xs p e)))
    (λ e. in_path xs p (h.back p (path_in ys p e)))

-- The start of a replace mode's deletion does not depend on the sets that are known.
replacing_same : (w : Script) (known sets : Sets) (ps : List (List ℕ))
    → replacing (read_script (job_of w) known) sets ps ≡ replacing w sets ps
replacing_same w known sets ps = grind arith

-- ---- the files of the sets

module _ {w : Script} (j : IsLegal w) (minimum : ℕ) (sent : Who → Bool) (drawn : Who → List Drawn) (sets : Sets)
    (reads : Reads w minimum sent drawn sets) where
  -- The script that the sets give.
  abbrev told : Script
  told = read_script (job_of w) sets

  abbrev picks : Picks
  picks = picks_of sets

  -- the uploads of files have the files' paths
  set_paths : (a : Who) (ds : List Drawn) (fs : List File) → paths (map (file_of w.dest) (uploads_of j a ds fs)) ≡ paths fs
  set_paths a ds [] = refl
  set_paths a ds (f ∷ fs) = ap (λ p. p ∷ paths (map (file_of w.dest) (uploads_of j a ds fs))) (path_is f) ∙ ap (λ ps. f.0 ∷ ps)
      (set_paths a ds fs)
    where
      path_is : (g : File) → relative_of w.dest (file_key w g) ≡ g.0
      path_is g = ap (λ o. unwrap_or o []) (path_back j g)

  held_paths : (t : ℕ) (h : PendingSet) → (x : IsHeldSet w minimum sent drawn t h)
      → SamePaths (map (file_of w.dest) h.commits) (files w x.by)
  held_paths t h x =
      let own : List Pending = uploads_of j x.by (drawn x.by) x.commits in
      let is : h.commits ≡ own = ap (λ (v : PendingSet). v.commits) x.is in
      let all : paths (map (file_of w.dest) h.commits) ≡ paths x.commits = ap (λ cs. paths (map (file_of w.dest) cs)) is ∙ set_paths x.by
      (drawn x.by) x.commits in
      record {
        there = λ p i. let o = in_map (λ (f : File). f.0) p x.commits (subst (IsIn p) all i) in subst (λ q. IsIn q (paths (files w x.by)))
            (sym o.2) (map_in (λ (f : File). f.0) o.0 (files w x.by) (x.are.each o.0 o.1));
        back = λ p i. let o = in_map (λ (f : File). f.0) p (files w x.by) i in subst (IsIn p) (sym all)
            (subst (λ q. IsIn q (paths x.commits)) (sym o.2) (map_in (λ (f : File). f.0) o.0 x.commits (x.are.all o.0 o.1)));
      }

  -- The files of a chosen attempt have the same paths in both scripts.
  picked_paths : (t : ℕ) → SamePaths (files_picked told t (picks t)) (files_picked w t (picks t))
  picked_paths t = by (slice_get sets t) refl
    where
      by : (o : Option PendingSet) → slice_get sets t ≡ o → SamePaths (files_picked told t (picks t)) (files_picked w t (picks t))
      by None e =
          let none : picks t ≡ None = ap (option_map (λ (v : PendingSet). v.attempt)) e in
          subst (λ o. SamePaths (files_picked told t o) (files_picked w t o)) (sym none) (record { there = λ p i. i; back = λ p i. i })
      by (Some h) e =
          let x = reads t h e in
          let at : files_picked told t (picks t) ≡ map (file_of w.dest) h.commits = files_at (job_of w) sets t h
          (are_read j minimum sent drawn sets reads) e in
          let number : h.attempt ≡ x.by.attempt = ap (λ (v : PendingSet). v.attempt) x.is in
          let who : attempt t h.attempt ≡ x.by = ap (λ n. attempt n h.attempt) (sym x.task) ∙ ap (λ n. attempt x.by.task n) number in
          let pick : picks t ≡ Some h.attempt = ap (option_map (λ (v : PendingSet). v.attempt)) e in
          let its : files_picked w t (picks t) ≡ files w x.by = ap (files_picked w t) pick ∙ ap (files w) who in
          subst (λ fs. SamePaths fs (files_picked w t (picks t))) (sym at) (subst (SamePaths (map (file_of w.dest) h.commits)) (sym its)
          (held_paths t h x))

  wanted_same : (n : ℕ) → SamePaths (wanted_below told picks n) (wanted_below w picks n)
  wanted_same zero = record { there = λ p i. i; back = λ p i. i }
  wanted_same (suc n) = same_append (wanted_below told picks n) (files_picked told n (picks n)) (wanted_below w picks n)
      (files_picked w n (picks n)) (wanted_same n) (picked_paths n)

  pub paths_same : wanted_paths told picks ≡ wanted_paths w picks
  paths_same = let all = wanted_same w.tasks in ordered_same (paths (wanted told picks)) (paths (wanted w picks)) all.there all.back

  writes_same : (p : List ℕ) → writes told picks p ≡ writes w picks p
  writes_same p = λ i t. same_has (files_picked told t (picks t)) (files_picked w t (picks t)) (picked_paths t) p i

  shared_same : (ps : List (List ℕ)) → first_shared told picks ps ≡ first_shared w picks ps
  shared_same [] = refl
  shared_same (p ∷ ps) = ap (λ test. shared_by p (two_where test w.tasks) (first_shared told picks ps)) (writes_same p) ∙ ap
      (shared_by p (two_where (writes w picks p) w.tasks)) (shared_same ps)

  pub same_path_same : same_path told picks ≡ same_path w picks
  same_path_same = ap (first_shared told picks) paths_same ∙ shared_same (wanted_paths w picks)

  pub mark_same : mark_text told picks ≡ mark_text w picks
  mark_same = ap (λ l. compact_text (success_tree (record { job = w.job; committer = w.committer; files = l; stamp = w.stamp }))) paths_same

  -- ---- how a commit goes on with them

  replaced_same : (c : Committer) (mode : Mode) → replaced c mode told picks ≡ replaced c mode w picks
  replaced_same c mode = grind (arith, paths_same)

  decided_same : (o : Option CommitEnd) → decided told sets o ≡ decided w sets o
  decided_same (Some end) = refl
  decided_same None = ap (replacing told sets) (replaced_same w.committer w.mode) ∙ replacing_same w sets sets
      (replaced w.committer w.mode w picks)

  pub fetching_same : fetching told sets ≡ fetching w sets
  fetching_same = ap (λ c. cond (nat_lt (length sets) w.tasks) (Fetching sets 0) c)
      (ap (decided told sets) same_path_same ∙ decided_same (same_path w picks))

-- ---- the operation

no_sets : (w : Script) (minimum : ℕ) (sent : Who → Bool) (drawn : Who → List Drawn) → Reads w minimum sent drawn []
no_sets w minimum sent drawn t h e = absurd (none_some refl e)

pub begins_same : (w : Script) → IsLegal w → (missing : Option ℕ)
    → commit_start (read_script (job_of w) []) missing ≡ commit_start w missing
begins_same w j (Some t) = refl
begins_same w j None = fetching_same j 0 (λ a. false) (λ a. []) [] (no_sets w 0 (λ a. false) (λ a. []))

pub asks_same : (w : Script) (minimum : ℕ) (m : Told) → IsLegal w → (c : Commit) → FitsJobCommit w minimum m.publish_sent m.drawn c
    → commit_asks (read_script (job_of w) (sets_in c)) c ≡ commit_asks w c
asks_same w minimum m j (Fetching sets n) fits = ap (λ r. Some r) (same_read w.committer w sets (length sets))
asks_same w minimum m j (Replacing sets p ps (Listing keys) n) fits = refl
asks_same w minimum m j (Marking sets n) fits = ap (λ text. Some (PutObject w.dest.bucket (layout.success_key w.dest.key) text None))
    (mark_same j minimum m.publish_sent m.drawn sets fits)
asks_same w minimum m j _ fits = refl

swept_same : (w : Script) (known sets : Sets) (p : List ℕ) (ps : List (List ℕ)) (o : Option Sweep)
    → swept (read_script (job_of w) known) sets p ps o ≡ swept w sets p ps o
swept_same w known sets p ps o = grind arith

module _ (w : Script) (minimum : ℕ) (s : Scene) (last : ℕ → Option ℕ) (m : Told) (j : IsLegal w) (f : Facts w minimum s last m)
    (few : s.content.next ≤ 2 ^ 64) where
  -- A set that was read, or none.
  read_same : (sets : Sets) → length sets < w.tasks → Reads w minimum m.publish_sent m.drawn sets → (x : Reply)
      → x ≡ answer s (set_request w.committer w (length sets))
      → fetched (read_script (job_of w) (with_set sets (set_read x))) sets (set_read x) ≡ fetched w sets (set_read x)
  read_same sets low reads x e =
      let Same : Reply → Type 0 = λ y. fetched (read_script (job_of w) (with_set sets (set_read y))) sets (set_read y) ≡ fetched w sets
      (set_read y) in
      elim (set_answered j f few (length sets) low) [
        | inl none ↦ elim none [
          | inl key ↦ subst Same (sym (e ∙ key)) refl
          | inr file ↦ subst Same (sym (e ∙ file)) refl
        ]
        | inr there ↦
            let o = there.set in
            let h : PendingSet = files_set w o.by o.commits (knowing (m.drawn o.by)) in
            let held : IsHeldSet w minimum m.publish_sent m.drawn (length sets) h = record
            { by = o.by; task = o.task; number = o.number; has_sent = o.has_sent; commits = o.commits; are = o.are; is = refl } in
            subst (λ y. fetched (read_script (job_of w) (with_set sets y)) sets y ≡ fetched w sets y) (sym (ap set_read e ∙ there.is_read))
            (fetching_same j minimum m.publish_sent m.drawn (sets ++ h ∷ []) (one_more_set j minimum m.publish_sent m.drawn sets h reads
            held))
      ]

  heard_same : (c : Commit) → FitsJobCommit w minimum m.publish_sent m.drawn c → (r : Request) → commit_asks w c ≡ Some r → (x : Reply)
      → x ≡ answer s r → commit_tells (read_script (job_of w) (sets_after c (Answered x))) c (Answered x) ≡ commit_tells w c (Answered x)
  heard_same c h r g x e = grind (arith, read_same, swept_same)

  pub tells_same : (c : Commit) → FitsJobCommit w minimum m.publish_sent m.drawn c → (r : Request) → commit_asks w c ≡ Some r
      → (o : Outcome) → IsHonestOutcome o (answer s r) → commit_tells (read_script (job_of w) (sets_after c o)) c o ≡ commit_tells w c o
  tells_same c fits r e (Answered x) honest = heard_same c fits r e x honest
  tells_same (Fetching sets n) fits r e Slow honest = refl
  tells_same _ fits r e _ honest = refl
