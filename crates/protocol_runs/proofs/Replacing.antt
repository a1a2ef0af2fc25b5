-- How a replace mode deletes what it does not keep, and what becomes of paths that are not wanted.
use Rattle.text_and_lists.proofs.Members.{false_true, none_or_some, none_some, true_or_false}
use Rattle.text_and_lists.specs.Members.{IsIn}
use Rattle.text_and_lists.specs.Order.{text_cmp}
use Rattle.job_invariant.proofs.Aborting.{taken_in}
use Rattle.job_invariant.proofs.Agreeing.{AgreeBelow, Agrees, unkept_prefix}
use Rattle.job_invariant.proofs.Effects.{deleted_or_not}
use Rattle.job_invariant.proofs.Legal.{some_dest}
use Rattle.job_invariant.proofs.Spares.{in_or_not}
use Rattle.job_invariant.proofs.Wanted.{same_wanted}
use Rattle.job_invariant.specs.Driver.{AllUnder, SweepsUnder}
use Rattle.job_invariant.specs.Emptying.{OnlyThose}
use Rattle.job_invariant.specs.Stores.{at_key}
use Rattle.job_model.specs.JobScript.{Script}
use Rattle.job_model.specs.Legal.{IsLegal}
use Rattle.job_protocol.specs.Conflicts.{keeps, keeps_of, partitions}
use Rattle.job_protocol.specs.JobCommits.{Commit, Sets, commit_start, commit_tells, is_no_magic, picks_of, replaced}
use Rattle.job_protocol.specs.Operations.{Setting}
use Rattle.job_protocol.specs.Outputs.{Picks, paths_of}
use Rattle.job_protocol.specs.Setup.{dest_prefix}
use Rattle.job_protocol.specs.View.{is_file_path, is_folder}
use Rattle.protocol_runs.proofs.Leads.{Enters, Leads, deals, deals_none, empties, empties_next, enters, fetches, leads, sweeps_again}
use Rattle.protocol_runs.proofs.Leads.{sweeps_on}
use Rattle.protocol_runs.proofs.Running.{Cleared, Clearing, Empty, Emptying, OtherStands, Replaces, first_at, now_at}
use Rattle.list_walk.specs.Walks.{Deleting, Listing, Sweep, page_after, sweep_asks, sweep_start}
use Rattle.magic_paths.proofs.Tails.{begins_behind, below_is}
use Rattle.path_keys.specs.Paths.{below}
use Rattle.s3_types.specs.Answer.{apply}
use Rattle.s3_types.specs.Moment.{effect}
use Rattle.s3_types.specs.Pages.{begins}
use Rattle.s3_types.specs.Store.{Content, Scene}
use Rattle.s3_types.specs.declared.journal.Outcome.{Outcome}
use Rattle.s3_types.specs.declared.request.Request.{Request}
use Rattle.s3_types.specs.declared.request.Request.TheVariants.{DeleteObjects}
use Rattle.std.proofs.Common.{List, None, Option, Some, ap, append_assoc, arith, codes, cond, inl, inr, not, refl, subst, sym, take, true}
use Rattle.std.proofs.Common.{ℕ, [], ◌&&◌, ◌++◌, ◌∙◌, ◌∷◌, ◌≡◌, ◌⊎◌}
use Rattle.std.proofs.lemmas.Bool.{and_parts, false≢true}
use Rattle.std.specs.Ordering.{is_lt}
use Rattle.std.specs.Prelude.{bytes_eq}
use Rattle.store_frame.proofs.Framed.{frame}
use Rattle.store_frame.proofs.Reading.{reads_nothing}
use Rattle.store_frame.specs.Held.{HasBucket}

-- A file's path is not below the magic directory.
pub path_no_magic : {w : Script} → IsLegal w → (q : List ℕ) → is_file_path q ≡ true → is_no_magic w (below w.dest.key q) ≡ true
path_no_magic {w = w} j q h =
    let a = and_parts (not (is_folder q) && not (begins (codes "__magic/") q)) (not (bytes_eq q (codes "_SUCCESS"))) h in
    let b = (and_parts (not (is_folder q)) (not (begins (codes "__magic/") q)) a.0).1 in
    let at : begins (dest_prefix w ++ codes "__magic/") (below w.dest.key q) ≡ begins (codes "__magic/") q =
    ap (λ p. begins p (below w.dest.key q)) (append_assoc w.dest.key (codes "/") (codes "__magic/")) ∙ ap
    (begins (w.dest.key ++ (codes "/" ++ codes "__magic/"))) (below_is w.dest.key q (some_dest j)) ∙ begins_behind w.dest.key
    (codes "/" ++ codes "__magic/") (47 ∷ q) in
    ap not at ∙ b

pub some_behind : (p k : List ℕ) → begins (p ++ codes "/") k ≡ true → is_lt (text_cmp [] k) ≡ true
some_behind [] [] h = absurd (false≢true h)
some_behind (x ∷ p) [] h = absurd (false≢true h)
some_behind p (x ∷ k) h = refl

module _ (g : Setting) (j : IsLegal g.script) (opening : Content) where
  abbrev w : Script
  w = g.script

  -- The sets determine what the mode keeps.
  pub keeps_same : (picks : Picks) (sets : Sets) → AgreeBelow w picks sets w.tasks → (q : List ℕ)
      → keeps_of w picks q ≡ keeps_of w (picks_of sets) q
  keeps_same picks sets a q = ap (λ l. keeps w.committer w.mode (partitions (paths_of l)) q) (same_wanted w (picks_of sets) picks a)

  -- Once all prefixes are emptied.
  pub cleared_so : (picks : Picks) (sets : Sets) → AgreeBelow w picks sets w.tasks → (c : Content)
      → ((d : List ℕ) → IsIn d (replaced w.committer w.mode w (picks_of sets)) → OnlyThose w d (is_no_magic w) c [])
      → (q : List ℕ) → is_file_path q ≡ true → Clearing g opening picks q (now_at g opening c q)
      → Cleared g opening picks q (now_at g opening c q)
  cleared_so picks sets a c clear q p f = elim (true_or_false (keeps_of w picks q)) [
    | inl keep ↦ elim f [
      | inl same ↦ same ∙ sym (ap (λ t. cond t (first_at g opening q) None) keep)
      | inr none ↦ absurd (false_true none.1 keep)
    ]
    | inr drop ↦
        let o = unkept_prefix j (picks_of sets) q (sym (keeps_same picks sets a q) ∙ drop) in
        elim (none_or_some (now_at g opening c q)) [
          | inl none ↦ none ∙ sym (ap (λ t. cond t (first_at g opening q) None) drop)
          | inr x ↦ absurd (clear o.0 o.1 (below w.dest.key q) x.0 o.2 (path_no_magic j q p) x.1)
        ]
  ]

  -- When the next set is read, or all are.
  pub others_enter : (picks : Picks) (q : List ℕ) → is_file_path q ≡ true → (c : Content) → now_at g opening c q ≡ first_at g opening q
      → (sets : Sets) {d : Commit}
      → Enters w sets d → Agrees w picks d → OtherStands g opening picks q (now_at g opening c q) d
  others_enter picks q p c same sets (empties e) a = inl same
  others_enter picks q p c same sets (deals e n) a = cleared_so picks sets a c (λ d i. absurd (subst (IsIn d) (sym e) i)) q p (inl same)
  others_enter picks q p c same sets (deals_none e) a = cleared_so picks sets a c (λ d i. absurd (subst (IsIn d) (sym e) i)) q p (inl same)
  others_enter picks q p c same sets _ a = same

  -- ---- prefixes

  -- Below the next prefix nothing is deleted yet.
  pub empty_next : (c : Content) (sets : Sets) (behind : List (List ℕ)) (p : List ℕ) (ps : List (List ℕ))
      → behind ++ (p ∷ ps) ≡ replaced w.committer w.mode w (picks_of sets)
      → ((d : List ℕ) → IsIn d behind → OnlyThose w d (is_no_magic w) c [])
      → begins (dest_prefix w) p ≡ true → Emptying g opening c sets p ps sweep_start
  empty_next c sets behind p ps h g e = grind arith

  pub empty_enter : (c : Content) (sets : Sets) → AllUnder (dest_prefix w) (replaced w.committer w.mode w (picks_of sets)) → {d : Commit}
      → Enters w sets d → Empty g opening c d
  empty_enter c sets under (empties {p = p} {ps = ps} e) = empty_next c sets [] p ps e (λ d i. absurd i)
      (under p (subst (IsIn p) e (inl refl)))
  empty_enter c sets under _ = tt

  -- ---- the sets determine which prefixes are left

  enter_replaces : {sets : Sets} {d : Commit} → Enters w sets d → Replaces g opening d
  enter_replaces (empties e) = ([], e)
  enter_replaces _ = tt

  pub start_replaces : (missing : Option ℕ) → Replaces g opening (commit_start w missing)
  start_replaces None = enter_replaces (enters w [])
  start_replaces (Some t) = tt

  pub replaces_tells : (d : Commit) → Replaces g opening d → (o : Outcome) → Replaces g opening (commit_tells w d o)
  replaces_tells d h o = by (leads w d o) h
    where
      by : {c d : Commit} {o : Outcome} → Leads w c o d → Replaces g opening c → Replaces g opening d
      by (fetches y e n) h = enter_replaces n
      by (sweeps_on e) h = h
      by sweeps_again h = h
      by (empties_next {p = p} {q = q} {ps = ps} e) h = (h.0 ++ p ∷ [], append_assoc h.0 (p ∷ []) (q ∷ ps) ∙ h.1)
      by _ h = tt

  -- ---- a request of a sweep

  module _ (s : Scene) (there : HasBucket s.content w.dest.bucket) (p : List ℕ) (x : Sweep) where
    abbrev r : Request
    r = sweep_asks w.dest.bucket p x

    -- A key stays, or it was below the prefix and is gone.
    taken : (x : Sweep) → SweepsUnder p x → (k : List ℕ)
        → (at_key w (apply s (sweep_asks w.dest.bucket p x)).content k ≡ at_key w s.content k)
        ⊎ ((at_key w (apply s (sweep_asks w.dest.bucket p x)).content k ≡ None) × (begins p k ≡ true))
    taken (Listing keys) under k = inl (ap (λ (v : Scene). at_key w v.content k) (reads_nothing s (page_after w.dest.bucket p keys) refl))
    taken (Deleting q qs) under k = elim (in_or_not k (take 1000 (q ∷ qs))) [
      | inr out ↦ inl ((frame s w.dest.bucket (DeleteObjects w.dest.bucket (take 1000 (q ∷ qs))) there).keys k (λ b i. out i))
      | inl i ↦ elim (deleted_or_not w s there (take 1000 (q ∷ qs)) k) [
        | inl same ↦ inl same
        | inr none ↦ inr
            (none, under k (taken_in 1000 (q ∷ qs) k i))
      ]
    ]

    pub taken_after : SweepsUnder p x → (o : Outcome) (k : List ℕ) → (at_key w (effect s r o).content k ≡ at_key w s.content k)
        ⊎ ((at_key w (effect s r o).content k ≡ None) × (begins p k ≡ true))
    taken_after h o k = grind (arith, taken)

    pub still_clear : SweepsUnder p x → (o : Outcome) (d : List ℕ) → OnlyThose w d (is_no_magic w) s.content []
        → OnlyThose w d (is_no_magic w) (effect s r o).content []
    still_clear under o d h k y b go e = elim (taken_after under o k) [
      | inl same ↦ h k y b go (sym same ∙ e)
      | inr gone ↦ absurd
          (none_some gone.0 e)
    ]
