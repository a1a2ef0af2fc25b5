-- Which entries of a run belong to which actor and operation.
use Rattle.text_and_lists.proofs.Members.{false_true, none_some, some_is}
use Rattle.job_invariant.proofs.Whose.{same_or_another, who_false, who_here, who_other, who_true}
use Rattle.job_invariant.specs.Told.{driver_entry, entry, known, put_who, strange_entry}
use Rattle.job_model.specs.Attempts.{Who, actor_of}
use Rattle.job_model.specs.JobScript.{Script}
use Rattle.job_model.specs.Known.{Known}
use Rattle.job_model.specs.declared.events.Op.{Op}
use Rattle.job_outcomes.specs.RunEntries.{RunEntries}
use Rattle.job_protocol.proofs.Begun.{after_check_so, clean_of_so, commit_of_so}
use Rattle.job_protocol.specs.Operations.{Operation, Setting, TheCheck, TheClean, TheCommit, TheSetup, TheSparing, asks, start_of, tells}
use Rattle.job_protocol.specs.Operations.{who}
use Rattle.job_protocol.specs.Seen.{Times, is_begun}
use Rattle.job_protocol.specs.Setup.{Setup, setup_asks}
use Rattle.job_spec.specs.States.{same_actor}
use Rattle.job_spec.specs.Turns.{AllBy, AllUpTo, by_actor, is_own, own, until_last}
use Rattle.protocol_runs.proofs.Folds.{each_run}
use Rattle.protocol_runs.proofs.Published.{longer_published}
use Rattle.protocol_runs.specs.Runs.{BeginAbort, BeginClean, BeginCommit, BeginPublish, BeginSetup, BeginWrite, Beginning, IsTimely}
use Rattle.protocol_runs.specs.Runs.{MayBegin}
use Rattle.protocol_runs.specs.Runs.{Runs, Stand, attempt_sends, begin, commit_with, is_done, is_set, nothing_learnt}
use Rattle.s3_types.specs.Store.{Content}
use Rattle.s3_types.specs.declared.journal.Entry.{Entry}
use Rattle.s3_types.specs.declared.journal.Outcome.{Outcome}
use Rattle.s3_types.specs.declared.request.Actor.{Actor}
use Rattle.s3_types.specs.declared.request.Actor.TheVariants.{Driver}
use Rattle.s3_types.specs.declared.request.Request.{Request}
use Rattle.std.proofs.Common.{List, None, Option, Some, ap, arith, cond, false, inl, inr, refl, slice_get, subst, suc, sym, true, zero, ℕ}
use Rattle.std.proofs.Common.{[], ◌++◌, ◌||◌, ◌∙◌, ◌∷◌, ◌≡◌, ◌≤◌, ◌⊎◌}
use Rattle.std.proofs.Math.Bool.{or-false, or-true}
use Rattle.std.proofs.lemmas.List.{append-nil}
use Rattle.std.proofs.lemmas.List.Elements.{filter-append}
use Rattle.std.proofs.lemmas.List.Folds.{list_any-append}
use Rattle.std.specs.List.{filter, list_any}
use Rattle.job_model.specs.declared.events.Op.TheVariants as ops

-- ---- up to an actor's last entry

-- An entry of the actor itself is the last one; an entry of another actor is not.
last_own : (a : Actor) (es : List Entry) (e : Entry) → same_actor e.actor a ≡ true → until_last a (es ++ e ∷ []) ≡ es ++ e ∷ []
last_own a [] e h = ap (λ b. cond (b || false) (e ∷ []) []) h
last_own a (x ∷ es) e h =
    let any : list_any (λ y. same_actor y.actor a) (x ∷ es ++ e ∷ []) ≡ true = list_any-append (λ y. same_actor y.actor a) (x ∷ es) (e ∷ [])
    ∙ ap (λ b. list_any (λ y. same_actor y.actor a) (x ∷ es) || (b || false)) h ∙ or-true _ in
    ap (λ b. cond b (x ∷ until_last a (es ++ e ∷ [])) []) any ∙ ap (λ l. x ∷ l) (last_own a es e h)

pub last_other : (a : Actor) (es fs : List Entry) → list_any (λ y. same_actor y.actor a) fs ≡ false
    → until_last a (es ++ fs) ≡ until_last a es
last_other a [] [] h = refl
last_other a [] (f ∷ fs) h = ap (λ b. cond b (f ∷ until_last a fs) []) h
last_other a (x ∷ es) fs h =
    let any : list_any (λ y. same_actor y.actor a) (x ∷ es ++ fs) ≡ list_any (λ y. same_actor y.actor a) (x ∷ es) =
    list_any-append (λ y. same_actor y.actor a) (x ∷ es) fs ∙ ap (λ b. list_any (λ y. same_actor y.actor a) (x ∷ es) || b) h ∙ or-false _ in
    ap (λ b. cond b (x ∷ until_last a (es ++ fs)) []) any ∙ ap (λ l. cond (list_any (λ y. same_actor y.actor a) (x ∷ es)) (x ∷ l) [])
    (last_other a es fs h)

-- Other entries follow it.
pub behind_last : (a : Actor) (es : List Entry) → (more : List Entry) × (until_last a es ++ more ≡ es)
behind_last a [] = ([], refl)
behind_last a (e ∷ es) =
    let old = behind_last a es in
    elim (list_any (λ x. same_actor x.actor a) (e ∷ es)) as (λ b. (more : List Entry) × (cond b (e ∷ until_last a es) [] ++ more ≡ e ∷ es))
    [ true ↦ (old.0, ap (λ l. e ∷ l) old.1) | false ↦ (e ∷ es, refl) ]

pub all_more : (a : Actor) (es fs : List Entry) → AllBy a es → AllBy a fs → AllBy a (es ++ fs)
all_more a [] fs h more = more
all_more a (e ∷ es) fs h more = (h.0, all_more a es fs h.1 more)

module _ (g : Setting) (k : Times) (opening : Content) where
  -- ---- the commit's entries

  abbrev since_commit : List Entry → List Entry
  since_commit es = filter (λ e. is_begun k.commit e.event) (by_actor Driver es)

  -- One more entry of the driver, and one of an attempt.
  driver_more : (es : List Entry) (n : ℕ) (r : Request) (o : Outcome)
      → since_commit (es ++ driver_entry n r o ∷ []) ≡ since_commit es ++ cond (is_begun k.commit n) (driver_entry n r o ∷ []) []
  driver_more es n r o = grind (arith, filter-append)

  other_more : (es : List Entry) (e : Entry) → same_actor e.actor Driver ≡ false → since_commit (es ++ e ∷ []) ≡ since_commit es
  other_more es e other =
      ap (filter (λ e. is_begun k.commit e.event)) (filter-append (λ e. same_actor e.actor Driver) es (e ∷ []) ∙ ap
      (λ l. by_actor Driver es ++ l) (rw other refl) ∙ append-nil (by_actor Driver es))

  abbrev Stood : Option Operation → List Entry → List Entry → Type 0
  Stood None es commit = since_commit es ≡ []
  Stood (Some (TheSetup t)) es commit = since_commit es ≡ []
  Stood (Some (TheCommit c)) es commit = g.shared ≡ false → commit ≡ since_commit es
  Stood (Some (TheCheck t)) es commit = g.shared ≡ true
  Stood (Some (TheClean t)) es commit = Unit {0}
  Stood (Some (TheSparing t)) es commit = Unit {0}
  Stood (Some _) es commit = ⊥

  other_stood : (d : Option Operation) (es commit : List Entry) (e : Entry) → same_actor e.actor Driver ≡ false → Stood d es commit
      → Stood d (es ++ e ∷ []) commit
  other_stood d es commit e h g = grind (arith, other_more)

  driver_stood : (op : Operation) (es commit : List Entry) (n : ℕ) (r : Request) (o : Outcome) → IsTimely k n op → Stood (Some op) es commit
      → Stood (Some (tells g (who Driver) op o)) (es ++ driver_entry n r o ∷ []) (commit_with op commit (driver_entry n r o))
  driver_stood op es commit n r o h g = grind (arith, driver_more, after_check_so)

  begin_stood : (es : List Entry) (x : Stand) (b : Beginning) → MayBegin g x b → Stood x.driver es x.commit
      → Stood (begin g x b).driver es (begin g x b).commit
  begin_stood es x b h g = grind arith

  stood : (es : List Entry) (x : Stand) → Runs g k opening es x → Stood x.driver es x.commit
  stood = each_run g k opening (λ es x. Stood x.driver es x.commit) refl (λ es x b run may h. begin_stood es x b may h)
      (λ es x op n r o run d asked timely few honest h. driver_stood op es x.commit n r o timely (subst (λ v. Stood v es x.commit) d h))
      (λ es x a op n r o run set at asked honest h. other_stood x.driver es x.commit (entry a n r o) refl h)
      (λ es x n r o run f h. other_stood x.driver es x.commit (strange_entry n r o) refl h)

  -- ---- if no attempt has begun anything

  abbrev Alone : List Entry → Stand → Type 0
  Alone es x = AllBy Driver (own es) ⊎ ((a : Who) × (op : Operation) × (x.attempts a ≡ Some op))

  alone_more : (es : List Entry) (x : Stand) (e : Entry) → AllBy Driver (own (e ∷ [])) → Alone es x → Alone (es ++ e ∷ []) x
  alone_more es x e one (inl h) = inl (subst (AllBy Driver) (sym (filter-append (λ e. is_own e.actor) es (e ∷ [])))
      (all_more Driver (own es) (own (e ∷ [])) h one))
  alone_more es x e one (inr h) = inr h

  begin_alone : (es : List Entry) (x : Stand) (b : Beginning) → Alone es x → Alone es (begin g x b)
  begin_alone es x (BeginWrite a) h = inr (a, _, who_here x.attempts a (Some _) a refl)
  begin_alone es x (BeginPublish a) h = inr (a, _, who_here x.attempts a (Some _) a refl)
  begin_alone es x (BeginAbort a) h = inr (a, _, who_here x.attempts a (Some _) a refl)
  begin_alone es x _ h = h

  alone : (es : List Entry) (x : Stand) → Runs g k opening es x → Alone es x
  alone =
      each_run g k opening Alone (inl tt) (λ es x b run may h. begin_alone es x b h)
      (λ es x op n r o run d asked timely few honest h. alone_more es x (driver_entry n r o) (refl, tt) h)
      (λ es x a op n r o run set at asked honest h. inr (a, _, who_here x.attempts a (Some _) a refl))
      (λ es x n r o run f h. alone_more es x (strange_entry n r o) tt h)

  -- ---- until the set-up is done

  asks_on : (w : Script) (c : Setup) (r : Request) → setup_asks w c ≡ Some r → is_done c ≡ false
  asks_on w c r h = grind arith

  was_unset : (op : Operation) (r : Request) (o : Outcome) → asks g (who Driver) nothing_learnt op ≡ Some r
      → is_set (Some (tells g (who Driver) op o)) ≡ false → is_set (Some op) ≡ false
  was_unset op r o h g = grind arith

  none_begin : (x : Stand) (b : Beginning) → MayBegin g x b → (is_set x.driver ≡ false → (a : Who) → x.attempts a ≡ None)
      → is_set (begin g x b).driver ≡ false → (a : Who) → (begin g x b).attempts a ≡ None
  none_begin x BeginSetup (inl unset) old e = old unset
  none_begin x BeginSetup (inr just) old e = just.1
  none_begin x (BeginCommit reports) may old e = absurd (false_true e
      (commit_of_so g (λ op. is_set (Some op) ≡ true) (λ missing. refl) (λ t. refl) reports))
  none_begin x BeginClean may old e = absurd (false_true e (clean_of_so g (λ op. is_set (Some op) ≡ true) refl refl))
  none_begin x b may old e = absurd (false_true e may.0)

  none_begun : (es : List Entry) (x : Stand) → Runs g k opening es x → is_set x.driver ≡ false → (a : Who) → x.attempts a ≡ None
  none_begun = each_run g k opening (λ es x. is_set x.driver ≡ false → (a : Who) → x.attempts a ≡ None) (λ e b. refl)
      (λ es x v run may h e b. none_begin x v may h e b)
      (λ es x op n r o run d asked timely few honest h e b. h (ap is_set d ∙ was_unset op r o asked e) b)
      (λ es x a op n r o run set at asked honest h e b. absurd (false_true e set)) (λ es x n r o run f h. h)

  -- ---- up to an attempt's last entry

  abbrev At : Who → Operation → Option ℕ → List Entry → Type 0
  At a op c es = (y : Stand) × Runs g k opening es y × (y.told.cleans_at ≡ c) × (y.attempts a ≡ Some op)

  module _ (a : Who) (op : Operation) (late : (b : Who) (o : Op) (m : Known)
      → start_of g (actor_of b) o (record { missing = None; attempts = [] }) m ≡ Some op → ⊥) where
    begun : (y : Stand) (b : Who) (o : Op) (m : Known) (s : Operation)
        → start_of g (actor_of b) o (record { missing = None; attempts = [] }) m ≡ Some s → put_who y.attempts b (Some s) a ≡ Some op
        → y.attempts a ≡ Some op
    begun y b o m s h g = grind (arith, same_or_another, who_here, who_other)

    begun_at : (y : Stand) (b : Beginning) → (begin g y b).attempts a ≡ Some op → y.attempts a ≡ Some op
    begun_at y (BeginWrite b) at = begun y b ops.Write nothing_learnt _ refl at
    begun_at y (BeginPublish b) at = begun y b ops.Commit nothing_learnt _ refl at
    begun_at y (BeginAbort b) at = begun y b ops.Abort (known y.told b) _ refl at
    begun_at y _ at = at

    pub at_last : (es : List Entry) (x : Stand) → Runs g k opening es x → x.attempts a ≡ Some op
        → At a op x.told.cleans_at (until_last (actor_of a) es)
    at_last =
        each_run g k opening (λ es x. x.attempts a ≡ Some op → At a op x.told.cleans_at (until_last (actor_of a) es))
        (λ at. absurd (none_some refl at))
        (λ es x b run may h at. h (begun_at x b at))
        (λ es x d n r o run is asked timely few honest h at. subst (At a op x.told.cleans_at)
        (sym (last_other (actor_of a) es (driver_entry n r o ∷ []) refl)) (h at))
        (λ es x b m n r o run set is asked honest h at. elim (same_or_another b a) [
          | inl same ↦ subst (At a op x.told.cleans_at) (sym (last_own (actor_of a) es (entry b n r o) (who_true b a same)))
              (_, attempt_sends es x b m n r o run set is asked honest, refl, at)
          | inr ne ↦ subst (At a op x.told.cleans_at) (sym
              (last_other (actor_of a) es (entry b n r o ∷ []) (ap (λ c. c || false) (who_false b a ne))))
              (h (sym (who_other x.attempts b _ a (λ e. ne (sym e))) ∙ at))
        ])
        (λ es x n r o run f h at. subst (At a op x.told.cleans_at) (sym (last_other (actor_of a) es (strange_entry n r o ∷ []) refl))
        (h at))

-- ---- what was published

up_to : (i : ℕ) (es : List Entry) (m : ℕ) (e : Entry) → AllUpTo i es → slice_get es m ≡ Some e → e.event ≤ i
up_to i [] m e h s = absurd (none_some refl s)
up_to i (x ∷ es) zero e h s = subst (λ (v : Entry). v.event ≤ i) (some_is s) h.0
up_to i (x ∷ es) (suc m) e h s = up_to i es m e h.1 s

pub run_entries : RunEntries
run_entries = record {
  commit = λ g single k opening es x run c d. subst (λ v. Stood g k opening v es x.commit) d (stood g k opening es x run) single;
  alone = λ g k opening es x run none. elim (alone g k opening es x run) [ inl h ↦ h | inr h ↦ absurd (none_some (none h.0) h.2) ];
  setup = λ g k opening es x run t d e. none_begun g k opening es x run (ap is_set d ∙ e);
  last = λ g k opening es x run a op at late. at_last g k opening a op late es x run at;
  published = λ w opening es more t a n i h all. longer_published w opening es more t a n i h (up_to i es h.m h.entry all h.is_entry);
}
