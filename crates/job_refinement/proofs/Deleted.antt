-- A replace mode's deletion leaves nothing below its prefixes but the keys that it spares.
use Rattle.text_and_lists.proofs.Members.{in_map, none_or_some, none_some, some_is}
use Rattle.text_and_lists.specs.Members.{IsIn}
use Rattle.text_and_lists.specs.Order.{text_cmp}
use Rattle.conflict.specs.Deletions.{Deletion, asks_below, deleted, deletion_asks, deletion_hears, hears_below, spared, swept_on}
use Rattle.job_invariant.proofs.Emptying.{EmptiedBy, still_by, still_there, swept_by}
use Rattle.job_invariant.proofs.Undone.{deletes_drop}
use Rattle.job_invariant.specs.Driver.{SweepsUnder}
use Rattle.job_invariant.specs.Emptying.{EmptiesBy}
use Rattle.job_invariant.specs.Stores.{at_key}
use Rattle.job_model.specs.JobScript.{Script}
use Rattle.job_protocol.specs.Conflicts.{prefix_below}
use Rattle.job_refinement.specs.Deleted.{Deletes, DeletionsLeave, deleting, had_answer, had_none, nothing_sent}
use Rattle.list_walk.specs.Walks.{Deleting, Listing, Sweep, page_after, sweep_asks, sweep_hears, sweep_start}
use Rattle.path_keys.specs.Paths.{Path, below}
use Rattle.s3_types.specs.Answer.{answer, apply}
use Rattle.s3_types.specs.Moment.{effect}
use Rattle.s3_types.specs.Pages.{begins}
use Rattle.s3_types.specs.Store.{Scene}
use Rattle.s3_types.specs.declared.journal.Outcome.{Outcome}
use Rattle.s3_types.specs.declared.journal.Outcome.TheVariants.{ReplyLost, RequestLost, Slow}
use Rattle.s3_types.specs.declared.object.Object.{Object}
use Rattle.s3_types.specs.declared.request.Committer.{Committer}
use Rattle.s3_types.specs.declared.request.Committer.TheVariants.{Directory, Magic, Partitioned}
use Rattle.s3_types.specs.declared.request.Request.{Request}
use Rattle.std.proofs.Common.{Bool, List, None, Option, Some, ap, false, inl, inr, map, not, refl, subst, sym, take, true, ℕ, [], ◌++◌, ◌∙◌}
use Rattle.std.proofs.Common.{◌∷◌, ◌≡◌, ◌⊎◌}
use Rattle.std.specs.Ordering.{is_lt}
use Rattle.std.specs.Prelude.{codes}
use Rattle.store_frame.proofs.Reading.{reads_nothing}
use Rattle.store_frame.specs.Held.{HasBucket}

-- ---- no key below its prefixes is empty

false_not : {A : Type 0} → false ≡ true → A
false_not e = absurd cc

behind : (q r k : List ℕ) → begins (q ++ (codes "/" ++ r)) k ≡ true → is_lt (text_cmp [] k) ≡ true
behind [] r [] h = false_not h
behind (x ∷ q) r [] h = false_not h
behind q r (x ∷ k) h = refl

under : (key d k : List ℕ) → begins (below key (d ++ codes "/")) k ≡ true → is_lt (text_cmp [] k) ≡ true
under [] d k h = behind d [] k h
under (x ∷ key) d k h = behind (x ∷ key) (d ++ codes "/") k h

some_behind : (c : Committer) (dest : Path) (dirs : List (List ℕ)) (p k : List ℕ) → IsIn p (deleted c dest dirs) → begins p k ≡ true
    → is_lt (text_cmp [] k) ≡ true
some_behind Magic dest dirs p k i h = absurd i
some_behind Directory dest dirs p k (inl is) h = behind dest.key [] k (subst (λ v. begins v k ≡ true) is h)
some_behind Directory dest dirs p k (inr i) h = absurd i
some_behind Partitioned dest dirs p k i h =
    let m = in_map (prefix_below dest) p dirs i in
    under dest.key m.0 k (subst (λ v. begins v k ≡ true) m.2 h)

-- ---- how far it has come

module _ (w : Script) (all : List (List ℕ)) (some : (p k : List ℕ) → IsIn p all → begins p k ≡ true → is_lt (text_cmp [] k) ≡ true) where
  abbrev goes : List ℕ → Bool
  goes key = not (begins (spared w.dest) key)

  abbrev At : Scene → List (List ℕ) → Sweep → Type 0
  At t [] x = Unit {0}
  At t (p ∷ ps) x = SweepsUnder p x × EmptiesBy w p goes t.content x

  -- Each object that is still to be deleted is below the prefixes that are left.
  abbrev Within : Scene → List (List ℕ) → Type 0
  Within t ps = (p k : List ℕ) (o : Object) → IsIn p all → begins p k ≡ true → goes k ≡ true → at_key w t.content k ≡ Some o → IsIn p ps

  record Left (t : Scene) (e : Deletion) : Type 0 where
    pub there : HasBucket t.content w.dest.bucket
    pub members : (p : List ℕ) → IsIn p e.prefixes → IsIn p all
    pub within : Within t e.prefixes
    pub at : At t e.prefixes e.sweep
    pub spares : e.spared ≡ spared w.dest

  -- A request of a sweep puts nothing.
  fewer : (t : Scene) → HasBucket t.content w.dest.bucket → (p : List ℕ) (x : Sweep) (k : List ℕ) (o : Object)
      → at_key w (apply t (sweep_asks w.dest.bucket p x)).content k ≡ Some o → at_key w t.content k ≡ Some o
  fewer t there p (Listing keys) k o e =
      subst (λ (u : Scene). at_key w u.content k ≡ Some o) (reads_nothing t (page_after w.dest.bucket p keys) refl) e
  fewer t there p (Deleting q qs) k o e = (deletes_drop w t (take 1000 (q ∷ qs)) there).objects k o e

  fewer_by : (t : Scene) → HasBucket t.content w.dest.bucket → (p : List ℕ) (x : Sweep) (y : Outcome) (k : List ℕ) (o : Object)
      → at_key w (effect t (sweep_asks w.dest.bucket p x) y).content k ≡ Some o → at_key w t.content k ≡ Some o
  fewer_by t there p x Slow k o e = e
  fewer_by t there p x RequestLost k o e = e
  fewer_by t there p x _ k o e = fewer t there p x k o e

  -- A sweep begins.
  sweeps : (t : Scene) (ps : List (List ℕ)) → ((p : List ℕ) → IsIn p ps → IsIn p all) → At t ps sweep_start
  sweeps t [] members = tt
  sweeps t (p ∷ ps) members = (λ k i. absurd i, λ k x b go e. inr (some p k (members p (inl refl)) b))

  -- A sweep goes on, or is over.
  on : (t : Scene) (p : List ℕ) (ps : List (List ℕ)) → HasBucket t.content w.dest.bucket → ((q : List ℕ) → IsIn q (p ∷ ps) → IsIn q all)
      → Within t (p ∷ ps) → (o : Option Sweep) → EmptiedBy w p goes t.content o → Left t (swept_on (spared w.dest) p ps o)
  on t p ps there members within (Some x) e = record { there = there; members = members; within = within; at = e; spares = refl }
  on t p ps there members within None e = record {
    there = there;
    members = λ q i. members q (inr i);
    within = λ q k x i b go s. elim (within q k x i b go s) [
      | inl is ↦ absurd (e k x (subst (λ v. begins v k ≡ true) is b) go s)
      | inr more ↦ more
    ];
    at = sweeps t ps (λ q i. members q (inr i));
    spares = refl;
  }

  -- The current request was answered.
  heard : (t : Scene) (ps : List (List ℕ)) (x : Sweep) → Left t (record { prefixes = ps; sweep = x; spared = spared w.dest })
      → (r : Request)
      → asks_below w.dest.bucket x ps ≡ Some r
      → Left (apply t r) (hears_below (record { prefixes = ps; sweep = x; spared = spared w.dest }) ps (answer t r))
  heard t [] x h r asked = absurd (none_some refl asked)
  heard t (p ∷ ps) x h r asked =
      let q = sweep_asks w.dest.bucket p x in
      let same : q ≡ r = some_is asked in
      let a = swept_by w t h.there p goes x h.at.0 h.at.1 (answer t q) refl in
      let there = still_there w t q ReplyLost h.there in
      let within : Within (apply t q) (p ∷ ps) = λ l k o i b go e. h.within l k o i b go (fewer t h.there p x k o e) in
      subst (λ v. Left (apply t v) (swept_on (spared w.dest) p ps (sweep_hears goes x (answer t v)))) same
      (on (apply t q) p ps there h.members within (sweep_hears goes x (answer t q)) a)

  -- The current request got no answer.
  unheard : (t : Scene) (ps : List (List ℕ)) (x : Sweep) → Left t (record { prefixes = ps; sweep = x; spared = spared w.dest })
      → (r : Request) → asks_below w.dest.bucket x ps ≡ Some r → (o : Outcome)
      → Left (effect t r o) (record { prefixes = ps; sweep = x; spared = spared w.dest })
  unheard t [] x h r asked o = absurd (none_some refl asked)
  unheard t (p ∷ ps) x h r asked o =
      let q = sweep_asks w.dest.bucket p x in
      subst (λ v. Left (effect t v o) (record { prefixes = p ∷ ps; sweep = x; spared = spared w.dest })) (some_is asked)
      (record {
        there = still_there w t q o h.there;
        members = h.members;
        within = λ l k y i b go e. h.within l k y i b go (fewer_by t h.there p x o k y e);
        at = (h.at.0, still_by w t h.there p goes x h.at.0 h.at.1 o);
        spares = refl;
      })

  -- The deletion spares the same keys as before.
  spared_so : (t : Scene) (e : Deletion) → Left t e → Left t (record { prefixes = e.prefixes; sweep = e.sweep; spared = spared w.dest })
  spared_so t e h = record { there = h.there; members = h.members; within = h.within; at = h.at; spares = refl }

  goes_on : (s : Scene) (d : Deletion) (t : Scene) (e : Deletion) → Left s d → Deletes w.dest.bucket s d t e → Left t e
  goes_on s d t e h (nothing_sent) = h
  goes_on s d t e h (had_answer u f r before asked) =
      let l = goes_on s d u f h before in
      subst (λ v. Left (apply u r) (hears_below (record { prefixes = f.prefixes; sweep = f.sweep; spared = v }) f.prefixes (answer u r)))
      (sym l.spares)
      (heard u f.prefixes f.sweep (spared_so u f l) r asked)
  goes_on s d t e h (had_none u f r o before asked lost) =
      let l = goes_on s d u f h before in
      subst (λ v. Left (effect u r o) (record { prefixes = f.prefixes; sweep = f.sweep; spared = v })) (sym l.spares)
      (unheard u f.prefixes f.sweep (spared_so u f l) r asked o)

  none_left : (ps : List (List ℕ)) (x : Sweep) → asks_below w.dest.bucket x ps ≡ None → (p : List ℕ) → IsIn p ps → ⊥
  none_left [] x e p i = i
  none_left (q ∷ ps) x e p i = none_some e refl

pub deletions_leave : DeletionsLeave
deletions_leave w partitions s t e there run over p k i b spare =
    let all = deleted w.committer w.dest partitions in
    let some = some_behind w.committer w.dest partitions in
    let first : Left w all some s (deleting w partitions) = record {
      there = there;
      members = λ q i. i;
      within = λ q k o i b go e. i;
      at = sweeps w all some s all (λ q i. i);
      spares = refl;
    } in
    let l = goes_on w all some s (deleting w partitions) t e first run in
    elim (none_or_some (at_key w t.content k)) [
      | inl none ↦ none
      | inr o ↦ absurd (none_left w all some e.prefixes e.sweep over p (l.within p k o.0 i b (ap not spare) o.1))
    ]
