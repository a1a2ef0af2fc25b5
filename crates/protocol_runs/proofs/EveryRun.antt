-- In every run the state fits the facts, whatever strangers send that leave the job's own alone. If no stranger sends, readers see what the
-- headline says.
use Rattle.text_and_lists.proofs.Members.{false_true, none_or_some, none_some, same_or_other, some_is, text_here, text_other}
use Rattle.text_and_lists.specs.Members.{IsIn}
use Rattle.job_invariant.proofs.Aborting.{abort_fits}
use Rattle.job_invariant.proofs.Acting.{operation_goes}
use Rattle.job_invariant.proofs.Beside.{begins_commit, begins_write}
use Rattle.job_invariant.proofs.Cleaning.{clean_goes, clean_hides, clean_keeps}
use Rattle.job_invariant.proofs.Closing.{clean_begun}
use Rattle.job_invariant.proofs.Driving.{driving_keeps, reads_drive}
use Rattle.job_invariant.proofs.EndedGone.{commit_gone, first_gone, others_gone}
use Rattle.job_invariant.proofs.Foreign.{foreign_keeps}
use Rattle.job_invariant.proofs.JobCommitting.{commit_drives}
use Rattle.job_invariant.proofs.Legal.{some_dest}
use Rattle.job_invariant.proofs.Owning.{operation_own}
use Rattle.job_invariant.proofs.SettingUp.{empty_none, no_success, setup_alone, setup_beside, setup_done, setup_goes, setup_no_file}
use Rattle.job_invariant.proofs.SettingUp.{strange_no_file}
use Rattle.job_invariant.proofs.Sharing.{Plain, check_plain, check_reads, operation_paths, reads_leave, sparing_hides}
use Rattle.job_invariant.proofs.Shows.{HidesAll, hidden_shows, shown_key}
use Rattle.job_invariant.proofs.Spares.{filed_keeps, fits_start, record_reads, sparing_goes, sparing_keeps}
use Rattle.job_invariant.proofs.Staged.{remove_drops}
use Rattle.job_invariant.proofs.Starting.{facts_begin}
use Rattle.job_invariant.proofs.Turning.{still_none}
use Rattle.job_invariant.proofs.Whose.{same_or_another, who_here, who_other}
use Rattle.job_invariant.specs.Emptying.{SetsUp}
use Rattle.job_invariant.specs.Facts.{Facts, Hold, IsAttempt}
use Rattle.job_invariant.specs.Filed.{Gone}
use Rattle.job_invariant.specs.Fits.{Fits}
use Rattle.job_invariant.specs.Foreign.{IsForeign}
use Rattle.job_invariant.specs.inner.Spares.{Filed}
use Rattle.job_invariant.specs.Stores.{at_id, at_key}
use Rattle.job_invariant.specs.Told.{Told, at_event, driver_entry, ends, entry, known, nothing_told, put_who, strange_entry, tell_attempt}
use Rattle.job_invariant.specs.Told.{tell_driver}
use Rattle.job_model.specs.Attempts.{Who}
use Rattle.job_model.specs.JobScript.{Script}
use Rattle.job_model.specs.Known.{Known}
use Rattle.job_model.specs.Legal.{IsLegal}
use Rattle.job_protocol.proofs.Begun.{after_check_so, clean_of_so, commit_of_so}
use Rattle.job_protocol.specs.Cleanups.{Clean, CleanOver, clean_asks}
use Rattle.job_protocol.specs.JobCommits.{commit_start}
use Rattle.job_protocol.specs.Operations.{Operation, Setting, TheCheck, TheClean, TheCommit, TheSetup, TheSparing, asks, tells, who}
use Rattle.job_protocol.specs.Rechecks.{Check, check_after}
use Rattle.job_protocol.specs.Scope.{NoClusterFile}
use Rattle.job_protocol.specs.Seen.{Seen, Times, is_begun, is_marking, is_picking, see}
use Rattle.job_protocol.specs.Setup.{Setup, SetupOver, setup_after, setup_asks, setup_start}
use Rattle.job_protocol.specs.Sparing.{Sparing, record_request, sparing_asks}
use Rattle.job_protocol.specs.View.{view}
use Rattle.job_spec.specs.Entries.{AreOwn}
use Rattle.job_spec.specs.Headline.{Kept}
use Rattle.job_spec.specs.Turns.{is_own}
use Rattle.protocol_runs.proofs.Folds.{DriverKeeps, driven, each_run}
use Rattle.protocol_runs.proofs.Keeping.{at_beside, commit_shows, commit_starts, kept_next, other_fits, other_known, shows_beside}
use Rattle.protocol_runs.proofs.Plain.{clean_plain, closed_picks, driver_begun, driver_last, one_scene, plain_mark, plain_picks}
use Rattle.protocol_runs.proofs.Plain.{setup_plain}
use Rattle.protocol_runs.proofs.Running.{At, CommitShows, Early, Idle, Late, Shows, Untouched, kept_commit, kept_untouched}
use Rattle.protocol_runs.proofs.Steps.{commit_next, commit_shown, hidden_same}
use Rattle.protocol_runs.specs.Runs.{BeginAbort, BeginClean, BeginCommit, BeginPublish, BeginSetup, BeginWrite, Beginning, IsOpening}
use Rattle.protocol_runs.specs.Runs.{IsTimely}
use Rattle.protocol_runs.specs.Runs.{MayBegin, MaySetUp, Runs, Stand, actor_begins, attempt_sends, begin, commit_with, driver_sends}
use Rattle.protocol_runs.specs.Runs.{first_stand, is_done, is_just_set, is_set, nothing_learnt, run_begins, saw, strays, with_attempt}
use Rattle.protocol_runs.specs.Runs.{with_commit, with_driver}
use Rattle.list_walk.specs.Walks.{Deleting, Listing}
use Rattle.magic_paths.proofs.Tails.{key_magic}
use Rattle.magic_paths.specs.Layout.{cluster_prefix, success_key}
use Rattle.magic_paths.specs.Places.{SuccessPlace}
use Rattle.path_keys.specs.Paths.{below}
use Rattle.retries.specs.Retries.{Retried, fresh, step}
use Rattle.s3_types.specs.Answer.{answer, apply, apply_at, bucket_of, made}
use Rattle.s3_types.specs.Moment.{IsHonestOutcome, effect, is_effective}
use Rattle.s3_types.specs.Names.{is_bucket}
use Rattle.s3_types.specs.Pages.{begins}
use Rattle.s3_types.specs.Requests.{only_reads}
use Rattle.s3_types.specs.Store.{BucketContent, Content, Scene, Upload, new_bucket, opening as opening_scene}
use Rattle.s3_types.specs.declared.journal.Entry.{Entry}
use Rattle.s3_types.specs.declared.journal.Outcome.{Outcome}
use Rattle.s3_types.specs.declared.journal.Outcome.TheVariants.{RequestLost, Slow}
use Rattle.s3_types.specs.declared.request.Actor.TheVariants.{Driver}
use Rattle.s3_types.specs.declared.request.Request.{Request}
use Rattle.s3_types.specs.declared.request.Request.TheVariants.{ClusterDelete, ClusterPut, ClusterRename}
use Rattle.std.proofs.Common.{Bool, List, None, Option, Some, ap, arith, false, inl, inr, not, refl, subst, sym, true, ℕ, [], ◌&&◌, ◌++◌}
use Rattle.std.proofs.Common.{◌<◌, ◌^◌, ◌||◌, ◌∙◌, ◌∷◌, ◌≡◌, ◌≤◌, ◌⊎◌}
use Rattle.std.proofs.Math.Bool.{and-false}
use Rattle.std.specs.Ordering.{nat_cmp}
use Rattle.store_frame.proofs.Framed.{frame}
use Rattle.store_frame.specs.Frame.{changed_paths}
use Rattle.store_frame.specs.Held.{HasBucket, upload_at, upload_in}
use Rattle.std.specs.FinMap as fin
use Rattle.job_model.specs.declared.ends.SetupEnd.TheVariants as setups
use Rattle.job_protocol.specs.Cleanups as cleanups
use Rattle.job_protocol.specs.Sparing as sparing

-- A driver whose set-up has just ended Done is set up.
pub just_set : (d : Option Operation) → is_just_set d ≡ true → is_set d ≡ true
just_set d h = grind arith

-- ---- entries of the job alone

pub own_front : (es fs : List Entry) → AreOwn (es ++ fs) → AreOwn es
own_front [] fs h = tt
own_front (e ∷ es) fs h = (h.0, own_front es fs h.1)

pub own_last : (es : List Entry) (e : Entry) → AreOwn (es ++ e ∷ []) → is_own e.actor ≡ true
own_last [] e h = h.0
own_last (x ∷ es) e h = own_last es e h.1

-- If a property holds of the new value of one attempt and of the old values of the others, it holds of all.
pub put_each : {X : Type 0} (P : Who → X → Type 0) (f : Who → Option X) (a : Who) (x : X) → P a x
    → ((b : Who) → (b ≡ a → ⊥) → (v : X) → f b ≡ Some v → P b v)
    → (b : Who) (v : X) → put_who f a (Some x) b ≡ Some v → P b v
put_each P f a x h g b v e = grind arith

-- ---- a stranger's request, when the bucket may not exist yet

module _ (n : List ℕ) where
  -- What a request leaves if there was no bucket with this name: none, or a new one.
  abbrev Blank : Content → Content → Type 0
  Blank c d = ((id : ℕ) → upload_at d n id ≡ None) × (d.minimum ≡ c.minimum)

  blank_at : (c : Content) (r : Request) → fin.get c.buckets n ≡ None → (o : Option BucketContent) → fin.get c.buckets (bucket_of r) ≡ o
      → Blank c (apply_at o c r)
  blank_at c r h o g = grind (arith, text_other)

  blank_made : (c : Content) (q : List ℕ) → fin.get c.buckets n ≡ None → (o : Option BucketContent) → fin.get c.buckets q ≡ o → (t : Bool)
      → is_bucket q ≡ t → Blank c (made c q o)
  blank_made c q e (Some b) z t h = (λ id. ap (λ o. upload_in o id) e, refl)
  blank_made c q e None z false h = rw h (λ id. ap (λ o. upload_in o id) e, refl)
  blank_made c q e None z true h = rw h (by, refl)
    where
      by : (id : ℕ) → upload_in (fin.get (fin.insert c.buckets q new_bucket) n) id ≡ None
      by id = elim (same_or_other n q) [
        | inl is ↦ ap (λ o. upload_in o id) (text_here c.buckets q n new_bucket is) ∙ fin.get-empty nat_cmp id
        | inr ne ↦ ap (λ o. upload_in o id) (text_other c.buckets q n new_bucket ne ∙ e)
      ]

  blank_left : (s : Scene) (r : Request) → fin.get s.content.buckets n ≡ None → Blank s.content (apply s r).content
  blank_left s r h = grind (arith, blank_made, blank_at)

module _ (g : Setting) (k : Times) (opening : Content) (j : IsLegal g.script) (is_opening : IsOpening g opening) where
  abbrev w : Script
  w = g.script

  abbrev Good : Stand → Type 0
  Good x = Early g opening x ⊎ Late g opening x

  -- ---- by what the driver did last

  late_set : (d : Option Operation) (s : Seen) (m : Told) → At g opening d s m → is_set d ≡ true
  late_set d s m h = grind arith

  pub just_idle : (d : Option Operation) (s : Seen) (m : Told) → At g opening d s m → is_just_set d ≡ true → Idle g opening s m
  just_idle d s m h g = grind arith

  -- ---- the facts begin where the set-up is done

  turned : (x : Stand) → (e : Early g opening x) → (t : Retried Setup) → x.driver ≡ Some (TheSetup t)
      → SetsUp w x.seen.scene.content t.operation → is_done t.operation ≡ true → Late g opening x
  turned x e t is sets done =
      let over = (elim t.operation as (λ v. is_done v ≡ true → v ≡ SetupOver setups.Done)
      [ SetupOver setups.Done ↦ λ e. refl | _ ↦ λ e. absurd (false_true refl e) ]) done in
      let b = setup_done w x.seen.scene (subst (SetsUp w x.seen.scene.content) over sets) (λ c. e.files) in
      record {
        hold = subst (λ m. Facts w g.minimum x.seen.scene x.seen.last m) (sym e.told)
            (facts_begin w g.minimum x.seen.scene x.seen.last j b.0 e.least e.fresh b.1 e.last x.told.cleans_at);
        gone = λ c. subst (Gone w x.seen.scene.content) (sym e.told) (first_gone w x.seen.scene x.told.cleans_at);
        fine = λ a op y. absurd (none_some (e.none a) y);
        new = λ a y. (ap (λ m. known m a) e.told, ap (λ (m : Told). m.undone a) e.told);
        filed = λ z p bytes b y. absurd (false_true (e.files p bytes y) b);
        driver =
            subst (λ d. At g opening d x.seen x.told) (sym is) (
              over,
              record {
                none = λ id. ap (λ (m : Told). m.ended id) e.told;
                uncleaned = ap (λ (m : Told). m.cleaned) e.told;
                unmarked =
                    e.unmarked;
                unpicked = e.unpicked;
              },
            );
      }

  pub late : (x : Stand) → Good x → is_set x.driver ≡ true → Late g opening x
  late x (inr l) d = l
  late x (inl e) d = elim e.setup [
    | inl none ↦ absurd (false_true (ap is_set none) d)
    | inr y ↦ turned x e y.0 y.1 y.2 (sym (ap is_set y.1) ∙ d)
  ]

  -- ---- an entry of the set-up

  still_nothing : (c : Option ℕ) (n : ℕ) (r : Request) (o : Outcome) → ((u : ℕ) → ends r u ≡ false) → is_begun c n ≡ false
      → at_event n (tell_driver (nothing_told c) r o) ≡ nothing_told c
  still_nothing c n r o h late = λ i. record {
    drawn = λ a. [];
    put_sent = λ a. false;
    publish_sent = λ a. false;
    undone = λ a. false;
    ended = λ u. (ap (λ b. is_effective o && b) (h u) ∙ and-false (is_effective o)) i;
    cleaned = late i;
    cleans_at = c;
  }

  -- All ids are below the next one, and the least size of a part is the setting's.
  record Numbers (c : Content) : Type 0 where
    pub fresh : (id : ℕ) (y : Upload) → at_id w c id ≡ Some y → id < c.next
    pub least : c.minimum ≡ g.minimum

  -- Whoever sends.
  numbers : (s : Scene) (r : Request) (o : Outcome) → Numbers s.content → Numbers (effect s r o).content
  numbers s r Slow n = n
  numbers s r RequestLost n = n
  numbers s r _ n = elim (none_or_some (fin.get s.content.buckets w.dest.bucket)) [
    | inr x ↦ let f = frame s w.dest.bucket r x in record { fresh = f.fresh n.fresh; least = f.least ∙ n.least }
    | inl none ↦ let b = blank_left w.dest.bucket s r none in record {
      fresh = λ id y e. absurd (none_some (b.0 id) e);
      least = b.1 ∙
          n.least;
    }
  ]

  -- ---- attempts

  -- One attempt has a new operation, and all others have the ones that they had.
  put_late : (x : Stand) → (y : Stand) → Late g opening x → (a : Who) (op : Operation) → y.attempts ≡ put_who x.attempts a (Some op)
      → Hold w g.minimum y.seen y.told → (y.told.cleaned ≡ false → Gone w y.seen.scene.content y.told) → Filed w y.seen.scene
      → At g opening y.driver y.seen y.told
      → IsAttempt w a → Fits w g.minimum a y.told op
      → ((b : Who) → (b ≡ a → ⊥) → (mine : Operation) → Fits w g.minimum b x.told mine → Fits w g.minimum b y.told mine)
      → ((b : Who) → (b ≡ a → ⊥) → (known y.told b ≡ known x.told b) × (y.told.undone b ≡ x.told.undone b))
      → Late g opening y
  put_late x y l a op are hold gone filed driver d fits others same = record {
    hold = hold;
    gone = gone;
    fine = λ b mine e. put_each (λ v o. IsAttempt w v × Fits w g.minimum v y.told o) x.attempts a op (d, fits)
        (λ v ne o at. let old = l.fine v o at in (old.0, others v ne o old.1)) b mine (ap (λ f. f b) (sym are) ∙ e);
    new = λ b e. elim (same_or_another b a) [
      | inl is ↦ absurd (none_some e (ap (λ f. f b) are ∙ who_here x.attempts a (Some op) b is))
      | inr ne ↦ let old = l.new b (sym (who_other x.attempts a (Some op) b ne) ∙ ap (λ f. f b) (sym are) ∙ e) in
          ((same b ne).0 ∙ old.0, (same b ne).1 ∙ old.1)
    ];
    filed = filed;
    driver = driver;
  }

  -- The attempt sends.
  attempt_goes : (x : Stand) → Late g opening x → (a : Who) (op : Operation) → x.attempts a ≡ Some op → (n : ℕ) (r : Request)
      → asks g a (known x.told a) op ≡ Some r → (o : Outcome) → IsHonestOutcome o (answer x.seen.scene r)
      → Late g opening (with_attempt (saw g k x (entry a n r o)) a (tells g a op o))
  attempt_goes x l a op e n r asked o honest =
      let f = l.fine a op e in
      let own = operation_own g j x.told a f.0 op f.1 r asked in
      let hides : HidesAll w r = λ b q i. own.keys q i in
      let same = one_scene w k x.seen (entry a n r o) in
      let go = operation_goes g j k x.seen x.told a n f.0 l.hold op f.1 r asked o honest in
      put_late x (with_attempt (saw g k x (entry a n r o)) a (tells g a op o)) l a (tells g a op o) refl go.hold
      (λ c. subst (λ (s : Scene). Gone w s.content (tell_attempt w x.told a r o)) (sym same)
      (others_gone w x.seen.scene l.hold.there x.told.ended (l.gone c) r o))
      (subst (Filed w) (sym same) (filed_keeps w x.seen.scene l.hold.there r o
      (λ p i b. operation_paths w g.minimum x.told a f.0 g refl op f.1 r asked p i) l.filed))
      (at_beside g j opening k x.seen x.told l.hold a n op f.1 r asked hides o x.commit x.driver l.driver) f.0 go.fits
      (other_fits g j opening k x.seen x.told l.hold a n op f.1 r asked hides o x.commit)
      (λ b ne. (other_known g j opening k x.seen x.told l.hold a n op f.1 r asked hides o x.commit b ne, who_other x.told.undone a _ b ne))

  -- ---- the driver

  -- The request changes no path below the job's directory in the cluster.
  filed_by : (x : Stand) → Late g opening x → (r : Request) (o : Outcome)
      → ((p : List ℕ) → IsIn p (changed_paths r) → begins (cluster_prefix w.job) p ≡ false)
      → Filed w (effect x.seen.scene r o)
  filed_by x l r o free = filed_keeps w x.seen.scene l.hold.there r o (λ p i b. absurd (false_true (free p i) b)) l.filed

  same_filed : (x : Stand) → Late g opening x → (o : Outcome) {y r : Request} → Some y ≡ Some r → changed_paths y ≡ []
      → Filed w (effect x.seen.scene r o)
  same_filed x l o {y = y} e none = subst (λ q. Filed w (effect x.seen.scene q o)) (some_is e)
      (filed_keeps w x.seen.scene l.hold.there y o (λ p i. absurd (subst (λ (q : List (List ℕ)). IsIn p q) none i)) l.filed)

  removed_filed : (x : Stand) → Late g opening x → (p : List ℕ) (o : Outcome) → Filed w (effect x.seen.scene (ClusterDelete p) o)
  removed_filed x l p Slow = l.filed
  removed_filed x l p RequestLost = l.filed
  removed_filed x l p _ = λ z q bytes b e. l.filed z q bytes b ((remove_drops w x.seen.scene l.hold.there p).files q bytes e)

  clean_filed : (x : Stand) → Late g opening x → (c : Clean) (r : Request) → clean_asks w c ≡ Some r → (o : Outcome)
      → Filed w (effect x.seen.scene r o)
  clean_filed x l (cleanups.Removing p ps) r e o = subst (λ y. Filed w (effect x.seen.scene y o)) (some_is e) (removed_filed x l p o)
  clean_filed x l (cleanups.Sweeping (Listing keys)) r e o = same_filed x l o e refl
  clean_filed x l (cleanups.Sweeping (Deleting q qs)) r e o = same_filed x l o e refl
  clean_filed x l (CleanOver end) r e o = absurd cc
  clean_filed x l _ r e o = same_filed x l o e refl

  sparing_filed : (x : Stand) → Late g opening x → (c : Sparing) (r : Request) → sparing_asks w c ≡ Some r → (o : Outcome)
      → Filed w (effect x.seen.scene r o)
  sparing_filed x l (sparing.Reading named p ps all) r e o = same_filed x l o e
      (paths_none (record_request w.committer w p) (record_reads j x.seen x.told l.hold w.committer p))
    where
      paths_none : (c : Request) → only_reads c ≡ true → changed_paths c ≡ []
      paths_none (ClusterPut path bytes) e = absurd (false_true refl e)
      paths_none (ClusterRename source target) e = absurd (false_true refl e)
      paths_none (ClusterDelete path) e = absurd (false_true refl e)
      paths_none _ e = refl
  sparing_filed x l (sparing.Removing p ps) r e o = subst (λ y. Filed w (effect x.seen.scene y o)) (some_is e) (removed_filed x l p o)
  sparing_filed x l (sparing.SparingOver end) r e o = absurd cc
  sparing_filed x l _ r e o = same_filed x l o e refl

  -- An abort or clean at a shared destination puts no marker.
  sparing_no_mark : (c : Sparing) (r : Request) → sparing_asks w c ≡ Some r → is_marking w r ≡ false
  sparing_no_mark c r h = grind arith

  abbrev Shown : Stand → Type 0
  Shown x = Shows g opening x.driver x.seen x.told x.commit

  -- ---- one entry of it

  module _ (x : Stand) (at : x.told.cleans_at ≡ k.clean) (n : ℕ) (r : Request) (o : Outcome) where
    abbrev next : Seen
    next = see w k x.seen (driver_entry n r o)

    abbrev told : Told
    told = at_event n (tell_driver x.told r o)

    same : next.scene ≡ effect x.seen.scene r o
    same = one_scene w k x.seen (driver_entry n r o)

    early_sends : Early g opening x → (t : Retried Setup) → SetsUp w x.seen.scene.content t.operation → setup_asks w t.operation ≡ Some r
        → IsTimely k n (TheSetup t)
        → IsHonestOutcome o (answer x.seen.scene r) → Early g opening (driven g k opening x (TheSetup t) n r o)
    early_sends e t sets asked timely honest =
        let num = subst (λ (s : Scene). Numbers s.content) (sym same) (numbers x.seen.scene r o
        (record { fresh = e.fresh; least = e.least })) in
        let then = step w.retries (setup_after w) t o in
        let plain = setup_plain w t.operation r asked in
        record {
          told = ap (λ m. at_event n (tell_driver m r o)) e.told ∙ still_nothing x.told.cleans_at n r o plain.ends_none
              (ap (λ c. is_begun c n) at ∙ timely.1);
          last = λ u. ap (λ f. f u) (driver_last w k x.seen n r o) ∙ e.last u;
          unmarked = plain_mark w k x.seen n r plain.marks o ∙ e.unmarked;
          unbegun = driver_begun w k x.seen n r o ∙ ap (λ b. b || is_begun k.commit n) e.unbegun ∙ timely.0;
          unpicked = λ u. plain_picks w k x.seen n r plain.reads o u ∙ e.unpicked u;
          fresh = num.fresh;
          least = num.least;
          none = e.none;
          files = subst (NoClusterFile w) (sym same) (setup_no_file w j x.seen.scene t.operation sets r asked o e.files);
          setup = inr (
            then,
            refl,
            subst (λ (s : Scene). SetsUp w s.content then.operation) (sym same)
                (setup_goes w x.seen.scene w.retries t.spare t.repeated t.operation sets r asked o honest),
          );
        }

    driver_early : Early g opening x → (op : Operation) → x.driver ≡ Some op → asks g (who Driver) nothing_learnt op ≡ Some r
        → IsTimely k n op
        → IsHonestOutcome o (answer x.seen.scene r) → Early g opening (driven g k opening x op n r o)
    driver_early e op d asked timely honest = elim e.setup [
      | inl none ↦ absurd (none_some none d)
      | inr y ↦
          let P : Operation → Type 0 = λ v. asks g (who Driver) nothing_learnt v ≡ Some r → IsTimely k n v
          → Early g opening (driven g k opening x v n r o) in
          subst P (some_is (sym y.1 ∙ d)) (λ a b. early_sends e y.0 y.2 a b honest) asked timely
    ]

    -- So all is still as before the commit.
    pub checked_idle : Plain w r → is_begun k.clean n ≡ false → Idle g opening x.seen x.told → Idle g opening next told
    checked_idle p unclean i = record {
      none = still_none x.told r o p.ends_none i.none;
      uncleaned = ap (λ b. b || is_begun x.told.cleans_at n) i.uncleaned ∙ ap (λ c. is_begun c n) at ∙ unclean;
      unmarked = plain_mark w k x.seen n r p.marks o ∙ i.unmarked;
      unpicked = λ u. plain_picks w k x.seen n r p.reads o u ∙ i.unpicked u;
    }

    -- The attempts have the operations that they had.
    drives : Late g opening x → (op : Operation) (es : List Entry) → Hold w g.minimum next told
        → (told.cleaned ≡ false → Gone w (effect x.seen.scene r o).content told)
        → Filed w (effect x.seen.scene r o) → At g opening (Some op) next told
        → Late g opening (with_commit (with_driver (saw g k x (driver_entry n r o)) op) es)
    drives l op es hold gone filed driver = record {
      hold = hold;
      gone = λ c. subst (λ (s : Scene). Gone w s.content told) (sym same) (gone c);
      fine = l.fine;
      new = l.new;
      filed = subst (Filed w) (sym same) filed;
      driver = driver;
    }

    driver_late : Late g opening x → (op : Operation) → At g opening (Some op) x.seen x.told
        → asks g (who Driver) nothing_learnt op ≡ Some r → IsTimely k n op
        → x.seen.scene.content.next ≤ 2 ^ 64 → IsHonestOutcome o (answer x.seen.scene r) → Late g opening (driven g k opening x op n r o)
    driver_late l (TheSetup t) y asked timely few honest = absurd (none_some (ap (setup_asks w) y.0) asked)
    driver_late l (TheCommit c) y asked timely few honest =
        let d = commit_drives w g.minimum k x.seen x.told n j l.hold c y.fits r asked in
        drives l _ _ (driving_keeps w g.minimum k x.seen x.told n r o j d l.hold)
        (λ v. commit_gone j l.hold (l.gone y.uncleaned) c y.fits y.tabled y.decides r asked o)
        (filed_by x l r o d.paths) (commit_next g j opening k x.seen x.told n timely.0 timely.1 at few l.hold c y r asked o honest)
    driver_late l (TheClean t) y asked timely few honest =
        let due = ap (λ c. is_begun c n) at ∙ timely in
        drives l _ _ (clean_keeps w g.minimum k x.seen x.told n j l.hold t.operation y r asked o)
        (λ c. absurd (false_true c (clean_begun x.told n due r o)))
        (clean_filed x l t.operation r asked o)
        (clean_goes w g.minimum k x.seen x.told n j l.hold due w.retries t.spare t.repeated t.operation y r asked o honest)
    driver_late l (TheCheck t) y asked timely few honest =
        let p = check_plain w t.operation r asked in
        let d = reads_drive w r (check_reads g j t.operation r asked) in
        let i = checked_idle p timely.1 y in
        drives l _ _ (driving_keeps w g.minimum k x.seen x.told n r o j d l.hold)
        (λ v. others_gone w x.seen.scene l.hold.there told.ended (λ id e. absurd (false_true (i.none id) e)) r o)
        (filed_by x l r o d.paths)
        (after_check_so g (λ op. At g opening (Some op) next told) (commit_starts g j opening next told i None) (λ u. i)
        (step w.retries (check_after w) t o))
    driver_late l (TheSparing t) y asked timely few honest =
        let due = ap (λ c. is_begun c n) at ∙ timely in
        let keeps =
        subst (λ v. Facts w g.minimum (effect x.seen.scene r o) v told) (sym (driver_last w k x.seen n r o))
        (sparing_keeps j x.seen x.told l.hold n due t.operation r asked o) in
        drives l _ _ (subst (λ (s : Scene). Facts w g.minimum s next.last told) (sym same) keeps)
        (λ c. absurd (false_true c (clean_begun x.told n due r o)))
        (sparing_filed x l t.operation r asked o) (sparing_goes j x.seen.scene x.told l.hold l.filed few t y r asked o honest)
    driver_late l _ y asked timely few honest = absurd y

    -- ---- what readers see, if no stranger sends

    kept_clean : HasBucket x.seen.scene.content w.dest.bucket → HidesAll w r → is_marking w r ≡ false
        → ((t : ℕ) → next.picks t ≡ x.seen.picks t) → Kept w opening x.seen → Kept w opening next
    kept_clean there hides mark picks kept =
        kept_next g opening x.seen next (λ p. ap (λ (v : Scene). view w.dest v.content p) same ∙ hidden_shows j x.seen.scene r o there hides
        p)
        (ap (λ (v : Scene). at_key w v.content (success_key w.dest.key)) same ∙ hidden_same w x.seen.scene there r hides o
        (success_key w.dest.key) (key_magic w.dest.key w.job SuccessPlace (some_dest j) tt))
        (λ i t. picks t i) (plain_mark w k x.seen n r mark o) (λ e. driver_begun w k x.seen n r o ∙ ap (λ b. b || is_begun k.commit n) e)
        kept

    -- Once the set-up is done.
    late_shown : Late g opening x → (op : Operation) → At g opening (Some op) x.seen x.told → asks g (who Driver) nothing_learnt op ≡ Some r
        → IsTimely k n op → x.seen.scene.content.next ≤ 2 ^ 64 → IsHonestOutcome o (answer x.seen.scene r)
        → Shows g opening (Some op) x.seen x.told x.commit → Shown (driven g k opening x op n r o)
    late_shown l (TheSetup t) y asked timely few honest v = absurd (none_some (ap (setup_asks w) y.0) asked)
    late_shown l (TheCommit c) y asked timely few honest v = commit_shown g j opening k x.seen x.told n timely.0 timely.1 at few l.hold c y
        r asked (l.gone y.uncleaned) x.commit v o honest
    late_shown l (TheClean t) y asked timely few honest v =
        let plain = clean_plain w t.operation r asked in
        kept_clean l.hold.there (clean_hides w g.minimum k x.seen x.told n j l.hold t.operation y r asked) plain.0
        (plain_picks w k x.seen n r plain.1 o) v
    late_shown l (TheCheck t) y asked timely few honest v =
        let reads = check_reads g j t.operation r asked in
        let untouched : Untouched g opening next.scene.content = subst (λ (s : Scene). Untouched g opening s.content)
        (sym (same ∙ reads_leave x.seen.scene r reads o)) v.0 in
        let hold = driving_keeps w g.minimum k x.seen x.told n r o j (reads_drive w r reads) l.hold in
        let starts = commit_shows g j opening next told hold (checked_idle (check_plain w t.operation r asked) timely.1 y) untouched None in
        after_check_so g (λ op. Shows g opening (Some op) next told x.commit)
        (subst (λ es. CommitShows g opening next told.ended es (commit_start w None)) (sym v.1) starts) (λ u. (untouched, v.1))
        (step w.retries (check_after w) t o)
    late_shown l (TheSparing t) y asked timely few honest v =
        let off : is_picking k x.seen.begun n ≡ false = ap (λ b. (x.seen.begun || is_begun k.commit n) && not b) timely ∙ and-false
        (x.seen.begun || is_begun k.commit n) in
        kept_clean l.hold.there (sparing_hides g j x.told t.operation y r asked) (sparing_no_mark t.operation r asked)
        (closed_picks w k x.seen n r off o) v
    late_shown l _ y asked timely few honest v = absurd y

  -- ---- a stranger

  -- The same state with another scene and another operation of the driver.
  early_so : (x : Stand) → Early g opening x → (s : Scene) (d : Option Operation) → Numbers s.content → NoClusterFile w s
      → (d ≡ None) ⊎ ((t : Retried Setup) × (d ≡ Some (TheSetup t)) × SetsUp w s.content t.operation)
      → Early g opening (record {
        seen = record {
          scene = s;
          begun = x.seen.begun;
          last = x.seen.last;
          picks = x.seen.picks;
          put_mark =
              x.seen.put_mark;
        };
        told = x.told;
        attempts = x.attempts;
        driver = d;
        commit = x.commit;
      })
  early_so x h s d g e f = grind arith

  early_strays : (x : Stand) → Early g opening x → (n : ℕ) (r : Request) (o : Outcome) → IsForeign w x.told.drawn r
      → Early g opening (saw g k x (strange_entry n r o))
  early_strays x e n r o f =
      early_so x e (effect x.seen.scene r o) x.driver (numbers x.seen.scene r o (record { fresh = e.fresh; least = e.least }))
      (strange_no_file w x.told.drawn x.seen.scene r f o e.files)
      (elim e.setup [ inl none ↦ inl none | inr y ↦ inr (y.0, y.1, setup_beside w x.told.drawn x.seen.scene y.0.operation y.2 r f o) ])

  late_strays : (x : Stand) → Late g opening x → (n : ℕ) (r : Request) (o : Outcome) → IsForeign w x.told.drawn r
      → Late g opening (saw g k x (strange_entry n r o))
  late_strays x l n r o f = record {
    hold = foreign_keeps w g.minimum k x.seen x.told n r o j f l.hold;
    gone = λ c. others_gone w x.seen.scene l.hold.there x.told.ended (l.gone c) r o;
    fine = l.fine;
    new = l.new;
    filed = filed_keeps w x.seen.scene l.hold.there r o (λ p i b. absurd (false_true (f.paths p i) b)) l.filed;
    driver = at_strays x.driver l.driver;
  }
    where
      at_strays : (d : Option Operation) → At g opening d x.seen x.told → At g opening d (see w k x.seen (strange_entry n r o)) x.told
      at_strays (Some (TheSetup t)) y = (
        y.0,
        record {
          none = y.1.none;
          uncleaned = y.1.uncleaned;
          unmarked = y.1.unmarked;
          unpicked =
              y.1.unpicked;
        },
      )
      at_strays (Some (TheCheck t)) y = record { none = y.none; uncleaned = y.uncleaned; unmarked = y.unmarked; unpicked = y.unpicked }
      at_strays _ y = y

  -- ---- every run

  early_first : Early g opening (first_stand opening k.clean)
  early_first = record {
    told = refl;
    last = λ t. refl;
    unmarked = refl;
    unbegun = refl;
    unpicked = λ t. refl;
    fresh = is_opening.fresh;
    least = is_opening.least;
    none = λ a. refl;
    files = empty_none w (opening_scene opening) refl;
    setup = inl refl;
  }

  -- If a set-up is done and nothing was begun since, all is as it was before the facts began.
  abbrev NotMoved : Stand → Type 0
  NotMoved x = is_just_set x.driver ≡ true → ((a : Who) → x.attempts a ≡ None) → Early g opening x

  abbrev Well : Stand → Type 0
  Well x = Good x × NotMoved x

  may_set_up : (x : Stand) → Well x → MaySetUp x → Early g opening x
  may_set_up x h g = grind arith

  -- An attempt has begun an operation.
  moved : (x : Stand) (a : Who) (op : Operation) → NotMoved (with_attempt x a op)
  moved x a op just none = absurd (none_some (none a) (who_here x.attempts a (Some op) a refl))

  -- No request of the driver ends a set-up once one is done.
  not_just : (x : Stand) (r : Request) (o : Outcome) (op : Operation) → At g opening (Some op) x.seen x.told
      → asks g (who Driver) nothing_learnt op ≡ Some r
      → is_just_set (Some (tells g (who Driver) op o)) ≡ true → ⊥
  not_just x r o op h g e = grind arith

  begins_at : (x : Stand) → Late g opening x → (a : Who) (op : Operation) → IsAttempt w a → Fits w g.minimum a x.told op
      → Well (with_attempt x a op)
  begins_at x l a op d fits = (
    inr (put_late x (with_attempt x a op) l a op refl l.hold l.gone l.filed l.driver d fits (λ b ne mine f. f)
        (λ b ne. (refl, refl))),
    moved x a op,
  )

  -- An actor begins an operation.
  well_begins : (x : Stand) → Well x → (b : Beginning) → MayBegin g x b → Well (begin g x b)
  well_begins x h BeginSetup may =
      let old = may_set_up x h may in
      let e = early_so x old x.seen.scene (Some (TheSetup (fresh w.retries setup_start))) (record { fresh = old.fresh; least = old.least })
      old.files (inr (fresh w.retries setup_start, refl, tt)) in
      (inl e, λ just none. e)
  well_begins x h (BeginCommit reports) may =
      let l = late x h.0 (just_set x.driver may) in
      let i = just_idle x.driver x.seen x.told l.driver may in (
        inr (record {
          hold = l.hold;
          gone = l.gone;
          fine = l.fine;
          new = l.new;
          filed = l.filed;
          driver = commit_of_so g
              (λ op. At g opening (Some op) x.seen x.told) (λ missing. commit_starts g j opening x.seen x.told i missing) (λ t. i) reports;
        }),
        λ now none. absurd (false_true (commit_of_so g (λ op. is_just_set (Some op) ≡ false) (λ missing. refl) (λ t. refl) reports) now),
      )
  well_begins x h BeginClean may =
      let l = late x h.0 may in (
        inr (record {
          hold = l.hold;
          gone = l.gone;
          fine = l.fine;
          new = l.new;
          filed = l.filed;
          driver = clean_of_so g
              (λ op. At g opening (Some op) x.seen x.told) (λ u i. absurd i) (fits_start w x.told.drawn w.committer refl);
        }),
        λ now none. absurd (false_true (clean_of_so g (λ op. is_just_set (Some op) ≡ false) refl refl) now),
      )
  well_begins x h (BeginWrite a) may =
      let l = late x h.0 may.0 in
      let old = l.new a may.2 in
      begins_at x l a _ may.1 (
        old.1,
        begins_write g j x.told a (ap (λ (v : Known). v.drawn) old.0) (
          ap (λ (v : Known). v.publish_sent) old.0,
          ap
              (λ (v : Known). v.put_sent) old.0,
        ),
      )
  well_begins x h (BeginPublish a) may =
      let l = late x h.0 may.0 in
      let f = l.fine a _ may.1.2 in
      begins_at x l a _ f.0 (f.1.0, begins_commit g j x.told a f.1.1)
  well_begins x h (BeginAbort a) may = begins_at x (late x h.0 may.0) a _ may.1 (abort_fits w a (known x.told a))

  pub cleans_is : (es : List Entry) (x : Stand) → Runs g k opening es x → x.told.cleans_at ≡ k.clean
  cleans_is =
      each_run g k opening (λ es x. x.told.cleans_at ≡ k.clean) refl (λ es x b run may h. h)
      (λ es x op n r o run d asked timely few honest h. h)
      (λ es x a op n r o run set at asked honest h. h) (λ es x n r o run f h. h)

  driver_well : DriverKeeps g k opening (λ es x. Well x)
  driver_well es x op n r o run d asked timely few honest h =
      let at = cleans_is es x run in
      elim h.0 [
        | inl e ↦ let next = driver_early x at n r o e op d asked timely honest in (inl next, λ just none. next)
        | inr l ↦ let y = subst (λ v. At g opening v x.seen x.told) d l.driver in
            (inr (driver_late x at n r o l op y asked timely few honest), λ just none. absurd (not_just x r o op y asked just))
      ]

  well : (es : List Entry) (x : Stand) → Runs g k opening es x → Well x
  well = each_run g k opening (λ es x. Well x) (inl early_first, λ just none. early_first) (λ es x b run may h. well_begins x h b may)
      driver_well
      (λ es x a op n r o run set at asked honest h. (
        inr (attempt_goes x (late x h.0 set) a op at n r asked o honest),
        moved
            (saw g k x (entry a n r o)) a (tells g a op o),
      ))
      (λ es x n r o run f h. (
        elim h.0 [ inl e ↦ inl (early_strays x e n r o f) | inr l ↦ inr (late_strays x l n r o f) ],
        λ just none.
            early_strays x (h.1 just none) n r o f,
      ))

  pub good : (es : List Entry) (x : Stand) → Runs g k opening es x → Good x
  good es x run = (well es x run).0

  -- ---- what readers see, if no stranger sends

  -- Until the set-up is done, and right after it, all is as it was.
  early_untouched : (x : Stand) → Early g opening x → Shown x → Untouched g opening x.seen.scene.content
  early_untouched x h g = grind arith

  just_untouched : (d : Option Operation) (s : Seen) (m : Told) (es : List Entry) → is_just_set d ≡ true → Shows g opening d s m es
      → Untouched g opening s.scene.content
  just_untouched d s m es h g = grind arith

  late_kept : (d : Option Operation) (s : Seen) (m : Told) (es : List Entry) → Hold w g.minimum s m → At g opening d s m
      → Shows g opening d s m es → Kept w opening s
  late_kept d s m es h g e = grind (arith, kept_untouched, kept_commit)

  pub kept_now : (x : Stand) → Good x → Shown x → Kept w opening x.seen
  kept_now x (inl e) v = kept_untouched g opening x.seen (early_untouched x e v) e.unmarked
  kept_now x (inr l) v = late_kept x.driver x.seen x.told x.commit l.hold l.driver v

  shown_begins : (x : Stand) → Well x → (b : Beginning) → MayBegin g x b → Shown x → Shown (begin g x b)
  shown_begins x h BeginSetup may v = early_untouched x (may_set_up x h may) v
  shown_begins x h (BeginCommit reports) may v =
      let l = late x h.0 (just_set x.driver may) in
      let untouched = just_untouched x.driver x.seen x.told x.commit may v in
      commit_of_so g (λ op. Shows g opening (Some op) x.seen x.told []) (commit_shows g j opening x.seen x.told l.hold
      (just_idle x.driver x.seen x.told l.driver may) untouched) (λ t. (untouched, refl)) reports
  shown_begins x h BeginClean may v = clean_of_so g (λ op. Shows g opening (Some op) x.seen x.told x.commit) (kept_now x h.0 v)
      (kept_now x h.0 v)
  shown_begins x h _ may v = v

  driver_shown : DriverKeeps g k opening (λ es x. AreOwn es → Shown x)
  driver_shown es x op n r o run d asked timely few honest h own =
      let v = subst (λ v. Shows g opening v x.seen x.told x.commit) d (h (own_front es _ own)) in
      elim (good es x run) [
        | inr l ↦ late_shown x (cleans_is es x run) n r o l op (subst (λ v. At g opening v x.seen x.told) d l.driver) asked timely few
            honest v
        | inl e ↦ elim e.setup [
          | inl none ↦ absurd (none_some none d)
          | inr y ↦
              let P : Operation → Type 0 = λ v. asks g (who Driver) nothing_learnt v ≡ Some r
              → Shows g opening (Some v) x.seen x.told x.commit
              → Shown (with_commit (with_driver (saw g k x (driver_entry n r o)) (tells g (who Driver) v o))
              (commit_with v x.commit (driver_entry n r o))) in
              subst P (some_is (sym y.1 ∙ d)) (λ a u q p. ap (λ (s : Scene). at_key w s.content (below w.dest.key q))
              (one_scene w k x.seen (driver_entry n r o))
              ∙ (setup_alone w j x.seen.scene y.0.operation y.2 r a o).keys (below w.dest.key q) (shown_key j q p) (no_success j q p) ∙ u q
              p) asked v
        ]
      ]

  pub shown : (es : List Entry) (x : Stand) → Runs g k opening es x → AreOwn es → Shown x
  shown = each_run g k opening (λ es x. AreOwn es → Shown x) (λ own q p. refl)
      (λ es x b run may h own. shown_begins x (well es x run) b may (h own)) driver_shown
      (λ es x a op n r o run set at asked honest h own.
      let l = late x (good es x run) set in
      let f = l.fine a op at in
      let mine = operation_own g j x.told a f.0 op f.1 r asked in
      shows_beside g j opening k x.seen x.told l.hold a n op f.1 r asked (λ b q i. mine.keys q i) o x.commit x.driver
      (h (own_front es _ own)))
      (λ es x n r o run f h own. absurd (false_true refl (own_last es _ own)))

  -- ---- while a check goes on, its commit has sent nothing

  pub check_unsent : (es : List Entry) (x : Stand) → Runs g k opening es x → (t : Retried Check) → x.driver ≡ Some (TheCheck t)
      → x.commit ≡ []
  check_unsent es x run_begins t e = absurd (none_some refl e)
  check_unsent es x (actor_begins fs y BeginSetup run may) t e = absurd cc
  check_unsent es x (actor_begins fs y (BeginCommit reports) run may) t e = refl
  check_unsent es x (actor_begins fs y BeginClean run may) t e = absurd (clean_of_so g (λ op. Some op ≡ Some (TheCheck t) → ⊥)
      (λ z. absurd cc) (λ z. absurd cc) e)
  check_unsent es x (actor_begins fs y b run may) t e = check_unsent fs y run t e
  check_unsent es x (driver_sends fs y op n r o run d asked timely few honest) t e = by op d e (check_unsent fs y run)
    where
      by : (op : Operation) → y.driver ≡ Some op → Some (tells g (who Driver) op o) ≡ Some (TheCheck t)
          → ((u : Retried Check) → y.driver ≡ Some (TheCheck u) → y.commit ≡ []) → commit_with op y.commit (driver_entry n r o) ≡ []
      by op h g e = grind arith
  check_unsent es x (attempt_sends fs y a op n r o run set at asked honest) t e = check_unsent fs y run t e
  check_unsent es x (strays fs y n r o run f) t e = check_unsent fs y run t e
