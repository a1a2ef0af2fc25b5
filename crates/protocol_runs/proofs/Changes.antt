-- What the entries of a run change, one by one and together.
use Rattle.text_and_lists.proofs.Lists.{slice_last}
use Rattle.text_and_lists.proofs.Members.{false_true, none_some, some_is}
use Rattle.text_and_lists.specs.Order.{text_eq}
use Rattle.job_invariant.proofs.Ended.{stood_so}
use Rattle.job_invariant.proofs.OwnRequests.{attempt_changes, clean_changes, commit_changes, setup_changes}
use Rattle.job_invariant.proofs.SettingUp.{setup_alone}
use Rattle.job_invariant.proofs.Sharing.{check_changes, sparing_changes}
use Rattle.job_invariant.specs.Stores.{at_id}
use Rattle.job_invariant.specs.Told.{driver_entry, entry, known, strange_entry}
use Rattle.job_model.specs.Attempts.{Who}
use Rattle.job_model.specs.JobScript.{Script}
use Rattle.job_model.specs.Legal.{IsLegal}
use Rattle.job_protocol.specs.Operations.{Operation, Setting, TheCheck, TheClean, TheCommit, TheSetup, TheSparing, asks, who}
use Rattle.job_protocol.specs.Scope.{IsZeroRename, SameOutside, SameOutsideUpload, upload_at}
use Rattle.job_protocol.specs.Seen.{Times, see}
use Rattle.job_protocol.specs.Setup.{dest_prefix, setup_asks}
use Rattle.job_protocol.specs.View.{object_at}
use Rattle.job_spec.specs.Entries.{AreOwn, ZeroRename}
use Rattle.job_spec.specs.Turns.{is_own}
use Rattle.protocol_runs.proofs.Entries.{front, own_taken, take_all}
use Rattle.protocol_runs.proofs.EveryRun.{good, late, own_front, own_last}
use Rattle.protocol_runs.proofs.Folds.{each_run, each_seen}
use Rattle.protocol_runs.proofs.Lists.{slice_front}
use Rattle.protocol_runs.proofs.Plain.{one_scene}
use Rattle.protocol_runs.proofs.Running.{At, Late}
use Rattle.protocol_runs.specs.Runs.{IsOpening, Runs, Stand, is_set, nothing_learnt}
use Rattle.s3_types.specs.Moment.{after_all, effect, moment}
use Rattle.s3_types.specs.Pages.{begins}
use Rattle.s3_types.specs.Store.{Content, Scene, Upload, opening as opening_scene}
use Rattle.s3_types.specs.declared.journal.Entry.{Entry}
use Rattle.s3_types.specs.declared.journal.Outcome.{Outcome}
use Rattle.s3_types.specs.declared.journal.Outcome.TheVariants.{RequestLost, Slow}
use Rattle.s3_types.specs.declared.request.Actor.TheVariants.{Driver}
use Rattle.s3_types.specs.declared.request.Request.{Request}
use Rattle.std.proofs.Common.{List, None, Option, Some, ap, arith, false, inl, inr, length, length-append, refl, slice_get, subst, sym}
use Rattle.std.proofs.Common.{take, true, ℕ, [], ◌++◌, ◌+◌, ◌<◌, ◌∙◌, ◌∷◌, ◌≡◌, ◌≤◌, ◌⊎◌}
use Rattle.std.proofs.lemmas.Bool.{cases_lt}
use Rattle.std.proofs.lemmas.List.{take-append-le}
use Rattle.std.proofs.lemmas.Option.{slice_get_within}
use Rattle.store_frame.specs.Held.{HasBucket}
use Rattle.std.specs.FinMap as fin

-- ---- contents that are the same outside

-- There is no upload, or one below the destination.
abbrev Inside : Script → Option Upload → Type 0
Inside w None = Unit {0}
Inside w (Some u) = begins (dest_prefix w) u.key ≡ true

abbrev Moves : Script → Option Upload → Option Upload → Type 0
Moves w o n = (n ≡ o) ⊎ (Inside w o × Inside w n)

record Leaves (w : Script) (c d : Content) : Type 0 where
  pub buckets : (b : List ℕ) → text_eq b w.dest.bucket ≡ false → fin.get d.buckets b ≡ fin.get c.buckets b
  pub objects : (k : List ℕ) → begins (dest_prefix w) k ≡ false → object_at d w.dest.bucket k ≡ object_at c w.dest.bucket k
  pub uploads : (id : ℕ) → Moves w (upload_at c w.dest.bucket id) (upload_at d w.dest.bucket id)

module _ (w : Script) where
  moves_outside : (a b : Option Upload) → Moves w a b → SameOutsideUpload w a b
  moves_outside a b h = grind arith

  -- If a live upload keeps its key.
  step_moves : (a b : Option Upload) → SameOutsideUpload w a b → ((u v : Upload) → a ≡ Some u → b ≡ Some v → u.key ≡ v.key) → Moves w a b
  step_moves a b h g = grind arith

  leaves_on : (a b c : Content) → Leaves w a b → Leaves w b c → Leaves w a c
  leaves_on a b c h g = grind arith

  -- What one entry changes.
  record Changes (e : Entry) (c d : Content) : Type 0 where
    pub rename : IsZeroRename w e c d
    pub keys : (id : ℕ) (u v : Upload) → upload_at c w.dest.bucket id ≡ Some u → upload_at d w.dest.bucket id ≡ Some v → u.key ≡ v.key

  -- A live upload keeps its key, whoever sends.
  keys_stay : (s : Scene) → HasBucket s.content w.dest.bucket
      → ((id : ℕ) (x : Upload) → at_id w s.content id ≡ Some x → id < s.content.next) → (r : Request) (o : Outcome)
      → (id : ℕ) (u v : Upload) → at_id w s.content id ≡ Some u → at_id w (effect s r o).content id ≡ Some v → u.key ≡ v.key
  keys_stay s there fresh r Slow id u v e g = ap (λ (z : Upload). z.key) (some_is (sym e ∙ g))
  keys_stay s there fresh r RequestLost id u v e g = ap (λ (z : Upload). z.key) (some_is (sym e ∙ g))
  keys_stay s there fresh r _ id u v e g = let x = stood_so w s there id (fresh id u e) r v g in ap (λ (z : Upload). z.key)
      (some_is (sym e ∙ x.stood)) ∙ x.key

-- ---- runs

pub after_parts : (s : Scene) (xs ys : List Entry) → after_all s (xs ++ ys) ≡ after_all (after_all s xs) ys
after_parts s [] ys = refl
after_parts s (x ∷ xs) ys = after_parts (effect s x.request x.outcome) xs ys

module _ (g : Setting) (k : Times) (opening : Content) (j : IsLegal g.script) (is_opening : IsOpening g opening) where
  abbrev w : Script
  w = g.script

  abbrev Step : Stand → Entry → Request → Outcome → Type 0
  Step x e r o = Changes w e x.seen.scene.content (effect x.seen.scene r o).content

  -- A live upload keeps its key.
  late_step : (x : Stand) → Late g opening x → (e : Entry) (r : Request) (o : Outcome)
      → IsZeroRename w e x.seen.scene.content (effect x.seen.scene r o).content → Step x e r o
  late_step x l e r o rename = record { rename = rename; keys = keys_stay w x.seen.scene l.hold.there l.hold.ids.fresh r o }

  late_change : (x : Stand) → Late g opening x → (op : Operation) → At g opening (Some op) x.seen x.told → (n : ℕ) (r : Request)
      → asks g (who Driver) nothing_learnt op ≡ Some r → (o : Outcome) → Step x (driver_entry n r o) r o
  late_change x l (TheSetup t) y n r asked o = absurd (none_some (ap (setup_asks w) y.0) asked)
  late_change x l (TheCommit c) y n r asked o = late_step x l (driver_entry n r o) r o
      (commit_changes g j x.seen x.told c (record {
        hold = l.hold;
        gone = l.gone y.uncleaned;
        fits = y.fits;
        tabled = y.tabled;
        turns =
            y.turns;
        decides = y.decides;
      }) r asked n o)
  late_change x l (TheClean t) y n r asked o = late_step x l (driver_entry n r o) r o
      (clean_changes g j x.seen x.told l.hold t.operation y r asked n o)
  late_change x l (TheCheck t) y n r asked o = late_step x l (driver_entry n r o) r o
      (check_changes g j x.seen x.told l.hold t.operation r asked n o)
  late_change x l (TheSparing t) y n r asked o = late_step x l (driver_entry n r o) r o
      (sparing_changes g j x.seen x.told l.hold t.operation y r asked n o)
  late_change x l _ y n r asked o = absurd y

  driver_change : (es : List Entry) (x : Stand) → Runs g k opening es x → (op : Operation) → x.driver ≡ Some op → (n : ℕ) (r : Request)
      → asks g (who Driver) nothing_learnt op ≡ Some r → (o : Outcome) → Step x (driver_entry n r o) r o
  driver_change es x run op d n r asked o = elim (good g k opening j is_opening es x run) [
    | inr l ↦ late_change x l op (subst (λ v. At g opening v x.seen x.told) d l.driver) n r asked o
    | inl e ↦ elim e.setup [
      | inl none ↦ absurd (none_some none d)
      | inr y ↦
          let is : TheSetup y.0 ≡ op = some_is (sym y.1 ∙ d) in
          let P : Operation → Type 0 = λ v. asks g (who Driver) nothing_learnt v ≡ Some r → Step x (driver_entry n r o) r o in
          subst P is (λ a. let same = (setup_alone w j x.seen.scene y.0.operation y.2 r a o).uploads in record {
            rename = setup_changes w j x.seen.scene y.0.operation y.2 r a n o;
            keys = λ id u v p q. ap (λ (z : Upload). z.key) (some_is (sym p ∙ sym (same id) ∙ q));
          }) asked
    ]
  ]

  attempt_change : (es : List Entry) (x : Stand) → Runs g k opening es x → is_set x.driver ≡ true → (a : Who) (op : Operation)
      → x.attempts a ≡ Some op → (n : ℕ) (r : Request) → asks g a (known x.told a) op ≡ Some r → (o : Outcome) → Step x (entry a n r o) r o
  attempt_change es x run set a op at n r asked o =
      let l = late g k opening j is_opening x (good g k opening j is_opening es x run) set in
      let f = l.fine a op at in
      late_step x l (entry a n r o) r o (attempt_changes g j x.seen x.told l.hold a f.0 op f.1 r asked n o)

  -- ---- the moments of a run

  after_is : (es : List Entry) (x : Stand) → Runs g k opening es x → x.seen.scene ≡ after_all (opening_scene opening) es
  after_is =
      each_seen g k opening (λ es s m. s.scene ≡ after_all (opening_scene opening) es) refl
      (λ es x e run h. one_scene w k x.seen e ∙ ap (λ s. effect s e.request e.outcome) h ∙ sym
      (after_parts (opening_scene opening) es (e ∷ [])))

  pub moment_scene : (es : List Entry) (x : Stand) → Runs g k opening es x → moment opening es (length es) ≡ x.seen.scene
  moment_scene es x run = ap (after_all (opening_scene opening)) (take_all es (length es) (omega arith)) ∙ sym (after_is es x run)

  pub earlier : (es : List Entry) (e : Entry) (m : ℕ) → m ≤ length es → moment opening (es ++ e ∷ []) m ≡ moment opening es m
  earlier es e m l = ap (after_all (opening_scene opening)) (take-append-le m es (e ∷ []) l)

  -- What holds of all entries so far, and of the content after them.
  record Moments (es : List Entry) (now : Content) : Type 0 where
    pub entries : ZeroRename w opening es
    pub whole : AreOwn es → Leaves w opening now

  -- One more entry of the job changes only what it may.
  one_more : (es : List Entry) (x : Stand) (e : Entry) → Runs g k opening es x → (is_own e.actor ≡ true → Step x e e.request e.outcome)
      → Moments es x.seen.scene.content
      → Moments (es ++ e ∷ []) (see w k x.seen e).scene.content
  one_more es x e run c h = record {
    entries = λ m y is own. elim (cases_lt m (length es)) [
      | inl low ↦ subst (λ s. IsZeroRename w y s.content (moment opening (es ++ e ∷ []) (m + 1)).content)
          (sym (earlier es e m (omega arith)))
          (subst (λ s. IsZeroRename w y (moment opening es m).content s.content) (sym (earlier es e (m + 1) (omega arith)))
          (h.entries m y (sym (slice_front es (e ∷ []) m low) ∙ is) own))
      | inr high ↦
          let low : m < length (es ++ e ∷ []) = slice_get_within (es ++ e ∷ []) m y is in
          let long : length (es ++ e ∷ []) ≡ length es + 1 = length-append es (e ∷ []) in
          let last : m ≡ length es = omega (arith, low, long, high) in
          let one : e ≡ y = some_is (sym (slice_last es e) ∙ ap (slice_get (es ++ e ∷ [])) (sym last) ∙ is) in
          let at : moment opening (es ++ e ∷ []) m ≡ x.seen.scene = ap (moment opening (es ++ e ∷ [])) last ∙ earlier es e (length es)
          (omega arith) ∙ moment_scene es x run in
          let next : moment opening (es ++ e ∷ []) (m + 1) ≡ effect x.seen.scene e.request e.outcome =
          ap (after_all (opening_scene opening)) (take_all (es ++ e ∷ []) (m + 1) (omega (arith, long, high))) ∙ after_parts
          (opening_scene opening) es (e ∷ [])
          ∙ ap (λ s. effect s e.request e.outcome) (sym (after_is es x run)) in
          subst (λ z. IsZeroRename w z (moment opening (es ++ e ∷ []) m).content (moment opening (es ++ e ∷ []) (m + 1)).content) one
          (subst (λ s. IsZeroRename w e s.content (moment opening (es ++ e ∷ []) (m + 1)).content) (sym at)
          (subst (λ s. IsZeroRename w e x.seen.scene.content s.content) (sym next)
          (c (ap (λ (z : Entry). is_own z.actor) one ∙ own)).rename))
    ];
    whole = λ own.
        let last = c (own_last es e own) in
        let leaves : Leaves w x.seen.scene.content (effect x.seen.scene e.request e.outcome).content =
        record {
          buckets = last.rename.outside.buckets;
          objects = last.rename.outside.objects;
          uploads = λ id. step_moves w
              (at_id w x.seen.scene.content id) (at_id w (effect x.seen.scene e.request e.outcome).content id)
              (last.rename.outside.uploads id) (last.keys id);
        } in
        subst (λ (s : Scene). Leaves w opening s.content) (sym (one_scene w k x.seen e))
        (leaves_on w opening x.seen.scene.content (effect x.seen.scene e.request e.outcome).content (h.whole (own_front es (e ∷ []) own))
        leaves);
  }

  moments : (es : List Entry) (x : Stand) → Runs g k opening es x → Moments es x.seen.scene.content
  moments = each_run g k opening (λ es x. Moments es x.seen.scene.content) (record {
    entries = λ m e is own. absurd (none_some refl is);
    whole = λ own. record
        { buckets = λ b ne. refl; objects = λ k free. refl; uploads = λ id. inl refl };
  }) (λ es x b run may h. h)
      (λ es x op n r o run d asked timely few honest h. one_more es x (driver_entry n r o) run
      (λ own. driver_change es x run op d n r asked o) h)
      (λ es x a op n r o run set at asked honest h. one_more es x (entry a n r o) run
      (λ own. attempt_change es x run set a op at n r asked o) h)
      (λ es x n r o run f h. one_more es x (strange_entry n r o) run (λ own. absurd (false_true refl own)) h)

  pub runs_rename : (es : List Entry) (x : Stand) → Runs g k opening es x → ZeroRename w opening es
  runs_rename es x run = (moments es x run).entries

  pub runs_outside : (es : List Entry) (x : Stand) → Runs g k opening es x → AreOwn es → (m : ℕ) → m ≤ length es
      → SameOutside w opening (moment opening es m).content
  runs_outside es x run own m l =
      let f = front g k opening j is_opening es x run m in
      let h : Leaves w opening (moment opening es m).content =
      subst (λ (s : Scene). Leaves w opening s.content) (after_is (take m es) f.0 f.1)
      ((moments (take m es) f.0 f.1).whole (own_taken es m own)) in
      record {
        buckets = h.buckets;
        objects = h.objects;
        uploads = λ id. moves_outside w (upload_at opening w.dest.bucket id)
            (upload_at (moment opening es m).content w.dest.bucket id) (h.uploads id);
      }
