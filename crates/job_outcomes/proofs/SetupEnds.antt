-- How the driver's set-up ends, by its entries alone.
use Rattle.text_and_lists.proofs.Less.{le_lt, lt_not}
use Rattle.text_and_lists.proofs.Members.{in_back, in_front, none_or_some, none_some, some_is}
use Rattle.text_and_lists.proofs.Options.{some_of}
use Rattle.text_and_lists.specs.Members.{last_from}
use Rattle.text_and_lists.specs.Order.{text_cmp, text_total}
use Rattle.job_invariant.proofs.Emptying.{still_there}
use Rattle.job_invariant.proofs.JobCommitting.{dest_below}
use Rattle.job_invariant.proofs.Shapes.{answer_is, key_before, last_so}
use Rattle.job_invariant.specs.Emptying.{ThoseOrBehind}
use Rattle.job_invariant.specs.Stores.{at_key}
use Rattle.job_model.specs.JobScript.{Script}
use Rattle.job_model.specs.Legal.{IsLegal}
use Rattle.job_model.specs.declared.ends.SetupEnd.{SetupEnd}
use Rattle.job_outcomes.proofs.Alone.{setup_follows, setup_run}
use Rattle.job_outcomes.proofs.Least.{below_cmp, first_of, last_of_all, seen_below, shown_at, shown_later, unseen_in}
use Rattle.job_outcomes.proofs.SetupListed.{setup_listed}
use Rattle.job_outcomes.proofs.Went.{went}
use Rattle.job_outcomes.specs.SetupEnds.{SetupEnds}
use Rattle.job_protocol.specs.Conflicts.{checks_all}
use Rattle.job_protocol.specs.Setup.{Checking, Clearing, Heading, Setup, SetupOver, Sweeping, checked, checked_by, checked_on, cleared}
use Rattle.job_protocol.specs.Setup.{dest_prefix, first_shown, headed, if_bucket, lacks_bucket, setup_after, setup_asks, setup_hears}
use Rattle.job_protocol.specs.Setup.{setup_over, setup_start, sweeping}
use Rattle.job_protocol.specs.View.{is_file_path, view}
use Rattle.job_spec.specs.OperationEnds.{IsFree, IsLeastShown, SetupIs}
use Rattle.protocol_runs.proofs.Replacing.{some_behind}
use Rattle.list_walk.specs.Walks.{Sweep, all_go, keys_on, last_of, page_after, sweep_asks, sweep_hears, walked_by}
use Rattle.magic_paths.specs.Layout.{magic_prefix, success_key}
use Rattle.path_keys.specs.Paths.{below}
use Rattle.retries.proofs.First.{counted_first}
use Rattle.retries.specs.Operation.{Follows, run}
use Rattle.retries.specs.Retries.{fresh, step, wants_of, worn_in}
use Rattle.retries.specs.Worn.{WornFirst}
use Rattle.s3_types.specs.Answer.{answer, answer_at, apply, head}
use Rattle.s3_types.specs.Moment.{AreHonest, after_all}
use Rattle.s3_types.specs.Pages.{listed}
use Rattle.s3_types.specs.Store.{BucketContent, Content, Scene}
use Rattle.s3_types.specs.declared.journal.Entry.{Entry}
use Rattle.s3_types.specs.declared.journal.Outcome.TheVariants.{Answered, ReplyLost}
use Rattle.s3_types.specs.declared.object.Object.{Object}
use Rattle.s3_types.specs.declared.reply.PageEntry.{PageEntry}
use Rattle.s3_types.specs.declared.reply.Reply.{Reply}
use Rattle.s3_types.specs.declared.reply.Reply.TheVariants.{Page}
use Rattle.s3_types.specs.declared.request.Committer.TheVariants.{Magic}
use Rattle.s3_types.specs.declared.request.Request.{Request}
use Rattle.s3_types.specs.declared.request.Request.TheVariants.{DeleteObject, HeadObject}
use Rattle.std.proofs.Common.{Bool, IsSome, List, None, Option, Some, ap, arith, cond, false, inl, inr, length, nat_lt, refl, subst, sym}
use Rattle.std.proofs.Common.{take, true, ℕ, [], ◌++◌, ◌∙◌, ◌≡◌}
use Rattle.std.proofs.lemmas.Bool.{false≢true}
use Rattle.std.specs.Option.{is_some, option_map}
use Rattle.std.specs.Ordering.{is_lt}
use Rattle.store_frame.proofs.Flat.{last_append, page_all, page_begins, page_covers, page_rises}
use Rattle.store_frame.proofs.Reading.{reads_nothing}
use Rattle.store_frame.specs.Held.{HasBucket}
use Rattle.std.specs.FinMap as fin
use Rattle.job_model.specs.declared.ends.OpEnd.TheVariants as op_ends
use Rattle.job_model.specs.declared.ends.SetupEnd.TheVariants as setups

module _ (w : Script) (j : IsLegal w) (first : Scene) where
  abbrev c : Content
  c = first.content

  abbrev lt : List ℕ → List ℕ → Bool
  lt a b = is_lt (text_cmp a b)

  -- ---- what readers see

  record HasFile (q : List ℕ) : Type 0 where
    pub file : is_file_path q ≡ true
    pub object : Object
    pub stands : at_key w c (below w.dest.key q) ≡ Some object

  file_of : (q : List ℕ) → IsSome (view w.dest c q) → HasFile q
  file_of q h = by (is_file_path q) (at_key w c (below w.dest.key q)) refl refl h
    where
      by : (b : Bool) (o : Option Object) → is_file_path q ≡ b → at_key w c (below w.dest.key q) ≡ o
          → IsSome (cond b (option_map (λ (x : Object). x.bytes) o) None) → HasFile q
      by true (Some x) f e i = record { file = f; object = x; stands = e }
      by true None f e i = absurd (false≢true i)
      by false o f e i = absurd (false≢true i)

  shows_file : (q : List ℕ) (x : Object) → is_file_path q ≡ true → at_key w c (below w.dest.key q) ≡ Some x → IsSome (view w.dest c q)
  shows_file q x f e = ap (λ b. is_some (cond b (option_map (λ (y : Object). y.bytes) (at_key w c (below w.dest.key q))) None)) f ∙ ap
      (λ o. is_some (option_map (λ (y : Object). y.bytes) o)) e

  -- ---- its progress

  -- It may go on to delete.
  abbrev Passed : Type 0
  Passed = IsFree w c × (checks_all w.committer w.mode ≡ true → (p : List ℕ) → view w.dest c p ≡ None)

  -- No file is visible at the keys so far, and all other keys are later.
  record Looked (keys : List (List ℕ)) : Type 0 where
    pub cover : ThoseOrBehind w (dest_prefix w) all_go c keys
    pub unseen : first_shown w keys ≡ None

  abbrev Holds : Scene → Setup → Type 0
  Holds s Heading = s ≡ first
  Holds s (Checking keys) = (s ≡ first) × (checks_all w.committer w.mode ≡ true) × IsFree w c × Looked keys
  Holds s (SetupOver end) = SetupIs w c None end
  Holds s _ = Passed × HasBucket s.content w.dest.bucket

  -- ---- the destination's own key

  has_bucket : (s : Scene) → s ≡ first → IsFree w c → HasBucket s.content w.dest.bucket
  has_bucket s is free = subst (λ (u : Scene). HasBucket u.content w.dest.bucket) (sym is)
      (some_of (fin.get c.buckets w.dest.bucket) free.0)

  from_here : (s : Scene) → s ≡ first → IsFree w c → (b : Bool) → checks_all w.committer w.mode ≡ b
      → Holds s (cond b (Checking []) Clearing)
  from_here s is free true e = (is, e, free, record { cover = λ k x b go e. inr (some_behind w.dest.key k b); unseen = refl })
  from_here s is free false e = ((free, λ h. absurd (false≢true (sym e ∙ h))), has_bucket s is free)

  abbrev head_request : Request
  head_request = HeadObject w.dest.bucket w.dest.key

  headed_by : (s : Scene) → s ≡ first → (o : Option BucketContent) → fin.get c.buckets w.dest.bucket ≡ o
      → let x = answer_at o c.next c.minimum head_request in Holds s (if_bucket x (headed w x))
  headed_by s is None e = e
  headed_by s is (Some b) e = by (fin.get b.objects w.dest.key) refl
    where
      at : at_key w c w.dest.key ≡ fin.get b.objects w.dest.key
      at = key_before w first b e w.dest.key

      by : (x : Option Object) → fin.get b.objects w.dest.key ≡ x → Holds s (if_bucket (head x) (headed w (head x)))
      by None f = from_here s is (ap is_some e, at ∙ f) (checks_all w.committer w.mode) refl
      by (Some x) f = ap is_some (at ∙ f)

  -- ---- a page

  module _ (s : Scene) (same : s ≡ first) (checks : checks_all w.committer w.mode ≡ true) (free : IsFree w c) (keys : List (List ℕ))
      (looked : Looked keys) where
    abbrev there : HasBucket c w.dest.bucket
    there = some_of (fin.get c.buckets w.dest.bucket) free.0

    abbrev rest : List PageEntry
    rest = listed (dest_prefix w) false (last_of keys) there.0.objects

    abbrev new : List (List ℕ)
    new = keys_on (take 1000 rest)

    here : (k : List ℕ) (x : Object) → at_key w c k ≡ Some x → fin.get there.0.objects k ≡ Some x
    here k x e = sym (key_before w first there.0 there.1 k) ∙ e

    cover_more : ThoseOrBehind w (dest_prefix w) all_go c (keys ++ new)
    cover_more k x b go e = elim (looked.cover k x b go e) [
      | inl i ↦ inl (in_front k keys new i)
      | inr l ↦ elim (page_covers 1000 (dest_prefix w) (last_of keys) k there.0.objects x (here k x e) b l) [
        | inl i ↦ inl (in_back k keys new i)
        | inr f ↦ inr (ap (λ t. lt t k) (last_so (keys ++ new) ∙ last_append [] keys new ∙ ap (λ t. last_from t new) (sym (last_so keys))) ∙
            f)
      ]
    ]

    -- Each visible file is at a later key than those so far.
    shown_behind : (q : List ℕ) → (f : HasFile q) → lt (last_of keys) (below w.dest.key q) ≡ true
    shown_behind q f = elim (looked.cover (below w.dest.key q) f.object (dest_below j q) refl f.stands) [
      | inl i ↦ absurd (none_some (unseen_in w j keys looked.unseen (below w.dest.key q) i) (seen_below w j q f.file))
      | inr l ↦ l
    ]

    least_shown : (p : List ℕ) → first_shown w new ≡ Some p → IsLeastShown w c p
    least_shown p e =
        let rises = page_rises 1000 (dest_prefix w) (last_of keys) there.0.objects in
        let o = first_of w j (last_of keys) new rises p e in
        let stands = page_begins 1000 (dest_prefix w) (last_of keys) o.key there.0.objects o.one in
        let at = shown_at w j o.key p stands.0 o.shown in
        record {
          shown = shows_file p stands.1.0 at.file (ap (at_key w c) (sym at.is) ∙ key_before w first there.0 there.1 o.key ∙ stands.1.1);
          least = λ q h.
              let f = file_of q h in
              let before : lt (below w.dest.key q) o.key ≡ false = elim (page_covers 1000 (dest_prefix w) (last_of keys)
              (below w.dest.key q) there.0.objects f.object (here (below w.dest.key q) f.object f.stands) (dest_below j q)
              (shown_behind q f)) [
                | inl i ↦ o.least (below w.dest.key q) q i (seen_below w j q f.file)
                | inr b ↦ lt_not text_total o.key (below w.dest.key q) (le_lt text_total o.key (last_from (last_of keys) new)
                    (below w.dest.key q) (last_of_all (last_of keys) new rises o.key o.one) b)
              ] in
              sym (ap is_lt (ap (text_cmp (below w.dest.key q)) at.is ∙ below_cmp w j q p)) ∙ before;
        }

    all_looked : nat_lt 1000 (length rest) ≡ false → first_shown w new ≡ None → (q : List ℕ) → IsSome (view w.dest c q) → ⊥
    all_looked few none q h =
        let f = file_of q h in
        let i = page_all 1000 (dest_prefix w) (last_of keys) (below w.dest.key q) there.0.objects f.object few
        (here (below w.dest.key q) f.object f.stands) (dest_below j q) (shown_behind q f) in
        none_some (unseen_in w j new none (below w.dest.key q) i) (seen_below w j q f.file)

    on_by : first_shown w new ≡ None → (more : Bool) → nat_lt 1000 (length rest) ≡ more
        → Holds s (checked_on (walked_by more (keys ++ new)))
    on_by none true e = (same, checks, free, record { cover = cover_more; unseen = shown_later w keys new looked.unseen ∙ none })
    on_by none false e = (
      (
        free,
        λ h q. elim (none_or_some (view w.dest c q))
            [ inl gone ↦ gone | inr b ↦ absurd (all_looked e none q (ap is_some b.1)) ],
      ),
      has_bucket s same free,
    )

    checked_so : (o : Option (List ℕ)) → first_shown w new ≡ o → (more : Bool) → nat_lt 1000 (length rest) ≡ more
        → Holds s (checked_by o (walked_by more (keys ++ new)))
    checked_so (Some p) e more f = (free, checks, least_shown p e)
    checked_so None e more f = on_by e more f

    checked_now : (x : Reply) → x ≡ answer first (page_after w.dest.bucket (dest_prefix w) keys) → Holds s (if_bucket x (checked w keys x))
    checked_now x e =
        let q = page_after w.dest.bucket (dest_prefix w) keys in
        let due : answer first q ≡ Page (take 1000 rest) (nat_lt 1000 (length rest)) = answer_is w first there.0 there.1 q refl in
        subst (λ y. Holds s (if_bucket y (checked w keys y))) (sym (e ∙ due))
        (checked_so (first_shown w new) refl (nat_lt 1000 (length rest)) refl)

  -- ---- every answer

  -- If the bucket exists, no answer says that it does not.
  found_bucket : (s : Scene) (q r : Request) → q ≡ r → lacks_bucket (answer s q) ≡ false → (x : Reply) → x ≡ answer s r → (next : Setup)
      → Holds (apply s r) next → Holds (apply s r) (if_bucket x next)
  found_bucket s q r is has x e next h = subst (λ b. Holds (apply s r) (cond b (SetupOver setups.NoSuchBucket) next))
      (sym (ap lacks_bucket (e ∙ ap (answer s) (sym is)) ∙ has)) h

  abbrev sweep_request : Sweep → Request
  sweep_request t = sweep_asks w.dest.bucket (magic_prefix w.dest.key w.job) t

  sweep_has : (s : Scene) → HasBucket s.content w.dest.bucket → (t : Sweep) → lacks_bucket (answer s (sweep_request t)) ≡ false
  sweep_has s h t = grind arith

  heard : (s : Scene) (m : Setup) → Holds s m → (r : Request) → setup_asks w m ≡ Some r → (x : Reply) (repeated : Bool) → x ≡ answer s r
      → Holds (apply s r) (setup_hears w m x)
  heard s Heading h r asked x repeated e =
      let is : head_request ≡ r = some_is asked in
      subst (λ y. Holds (apply s r) (if_bucket y (headed w y))) (sym (e ∙ ap (answer s) (sym is) ∙ ap (λ v. answer v head_request) h))
      (headed_by (apply s r) (ap (apply s) (sym is) ∙ reads_nothing s head_request refl ∙ h) (fin.get c.buckets w.dest.bucket) refl)
  heard s (Checking keys) h r asked x repeated e =
      let q = page_after w.dest.bucket (dest_prefix w) keys in
      let is : q ≡ r = some_is asked in
      checked_now (apply s r) (ap (apply s) (sym is) ∙ reads_nothing s q refl ∙ h.0) h.1 h.2 keys h.3 x
      (e ∙ ap (answer s) (sym is) ∙ ap (λ v. answer v q) h.0)
  heard s Clearing h r asked x repeated e =
      let q = DeleteObject w.dest.bucket (success_key w.dest.key) in
      found_bucket s q r (some_is asked) (ap lacks_bucket (answer_is w s h.1.0 h.1.1 q refl)) x e (cleared w.committer)
      (elim w.committer as (λ k. Holds (apply s r) (cleared k)) [ Magic ↦ (h.0, still_there w s r (Answered x) h.1) | _ ↦ h.0 ])
  heard s (Sweeping t) h r asked x repeated e =
      found_bucket s (sweep_request t) r (some_is asked) (sweep_has s h.1 t) x e (sweeping (sweep_hears all_go t x))
      (elim (sweep_hears all_go t x) as (λ o. Holds (apply s r) (sweeping o))
      [ Some u ↦ (h.0, still_there w s r (Answered x) h.1) | None ↦ h.0 ])
  heard s (SetupOver end) h r asked x repeated e = absurd (none_some refl asked)

  still : (s : Scene) (m : Setup) → Holds s m → (r : Request) → setup_asks w m ≡ Some r → Holds (apply s r) m
  still s Heading h r asked = ap (apply s) (sym (some_is asked)) ∙ reads_nothing s head_request refl ∙ h
  still s (Checking keys) h r asked = (
    ap (apply s) (sym (some_is asked)) ∙ reads_nothing s (page_after w.dest.bucket (dest_prefix w) keys)
        refl ∙ h.0,
    h.1,
    h.2,
    h.3,
  )
  still s (SetupOver end) h r asked = h
  still s _ h r asked = (h.0, still_there w s r ReplyLost h.1)

  over_so : (s : Scene) (m : Setup) → Holds s m → (e : SetupEnd) → setup_over m ≡ Some e → SetupIs w c None e
  over_so s m h e g = grind arith

  pub setup_ends : (es : List Entry) → Follows (wants_of (setup_asks w)) (step w.retries (setup_after w)) (fresh w.retries setup_start) es
      → AreHonest first es
      → (e : SetupEnd) → setup_over (run (step w.retries (setup_after w)) (fresh w.retries setup_start) es).operation ≡ Some e
      → (worn : Option Request) × WornFirst w.retries es worn × SetupIs w c worn e
  setup_ends es f honest e is =
      let t = fresh w.retries setup_start in
      let worn = worn_in w.retries (setup_after w) t es in (
        worn,
        counted_first w.retries (setup_asks w) (setup_after w) setup_start es f,
        elim (went w.retries (setup_asks w) (setup_after w) Holds heard still (λ m. refl) es first t refl f honest) [
          | inl h ↦ subst (λ o. SetupIs w c o e) (sym h.0) (over_so (after_all first es)
              (run (step w.retries (setup_after w)) t es).operation h.1 e is)
          | inr h ↦ subst (λ o. SetupIs w c o e) (sym h.2) (sym (some_is (ap setup_over (sym h.3) ∙ is)))
        ],
      )

over_setup : (t : Setup) (e : SetupEnd) → option_map op_ends.Setup (setup_over t) ≡ Some (op_ends.Setup e) → setup_over t ≡ Some e
over_setup t e h = grind arith

pub setups_end : SetupEnds
setups_end = grind (arith, setup_ends, setup_follows, over_setup, setup_run, setup_listed)
