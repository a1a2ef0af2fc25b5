-- A side whose bucket does not exist makes none and puts no marker, and readers see nothing.
use Rattle.text_and_lists.proofs.Members.{none_some, some_is}
use Rattle.job_invariant.proofs.Sharing.{setup_plain}
use Rattle.job_model.specs.JobScript.{Script}
use Rattle.job_model.specs.Legal.{IsLegal}
use Rattle.job_protocol.specs.Operations.{Setting, TheSetup, asks, who}
use Rattle.job_protocol.specs.Seen.{Times, is_marking}
use Rattle.job_protocol.specs.Setup.{Checking, Clearing, Heading, Setup, SetupOver, Sweeping, dest_prefix, setup_asks}
use Rattle.job_protocol.specs.View.{is_file_path, object_in, view}
use Rattle.protocol_runs.proofs.Entries.{late_now}
use Rattle.protocol_runs.proofs.EveryRun.{good}
use Rattle.protocol_runs.proofs.Running.{Early, Late}
use Rattle.protocol_runs.specs.Runs.{IsOpening, Runs, Stand, nothing_learnt}
use Rattle.list_walk.specs.Walks.{Deleting, Listing, Sweep, last_of, page_after, sweep_asks}
use Rattle.magic_paths.specs.Layout.{magic_prefix, success_key}
use Rattle.path_keys.specs.Paths.{Path, below}
use Rattle.s3_types.specs.Answer.{apply, apply_at}
use Rattle.s3_types.specs.Moment.{effect}
use Rattle.s3_types.specs.Store.{BucketContent, Content, Scene}
use Rattle.s3_types.specs.declared.journal.Entry.{Entry}
use Rattle.s3_types.specs.declared.journal.Outcome.{Outcome}
use Rattle.s3_types.specs.declared.journal.Outcome.TheVariants.{RequestLost, Slow}
use Rattle.s3_types.specs.declared.request.Actor.TheVariants.{Driver}
use Rattle.s3_types.specs.declared.request.Request.{Request}
use Rattle.s3_types.specs.declared.request.Request.TheVariants.{DeleteObject, DeleteObjects, HeadObject, ListPage}
use Rattle.std.proofs.Common.{Bool, List, None, Option, Some, ap, arith, cond, false, inl, inr, refl, subst, sym, true, ℕ, ◌∙◌, ◌≡◌, ◌⊎◌}
use Rattle.std.specs.Option.{option_map}
use Rattle.twin_facts.specs.Sides.{Sends, attempt_sends, driver_sends}
use Rattle.std.specs.FinMap as fin

-- No bucket has this name.
abbrev pub IsBare : Content → List ℕ → Type 0
IsBare c n = fin.get c.buckets n ≡ None

-- So readers see nothing there.
pub bare_view : (d : Path) (c : Content) → IsBare c d.bucket → (p : List ℕ) → view d c p ≡ None
bare_view d c none p =
    ap (λ o. cond (is_file_path p) (option_map (λ x. x.bytes) (object_in o (below d.key p))) None) none ∙ by (is_file_path p) None
  where
    by : (b : Bool) (o : Option (List ℕ)) → cond b o o ≡ o
    by true o = refl
    by false o = refl

module _ (w : Script) where
  abbrev bucket : List ℕ
  bucket = w.dest.bucket

  -- A request of the side makes no bucket with this name.
  still : (c : Content) (r : Request) → IsBare c bucket → IsBare (apply_at (fin.get c.buckets bucket) c r) bucket
  still c r none = ap (λ o. fin.get (apply_at o c r).buckets bucket) none ∙ none

  swept : (s : Scene) (p : List ℕ) (x : Sweep) → IsBare s.content bucket → IsBare (apply s (sweep_asks bucket p x)).content bucket
  swept s p (Listing keys) none = still s.content (sweep_asks bucket p (Listing keys)) none
  swept s p (Deleting key keys) none = still s.content (sweep_asks bucket p (Deleting key keys)) none

  applied : (s : Scene) (t : Setup) (r : Request) → setup_asks w t ≡ Some r → IsBare s.content bucket → IsBare (apply s r).content bucket
  applied s Heading r asked none =
      subst (λ q. IsBare (apply s q).content bucket) (some_is asked) (still s.content (HeadObject bucket w.dest.key) none)
  applied s (Checking keys) r asked none =
      subst (λ q. IsBare (apply s q).content bucket) (some_is asked) (still s.content (page_after bucket (dest_prefix w) keys) none)
  applied s Clearing r asked none =
      subst (λ q. IsBare (apply s q).content bucket) (some_is asked) (still s.content (DeleteObject bucket (success_key w.dest.key)) none)
  applied s (Sweeping x) r asked none =
      subst (λ q. IsBare (apply s q).content bucket) (some_is asked) (swept s (magic_prefix w.dest.key w.job) x none)
  applied s (SetupOver end) r asked none = absurd (none_some refl asked)

  left : (s : Scene) (t : Setup) (r : Request) → setup_asks w t ≡ Some r → (o : Outcome) → IsBare s.content bucket
      → IsBare (effect s r o).content bucket
  left s t r asked Slow none = none
  left s t r asked RequestLost none = none
  left s t r asked _ none = applied s t r asked none

module _ (g : Setting) (k : Times) (opening : Content) (j : IsLegal g.script) (is : IsOpening g opening) where
  -- The side sends only requests of its set-up.
  pub bare_sends : (es : List Entry) (x z : Stand) (e : Entry) → Sends g k x e z → Runs g k opening es x
      → IsBare x.seen.scene.content g.script.dest.bucket
      → IsBare (effect x.seen.scene e.request e.outcome).content g.script.dest.bucket × (is_marking g.script e.request ≡ false)
  bare_sends es x _ _ (driver_sends _ op n r o at asked timely few honest) run none = by (good g k opening j is es x run)
    where
      by : Early g opening x ⊎ Late g opening x
          → IsBare (effect x.seen.scene r o).content g.script.dest.bucket × (is_marking g.script r ≡ false)
      by (inr late) = absurd (none_some none late.hold.there.1)
      by (inl early) = elim early.setup [
        | inl nothing ↦ absurd (none_some nothing at)
        | inr y ↦
            let so : TheSetup y.0 ≡ op = some_is (sym y.1 ∙ at) in
            let a : setup_asks g.script (y.0).operation ≡ Some r = ap (asks g (who Driver) nothing_learnt) so ∙ asked in
            (left g.script x.seen.scene (y.0).operation r a o none, (setup_plain g.script (y.0).operation r a).marks)
      ]
  bare_sends es x _ _ (attempt_sends _ a op n r o set at asked honest) run none =
      absurd (none_some none (late_now g k opening j is es x run set).hold.there.1)
