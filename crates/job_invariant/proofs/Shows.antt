-- Readers of the destination do not see what is changed only below the magic directory.
use Rattle.text_and_lists.proofs.Members.{false_true, true_or_false}
use Rattle.text_and_lists.specs.Members.{IsIn}
use Rattle.job_invariant.proofs.Going.{effect_so}
use Rattle.job_invariant.proofs.Legal.{some_dest}
use Rattle.job_invariant.specs.Stores.{at_key}
use Rattle.job_model.specs.JobScript.{Script}
use Rattle.job_model.specs.Legal.{IsLegal}
use Rattle.job_protocol.specs.View.{Same, is_file_path, is_folder, view}
use Rattle.magic_paths.proofs.Tails.{begins_behind, below_is}
use Rattle.magic_paths.specs.Layout.{magic_prefix}
use Rattle.path_keys.specs.Paths.{below}
use Rattle.s3_types.specs.Answer.{apply, bucket_of}
use Rattle.s3_types.specs.Moment.{effect}
use Rattle.s3_types.specs.Pages.{begins}
use Rattle.s3_types.specs.Store.{Content, Scene}
use Rattle.s3_types.specs.declared.journal.Outcome.{Outcome}
use Rattle.s3_types.specs.declared.object.Object.{Object}
use Rattle.s3_types.specs.declared.request.Request.{Request}
use Rattle.std.proofs.Common.{Bool, List, None, ap, arith, codes, cond, false, inl, inr, nat_eq, not, refl, sym, true, ℕ, [], ◌&&◌, ◌++◌}
use Rattle.std.proofs.Common.{◌∙◌, ◌∷◌, ◌≡◌}
use Rattle.std.proofs.lemmas.Bool.{and_parts, false≢true, not-true}
use Rattle.std.specs.Option.{option_map}
use Rattle.std.specs.Prelude.{bytes_eq}
use Rattle.store_frame.proofs.Framed.{frame}
use Rattle.store_frame.specs.Frame.{changed_keys}
use Rattle.store_frame.specs.Held.{HasBucket}

pub begins_front : (a b q : List ℕ) → begins (a ++ b) q ≡ true → begins a q ≡ true
begins_front [] b q h = refl
begins_front (x ∷ a) b [] h = absurd (false≢true h)
begins_front (x ∷ a) b (y ∷ q) h = let p = and_parts (nat_eq x y) (begins (a ++ b) q) h in rw (p.0, begins_front a b q p.1) refl

-- A file's path is not below the magic directory.
pub shown_key : {w : Script} → IsLegal w → (p : List ℕ) → is_file_path p ≡ true
    → begins (magic_prefix w.dest.key w.job) (below w.dest.key p) ≡ false
shown_key {w = w} j p h = elim (true_or_false (begins (magic_prefix w.dest.key w.job) (below w.dest.key p))) [
  | inr no_so ↦ no_so
  | inl yes_so ↦
      let a = and_parts (not (is_folder p) && not (begins (codes "__magic/") p)) (not (bytes_eq p (codes "_SUCCESS"))) h in
      let b = and_parts (not (is_folder p)) (not (begins (codes "__magic/") p)) a.0 in
      let at : begins (codes "/__magic/job-" ++ (w.job ++ codes "/")) (47 ∷ p) ≡ true =
      sym (begins_behind w.dest.key (codes "/__magic/job-" ++ (w.job ++ codes "/")) (47 ∷ p)) ∙ ap (begins (magic_prefix w.dest.key w.job))
      (sym (below_is w.dest.key p (some_dest j))) ∙ yes_so in
      let front : begins (codes "__magic/") p ≡ true = begins_front (codes "__magic/") (codes "job-" ++ (w.job ++ codes "/")) p at in
      absurd (false_true (not-true (begins (codes "__magic/") p) b.1) front)
]

pub view_by : (w : Script) (c d : Content) → ((p : List ℕ) → is_file_path p ≡ true
    → at_key w d (below w.dest.key p) ≡ at_key w c (below w.dest.key p)) → Same (view w.dest d) (view w.dest c)
view_by w c d same p = by (is_file_path p) refl
  where
    by : (b : Bool) → is_file_path p ≡ b → cond b (option_map (λ (o : Object). o.bytes) (at_key w d (below w.dest.key p))) None ≡ cond b
        (option_map (λ (o : Object). o.bytes) (at_key w c (below w.dest.key p))) None
    by b h = grind arith

-- In the job's bucket the request changes only keys below the magic directory.
abbrev pub HidesAll : Script → Request → Type 0
HidesAll w r = bucket_of r ≡ w.dest.bucket → (k : List ℕ) → IsIn k (changed_keys r) → begins (magic_prefix w.dest.key w.job) k ≡ true

pub hidden_shows : {w : Script} → IsLegal w → (s : Scene) (r : Request) (o : Outcome) → HasBucket s.content w.dest.bucket → HidesAll w r
    → Same (view w.dest (effect s r o).content) (view w.dest s.content)
hidden_shows {w = w} j s r o there h =
    effect_so (λ u. Same (view w.dest u.content) (view w.dest s.content)) s r o (λ p. refl)
    (view_by w s.content (apply s r).content (λ p b. (frame s w.dest.bucket r there).keys (below w.dest.key p)
    (λ e i. false_true (shown_key j p b) (h e (below w.dest.key p) i))))
