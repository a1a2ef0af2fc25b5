-- The picks of a run stay while no operation sends that picks.
use Rattle.job_actor.proofs.Staying.{same_picks}
use Rattle.job_actor.specs.Picks.{HasPicked, LeavesPicks, is_committing}
use Rattle.job_model.specs.declared.ends.ActorEnd.{ActorEnd}
use Rattle.job_model.specs.declared.ends.OpEnd.{OpEnd}
use Rattle.job_model.specs.declared.ends.Pick.{Pick}
use Rattle.job_protocol.specs.Operations.{Setting}
use Rattle.job_run.proofs.Along.{commits_on}
use Rattle.job_run.specs.Holds.{PutBy}
use Rattle.job_spec.specs.Promise.{ArePicked, lacked_memory}
use Rattle.job_spec.specs.States.{Decided, decide, is_commit}
use Rattle.script_steps.proofs.Actors.{same_or_not}
use Rattle.script_steps.proofs.Running.{finished_ahead, sent_ahead}
use Rattle.script_steps.specs.Transitions.{Finishes, MaySend, Play, Sends, happen}
use Rattle.s3_types.specs.Store.{Content}
use Rattle.s3_types.specs.declared.journal.Entry.{Entry}
use Rattle.s3_types.specs.declared.request.Actor.{Actor}
use Rattle.s3_types.specs.declared.request.Actor.TheVariants.{Attempt, Driver}
use Rattle.std.proofs.Common.{Bool, List, None, Option, Some, ap, false, inl, inr, refl, subst, sym, true, ◌∙◌, ◌≡◌}

-- An attempt's end decides nothing about the driver's operations.
pub decides_not : (a : Actor) (b : Bool) (e : OpEnd) (d : Decided) → (a ≡ Driver → ⊥) → decide a b e d ≡ d
decides_not Driver b e d ne = absurd (ne refl)
decides_not (Attempt t n) true e d ne = refl
decides_not _ _ e d ne = refl

module _ (g : Setting) (opening : Content) (x : Play) where
  -- ---- another actor sends

  pub same_picked : (e : Entry) → LeavesPicks g opening x e → (o : Option (List Pick)) → HasPicked g opening x o
      → HasPicked g opening (happen g x (Sends e)) o
  same_picked e stays None h = tt
  same_picked e stays (Some ps) h = same_picks g opening x e stays ps h

  pub put_by_sent : (e : Entry) (ps : List Pick) → MaySend g opening x e
      → (is_committing (x.running Driver) ≡ false → LeavesPicks g opening x e) → PutBy g opening x ps
      → PutBy g opening (happen g x (Sends e)) ps
  put_by_sent e ps may stays h =
      let same = sym (commits_on g opening x e may Driver) in
      record {
        none = λ c. h.none (same ∙ c);
        first = λ c xs ahead. let old = sent_ahead g x e xs ahead in subst (ArePicked ps) (sym (stays (same ∙ c) xs old))
            (h.first (same ∙ c) xs old);
        all = λ c fine. same_picks g opening x e (stays (same ∙ c)) ps (h.all (same ∙ c) fine);
      }

  -- ---- an operation ends

  pub picked_ended : (y : ActorEnd) (o : Option (List Pick)) → HasPicked g opening x o → HasPicked g opening (happen g x (Finishes y)) o
  picked_ended y None h = tt
  picked_ended y (Some ps) h = λ xs ahead. h xs (finished_ahead g x y xs ahead)

  -- The end of an operation that is not the job's commit decides nothing about the commit.
  pub other_end : (y : ActorEnd) → is_commit (x.live.doing Driver) ≡ false → (happen g x (Finishes y)).live.commit ≡ x.live.commit
  other_end y c = elim (same_or_not y.actor Driver) [
    | inl is ↦ ap (λ a. decide a (is_commit (x.live.doing a)) y.end x.live.commit) is ∙ ap (λ b. decide Driver b y.end x.live.commit) c
    | inr ne ↦ decides_not y.actor (is_commit (x.live.doing y.actor)) y.end x.live.commit ne
  ]

  pub put_by_ended : (y : ActorEnd) (ps : List Pick) → is_committing (x.running Driver) ≡ is_commit (x.live.doing Driver)
      → PutBy g opening x ps → PutBy g opening (happen g x (Finishes y)) ps
  put_by_ended y ps doing h = record {
    none = h.none;
    first = λ c xs ahead. h.first c xs (finished_ahead g x y xs ahead);
    all = λ c fine. λ xs ahead. h.all c (ap lacked_memory (sym (other_end y (sym doing ∙ c))) ∙ fine) xs (finished_ahead g x y xs ahead);
  }
