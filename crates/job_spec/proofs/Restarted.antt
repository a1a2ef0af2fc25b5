-- What a restart leaves, and which operation decides the status.
use Rattle.job_model.specs.Attempts.{Declared}
use Rattle.job_model.specs.JobScript.{Script}
use Rattle.job_model.specs.declared.ends.CheckEnd.{CheckEnd}
use Rattle.job_model.specs.declared.ends.CommitEnd.{CommitEnd}
use Rattle.job_model.specs.declared.ends.EventEnd.{EventEnd}
use Rattle.job_model.specs.declared.ends.EventEnd.TheVariants.{Done, Refused}
use Rattle.job_model.specs.declared.ends.EventFault.{EventFault}
use Rattle.job_model.specs.declared.ends.OpEnd.{OpEnd}
use Rattle.job_model.specs.declared.ends.SetupEnd.{SetupEnd}
use Rattle.job_model.specs.declared.events.Event.{Event}
use Rattle.job_model.specs.declared.events.Event.TheVariants.{Restart, Start}
use Rattle.job_model.specs.declared.events.Op.TheVariants.{Commit}
use Rattle.job_model.specs.declared.states.ActorStage.{ActorStage}
use Rattle.job_model.specs.declared.states.Life.TheVariants.{Idle}
use Rattle.job_spec.specs.States.{Decided, EndedSo, NotBegun, Past, Unended, after_event, count, end_verdict, first_not, is_committing}
use Rattle.job_spec.specs.States.{is_reported, missing, nothing_past, past, past_from, restart, restarted, verdict, verdict_or}
use Rattle.s3_types.specs.declared.request.Actor.{Actor}
use Rattle.s3_types.specs.declared.request.Actor.TheVariants.{Attempt, Driver}
use Rattle.std.proofs.Common.{List, Some, ap, cond, false, inl, inr, length, nat_eq, refl, suc, sym, ℕ, [], ◌&&◌, ◌++◌, ◌||◌, ◌∙◌, ◌∷◌, ◌≡◌}
use Rattle.std.proofs.Common.{◌⊎◌}
use Rattle.std.proofs.Math.Bool.{and-false}
use Rattle.std.specs.List.{list_any, slice_get}
use Rattle.job_model.specs.declared.ends.SetupEnd.TheVariants as setups
use Rattle.job_model.specs.declared.ends.CommitEnd.TheVariants as commits
use Rattle.job_model.specs.declared.ends.OpEnd.TheVariants as ends
use Rattle.job_model.specs.declared.states.ActorStage.TheVariants as stage
use Rattle.job_model.specs.declared.ends.CheckEnd.TheVariants as checks

-- ---- one more event

after_from : (w : Script) (p : Past) (evs : List Event) (xs : List EventEnd) (ev : Event) (x : EventEnd)
    → slice_get evs (length xs) ≡ Some ev
    → past_from w p evs (xs ++ x ∷ []) ≡ after_event w (past_from w p evs xs) ev x
after_from w p [] [] ev x h = absurd (cc)
after_from w p [] (y ∷ ys) ev x h = absurd (cc)
after_from w p (e ∷ es) [] ev x h = let k : e ≡ ev = cc in ap (λ v. after_event w p v x) k
after_from w p (e ∷ es) (y ∷ ys) ev x h = after_from w (after_event w p e y) es ys ev x h

past_after : (w : Script) (xs : List EventEnd) (ev : Event) (x : EventEnd) → slice_get w.events (length xs) ≡ Some ev
    → past w (xs ++ x ∷ []) ≡ after_event w (past w xs) ev x
past_after w xs ev x h = after_from w nothing_past w.events xs ev x h

-- ---- a restart

restart_after : (w : Script) (xs : List EventEnd) → slice_get w.events (length xs) ≡ Some Restart
    → past w (xs ++ Done ∷ []) ≡ count (restart (past w xs))
restart_after w xs h = past_after w xs Restart Done h

pub idle_after : (w : Script) (xs : List EventEnd) → slice_get w.events (length xs) ≡ Some Restart
    → ((past w (xs ++ Done ∷ [])).state Driver).life ≡ Idle
idle_after w xs h = ap (λ (p : Past). (p.state Driver).life) (restart_after w xs h)

stage_after : (w : Script) (xs : List EventEnd) → slice_get w.events (length xs) ≡ Some Restart
    → ((past w (xs ++ Done ∷ [])).state Driver).stage ≡ restarted ((past w xs).state Driver).stage
stage_after w xs h = ap (λ (p : Past). (p.state Driver).stage) (restart_after w xs h)

pub failed_after : (w : Script) (xs : List EventEnd) → slice_get w.events (length xs) ≡ Some Restart
    → ((past w xs).state Driver).stage ≡ stage.Committing
    → ((past w (xs ++ Done ∷ [])).state Driver).stage ≡ stage.Failed
failed_after w xs h k = stage_after w xs h ∙ ap restarted k

other_stage : (s : ActorStage) → is_committing s ≡ false → restarted s ≡ s
other_stage stage.Committing h = absurd (cc)
other_stage _ h = refl

pub stays_after : (w : Script) (xs : List EventEnd) → slice_get w.events (length xs) ≡ Some Restart
    → is_committing ((past w xs).state Driver).stage ≡ false
    → ((past w (xs ++ Done ∷ [])).state Driver).stage ≡ ((past w xs).state Driver).stage
stays_after w xs h k = stage_after w xs h ∙ other_stage ((past w xs).state Driver).stage k

pub forgets_after : (w : Script) (xs : List EventEnd) → slice_get w.events (length xs) ≡ Some Restart → (a : Actor)
    → (past w (xs ++ Done ∷ [])).reported a ≡ false
forgets_after w xs h a = ap (λ (p : Past). p.reported a) (restart_after w xs h)

-- No attempt has reported.
none_reports : (t : ℕ) (ds : List Declared) → list_any (λ a. nat_eq a.0.task t && false) ds ≡ false
none_reports t [] = refl
none_reports t (d ∷ ds) = ap (λ b. b || list_any (λ (a : Declared). nat_eq a.0.task t && false) ds) (and-false (nat_eq d.0.task t)) ∙
    none_reports t ds

first_missed : (w : Script) (tasks n : ℕ) → tasks ≡ suc n → first_not (is_reported w (λ a. false)) 0 tasks ≡ Some 0
first_missed w tasks n h = ap (first_not (is_reported w (λ a. false)) 0) h ∙ ap
    (λ b. cond b (first_not (is_reported w (λ a. false)) 1 n) (Some 0)) (none_reports 0 w.attempts)

pub misses_after : (w : Script) (xs : List EventEnd) (n : ℕ) → slice_get w.events (length xs) ≡ Some Restart → w.tasks ≡ suc n
    → missing w (past w (xs ++ Done ∷ [])).reported ≡ Some 0
misses_after w xs n h k = ap (λ (p : Past). missing w p.reported) (restart_after w xs h) ∙ first_missed w w.tasks n k

pub attempts_after : (w : Script) (xs : List EventEnd) → slice_get w.events (length xs) ≡ Some Restart → (t a : ℕ)
    → (past w (xs ++ Done ∷ [])).state (Attempt t a) ≡ (past w xs).state (Attempt t a)
attempts_after w xs h t a = ap (λ (p : Past). p.state (Attempt t a)) (restart_after w xs h)

-- ---- statuses

zero_setup : (e : SetupEnd) → end_verdict (ends.Setup e) ≡ 0 → ⊥
zero_setup setups.Done h = cc
zero_setup _ h = cc

zero_check : (e : CheckEnd) → end_verdict (ends.Check e) ≡ 0 → ⊥
zero_check checks.StoreFault h = cc
zero_check checks.NoMemory h = cc
zero_check _ h = cc

zero_commit : (e : CommitEnd) → end_verdict (ends.Commit e) ≡ 0 → e ≡ commits.Committed
zero_commit commits.Committed h = refl
zero_commit _ h = absurd (cc)

zero_end : (e : OpEnd) → end_verdict e ≡ 0 → e ≡ ends.Commit commits.Committed
zero_end (ends.Setup e) h = absurd (zero_setup e h)
zero_end (ends.Check e) h = absurd (zero_check e h)
zero_end (ends.Commit e) h = ap ends.Commit (zero_commit e h)
zero_end _ h = absurd (cc)

zero_decided : (other : ℕ) (d : Decided) → verdict_or other d ≡ 0 → (d ≡ EndedSo (ends.Commit commits.Committed)) ⊎ (d ≡ NotBegun)
zero_decided other NotBegun h = inr refl
zero_decided other Unended h = absurd (cc)
zero_decided other (EndedSo e) h = inl (ap EndedSo (zero_end e h))

pub zero_of : (w : Script) (xs : List EventEnd) → verdict w xs ≡ 0 → ((past w xs).commit ≡ EndedSo (ends.Commit commits.Committed))
    ⊎ ((past w xs).commit ≡ NotBegun)
zero_of w xs h = zero_decided (verdict_or 1 (past w xs).setup) (past w xs).commit h

pub setup_of : (w : Script) (xs : List EventEnd) (e : SetupEnd) → (past w xs).commit ≡ NotBegun → (past w xs).setup ≡ EndedSo (ends.Setup e)
    → verdict w xs ≡ 0 → ⊥
setup_of w xs e h k z = zero_setup e (sym (ap (λ d. verdict_or (verdict_or 1 d) NotBegun) k) ∙
    (sym (ap (verdict_or (verdict_or 1 (past w xs).setup)) h) ∙ z))

abbrev verdict_of : Past → ℕ
verdict_of p = verdict_or (verdict_or 1 p.setup) p.commit

pub ended_of : (w : Script) (xs : List EventEnd) (e : OpEnd) → (past w xs).commit ≡ EndedSo e → verdict w xs ≡ end_verdict e
ended_of w xs e h = ap (verdict_or (verdict_or 1 (past w xs).setup)) h

pub unended_of : (w : Script) (xs : List EventEnd) → (past w xs).commit ≡ Unended → verdict w xs ≡ 1
unended_of w xs h = ap (verdict_or (verdict_or 1 (past w xs).setup)) h

pub not_begun_of : (w : Script) (xs : List EventEnd) → (past w xs).commit ≡ NotBegun → verdict w xs ≡ verdict_or 1 (past w xs).setup
not_begun_of w xs h = ap (verdict_or (verdict_or 1 (past w xs).setup)) h

pub begun_of : (w : Script) (xs : List EventEnd) → slice_get w.events (length xs) ≡ Some (Start Driver Commit)
    → verdict w (xs ++ Done ∷ []) ≡ 1
begun_of w xs h = ap (λ (p : Past). verdict_of p) (past_after w xs (Start Driver Commit) Done h)

refused_from : (w : Script) (p : Past) (evs : List Event) (xs : List EventEnd) (f : EventFault)
    → verdict_of (past_from w p evs (xs ++ Refused f ∷ [])) ≡ verdict_of (past_from w p evs xs)
refused_from w p [] [] f = refl
refused_from w p [] (y ∷ ys) f = refl
refused_from w p (e ∷ es) [] f = refl
refused_from w p (e ∷ es) (y ∷ ys) f = refused_from w (after_event w p e y) es ys f

pub refused_of : (w : Script) (xs : List EventEnd) (f : EventFault) → verdict w (xs ++ Refused f ∷ []) ≡ verdict w xs
refused_of w xs f = refused_from w nothing_past w.events xs f
