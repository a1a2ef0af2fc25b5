-- The joint journal, as each side reads it.
use Rattle.job_invariant.specs.Foreign.{IsForeign}
use Rattle.job_model.specs.Attempts.{Who}
use Rattle.job_model.specs.JobScript.{Script}
use Rattle.job_model.specs.Known.{Drawn}
use Rattle.job_run.specs.Holds.{AreOf}
use Rattle.job_spec.specs.Entries.{AreOwn}
use Rattle.job_spec.specs.Eyes.{in_eyes, number_in}
use Rattle.job_spec.specs.Turns.{is_own}
use Rattle.s3_types.specs.Answer.{answer}
use Rattle.s3_types.specs.Moment.{IsHonestOutcome, after_all, effect}
use Rattle.s3_types.specs.Store.{Scene}
use Rattle.s3_types.specs.declared.journal.Entry.{Entry}
use Rattle.s3_types.specs.declared.request.Actor.TheVariants.{Shell}
use Rattle.std.proofs.Common.{Bool, List, ap, cond, false, not, refl, sym, true, ℕ, [], ◌++◌, ◌∙◌, ◌∷◌, ◌≡◌}
use Rattle.std.proofs.lemmas.List.{map-append}
use Rattle.std.specs.List.{AllByRecursion}
use Rattle.twin_facts.specs.Sides.{TwinEntry, eyes}
use Rattle.twin_jobs.specs.Worlds.{both_of, entry_by}
use Rattle.job_run.specs.Beside as beside
use Rattle.twin_facts.specs.Sides as two
use Rattle.twin_facts.specs.Joined as joined

-- The scene after the entries is the same, whichever side reads them.
pub after_eyes : (mine : ℕ → Bool) (s : Scene) (es : List Entry) → after_all s (in_eyes mine es) ≡ after_all s es
after_eyes mine s [] = refl
after_eyes mine s (e ∷ es) = after_eyes mine (effect s e.request e.outcome) es

pub own_on : (n : ℕ) (es fs : List Entry) → AreOwn es → AreOf n fs → AreOwn (es ++ fs)
own_on n [] [] h g = tt
own_on n [] (f ∷ fs) h g = (g.0.1, own_on n [] fs tt g.1)
own_on n (e ∷ es) fs h g = (h.0, own_on n es fs h.1 g)

-- Each entry is of one side by its event.
abbrev pub AreApart : (ℕ → Bool) → (ℕ → Bool) → List Entry → Type 0
AreApart mine theirs = AllByRecursion (λ e. theirs e.event ≡ not (mine e.event))

module _ (mine theirs : ℕ → Bool) where
  first_reads : (b : Bool) (n m : ℕ) (e : Entry) → two.in_eyes two.First (entry_by b n m e) ≡ record
      { event = n; actor = cond b e.actor Shell; request = e.request; outcome = e.outcome }
  first_reads true n m e = refl
  first_reads false n m e = refl

  second_reads : (b c : Bool) (n m : ℕ) (e : Entry) → c ≡ not b
      → two.in_eyes two.Second (entry_by b n m e) ≡ record {
        event = m;
        actor = cond c e.actor Shell;
        request = e.request;
        outcome =
            e.outcome;
      }
  second_reads true c n m e is = ap (λ v. record { event = m; actor = cond v e.actor Shell; request = e.request; outcome = e.outcome })
      (sym is)
  second_reads false c n m e is = ap (λ v. record { event = m; actor = cond v e.actor Shell; request = e.request; outcome = e.outcome })
      (sym is)

  pub first_eyes : (es : List Entry) → eyes two.First (both_of mine theirs es) ≡ in_eyes mine es
  first_eyes [] = refl
  first_eyes (e ∷ es) = λ i. first_reads (mine e.event) (number_in mine e.event) (number_in theirs e.event) e i ∷ first_eyes es i

  pub second_eyes : (es : List Entry) → AreApart mine theirs es → eyes two.Second (both_of mine theirs es) ≡ in_eyes theirs es
  second_eyes [] h = refl
  second_eyes (e ∷ es) h = λ i. second_reads (mine e.event) (theirs e.event) (number_in mine e.event) (number_in theirs e.event) e h.0 i ∷
      second_eyes es h.1 i

  same_actor : (b : Bool) (n m : ℕ) (e : Entry) → is_own e.actor ≡ true → is_own (entry_by b n m e).entry.actor ≡ true
  same_actor true n m e h = h
  same_actor false n m e h = h

  pub actors : (es : List Entry) → AreOwn es → joined.AreActors (both_of mine theirs es)
  actors [] h = tt
  actors (e ∷ es) h = (same_actor (mine e.event) (number_in mine e.event) (number_in theirs e.event) e h.0, actors es h.1)

  pub appended : (es fs : List Entry) → both_of mine theirs (es ++ fs) ≡ both_of mine theirs es ++ both_of mine theirs fs
  appended es fs = map-append (λ e. entry_by (mine e.event) (number_in mine e.event) (number_in theirs e.event) e) es fs

  pub by_first : (n : ℕ) → mine n ≡ true → (es : List Entry) → AreOf n es → joined.AreOf two.First (both_of mine theirs es)
  by_first n own [] h = tt
  by_first n own (e ∷ es) h = (
    ap (λ v. (entry_by v (number_in mine e.event) (number_in theirs e.event) e).side) (ap mine h.0.0 ∙ own),
    by_first n own es h.1,
  )

  -- What is foreign to the second side is foreign to it under the run's own event numbers too.
  pub foreign_by : (w : Script) (drawn : Who → List Drawn) (n : ℕ) (s : Scene) (es : List Entry) → AreOf n es
      → joined.AreForeign w drawn s (both_of mine theirs es) → beside.AreForeign w drawn n s es
  foreign_by w drawn n s [] h f = tt
  foreign_by w drawn n s (e ∷ es) h f =
      let g = one (mine e.event) (number_in mine e.event) (number_in theirs e.event) (both_of mine theirs es) f in
      (h.0.0, g.0, g.1, foreign_by w drawn n (effect s e.request e.outcome) es h.1 g.2)
    where
      one : (b : Bool) (k m : ℕ) (ts : List TwinEntry) → joined.AreForeign w drawn s (entry_by b k m e ∷ ts) → IsForeign w drawn e.request
          × IsHonestOutcome e.outcome (answer s e.request) × joined.AreForeign w drawn (effect s e.request e.outcome) ts
      one true k m ts f = f
      one false k m ts f = f
