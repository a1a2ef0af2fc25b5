-- A journal that is cut in two at the beginning or the end of an event: its parts by events and actors, and its moments.
use Rattle.job_outcomes.proofs.EventRows.{all_since, none_before}
use Rattle.job_spec.specs.States.{same_actor}
use Rattle.job_spec.specs.Turns.{AllBy, AllFrom, AllUpTo, before, by_actor, since}
use Rattle.script_steps.proofs.Parts.{before_all, from_part, since_none, up_to_part}
use Rattle.s3_types.specs.Moment.{after_all, moment}
use Rattle.s3_types.specs.Store.{Content}
use Rattle.s3_types.specs.declared.journal.Entry.{Entry}
use Rattle.s3_types.specs.declared.request.Actor.{Actor}
use Rattle.std.proofs.Common.{List, ap, append-nil, arith, length, nat_le, nat_lt, ℕ, [], ◌++◌, ◌+◌, ◌∙◌, ◌∷◌, ◌≡◌, ◌≤◌}
use Rattle.std.proofs.Math.Seq.{take-append_seam}
use Rattle.std.proofs.lemmas.List.Elements.{filter-append}
use Rattle.s3_types.specs.Store as store

-- ---- entries of later events

pub from_more : (n m : ℕ) (es : List Entry) → m ≤ n → AllFrom n es → AllFrom m es
from_more n m [] h all = tt
from_more n m (e ∷ es) h all = let one : n ≤ e.event = all.0 in (omega arith, from_more n m es h all.1)

-- ---- a cut after event n, and one before event n + 1

-- Later entries add nothing to what was before.
pub before_front : (n : ℕ) (es fs : List Entry) → AllFrom n fs → before n (es ++ fs) ≡ before n es
before_front n es fs late = filter-append (λ e. nat_lt e.event n) es fs ∙ ap (λ l. before n es ++ l) (none_before n n fs (omega arith) late)
    ∙ append-nil (before n es)

pub before_cut : (n : ℕ) (es fs : List Entry) → AllUpTo n es → AllFrom (n + 1) fs → before (n + 1) (es ++ fs) ≡ es
before_cut n es fs early late = before_front (n + 1) es fs late ∙ before_all n es early

pub since_cut : (n : ℕ) (es fs : List Entry) → AllUpTo n es → AllFrom (n + 1) fs → since (n + 1) (es ++ fs) ≡ fs
since_cut n es fs early late =
    filter-append (λ e. nat_le (n + 1) e.event) es fs ∙ ap (λ l. l ++ since (n + 1) fs) (since_none n es early) ∙ all_since (n + 1) (n + 1)
    fs (omega arith) late

-- ---- the entries of an actor

-- What an actor sent before the cut is in the first part.
pub before_by_front : (n : ℕ) (a : Actor) (es fs : List Entry) → AllFrom n fs → before n (by_actor a (es ++ fs)) ≡ before n (by_actor a es)
before_by_front n a es fs late =
    ap (before n) (filter-append (λ e. same_actor e.actor a) es fs) ∙ before_front n (by_actor a es) (by_actor a fs)
    (from_part n (λ e. same_actor e.actor a) fs late)

-- What it sent since is in the second part.
pub since_by_cut : (n : ℕ) (a : Actor) (es fs : List Entry) → AllUpTo n es → AllFrom (n + 1) fs
    → since (n + 1) (by_actor a (es ++ fs)) ≡ by_actor a fs
since_by_cut n a es fs h g = grind (arith, filter-append, since_cut, up_to_part, from_part)

pub all_by_back : (a : Actor) (es fs : List Entry) → AllBy a (es ++ fs) → AllBy a fs
all_by_back a [] fs h = h
all_by_back a (e ∷ es) fs h = all_by_back a es fs h.1

pub all_by_front : (a : Actor) (es fs : List Entry) → AllBy a (es ++ fs) → AllBy a es
all_by_front a [] fs h = tt
all_by_front a (e ∷ es) fs h = (h.0, all_by_front a es fs h.1)

-- ---- moments and answers

pub moment_cut : (opening : Content) (es fs : List Entry) → moment opening (es ++ fs) (length es) ≡ after_all (store.opening opening) es
moment_cut opening es fs = ap (after_all (store.opening opening)) (take-append_seam es fs)
