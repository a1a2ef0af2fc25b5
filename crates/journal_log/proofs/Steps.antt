-- A run of appends goes on by one entry.
use Rattle.journal_log.proofs.Journals.{changes_append, changes_none}
use Rattle.journal_log.proofs.Leaving.{at_first, goes_on, so_far, started, widened}
use Rattle.journal_log.proofs.Standing.{holds_none, holds_one, holds_then}
use Rattle.journal_log.specs.Appends.{AreAnswered, LeftOut, Stopped, Stops}
use Rattle.journal_log.specs.inner.Appends.{Appended}
use Rattle.journal_log.specs.Changes.{changes}
use Rattle.journal_log.specs.Crashes.{IsBetween}
use Rattle.journal_log.specs.Kept.{HoldsGrownBy, HoldsSome}
use Rattle.s3_types.specs.declared.journal.Entry.{Entry}
use Rattle.s3_types.specs.declared.request.Request.{Request}
use Rattle.devices.specs.Logged.{CrashesLeave, HoldsGrown, HoldsOneOf, IsDurable, IsTimed, Sight, told}
use Rattle.devices.specs.Logged.Call.{Append, AppendOutOfMemory}
use Rattle.devices.specs.declared.kept.ShelfStop.{ShelfStop}
use Rattle.devices.specs.declared.kept.ShelfStop.TheVariants.{Failed, NoMemory}
use Rattle.std.proofs.Common.{IfErr, IsErrOf, List, OnOk, Result, ap, append_assoc, arith, drop, get_or, inl, inr, length, length-drop}
use Rattle.std.proofs.Common.{refl, subst, sym, take, ℕ, [], ◌++◌, ◌+◌, ◌-◌, ◌<◌, ◌∙◌, ◌∷◌, ◌≡◌}
use Rattle.std.proofs.lemmas.List.{take-append-drop, take_all, take_more}

-- ---- changes of the first entries

-- The changes of one entry more.
pub changes_more : (es : List Entry) (i : ℕ) (e : Entry) → i < length es → e ≡ get_or es i e
    → changes (take (i + 1) es) ≡ changes (take i es) ++ changes (e ∷ [])
changes_more es i e less is =
    ap changes (take_more es i e less)
    ∙ changes_append (take i es) (get_or es i e ∷ [])
    ∙ ap (λ (x : Entry). changes (take i es) ++ changes (x ∷ [])) (sym is)

-- The changes of all entries.
pub changes_rest : (es : List Entry) (i : ℕ) → changes (take i es) ++ changes (drop i es) ≡ changes es
changes_rest es i = sym (changes_append (take i es) (drop i es)) ∙ ap changes (take-append-drop i es)

-- The entries from a place on, as the code's range to the end has them.
abbrev pub rest_of : List Entry → ℕ → List Entry
rest_of all from = take (length all - from) (drop from all)

rest_is : (all es : List Entry) (from : ℕ) → all ≡ es → rest_of all from ≡ drop from es
rest_is all es from same = take_all (length all - from) (drop from all) (omega (arith, length-drop from all)) ∙ ap (drop from) same

-- ---- calls

pub answered_then : {S : Type 0} (F : Sight S) (rs qs : List Request) (old mid new : S) → AreAnswered F rs old mid
    → AreAnswered F qs mid new → AreAnswered F (rs ++ qs) old new
answered_then {S} F [] qs old mid new first second = subst (λ (s : S). AreAnswered F qs s new) (sym first) second
answered_then F (r ∷ rs) qs old mid new first second = (first.0, first.1, answered_then F rs qs first.0 mid new first.2 second)

-- ---- the shelf

module _ {S : Type 0} (F : Sight S) where
  -- nothing was to be appended
  pub nothing : (s : S) → IsDurable (F.held s) (F.may_leave s) → Appended F [] s s
  nothing s durable = record { grown = holds_none (F.held s); durable = durable; answered = refl }

  -- one change was appended
  pub once : (old new : S) (r : Request) → HoldsGrown (F.held old) (F.held new) r → IsDurable (F.held new) (F.may_leave new)
      → F.answers Append old new → Appended F (r ∷ []) old new
  once old new r grown durable answered = record {
    grown = holds_one (F.held old) (F.held new) r grown;
    durable = durable;
    answered =
        (new, answered, refl);
  }

  pub both : (old mid new : S) (rs qs : List Request) → Appended F rs old mid → Appended F qs mid new → Appended F (rs ++ qs) old new
  both old mid new rs qs h g = grind (arith, holds_then, answered_then)

  -- one change was not appended
  pub stopped_once : (old new : S) (r : Request) (fault : ShelfStop) → LeftOut F fault r old new → Stopped F fault (r ∷ []) old new
  stopped_once old new r fault left = record {
    front = [];
    next = r;
    rest = [];
    parts = refl;
    at = old;
    grown = holds_none (F.held old);
    answered = refl;
    left_out = left;
  }

  -- the calls that were made then
  pub stops_of : (fault : ShelfStop) (rs : List Request) (old new : S) → Stopped F fault rs old new → Stops F rs old new
  stops_of fault rs old new h = grind arith

  pub stopped_then : (old mid new : S) (rs qs more : List Request) (fault : ShelfStop) → Appended F rs old mid → Stopped F fault qs mid new
      → Stopped F fault (rs ++ qs ++ more) old new
  stopped_then old mid new rs qs more fault first then = record {
    front = rs ++ then.front;
    next = then.next;
    rest = then.rest ++ more;
    parts = ap (λ (l : List Request). rs ++ l ++ more) then.parts ∙ regrouped;
    at = then.at;
    grown = holds_then (F.held old) (F.held mid) (F.held then.at) rs then.front first.grown then.grown;
    answered = answered_then F rs then.front old mid then.at first.answered then.answered;
    left_out = then.left_out;
  }
    where
      regrouped : rs ++ (then.front ++ then.next ∷ then.rest) ++ more ≡ (rs ++ then.front) ++ then.next ∷ (then.rest ++ more)
      regrouped = simp append_assoc

  -- the contract of one call of `append`
  pub appended_by : {A : Type 0} (result : Result A ShelfStop) (old new : S) (r : Request)
      → OnOk result (HoldsGrown (F.held old) (F.held new) r) → OnOk result (IsDurable (F.held new) (F.may_leave new))
      → OnOk result (F.answers Append old new)
      → OnOk result (Appended F (r ∷ []) old new)
  appended_by result old new r h g e = grind arith

  pub stopped_by : {A : Type 0} (result : Result A ShelfStop) (old new : S) (r : Request)
      → (IsErrOf result NoMemory → F.held new ≡ F.held old) → (IsErrOf result Failed → HoldsOneOf (F.held old) (F.held new) r)
      → (IsErrOf result NoMemory → F.answers AppendOutOfMemory old new) → (IsErrOf result Failed → F.fails Append old new)
      → IfErr result (λ e. Stopped F e (r ∷ []) old new)
  stopped_by result old new r h g e f = grind (arith, stopped_once)

  -- ---- a loop over entries

  -- the loop begins
  pub loop_first : (es : List Entry) (s : S) → IsDurable (F.held s) (F.may_leave s) → Appended F (changes (take 0 es)) s s
  loop_first es s durable = rw changes_none (nothing s durable)

  pub left_first : (es : List Entry) (s : S) → IsTimed F → IsDurable (F.held s) (F.may_leave s)
      → CrashesLeave F s s (IsBetween (F.held s) (changes (take 0 es)))
  left_first es s timed durable = rw changes_none (started F s (IsBetween (F.held s) [])
      (λ h left. at_first (F.held s) (F.may_leave s) h durable (timed.only_now s h left)))

  -- the loop goes on by one entry
  pub loop_more : (es : List Entry) (i : ℕ) (e : Entry) (old mid new : S) → i < length es → e ≡ get_or es i e
      → Appended F (changes (take i es)) old mid → Appended F (changes (e ∷ [])) mid new
      → Appended F (changes (take (i + 1) es)) old new
  loop_more es i e old mid new less is first second = rw (changes_more es i e less is)
      (both old mid new (changes (take i es)) (changes (e ∷ [])) first second)

  pub left_more : (es : List Entry) (i : ℕ) (e : Entry) (old mid new : S) → i < length es → e ≡ get_or es i e
      → HoldsGrownBy (F.held old) (F.held mid) (changes (take i es)) → CrashesLeave F old mid (IsBetween (F.held old) (changes (take i es)))
      → CrashesLeave F mid new (IsBetween (F.held mid) (changes (e ∷ [])))
      → CrashesLeave F old new (IsBetween (F.held old) (changes (take (i + 1) es)))
  left_more es i e old mid new less is grown first second = rw (changes_more es i e less is)
      (goes_on F old mid new (changes (take i es)) (changes (e ∷ [])) grown first second)

  -- the loop ends early
  stopped_more : (es : List Entry) (i : ℕ) (e : Entry) (fault : ShelfStop) (old mid new : S) → i < length es → e ≡ get_or es i e
      → Appended F (changes (take i es)) old mid → Stopped F fault (changes (e ∷ [])) mid new
      → Stopped F fault (changes es) old new
  stopped_more es i e fault old mid new less is first second =
      let parts : changes (take i es) ++ changes (e ∷ []) ++ changes (drop (i + 1) es) ≡ changes es = ap
      (λ (rs : List Request). rs ++ changes (drop (i + 1) es)) (sym (changes_more es i e less is)) ∙ changes_rest es (i + 1) in
      subst (λ (rs : List Request). Stopped F fault rs old new) parts (stopped_then old mid new (changes (take i es)) (changes (e ∷ []))
      (changes (drop (i + 1) es)) fault first second)

  left_short : (es : List Entry) (i : ℕ) (old new : S) → CrashesLeave F old new (IsBetween (F.held old) (changes (take i es)))
      → CrashesLeave F old new (IsBetween (F.held old) (changes es))
  left_short es i old new left =
      subst (λ (rs : List Request). CrashesLeave F old new (IsBetween (F.held old) rs)) (changes_rest es i)
      (widened F old new (IsBetween (F.held old) (changes (take i es))) (IsBetween (F.held old)
      (changes (take i es) ++ changes (drop i es))) left (so_far (F.held old) (changes (take i es)) (changes (drop i es))))

  pub stopped_at : (all es : List Entry) (from i : ℕ) (e : Entry) (fault : ShelfStop) (old mid new : S) → all ≡ es
      → i < length (rest_of all from) → e ≡ get_or (rest_of all from) i e → Appended F (changes (take i (rest_of all from))) old mid
      → Stopped F fault (changes (e ∷ [])) mid new → Stopped F fault (changes (drop from es)) old new
  stopped_at all es from i e fault old mid new same less is first second =
      subst (λ (l : List Entry). Stopped F fault (changes l) old new) (rest_is all es from same)
      (stopped_more (rest_of all from) i e fault old mid new less is first second)

  pub left_at : (all es : List Entry) (from i : ℕ) (e : Entry) (old mid new : S) → all ≡ es → i < length (rest_of all from)
      → e ≡ get_or (rest_of all from) i e → HoldsGrownBy (F.held old) (F.held mid) (changes (take i (rest_of all from)))
      → CrashesLeave F old mid (IsBetween (F.held old) (changes (take i (rest_of all from))))
      → CrashesLeave F mid new (IsBetween (F.held mid) (changes (e ∷ [])))
      → CrashesLeave F old new (IsBetween (F.held old) (changes (drop from es)))
  left_at all es from i e old mid new same less is grown first second =
      subst (λ (l : List Entry). CrashesLeave F old new (IsBetween (F.held old) (changes l))) (rest_is all es from same)
      (left_short (rest_of all from) (i + 1) old new (left_more (rest_of all from) i e old mid new less is grown first second))

-- If not all changes were appended, the holding grew by the first of them.
pub some_grown : {S : Type 0} (F : Sight S) (fault : ShelfStop) (rs : List Request) (old new : S) → Stopped F fault rs old new
    → HoldsSome (F.held old) (F.held new) rs
some_grown {S} F fault rs old new s = elim fault as (λ f. LeftOut F f s.next s.at new → HoldsSome (F.held old) (F.held new) rs) [
  | Failed ↦ λ h. elim h.0 [
    | inl same ↦ short same
    | inr grew ↦ (
      s.front ++ s.next ∷ [],
      (s.rest, append_assoc s.front (s.next ∷ []) s.rest ∙ sym s.parts),
      holds_then (F.held old) (F.held s.at) (F.held new) s.front (s.next ∷ []) s.grown (holds_one (F.held s.at) (F.held new) s.next grew),
    )
  ]
  | NoMemory ↦ λ h. short (ap told h.0)
] s.left_out
  where
    short : told (F.held new) ≡ told (F.held s.at) → HoldsSome (F.held old) (F.held new) rs
    short same = (s.front, (s.next ∷ s.rest, sym s.parts), same ∙ s.grown)
