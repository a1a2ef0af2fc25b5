-- The knowledge after one more line of bytes.
use Rattle.std.proofs.Common.{Bool, Err, IfNone, IfSome, List, None, Ok, Option, Result, Some, [], ap, cond, false, inl, inr, length}
use Rattle.std.proofs.Common.{nat_lt, refl, subst, sym}
use Rattle.std.proofs.Common.{true, ℕ, ◌+◌, ◌++◌, ◌<◌, ◌≤◌, ◌∙◌, ◌∷◌, ◌≡◌, arith}
use Rattle.std.proofs.lemmas.Bool.{false≢true}
use Rattle.std.specs.List.{All, AllZip, Any}
use Rattle.audit_claims.specs.Claims.{Claimed, Tags}
use Rattle.audit_judge.proofs.Picked.{picked}
use Rattle.audit_judge.proofs.Steps.{sound_of}
use Rattle.audit_judge.specs.Bench.{Bench, claim as bench_claim, now, opened}
use Rattle.audit_judge.specs.Following.{Follows}
use Rattle.audit_judge.specs.Picking.{IsPick, NoPick}
use Rattle.audit_judge.specs.Reasons.{IsFirst}
use Rattle.audit_judge.specs.declared.reason.Reason.{Reason}
use Rattle.audit_laws.proofs.Alike.{all_back, back_same, first_alike, sound_alike, still as still_alike}
use Rattle.audit_laws.proofs.Judge.{again}
use Rattle.audit_laws.proofs.Lines.{one_more}
use Rattle.audit_laws.specs.Alike.{Alike, AllAlike, SameElements}
use Rattle.audit_model.specs.Answers.{IsFaulty, IsLeast, IsSafe, IsSound, IsUnsound, changed_paths}
use Rattle.audit_model.specs.Moments.{claim, moment, moment_if, moments, opening, said_by}
use Rattle.audit_model.specs.Recorded.{Recorded, after, read_after, stage_of}
use Rattle.auditor.proofs.Due.{Sure, sure}
use Rattle.auditor.specs.AuditState.{At, AuditState, Stands, Tells}
use Rattle.auditor.specs.inner.AuditState.{Breaks, BreaksBy, GoesBy, Stepped, moments_after}
use Rattle.auditor.specs.SoFar.{IsOfSome, IsSoFar, IsTold, Taken}
use Rattle.auditor.specs.inner.SoFar.{BegunBy, IsDue}
use Rattle.text_and_lists.specs.Reading.{Unless, ◌>>=◌}
use Rattle.judging.specs.Judging.{StillExplains}
use Rattle.judging.specs.Listed.{Listed, claim_of, numbered, of_task}
use Rattle.path_keys.specs.Paths.{Path}
use Rattle.soundness.specs.Claims.{Claim}
use Rattle.soundness.specs.Moments.{Moment, Same, Shown, Sound, Unchanged}
use Rattle.soundness.specs.declared.marker.Marker.TheVariants as markers
use Rattle.trace_reader.specs.Faults.{wanting}
use Rattle.trace_reader.specs.Reading.{line_of}
use Rattle.trace_reader.specs.declared.fault.TraceFault.{TraceFault}
use Rattle.trace_reader.specs.declared.fault.TraceFault.TheVariants.{OutOfOrder}
use Rattle.trace_reader.specs.declared.line.TraceLine.{TraceLine}
use Rattle.trace_reader.specs.declared.line.TraceLine.TheVariants as line
use Rattle.trace_reader.specs.declared.stage.TraceStage.{TraceStage}

-- ---- the same claim, the same moment

claim_is : (h : AuditState) (r : Recorded) → Tells h r → bench_claim h.bench ≡ claim r
claim_is h r t = λ i. claim_of (t.keeps i) (t.tasks i) (t.claimed i).listed

now_is : (h : AuditState) (r : Recorded) → Tells h r → Alike (now h.bench) (moment r)
now_is h r t = record { begun = t.begun; marker = t.marker; shown = t.shown }

-- Moments that are alike, and one more of each.
alike_more : (ms ns : List (Moment Tags)) (xs ys : List (Moment Tags)) → AllAlike ms ns → AllAlike xs ys → AllAlike (ms ++ xs) (ns ++ ys)
alike_more [] [] xs ys a b = b
alike_more [] (n ∷ ns) xs ys a b = absurd a
alike_more (m ∷ ms) [] xs ys a b = absurd a
alike_more (m ∷ ms) (n ∷ ns) xs ys a b = (a.0, alike_more ms ns xs ys a.1 b)

alike_now : (h : AuditState) (r : Recorded) → Tells h r → AllAlike (cond h.bench.started (now h.bench ∷ []) []) (moment_if r)
alike_now h r t = subst (λ (b : Bool). AllAlike (cond h.bench.started (now h.bench ∷ []) []) (cond b (moment r ∷ []) [])) t.started
    (by h.bench.started)
  where
    by : (b : Bool) → AllAlike (cond b (now h.bench ∷ []) []) (cond b (moment r ∷ []) [])
    by true = (now_is h r t, tt)
    by false = tt

-- ---- readers have been safe

safe_judged : (b : Bench) (s : Bool) (ms : List (Moment Tags)) → Stands s b ms → Sound (bench_claim b) (opened b) ms
safe_judged b true ms h = sound_of b ms h
safe_judged b false ms h = subst (Sound (bench_claim b) (opened b)) (sym h.1) (inl (λ k d less. absurd (omega arith)))

pub safe_so_far : (h : AuditState) (lines : List (List ℕ)) (t : IsTold h lines) → IsSafe lines t.said
safe_so_far h lines t =
    sound_alike (claim t.said) (opened h.bench) (opening t.said) t.judged (moments lines None) t.alike t.at.tells.opening
    (subst (λ (w : Claim Tags). Sound w (opened h.bench) t.judged) (claim_is h t.said t.at.tells)
    (safe_judged h.bench h.bench.started t.judged t.at.stands))

pub sound_so_far : (h : AuditState) (lines : List (List ℕ)) (t : IsTold h lines) → IsSound lines t.said
sound_so_far h lines t = record { said = t.said_is; safe = safe_so_far h lines t }

-- ---- one more line

-- The audit knows what a line without a fault says too.
pub told_more : (o n : AuditState) (lines : List (List ℕ)) (bytes : List ℕ) (l : TraceLine) (t : IsTold o lines)
    → line_of (stage_of (Some t.said)) bytes ≡ Ok l → GoesBy n t.judged (after (Some t.said) l) → IsTold n (lines ++ bytes ∷ [])
told_more o n lines bytes l t read goes = by (after (Some t.said) l) (ap (λ x. x >>= after (Some t.said)) read) goes
  where
    by : (x : Result Recorded TraceFault) → read_after (Some t.said) bytes ≡ x → GoesBy n t.judged x → IsTold n (lines ++ bytes ∷ [])
    by (Err fault) e g = absurd g
    by (Ok r) e g =
        let more = one_more.goes_on lines None (Some t.said) bytes r t.said_is e in
        record {
          said = r;
          said_is = more.0;
          judged = moments_after n.bench t.judged;
          alike = subst (AllAlike (moments_after n.bench t.judged)) (sym more.1)
              (alike_more t.judged (moments lines None) (cond n.bench.started (now n.bench ∷ []) []) (moment_if r) t.alike
              (alike_now n r g.tells));
          at = g;
        }

-- A line shows that readers are not safe.
pub broken : (o n : AuditState) (lines behind : List (List ℕ)) (bytes : List ℕ) (l : TraceLine) (reason : Reason) (t : IsTold o lines)
    → line_of (stage_of (Some t.said)) bytes ≡ Ok l
    → BreaksBy o n t.judged (after (Some t.said) l) (changed_paths t.said.dest l) reason
    → IsUnsound (lines ++ bytes ∷ behind) (length lines + 1) reason
broken o n lines behind bytes l reason t read breaks = by (after (Some t.said) l) refl breaks
  where
    by : (x : Result Recorded TraceFault) → after (Some t.said) l ≡ x → BreaksBy o n t.judged x (changed_paths t.said.dest l) reason
        → IsUnsound (lines ++ bytes ∷ behind) (length lines + 1) reason
    by (Err fault) e b = absurd b
    by (Ok r) e b = record {
      before = lines;
      bytes = bytes;
      behind = behind;
      lines_are = refl;
      number_is = refl;
      said = t.said;
      sound = sound_so_far o lines t;
      line = l;
      read = read;
      now = r;
      added = e;
      first = first_alike (claim t.said) (opened o.bench) (opening t.said) t.judged (moments lines None) (now n.bench) (moment r) b.paths
          (changed_paths t.said.dest l) reason t.alike (now_is n r b.tells) t.at.tells.opening b.are
          (subst (λ (w : Claim Tags). IsFirst w (opened o.bench) t.judged (now n.bench) b.paths reason) (claim_is o t.said t.at.tells)
          b.first);
    }

-- A line has a fault.
pub faulty : (o : AuditState) (lines behind : List (List ℕ)) (bytes : List ℕ) (fault : TraceFault) (t : IsTold o lines)
    → read_after (Some t.said) bytes ≡ Err fault → IsFaulty (lines ++ bytes ∷ behind) (length lines + 1) fault
faulty o lines behind bytes fault t e = record {
  before = lines;
  said = Some t.said;
  no_fault = t.said_is;
  safe = safe_so_far o lines t;
  faulty = inr (bytes, behind, refl, refl, e);
}

-- The first line has a fault.
pub faulty_first : (lines behind : List (List ℕ)) (bytes : List ℕ) (fault : TraceFault) → lines ≡ []
    → read_after None bytes ≡ Err fault → IsFaulty (lines ++ bytes ∷ behind) (length lines + 1) fault
faulty_first lines behind bytes fault none e =
    subst (λ (l : List (List ℕ)). IsFaulty (l ++ bytes ∷ behind) (length l + 1) fault) (sym none) (record {
      before = [];
      said = None;
      no_fault = refl;
      safe = tt;
      faulty = inr (bytes, behind, refl, refl, e);
    })

-- The first line is a job's.
pub told_first : (h : AuditState) (lines : List (List ℕ)) (bytes : List ℕ) (l : TraceLine) → lines ≡ []
    → line_of (stage_of None) bytes ≡ Ok l → BegunBy h (after None l) → IsTold h (lines ++ bytes ∷ [])
told_first h lines bytes l none read begun =
    subst (λ (ls : List (List ℕ)). IsTold h (ls ++ bytes ∷ [])) (sym none)
    (by (after None l) (ap (λ x. x >>= after None) read) begun)
  where
    by : (x : Result Recorded TraceFault) → read_after None bytes ≡ x → BegunBy h x → IsTold h (bytes ∷ [])
    by (Err fault) e b = absurd b
    by (Ok r) e b =
        let more = one_more.goes_on [] None None bytes r refl e in
        record {
          said = r;
          said_is = more.0;
          judged = [];
          alike = subst (AllAlike []) (sym (more.1 ∙ ap (λ s. cond s (moment r ∷ []) []) b.1)) tt;
          at = b.0;
        }

-- ---- the guarantees of the stage

pub due_by : (h : AuditState) (r : Recorded) (l : TraceLine) → Tells h r → Sure (stage_of (Some r)) l → IsDue h l
due_by h r (line.Job dest keeps tasks) t s = tt
due_by h r (line.Attempt task attempt) t s = (t.started ∙ s.0, subst (λ n. task < n) (sym t.tasks) s.1)
due_by h r (line.File path tags) t s = (t.started ∙ s.0, some_listed (ap (λ (c : Claimed). length c.listed) t.claimed) s.1)
  where
    some_listed : {m n : ℕ} → m ≡ n → nat_lt 0 n ≡ true → 0 < m
    some_listed e h = grind (arith)
due_by h r (line.Object bucket key tags) t s = t.started ∙ s
due_by h r line.Commit t s = tt
due_by h r (line.Put bucket key tags) t s = tt
due_by h r (line.Copy bucket source key) t s = tt
due_by h r (line.Delete bucket keys) t s = tt
due_by h r line.Still t s = tt

pub due : (h : AuditState) (lines : List (List ℕ)) (bytes : List ℕ) (l : TraceLine) (t : IsTold h lines)
    → line_of (stage_of (Some t.said)) bytes ≡ Ok l → IsDue h l
due h lines bytes l t e = due_by h t.said l t.at.tells (sure (stage_of (Some t.said)) bytes l e)

-- ---- a line that changes nothing

pub still : (h : AuditState) (r : Recorded) (moments : List (Moment Tags)) → At h r moments → At h r (moments_after h.bench moments)
still h r moments a = record { tells = a.tells; stands = by h.bench.started a.stands; unmarked = a.unmarked }
  where
    by : (s : Bool) → Stands s h.bench moments → Stands s h.bench (moments ++ cond s (now h.bench ∷ []) [])
    by true f = again h.bench moments f
    by false w = (w.0, ap (λ (l : List (Moment Tags)). l ++ []) w.1)

-- ---- a line of bytes

-- The stage is the one that the lines so far lead to.
abbrev pub StageOf : Option AuditState → TraceStage → Type 0
StageOf known stage =
    (lines : List (List ℕ)) (said : Option Recorded) → IsSoFar known lines → said_by lines None ≡ Ok said → stage ≡ stage_of said

first_stage : (stage : TraceStage) (lines : List (List ℕ)) → StageOf None stage → lines ≡ [] → stage ≡ stage_of None
first_stage stage lines s none = s lines None none (ap (λ (l : List (List ℕ)). said_by l None) none)

next_stage : (h : AuditState) (stage : TraceStage) (lines : List (List ℕ)) (t : IsTold h lines) → StageOf (Some h) stage
    → stage ≡ stage_of (Some t.said)
next_stage h stage lines t s = s lines (Some t.said) t t.said_is

-- The line itself has a fault.
pub unread : (known after : Option AuditState) (bytes : List ℕ) (stage : TraceStage) (fault : TraceFault) → StageOf known stage
    → Unless (wanting fault) (line_of stage bytes ≡ Err fault) → Taken known after bytes (Err fault)
unread None n bytes stage fault s fails = λ free lines behind none.
    faulty_first lines behind bytes fault none
    (ap (λ x. x >>= after None) (ap (λ (g : TraceStage). line_of g bytes) (sym (first_stage stage lines s none))
    ∙ subst (λ b. Unless b (line_of stage bytes ≡ Err fault)) free fails))
unread (Some h) n bytes stage fault s fails = λ free lines behind t.
    faulty h lines behind bytes fault t
    (ap (λ x. x >>= after (Some t.said)) (ap (λ (g : TraceStage). line_of g bytes) (sym (next_stage h stage lines t s))
    ∙ subst (λ b. Unless b (line_of stage bytes ≡ Err fault)) free fails))

-- The line is taken.
pub stepped : (o n : AuditState) (bytes : List ℕ) (l : TraceLine) (stage : TraceStage) (result : Result (Option Reason) TraceFault)
    → StageOf (Some o) stage → line_of stage bytes ≡ Ok l
    → Stepped o n (λ r. after (Some r) l) (λ dest. changed_paths dest l) result → Taken (Some o) (Some n) bytes result
stepped o n bytes l stage (Ok None) s read step = λ lines t.
    told_more o n lines bytes l t (ap (λ (g : TraceStage). line_of g bytes) (sym (next_stage o stage lines t s)) ∙ read)
    (step t.said t.judged t.at)
stepped o n bytes l stage (Ok (Some reason)) s read step = λ lines behind t.
    broken o n lines behind bytes l reason t (ap (λ (g : TraceStage). line_of g bytes) (sym (next_stage o stage lines t s)) ∙ read)
    (step t.said t.judged t.at)
stepped o n bytes l stage (Err fault) s read step = λ free lines behind t.
    faulty o lines behind bytes fault t
    (ap (λ x. x >>= after (Some t.said)) (ap (λ (g : TraceStage). line_of g bytes) (sym (next_stage o stage lines t s)) ∙ read)
    ∙ step free t.said t.judged t.at)

-- The first line is taken.
pub begun_taken : (h : AuditState) (bytes : List ℕ) (l : TraceLine) (stage : TraceStage) → StageOf None stage → line_of stage bytes ≡ Ok l
    → BegunBy h (after None l) → Taken None (Some h) bytes (Ok None)
begun_taken h bytes l stage s read begun = λ lines none.
    told_first h lines bytes l none (ap (λ (g : TraceStage). line_of g bytes) (sym (first_stage stage lines s none)) ∙ read) begun

pub unbegun : (n : Option AuditState) (bytes : List ℕ) (l : TraceLine) (stage : TraceStage) (fault : TraceFault) → StageOf None stage
    → line_of stage bytes ≡ Ok l → (wanting fault ≡ false → after None l ≡ Err fault) → Taken None n bytes (Err fault)
unbegun n bytes l stage fault s read fails = λ free lines behind none.
    faulty_first lines behind bytes fault none
    (ap (λ x. x >>= after None) (ap (λ (g : TraceStage). line_of g bytes) (sym (first_stage stage lines s none)) ∙ read) ∙ fails free)

-- An audit that knows some lines can take the line.
pub some_due : (h : AuditState) (bytes : List ℕ) (l : TraceLine) (stage : TraceStage) → IsOfSome (Some h) → StageOf (Some h) stage
    → line_of stage bytes ≡ Ok l → IsDue h l
some_due h bytes l stage some s read =
    due h some.0 bytes l some.1 (ap (λ (g : TraceStage). line_of g bytes) (sym (next_stage h stage some.0 some.1 s)) ∙ read)

-- ---- a new success marker

-- Only a run that has begun has a new marker.
pub follows_new : (h : AuditState) (lines : List (List ℕ)) (t : IsTold h lines) → h.bench.marker ≡ markers.New → Follows h.bench t.judged
follows_new h lines t new = by h.bench.started t.at.stands
  where
    by : (s : Bool) → Stands s h.bench t.judged → Follows h.bench t.judged
    by true f = f
    by false w = absurd (w.0.unmarked new)

-- The attempt of a task with the least number of those that explain all moments.
PickAt : Claim Tags → Listed Tags → Shown Tags → List (Moment Tags) → ℕ → ℕ → Type 0
PickAt w listed o ms task a =
    Any (λ x. (x.0 ≡ a) × StillExplains w o ms (of_task task listed) x.1) (numbered task listed)
    × All (λ x. StillExplains w o ms (of_task task listed) x.1 → a ≤ x.0) (numbered task listed)

pick_alike : (w : Claim Tags) (listed : Listed Tags) (o p : Shown Tags) (ms ns : List (Moment Tags)) (task a : ℕ) → Same o p
    → AllAlike ms ns → PickAt w listed o ms task a → PickAt w listed p ns task a
unfolding PickAt
pick_alike w listed o p ms ns task a same alike pick = (
  (
    pick.0.0,
    pick.0.1,
    pick.0.2,
    pick.0.3,
    (
      pick.0.4.0,
      still_alike w o p same (of_task task listed) pick.0.1.1 ms ns alike pick.0.4.1,
    ),
  ),
  λ k d l e. pick.1 k d l (still_alike w p o (back_same o p same) (of_task task listed) _ ns ms (all_back ms ns alike) e),
)

pub least_of : (h : AuditState) (lines : List (List ℕ)) (t : IsTold h lines) (task attempt : ℕ) → IsPick h.bench t.judged task attempt
    → IsLeast lines t.said task attempt
unfolding PickAt
least_of h lines t task attempt pick =
    let told = t.at.tells in
    let at_claim : PickAt (claim t.said) t.said.claimed.listed (opened h.bench) t.judged task attempt =
    coe 0 1 (i. PickAt (claim_of (told.keeps i) (told.tasks i) (told.claimed i).listed) (told.claimed i).listed (opened h.bench)
    t.judged task attempt) (pick.explains, pick.least) in
    let alike : PickAt (claim t.said) t.said.claimed.listed (opening t.said) (moments lines None) task attempt =
    pick_alike (claim t.said) t.said.claimed.listed (opened h.bench) (opening t.said) t.judged (moments lines None) task attempt
    told.opening t.alike at_claim in
    record { explains = alike.0; least = alike.1 }

pub some_least : (h : AuditState) (lines : List (List ℕ)) (t : IsTold h lines) (task : ℕ) (r : Option ℕ)
    → IfSome r (IsPick h.bench t.judged task) → IfSome r (IsLeast lines t.said task)
some_least h lines t task None h2 = tt
some_least h lines t task (Some a) h2 = least_of h lines t task a h2

pub none_missing : (h : AuditState) (lines : List (List ℕ)) (t : IsTold h lines) (task : ℕ) (r : Option ℕ) → h.bench.marker ≡ markers.New
    → task < h.bench.tasks → IfNone r (NoPick h.bench t.judged task) → r ≡ None → ⊥
none_missing h lines t task None new below none e = picked h.bench t.judged task (follows_new h lines t new) new below none
none_missing h lines t task (Some a) new below none e = absurd (some_none_not (sym e))
  where
    some_none_not : None ≡ Some a → ⊥
    some_none_not e = grind (arith)
