-- The lines of a report as they are written one after another.
use Rattle.job_model.specs.Attempts.{Declared, Who, declares, same_name}
use Rattle.job_model.specs.JobScript.{Script}
use Rattle.job_model.specs.declared.ends.EventEnd.{EventEnd}
use Rattle.job_model.specs.declared.ends.Pick.{Pick}
use Rattle.job_model.specs.declared.events.Event.{Event}
use Rattle.job_spec.specs.ReportText.{actor_lines, closing, event_lines, pick_line, report_text}
use Rattle.std.proofs.Common.{Bool, List, ap, append_assoc, cond, drop, false, length, refl, subst, sym, true, ℕ, [], ◌++◌, ◌+◌, ◌∙◌, ◌∷◌}
use Rattle.std.proofs.Common.{◌≡◌, ◌≤◌}
use Rattle.std.proofs.lemmas.Bool.{eq-eqb}
use Rattle.std.proofs.lemmas.List.{append-nil, drop_all}
use Rattle.std.specs.List.{enumerate_from, flat_map, zip}
use Rattle.std.specs.Map.{lookup}
use Rattle.std.specs.Prelude.{Some, is_some}

-- No line is left to write.
pub all_written : {X : Type 0} (f : X → List ℕ) (left : List X) (text all : List ℕ) → text ++ flat_map f left ≡ all → left ≡ [] → text ≡ all
all_written f left text all h e = sym (append-nil text) ∙ ap (λ l. text ++ flat_map f l) (sym e) ∙ h

-- The events from place i on with their ends. The first of all events has the number n.
abbrev pub left_at : ℕ → List Event → List EventEnd → ℕ → List (ℕ × (Event × EventEnd))
left_at n events xs i = enumerate_from (n + i) (zip (drop i events) (drop i xs))

zip_none : {X Y : Type 0} (xs : List X) → zip {K = X} {X = Y} xs [] ≡ []
zip_none [] = refl
zip_none (x ∷ xs) = refl

-- No event is left after the last end.
pub none_left : (n : ℕ) (events : List Event) (xs : List EventEnd) (i : ℕ) → length xs ≤ i → left_at n events xs i ≡ []
none_left n events xs i le = ap (λ (l : List EventEnd). enumerate_from (n + i) (zip (drop i events) l)) (drop_all i xs le) ∙ ap
    (enumerate_from (n + i)) (zip_none (drop i events))

-- ---- attempts

same_own : (x : Who) → same_name x x ≡ true
same_own x = rw (eq-eqb x.task x.task refl, eq-eqb x.attempt x.attempt refl) refl

-- An attempt among the declared ones is declared.
is_declared : (before rest : List Declared) (d : Declared) → declares (before ++ d ∷ rest) d.0 ≡ true
is_declared [] rest d = ap (λ b. is_some (cond b (Some d.1) (lookup (same_name d.0) rest))) (same_own d.0)
is_declared (x ∷ before) rest d = by (same_name d.0 x.0) (is_declared before rest d)
  where
    by : (b : Bool) → declares (before ++ d ∷ rest) d.0 ≡ true
        → is_some (cond b (Some x.1) (lookup (same_name d.0) (before ++ d ∷ rest))) ≡ true
    by true h = refl
    by false h = h

-- The next attempt of those that are left is declared.
pub declared_next : (ds before left next : List Declared) (d : Declared) → before ++ left ≡ ds → left ≡ d ∷ next → declares ds d.0 ≡ true
declared_next ds before left next d all h = subst (λ (l : List Declared). declares l d.0 ≡ true)
    (ap (λ (l : List Declared). before ++ l) (sym h) ∙ all) (is_declared before next d)

pub one_before : (ds before left next : List Declared) (d : Declared) → before ++ left ≡ ds → left ≡ d ∷ next
    → (before ++ d ∷ []) ++ next ≡ ds
one_before ds before left next d all h = append_assoc before (d ∷ []) next ∙ ap (λ (l : List Declared). before ++ l) (sym h) ∙ all

-- One more line is written.
pub line_more : (f : Declared → List ℕ) (left next : List Declared) (d : Declared) (text now all : List ℕ) → left ≡ d ∷ next
    → now ≡ text ++ f d → text ++ flat_map f left ≡ all → now ++ flat_map f next ≡ all
line_more f left next d text now all h written rest =
    ap (λ l. l ++ flat_map f next) written ∙ append_assoc text (f d) (flat_map f next) ∙ ap (λ (l : List Declared). text ++ flat_map f l)
    (sym h) ∙ rest

-- ---- the whole report

-- The parts that are written one by one are the report.
pub report_is : (w : Script) (events : List Event) (xs ends : List EventEnd) (picks chosen : List Pick) (due sent : ℕ)
    (none first second third all : List ℕ)
    → events ≡ w.events → xs ≡ ends → chosen ≡ picks → none ≡ [] → first ≡ none ++ event_lines [] 1 events xs
    → second ≡ first ++ flat_map (pick_line []) chosen → third ≡ second ++ actor_lines [] w xs
    → all ≡ third ++ closing sent due → all ≡ report_text due sent picks ends w
unfolding report_text
report_is w events xs ends picks chosen due sent none first second third all same given given_picks start one two three four =
    let by_ends : first ≡ event_lines [] 1 w.events ends = one ∙ (λ i. start i ++ event_lines [] 1 (same i) (given i)) in
    let by_picks : second ≡ event_lines [] 1 w.events ends ++ flat_map (pick_line []) picks = two ∙
    (λ i. by_ends i ++ flat_map (pick_line []) (given_picks i)) in
    let by_actors : third ≡ event_lines [] 1 w.events ends ++ flat_map (pick_line []) picks ++ actor_lines [] w ends = three ∙
    (λ i. by_picks i ++ actor_lines [] w (given i)) in
    four ∙ (λ i. by_actors i ++ closing sent due)
