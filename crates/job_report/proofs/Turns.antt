-- The lines of a turn, and the events that are left after it.
use Rattle.job_model.specs.declared.ends.EventEnd.{EventEnd}
use Rattle.job_model.specs.declared.events.Event.{Event}
use Rattle.job_report.proofs.Fronts.{drop_same, length_zip, numbered_on, take_same, zip_drop, zip_take}
use Rattle.job_report.specs.inner.Left.{left_lines, next_lines}
use Rattle.job_report.specs.TwinText.{in_turn, letter, played_line}
use Rattle.job_spec.specs.ReportText.{event_line, event_lines}
use Rattle.std.proofs.Common.{List, ap, append_assoc, arith, drop, length, length-drop, length-take, map, min, refl, replicate, suc, sym}
use Rattle.std.proofs.Common.{take, zero, ℕ, [], ◌++◌, ◌+◌, ◌-◌, ◌∙◌, ◌∷◌, ◌≡◌, ◌≤◌}
use Rattle.std.proofs.lemmas.List.{drop-drop, length-map}
use Rattle.std.proofs.lemmas.List.Concat.{flat_map-append}
use Rattle.std.specs.List.{enumerate_from, flat_map, zip}
use Rattle.twin_script.specs.TwinScripts.{sides_in}
use Rattle.twin_script.specs.declared.turns.Side.{Side}
use Rattle.twin_script.specs.declared.turns.Side.TheVariants.{First, Second}
use Rattle.twin_script.specs.declared.turns.TwinTurn.{TwinTurn}

-- ---- a side's next events

-- The lines of a part of the events and of the ends are those of a part of their pairs.
pub next_is : (events : List Event) (ends : List EventEnd) (before : List ℕ) (side : Side) (n told count next : ℕ) → before ≡ letter side
    → next ≡ told + min count (min (length events) (length ends) - told)
    → event_lines before n (take (next - told) (drop told events)) (take (next - told) (drop told ends)) ≡ next_lines side n told count
    (zip events ends)
next_is events ends before side n told count next is goes =
    let k = next - told in
    let left = drop told (zip events ends) in
    let most : next - told ≡ min count (length (drop told (zip events ends))) = omega
    (arith, length-drop told (zip events ends), length_zip events ends) in
    let part : zip (take k (drop told events)) (take k (drop told ends)) ≡ take count left =
    zip_take k (drop told events) (drop told ends) ∙ ap (take k) (zip_drop told events ends) ∙ take_same left k count most in
    λ i. flat_map (event_line (is i)) (enumerate_from n (part i))

-- ---- turns of one side after another

none_of_first : {A : Type 0} (c : ℕ) (sides : List Side) (ys : List A) → in_turn (replicate c First ++ sides) [] ys ≡ in_turn sides [] ys
none_of_first zero sides ys = refl
none_of_first (suc c) sides ys = none_of_first c sides ys

none_of_second : {A : Type 0} (c : ℕ) (sides : List Side) (xs : List A) → in_turn (replicate c Second ++ sides) xs [] ≡ in_turn sides xs []
none_of_second zero sides xs = refl
none_of_second (suc c) sides xs = none_of_second c sides xs

first_in_turn : {A : Type 0} (c : ℕ) (sides : List Side) (xs ys : List A)
    → in_turn (replicate c First ++ sides) xs ys ≡ map (λ x. (First, x)) (take c xs) ++ in_turn sides (drop c xs) ys
first_in_turn zero sides xs ys = refl
first_in_turn (suc c) sides [] ys = none_of_first c sides ys
first_in_turn (suc c) sides (x ∷ xs) ys = ap (λ l. (First, x) ∷ l) (first_in_turn c sides xs ys)

second_in_turn : {A : Type 0} (c : ℕ) (sides : List Side) (xs ys : List A)
    → in_turn (replicate c Second ++ sides) xs ys ≡ map (λ y. (Second, y)) (take c ys) ++ in_turn sides xs (drop c ys)
second_in_turn zero sides xs ys = refl
second_in_turn (suc c) sides xs [] = none_of_second c sides xs
second_in_turn (suc c) sides xs (y ∷ ys) = ap (λ l. (Second, y) ∷ l) (second_in_turn c sides xs ys)

-- The lines of a side's events have the side's letter.
one_side : (side : Side) (n : ℕ) (xs : List (Event × EventEnd))
    → flat_map played_line (enumerate_from n (map (λ x. (side, x)) xs)) ≡ flat_map (event_line (letter side)) (enumerate_from n xs)
one_side side n [] = refl
one_side side n (x ∷ xs) = ap (λ l. event_line (letter side) (n, x) ++ l) (one_side side (n + 1) xs)

-- The lines of a side's events, and then those of others.
side_and_more : (side : Side) (n m : ℕ) (xs : List (Event × EventEnd)) (more : List (Side × (Event × EventEnd))) → m ≡ n + length xs
    → flat_map played_line (enumerate_from n (map (λ x. (side, x)) xs ++ more)) ≡ flat_map (event_line (letter side)) (enumerate_from n xs)
    ++ flat_map played_line (enumerate_from m more)
side_and_more side n m xs more h =
    let here = map (λ (x : Event × EventEnd). (side, x)) xs in
    let e : m ≡ n + length here = h ∙ ap (λ k. n + k) (sym (length-map xs (λ (x : Event × EventEnd). (side, x)))) in
    ap (flat_map played_line) (numbered_on n m here more e) ∙ flat_map-append played_line (enumerate_from n here) (enumerate_from m more) ∙
    ap (λ l. l ++ flat_map played_line (enumerate_from m more)) (one_side side n xs)

-- The number of events of a turn.
turn_length : {A : Type 0} (xs : List A) (told count next : ℕ) → told ≤ length xs → next ≡ told + min count (length xs - told)
    → next ≡ told + length (take count (drop told xs))
turn_length xs told count next within goes = omega (arith, length-take count (drop told xs), length-drop told xs)

-- The events that are left after a turn.
turn_rest : {A : Type 0} (xs : List A) (told count next : ℕ) → told ≤ length xs → next ≡ told + min count (length xs - told)
    → drop count (drop told xs) ≡ drop next xs
turn_rest xs told count next within goes =
    let same : min (told + count) (length xs) ≡ min next (length xs) = omega arith in
    drop-drop count told xs ∙ drop_same xs (told + count) next same

-- The lines that are left before a turn of the first job are the lines of the turn and those that are left after it.
first_left : (xs ys : List (Event × EventEnd)) (turn : TwinTurn) (rest : List TwinTurn) (first second next : ℕ) → turn.side ≡ First
    → first ≤ length xs → next ≡ first + min turn.count (length xs - first)
    → left_lines (turn ∷ rest) first second xs ys ≡ next_lines turn.side (first + second + 1) first turn.count xs ++ left_lines rest next
    second xs ys
first_left xs ys turn rest first second next side within goes =
    let part = take turn.count (drop first xs) in
    let here = drop second ys in
    let length_is = turn_length xs first turn.count next within goes in
    let number : next + second + 1 ≡ first + second + 1 + length part = omega (arith, length_is) in
    let told = λ (l : List (Side × (Event × EventEnd))). flat_map played_line (enumerate_from (first + second + 1) l) in
    ap (λ s. told (in_turn (replicate turn.count s ++ sides_in rest) (drop first xs) here)) side
    ∙ ap told (first_in_turn turn.count (sides_in rest) (drop first xs) here)
    ∙ side_and_more First (first + second + 1) (next + second + 1) part (in_turn (sides_in rest) (drop turn.count (drop first xs)) here)
    number
    ∙ ap (λ l. flat_map (event_line (letter First)) (enumerate_from (first + second + 1) part) ++ flat_map played_line
    (enumerate_from (next + second + 1) (in_turn (sides_in rest) l here))) (turn_rest xs first turn.count next within goes)
    ∙ ap (λ s. next_lines s (first + second + 1) first turn.count xs ++ left_lines rest next second xs ys) (sym side)

second_left : (xs ys : List (Event × EventEnd)) (turn : TwinTurn) (rest : List TwinTurn) (first second next : ℕ) → turn.side ≡ Second
    → second ≤ length ys → next ≡ second + min turn.count (length ys - second)
    → left_lines (turn ∷ rest) first second xs ys ≡ next_lines turn.side (first + second + 1) second turn.count ys ++ left_lines rest first
    next xs ys
second_left xs ys turn rest first second next side within goes =
    let part = take turn.count (drop second ys) in
    let here = drop first xs in
    let length_is = turn_length ys second turn.count next within goes in
    let number : first + next + 1 ≡ first + second + 1 + length part = omega (arith, length_is) in
    let told = λ (l : List (Side × (Event × EventEnd))). flat_map played_line (enumerate_from (first + second + 1) l) in
    ap (λ s. told (in_turn (replicate turn.count s ++ sides_in rest) here (drop second ys))) side
    ∙ ap told (second_in_turn turn.count (sides_in rest) here (drop second ys))
    ∙ side_and_more Second (first + second + 1) (first + next + 1) part (in_turn (sides_in rest) here (drop turn.count (drop second ys)))
    number
    ∙ ap (λ l. flat_map (event_line (letter Second)) (enumerate_from (first + second + 1) part) ++ flat_map played_line
    (enumerate_from (first + next + 1) (in_turn (sides_in rest) here l))) (turn_rest ys second turn.count next within goes)
    ∙ ap (λ s. next_lines s (first + second + 1) second turn.count ys ++ left_lines rest first next xs ys) (sym side)

-- ---- after a turn is written

written_on : (text now part left all : List ℕ) → now ≡ text ++ part → all ≡ part ++ left → now ++ left ≡ text ++ all
written_on text now part left all written is = ap (λ l. l ++ left) written ∙ append_assoc text part left ∙ ap (λ l. text ++ l) (sym is)

-- The lines of a turn of the first job, for events with their ends.
pub first_turn : (e f : List Event) (x y : List EventEnd) (turn : TwinTurn) (rest : List TwinTurn) (first second next : ℕ)
    (text now : List ℕ) → turn.side ≡ First → first ≤ length e → first ≤ length x
    → next ≡ first + min turn.count (min (length e) (length x) - first)
    → now ≡ text ++ next_lines turn.side (first + second + 1) first turn.count (zip e x)
    → now ++ left_lines rest next second (zip e x) (zip f y) ≡ text ++ left_lines (turn ∷ rest) first second (zip e x) (zip f y)
first_turn e f x y turn rest first second next text now side in_events in_ends goes written =
    let within : first ≤ length (zip e x) = omega (arith, length_zip e x) in
    let so : next ≡ first + min turn.count (length (zip e x) - first) = omega (arith, length_zip e x) in
    written_on text now _ _ _ written (first_left (zip e x) (zip f y) turn rest first second next side within so)

pub second_turn : (e f : List Event) (x y : List EventEnd) (turn : TwinTurn) (rest : List TwinTurn) (first second next : ℕ)
    (text now : List ℕ) → turn.side ≡ Second → second ≤ length f → second ≤ length y
    → next ≡ second + min turn.count (min (length f) (length y) - second)
    → now ≡ text ++ next_lines turn.side (first + second + 1) second turn.count (zip f y)
    → now ++ left_lines rest first next (zip e x) (zip f y) ≡ text ++ left_lines (turn ∷ rest) first second (zip e x) (zip f y)
second_turn e f x y turn rest first second next text now side in_events in_ends goes written =
    let within : second ≤ length (zip f y) = omega (arith, length_zip f y) in
    let so : next ≡ second + min turn.count (length (zip f y) - second) = omega (arith, length_zip f y) in
    written_on text now _ _ _ written (second_left (zip e x) (zip f y) turn rest first second next side within so)
