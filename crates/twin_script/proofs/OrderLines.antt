-- The bounds of an order that was read: the count of each turn, and that no side is asked for more events than it has.
use Rattle.text_and_lists.proofs.Reading.{checked, needed, parted, same_ok}
use Rattle.text_and_lists.proofs.Split.{none_left}
use Rattle.text_and_lists.specs.Lines.{lines_from, lines_of}
use Rattle.text_and_lists.specs.Numbers.{number_in}
use Rattle.text_and_lists.specs.Reading.{check, need}
use Rattle.text_and_lists.specs.Shapes.{two}
use Rattle.text_and_lists.specs.Words.{words_of}
use Rattle.job_script.proofs.Words.{number_bounds}
use Rattle.job_script.specs.Kinds.{named}
use Rattle.std.proofs.Common.{Bool, List, Ok, Option, Some, arith, false, length, refl, subst, true, ℕ, [], ◌++◌, ◌+◌, ◌==◌, ◌∷◌, ◌≡◌, ◌≤◌}
use Rattle.std.proofs.lemmas.Bool.{leb-true}
use Rattle.std.proofs.lemmas.List.Sums.{sum_by-append}
use Rattle.std.proofs.lemmas.Option.{option_and_then_some}
use Rattle.std.specs.List.{AllByRecursion}
use Rattle.std.specs.Prelude.{if◌then◌else◌, nat_le, option_map, sum_by}
use Rattle.twin_script.specs.Order.{left, line_at, lines_at, nothing, order_of, sides, turn_at, turn_by, turn_in, turn_of, with_turn}
use Rattle.twin_script.specs.TwinScripts.{IsTurn, first_count, second_count}
use Rattle.twin_script.specs.declared.fault.TwinFault.TheVariants.{BadOrder}
use Rattle.twin_script.specs.declared.order.Draft.{Draft}
use Rattle.twin_script.specs.declared.turns.Side.{Side}
use Rattle.twin_script.specs.declared.turns.TwinTurn.{TwinTurn}

mapped : (side : Side) (o : Option ℕ) (turn : TwinTurn) → option_map (turn_by side) o ≡ Some turn → o ≡ Some turn.count
mapped side o turn h = grind arith

-- The turn of a line has 1 to 100,000 events.
turn_bounds : (line : List ℕ) (turn : TwinTurn) → turn_of line ≡ Some turn → IsTurn turn
turn_bounds line turn h =
    option_and_then_some turn_in (two (words_of line)) turn h (λ words _ in_words.
    option_and_then_some (λ side. option_map (turn_by side) (number_in 1 100000 words.1)) (named sides words.0) turn in_words
    (λ side _ by_side.
    number_bounds 1 100000 words.1 turn.count (mapped side (number_in 1 100000 words.1) turn by_side)))

-- The bounds of the draft after the lines so far, for scripts with these numbers of events.
pub record IsSound (first second : ℕ) (d : Draft) : Type 0 where
  pub turns : AllByRecursion IsTurn d.turns
  pub first_sum : sum_by first_count d.turns + d.first ≡ first
  pub second_sum : sum_by second_count d.turns + d.second ≡ second

all_and_one : (turns : List TwinTurn) (turn : TwinTurn) → AllByRecursion IsTurn turns → IsTurn turn
    → AllByRecursion IsTurn (turns ++ turn ∷ [])
all_and_one [] turn h is = (is, tt)
all_and_one (t ∷ turns) turn h is = (h.0, all_and_one turns turn h.1 is)

one_sum : (f : TwinTurn → ℕ) (turns : List TwinTurn) (turn : TwinTurn) → sum_by f (turns ++ turn ∷ []) ≡ sum_by f turns + f turn
one_sum f turns turn = let e = sum_by-append f turns (turn ∷ []) in let one : sum_by f (turn ∷ []) ≡ 0 + f turn = refl in omega
    (arith, e, one)

taken : (first second : ℕ) (d : Draft) (side : Side) (count : ℕ) → IsTurn (turn_by side count) → count ≤ left d side
    → IsSound first second d → IsSound first second (with_turn d (turn_by side count))
taken first second d side count h g e = grind (arith, one_sum, all_and_one)

turn_sound : (first second n : ℕ) (d e : Draft) (line : List ℕ) → turn_at n d line ≡ Ok e → IsSound first second d → IsSound first second e
unfolding turn_at
turn_sound first second n d e line h s =
    let a = parted (need (turn_of line) (BadOrder n)) _ _ h in
    let turn = a.value in
    let b = parted (check (nat_le turn.count (left d turn.side)) (BadOrder n)) _ _ a.next in
    let is = turn_bounds line turn (needed (turn_of line) (BadOrder n) turn a.first) in
    let enough = leb-true turn.count (left d turn.side) (checked _ (BadOrder n) b.value b.first) in
    subst (IsSound first second) (same_ok (with_turn d turn) e b.next) (taken first second d turn.side turn.count is enough s)

line_sound : (first second : ℕ) (b : Bool) (n : ℕ) (d e : Draft) (line : List ℕ) → (if b then Ok d else turn_at n d line) ≡ Ok e
    → IsSound first second d → IsSound first second e
line_sound first second true n d e line h s = subst (IsSound first second) (same_ok d e h) s
line_sound first second false n d e line h s = turn_sound first second n d e line h s

lines_sound : (first second n : ℕ) (d e : Draft) (lines : List (List ℕ)) → lines_at n d lines ≡ Ok e → IsSound first second d
    → IsSound first second e
unfolding lines_at
lines_sound first second n d e [] h s = subst (IsSound first second) (same_ok d e h) s
lines_sound first second n d e (line ∷ lines) h s =
    let a = parted (line_at n d line) _ _ h in
    lines_sound first second (n + 1) a.value e lines a.next (line_sound first second (length line == 0) n d a.value line a.first s)

-- The bounds of an order for scripts with these numbers of events.
pub record IsOrder (first second : ℕ) (order : List TwinTurn) : Type 0 where
  pub turns : AllByRecursion IsTurn order
  pub first_events : sum_by first_count order ≤ first
  pub second_events : sum_by second_count order ≤ second

-- An order that was read keeps the bounds.
pub order_sound : (first second : ℕ) (bytes : List ℕ) (turns : List TwinTurn) → order_of first second bytes ≡ Ok turns
    → IsOrder first second turns
order_sound first second bytes turns h =
    let a = parted (lines_at 1 (nothing first second) (lines_of bytes)) _ _ h in
    let s = lines_sound first second 1 (nothing first second) a.value (lines_of bytes) a.first
    (record { turns = tt; first_sum = omega arith; second_sum = omega arith }) in
    subst (IsOrder first second) (same_ok a.value.turns turns a.next)
    (record { turns = s.turns; first_events = omega (arith, s.first_sum); second_events = omega (arith, s.second_sum) })

-- No line is left.
pub at_end : (n : ℕ) (d : Draft) (rest : List ℕ) {b : Bool} → b ≡ (length rest == 0) → b ≡ true → lines_at n d (lines_of rest) ≡ Ok d
unfolding lines_at lines_from
at_end n d rest is h = rw (none_left rest rest refl is h) refl
