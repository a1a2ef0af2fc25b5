-- Reading the printed text of two scripts and an order gives the same two scripts and order.
use Rattle.text_and_lists.proofs.Bools.{contrary}
use Rattle.text_and_lists.proofs.Reading.{parted}
use Rattle.text_and_lists.proofs.Round.{decimal_word, lines-text_of, number_in-decimal, words-joined}
use Rattle.text_and_lists.specs.Lines.{lines_from, lines_of}
use Rattle.text_and_lists.specs.Parts.{parts_from}
use Rattle.text_and_lists.specs.Reading.{check, ◌>>=◌}
use Rattle.text_and_lists.specs.Shapes.{two}
use Rattle.text_and_lists.specs.Words.{ended, joined, text_of}
use Rattle.text_and_lists.specs.inner.Words.{IsLine, IsWord}
use Rattle.job_model.specs.JobScript.{Script}
use Rattle.job_model.specs.Legal.{IsLegal}
use Rattle.job_script.proofs.Whole.{read_again}
use Rattle.job_script.specs.Kinds.{Line}
use Rattle.job_script.specs.Print.{script_lines, script_text}
use Rattle.job_script.specs.Script.{script_of}
use Rattle.path_keys.specs.Paths.{Path}
use Rattle.s3_types.specs.declared.fates.Fate.{Fate}
use Rattle.std.proofs.Common.{Bool, List, None, Ok, Some, ap, append_assoc, arith, false, length, length-append, lit<, map, not, refl}
use Rattle.std.proofs.Common.{subst, sym, true, ℕ, [], ◌++◌, ◌+◌, ◌==◌, ◌∙◌, ◌∷◌, ◌≡◌, ◌≤◌}
use Rattle.std.proofs.lemmas.Bool.{eqb-true, le-leb}
use Rattle.std.proofs.lemmas.List.{append-nil}
use Rattle.std.proofs.lemmas.List.Sums.{sum_by-cons}
use Rattle.std.proofs.lemmas.Slice.Eq.{bytes_eq-Decides}
use Rattle.std.specs.FinMap.{len-empty}
use Rattle.std.specs.Fmt.{decimal}
use Rattle.std.specs.List.{AllByRecursion}
use Rattle.std.specs.Ordering.{nat_cmp}
use Rattle.std.specs.Prelude.{bytes_eq, codes, nat_le, sum_by}
use Rattle.std.specs.Str.{is_utf8}
use Rattle.twin_script.proofs.CutLines.{passed_line}
use Rattle.twin_script.specs.Cutting.{cut, cut_from, is_parting, three_parts}
use Rattle.twin_script.specs.Order.{left, line_at, lines_at, nothing, order_of, turn_at, turn_by, turn_in, turn_of, with_turn}
use Rattle.twin_script.specs.Print.{parting_text, side_word, turn_line, twins_text}
use Rattle.twin_script.specs.TwinScripts.{AreTwins, IsTurn, Twins, first_count, second_count}
use Rattle.twin_script.specs.Twins.{fit, is_same_dest, names_fate, paired, turns_of, twins_of, with_first, with_second}
use Rattle.twin_script.specs.declared.order.Draft.{Draft}
use Rattle.twin_script.specs.declared.turns.Side.{Side}
use Rattle.twin_script.specs.declared.turns.Side.TheVariants.{First, Second}
use Rattle.twin_script.specs.declared.turns.TwinTurn.{TwinTurn}
use Rattle.std.specs.FinMap as fin
use Rattle.job_script.specs.declared.draft.Draft as script_draft
use Rattle.job_script.specs.declared.fault.ScriptFault.TheVariants as script_fault
use Rattle.job_script.specs.Script as script

-- ---- texts without a separator line

-- Holds if the line is not =====.
abbrev IsOther : List ℕ → Type 0
IsOther line = is_parting line ≡ false

-- True if the text ends in LF; for an empty text it is `before`.
abbrev is_closed : Bool → List ℕ → Bool
is_closed before [] = before
is_closed before (x ∷ xs) = is_closed (x == 10) xs

closed-append : (b : Bool) (xs ys : List ℕ) → is_closed b (xs ++ ys) ≡ is_closed (is_closed b xs) ys
closed-append b [] ys = refl
closed-append b (x ∷ xs) ys = closed-append (x == 10) xs ys

closed_text : (ls : List Line) → is_closed true (text_of ls) ≡ true
closed_text [] = refl
closed_text (l ∷ ls) = closed-append true (ended l) (text_of ls) ∙ ap (λ (b : Bool). is_closed b (text_of ls))
    (closed-append true (joined l) (10 ∷ [])) ∙ closed_text ls

-- The search passes over such lines.
passed : (seen line text rest : List ℕ) (b : Bool) → (b ≡ true → line ≡ []) → is_closed b text ≡ true
    → AllByRecursion IsOther (lines_from line text) → cut_from seen line (text ++ rest) ≡ cut_from (seen ++ (line ++ text)) [] rest
unfolding cut_from lines_from
passed seen line [] rest b e c a = rw (e c) (ap (λ (l : List ℕ). cut_from l [] rest) (sym (append-nil seen)))
passed seen line (x ∷ xs) rest b e c a = by (x == 10) refl (passed (seen ++ (line ++ 10 ∷ [])) [] xs rest true (λ t. refl))
    (passed seen (line ++ x ∷ []) xs rest false (λ t. absurd cc))
  where
    by : (q : Bool) → (x == 10) ≡ q
        → (is_closed true xs ≡ true → AllByRecursion IsOther (lines_from [] xs)
        → cut_from (seen ++ (line ++ 10 ∷ [])) [] (xs ++ rest) ≡ cut_from ((seen ++ (line ++ 10 ∷ [])) ++ xs) [] rest)
        → (is_closed false xs ≡ true → AllByRecursion IsOther (lines_from (line ++ x ∷ []) xs)
        → cut_from seen (line ++ x ∷ []) (xs ++ rest) ≡ cut_from (seen ++ ((line ++ x ∷ []) ++ xs)) [] rest)
        → cut_from seen line (x ∷ (xs ++ rest)) ≡ cut_from (seen ++ (line ++ x ∷ xs)) [] rest
    by true q lf more =
        let o = rw q at a in
        let is : x ≡ 10 = eqb-true x 10 q in
        let whole : (seen ++ (line ++ 10 ∷ [])) ++ xs ≡ seen ++ (line ++ x ∷ xs) = append_assoc seen (line ++ 10 ∷ []) xs ∙ ap
        (λ (l : List ℕ). seen ++ l) (append_assoc line (10 ∷ []) xs) ∙ ap (λ (n : ℕ). seen ++ (line ++ n ∷ xs)) (sym is) in
        rw (q, o.0) (lf (rw q at c) o.1 ∙ ap (λ (l : List ℕ). cut_from l [] rest) whole)
    by false q lf more = rw q (more (rw q at c) (rw q at a) ∙ ap (λ (l : List ℕ). cut_from (seen ++ l) [] rest)
        (append_assoc line (x ∷ []) xs))

-- The lines come before the first separator line.
cut_behind : (text rest : List ℕ) → is_closed true text ≡ true → AllByRecursion IsOther (lines_of text)
    → cut (text ++ (parting_text ++ rest)) ≡ Some (text, rest)
cut_behind text rest c a = passed [] [] text (parting_text ++ rest) true (λ t. refl) c a ∙ passed_line text [] (codes "=====") rest refl

-- There is no separator line.
cut_none : (text : List ℕ) → is_closed true text ≡ true → AllByRecursion IsOther (lines_of text) → cut text ≡ None
unfolding cut_from
cut_none text c a = ap cut (sym (append-nil text)) ∙ passed [] [] text [] true (λ t. refl) c a

three_again : (one two three : List ℕ) → is_closed true one ≡ true → AllByRecursion IsOther (lines_of one) → is_closed true two ≡ true
    → AllByRecursion IsOther (lines_of two) → is_closed true three ≡ true → AllByRecursion IsOther (lines_of three)
    → three_parts (one ++ (parting_text ++ (two ++ (parting_text ++ three)))) ≡ Some (one, two, three)
three_again one two three c1 a1 c2 a2 c3 a3 = rw (
  cut_behind one (two ++ (parting_text ++ three)) c1 a1,
  cut_behind two three c2 a2,
  cut_none three c3 a3,
) refl

-- ---- no line of a script is a separator line

stops : (n : ℕ) (d e : script_draft.Draft) → script.line_at n d (codes "=====") ≡ Ok e → ⊥
unfolding script.words_at parts_from
stops n d e h = absurd cc

other_line : (n : ℕ) (d e : script_draft.Draft) (line : List ℕ) → script.line_at n d line ≡ Ok e → IsOther line
other_line n d e line h = (elim (is_parting line) as (λ b. is_parting line ≡ b → IsOther line) [
  | true ↦ λ q. absurd (stops n d e (subst (λ (l : List ℕ). script.line_at n d l ≡ Ok e) ((bytes_eq-Decides line (codes "=====")).0 q) h))
  | false ↦ λ q. q
]) refl

other_lines : (n : ℕ) (d e : script_draft.Draft) (lines : List (List ℕ)) → script.lines_at n d lines ≡ Ok e → AllByRecursion IsOther lines
unfolding script.lines_at
other_lines n d e [] h = tt
other_lines n d e (line ∷ lines) h = let a = parted (script.line_at n d line) _ _ h in
    (other_line n d a.value line a.first, other_lines (n + 1) a.value e lines a.next)

script_others : (bytes : List ℕ) (s : Script) → script_of bytes ≡ Ok s → AllByRecursion IsOther (lines_of bytes)
unfolding script_of
script_others bytes s h =
    let a = parted (check (nat_le (length bytes) 67108864) script_fault.TooLarge) _ _ h in
    let b = parted (check (is_utf8 bytes) script_fault.NotUtf8) _ _ a.next in
    let c = parted (script.lines_at 1 (script.nothing 10000) (lines_of bytes)) _ _ b.next in
    other_lines 1 (script.nothing 10000) c.value (lines_of bytes) c.first

script_closed : (s : Script) → is_closed true (script_text s) ≡ true
unfolding script_text
script_closed s = closed_text (script_lines s)

-- ---- the order

turn_read : (side : Side) (count : ℕ) → (1 ≤ count) × (count ≤ 100000) → turn_in (side_word side, decimal count) ≡ Some (turn_by side count)
turn_read First count is = rw (number_in-decimal 1 100000 count is.0 is.1 (lit< tt)) refl
turn_read Second count is = rw (number_in-decimal 1 100000 count is.0 is.1 (lit< tt)) refl

side_plain : (side : Side) → IsWord (side_word side)
side_plain side = grind arith

turn_words : (turn : TwinTurn) → IsTurn turn → IsLine (turn_line turn)
turn_words turn is = let most = is.1 in (side_plain turn.side, (decimal_word turn.count (omega (arith, most)), tt))

turn_again : (turn : TwinTurn) → IsTurn turn → turn_of (joined (turn_line turn)) ≡ Some turn
turn_again turn is = rw (words-joined (side_word turn.side) (decimal turn.count ∷ []) (turn_words turn is))
    (turn_read turn.side turn.count is)

shown : (side : Side) (digits : List ℕ) → (length (joined (side_word side ∷ digits ∷ [])) == 0) ≡ false
shown First digits = grind arith
shown Second digits = grind arith

line_again : (n : ℕ) (d : Draft) (turn : TwinTurn) → IsTurn turn → turn.count ≤ left d turn.side
    → line_at n d (joined (turn_line turn)) ≡ Ok (with_turn d turn)
unfolding turn_at
line_again n d turn is enough = rw (shown turn.side (decimal turn.count), turn_again turn is, le-leb turn.count (left d turn.side) enough)
    refl

-- Holds if the turns that are left ask for no more events than are left.
record Enough (d : Draft) (turn : TwinTurn) (order : List TwinTurn) : Type 0 where
  pub here : turn.count ≤ left d turn.side
  pub first : sum_by first_count order ≤ (with_turn d turn).first
  pub second : sum_by second_count order ≤ (with_turn d turn).second

enough : (d : Draft) (side : Side) (count : ℕ) (order : List TwinTurn) → sum_by first_count (turn_by side count ∷ order) ≤ d.first
    → sum_by second_count (turn_by side count ∷ order) ≤ d.second → Enough d (turn_by side count) order
enough d First count order h k =
    let a = sum_by-cons first_count (turn_by First count) order in
    let b = sum_by-cons second_count (turn_by First count) order in
    record { here = omega (arith, a, h); first = omega (arith, a, h); second = omega (arith, b, k) }
enough d Second count order h k =
    let a = sum_by-cons first_count (turn_by Second count) order in
    let b = sum_by-cons second_count (turn_by Second count) order in
    record { here = omega (arith, b, k); first = omega (arith, a, h); second = omega (arith, b, k) }

-- Holds if reading these turns adds them to the draft.
record Again (n : ℕ) (d : Draft) (order : List TwinTurn) : Type 0 where
  pub draft : Draft
  pub read : lines_at n d (map joined (map turn_line order)) ≡ Ok draft
  pub turns : draft.turns ≡ d.turns ++ order

turns_again : (n : ℕ) (d : Draft) (order : List TwinTurn) → AllByRecursion IsTurn order → sum_by first_count order ≤ d.first
    → sum_by second_count order ≤ d.second → Again n d order
unfolding lines_at
turns_again n d [] is h k = record { draft = d; read = refl; turns = sym (append-nil d.turns) }
turns_again n d (turn ∷ order) is h k =
    let e = enough d turn.side turn.count order h k in
    let more = turns_again (n + 1) (with_turn d turn) order is.1 e.first e.second in
    record {
      draft = more.draft;
      read = ap (λ r. r >>= λ (next : Draft). lines_at (n + 1) next (map joined (map turn_line order))) (line_again n d turn is.0 e.here) ∙
          more.read;
      turns = more.turns ∙ append_assoc d.turns (turn ∷ []) order;
    }

are_lines : (order : List TwinTurn) → AllByRecursion IsTurn order → AllByRecursion IsLine (map turn_line order)
are_lines [] is = tt
are_lines (turn ∷ order) is = (turn_words turn is.0, are_lines order is.1)

abbrev order_text : List TwinTurn → List ℕ
order_text order = text_of (map turn_line order)

order_lines : (order : List TwinTurn) → AllByRecursion IsTurn order → lines_of (order_text order) ≡ map joined (map turn_line order)
order_lines order is = lines-text_of (map turn_line order) (are_lines order is)

order_again : (first second : ℕ) (order : List TwinTurn) → AllByRecursion IsTurn order → sum_by first_count order ≤ first
    → sum_by second_count order ≤ second → order_of first second (order_text order) ≡ Ok order
order_again first second order is h k =
    let a = turns_again 1 (nothing first second) order is h k in
    rw (order_lines order is, a.read) (ap (λ (l : List TwinTurn). Ok l) a.turns)

other_turn : (side : Side) (digits : List ℕ) → IsOther (joined (side_word side ∷ digits ∷ []))
other_turn side digits = grind arith

other_turns : (order : List TwinTurn) → AllByRecursion IsOther (map joined (map turn_line order))
other_turns [] = tt
other_turns (turn ∷ order) = (other_turn turn.side (decimal turn.count), other_turns order)

order_others : (order : List TwinTurn) → AllByRecursion IsTurn order → AllByRecursion IsOther (lines_of (order_text order))
order_others order is = subst (AllByRecursion IsOther) (sym (order_lines order is)) (other_turns order)

-- ---- two scripts that may run at one destination

same_dest : (p q : Path) → p ≡ q → is_same_dest p q ≡ true
same_dest p q e = rw (
  (bytes_eq-Decides p.bucket q.bucket).1 (ap (λ (x : Path). x.bucket) e),
  (bytes_eq-Decides p.key q.key).1
      (ap (λ (x : Path). x.key) e),
) refl

fit_again : (t : Twins) → AreTwins t → fit t.first t.second ≡ Ok tt
unfolding fit
fit_again t h =
    rw (
      contrary (bytes_eq t.first.job t.second.job) (λ q. absurd (h.ids ((bytes_eq-Decides t.first.job t.second.job).0 q))),
      same_dest t.first.dest t.second.dest h.dest,
      h.first_keeps,
      h.second_keeps,
      ap names_fate h.lossless ∙ ap (λ (n : ℕ). not (n == 0)) (len-empty nat_cmp Fate),
    ) refl

paired_again : (t : Twins) → AreTwins t → paired t.first t.second (order_text t.order) ≡ Ok t
unfolding paired turns_of
paired_again t h = rw (
  fit_again t h,
  order_again (length t.first.events) (length t.second.events) t.order h.turns h.first_events
      h.second_events,
) refl

parts_again : (t : Twins) → AreTwins t → script_of (script_text t.first) ≡ Ok t.first → script_of (script_text t.second) ≡ Ok t.second
    → with_first (script_text t.first) (script_text t.second) (order_text t.order) ≡ Ok t
unfolding with_first with_second
parts_again t h a b = rw (a, b) (paired_again t h)

-- Reading the text of two scripts and an order gives the same.
pub twins_again : (t : Twins) → AreTwins t → IsLegal t.first → IsLegal t.second → fin.len t.first.fates ≤ 10000
    → length (twins_text t) ≤ 67108864 → twins_of (twins_text t) ≡ Ok t
unfolding twins_text twins_of
twins_again t h first second few short =
    let one = script_text t.first in
    let two = script_text t.second in
    let three = order_text t.order in
    let l1 = length-append one (parting_text ++ (two ++ (parting_text ++ three))) in
    let l2 = length-append parting_text (two ++ (parting_text ++ three)) in
    let l3 = length-append two (parting_text ++ three) in
    let none : fin.len t.second.fates ≡ 0 = ap fin.len h.lossless ∙ len-empty nat_cmp Fate in
    let a = read_again t.first first few (omega (arith, short, l1)) in
    let b = read_again t.second second (omega (arith, none)) (omega (arith, short, l1, l2, l3)) in
    rw (
      le-leb _ 67108864 short,
      three_again one two three (script_closed t.first) (script_others one t.first a) (script_closed t.second)
          (script_others two t.second b) (closed_text (map turn_line t.order)) (order_others t.order h.turns),
    )
    (parts_again t h a b)

-- ---- the parts that are written one by one

four : (a b c d : List ℕ) → ((a ++ b) ++ c) ++ d ≡ a ++ (b ++ (c ++ d))
four a b c d = simp append_assoc

-- The parts together are the whole text.
pub twins_is : (t s : Twins) (turns : List TwinTurn) (none one two three all : List ℕ) → s ≡ t → turns ≡ s.order → none ≡ []
    → one ≡ none ++ script_text s.first → two ≡ one ++ parting_text → three ≡ two ++ script_text s.second
    → all ≡ three ++ (parting_text ++ order_text turns)
    → all ≡ twins_text t
unfolding twins_text
twins_is t s turns none one two three all same given start e1 e2 e3 e4 =
    let first : one ≡ script_text s.first = e1 ∙ ap (λ (l : List ℕ). l ++ script_text s.first) start in
    let third : three ≡ (script_text s.first ++ parting_text) ++ script_text s.second = e3 ∙ ap (λ (l : List ℕ). l ++ script_text s.second)
    (e2 ∙ ap (λ (l : List ℕ). l ++ parting_text) first) in
    e4 ∙ (λ i. third i ++ (parting_text ++ order_text (given i))) ∙ four (script_text s.first) parting_text (script_text s.second)
    (parting_text ++ order_text s.order) ∙ ap twins_text same
