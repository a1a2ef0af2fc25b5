-- The parts of a report on two jobs, written one after another.
use Rattle.job_report.specs.TwinText.{Told, ended_of, pick_lines, played_lines, side_lines, twins_report}
use Rattle.job_spec.specs.ReportText.{closing}
use Rattle.std.proofs.Common.{List, ap, ℕ, [], ◌++◌, ◌∙◌, ◌≡◌}
use Rattle.twin_script.specs.declared.turns.Side.TheVariants.{First, Second}
use Rattle.twin_script.specs.declared.turns.TwinTurn.{TwinTurn}

-- The parts that are written one by one are the report.
pub report_is : (due sent : ℕ) (order : List TwinTurn) (a b : Told) (none one two three four five all : List ℕ) → none ≡ []
    → one ≡ none ++ played_lines order (ended_of a) (ended_of b) → two ≡ one ++ pick_lines First a → three ≡ two ++ pick_lines Second b
    → four ≡ three ++ side_lines First a → five ≡ four ++ side_lines Second b → all ≡ five ++ closing sent due
    → all ≡ twins_report due sent order a b
unfolding twins_report
report_is due sent order a b none one two three four five all start by_one by_two by_three by_four by_five by_all =
    let events = played_lines order (ended_of a) (ended_of b) in
    let is_one : one ≡ events = by_one ∙ ap (λ l. l ++ events) start in
    let is_two : two ≡ events ++ pick_lines First a = by_two ∙ ap (λ l. l ++ pick_lines First a) is_one in
    let is_three : three ≡ events ++ pick_lines First a ++ pick_lines Second b = by_three ∙ ap (λ l. l ++ pick_lines Second b) is_two in
    let is_four : four ≡ events ++ pick_lines First a ++ pick_lines Second b ++ side_lines First a = by_four ∙ ap
    (λ l. l ++ side_lines First a) is_three in
    let is_five : five ≡ events ++ pick_lines First a ++ pick_lines Second b ++ side_lines First a ++ side_lines Second b = by_five ∙ ap
    (λ l. l ++ side_lines Second b) is_four in
    by_all ∙ ap (λ l. l ++ closing sent due) is_five
