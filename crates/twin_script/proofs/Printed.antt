-- The printed text of a script is UTF-8.
use Rattle.text_and_lists.proofs.EntriesFrom.{find_head, find_other, not_found}
use Rattle.text_and_lists.proofs.Tree.{map_sorted}
use Rattle.text_and_lists.specs.Words.{ended, text_of}
use Rattle.job_model.specs.JobScript.{Script}
use Rattle.job_model.specs.Legal.{AreFates, IsLegal}
use Rattle.job_script.proofs.AttemptLines.{attempts_go}
use Rattle.job_script.proofs.EventLines.{are_named, events_go}
use Rattle.job_script.proofs.HeadLines.{head_goes, said_by}
use Rattle.job_script.proofs.Lines.{IsPrinted, printed, printed_utf8}
use Rattle.job_script.proofs.Words.{decimal_lettered, is_lettered}
use Rattle.job_script.specs.HeadLines.{head_lines, head_order, loss_line, loss_lines, no_head, row_lines}
use Rattle.job_script.specs.Kinds.{Line, fate_word}
use Rattle.job_script.specs.Print.{attempt_lines, event_line, script_text}
use Rattle.s3_types.specs.Fates.{FateMap}
use Rattle.s3_types.specs.declared.fates.Fate.{Fate}
use Rattle.std.proofs.Common.{List, None, Some, arith, map, refl, subst, sym, true, ℕ, [], ◌++◌, ◌∙◌, ◌∷◌, ◌≡◌, ◌≤◌}
use Rattle.std.proofs.lemmas.Grind.{flat_map-append}
use Rattle.std.proofs.lemmas.Map.Keys.{sorted_head, sorted_tail}
use Rattle.std.proofs.lemmas.Str.{IsUtf8-append, IsUtf8-from_is_utf8}
use Rattle.std.specs.FinMap.Entries.{find}
use Rattle.std.specs.Fmt.{decimal}
use Rattle.std.specs.List.{AllByRecursion, flat_map}
use Rattle.std.specs.List.Sorted.{IsStrictlySortedBy}
use Rattle.std.specs.Map.{keys_of}
use Rattle.std.specs.Ordering.{nat_cmp}
use Rattle.std.specs.Prelude.{codes}
use Rattle.std.specs.Str.{IsUtf8}
use Rattle.std.specs.FinMap as fin
use Rattle.job_script.specs.declared.draft.Group.TheVariants as group

lines_utf8 : (ls : List Line) → AllByRecursion IsPrinted ls → IsUtf8 (text_of ls)
lines_utf8 ls h = IsUtf8-from_is_utf8 (text_of ls) (printed_utf8 ls h)

both_utf8 : (xs ys : List Line) → IsUtf8 (text_of xs) → IsUtf8 (text_of ys) → IsUtf8 (text_of (xs ++ ys))
both_utf8 xs ys h k = subst IsUtf8 (sym (flat_map-append ended xs ys)) (IsUtf8-append (text_of xs) (text_of ys) h k)

-- A property of all keys that are found holds for each entry.
each_found : (P : ℕ → Type 0) (es : List (ℕ × Fate)) → IsStrictlySortedBy nat_cmp (keys_of es)
    → ((k : ℕ) (f : Fate) → find nat_cmp k es ≡ Some f → P k) → AllByRecursion (λ e. P e.0) es
each_found P [] s h = tt
each_found P (e ∷ es) s h =
    let above = sorted_head nat_cmp e.0 (keys_of es) s in (
      h e.0 e.1 (find_head e es),
      each_found P es (sorted_tail nat_cmp e.0 (keys_of es) s)
          (λ k f found. h k f (find_other k e es (λ q. let none : None ≡ Some f = sym (not_found e.0 k es (omega (arith, q)) above) ∙ found
          in
          absurd cc) ∙ found)),
    )

fate_lettered : (f : Fate) → is_lettered (fate_word f) ≡ true
fate_lettered f = grind arith

losses_printed : (es : List (ℕ × Fate)) → AllByRecursion (λ e. e.0 ≤ 1000000000) es → AllByRecursion IsPrinted (map loss_line es)
losses_printed [] h = tt
losses_printed (e ∷ es) h =
    let most = h.0 in (
      printed (codes "loss") (decimal e.0 ∷ fate_word e.1 ∷ []) (rw (decimal_lettered e.0 (omega (arith, most)), fate_lettered e.1) refl)
          refl,
      losses_printed es h.1,
    )

losses_utf8 : (m : FateMap) → AreFates m → IsUtf8 (text_of (loss_lines m))
losses_utf8 m h = lines_utf8 (loss_lines m) (losses_printed (fin.entries m) (each_found (λ k. k ≤ 1000000000) (fin.entries m)
    (map_sorted nat_cmp m) (λ k f found. (h k f (fin.get-entries m k ∙ found)).1)))

-- The text of a script is UTF-8, however many sends have a fate.
pub script_utf8 : (s : Script) → IsLegal s → IsUtf8 (script_text s)
unfolding script_text
script_utf8 s h =
    let values = flat_map (row_lines s) head_order in
    let attempts = flat_map attempt_lines s.attempts in
    let events = map event_line s.events in
    let head = said_by s 1 head_order (no_head 0) in
    let tried = attempts_go head s.tasks refl h.tasks 1 s.attempts h.attempts
    (record { attempts = h.few_attempts; files = h.few_files; bytes = h.few_bytes }) in
    let happened = events_go 1 group.Events head s.attempts s.events (are_named s.tasks [] s.attempts h.tasks h.attempts) h.events
    h.few_events in
    both_utf8 (head_lines s) (attempts ++ events)
    (both_utf8 values (loss_lines s.fates) (lines_utf8 values (head_goes 0 s h).printed) (losses_utf8 s.fates h.fates))
    (both_utf8 attempts events (lines_utf8 attempts tried.printed) (lines_utf8 events happened.printed))
