-- Lines that are written one after another.
use Rattle.text_and_lists.proofs.Lists.{both_written}
use Rattle.text_and_lists.specs.Words.{ended, text_of}
use Rattle.job_model.specs.JobScript.{Script}
use Rattle.job_model.specs.declared.events.Event.{Event}
use Rattle.job_script.specs.HeadLines.{head_lines, head_order, loss_lines, row_lines, value_lines}
use Rattle.job_script.specs.Kinds.{Line}
use Rattle.job_script.specs.Print.{attempt_lines, event_line, script_text}
use Rattle.job_script.specs.declared.head.HeadWord.{HeadWord}
use Rattle.std.proofs.Common.{List, Option, ap, map, refl, sym, ℕ, [], ◌++◌, ◌∙◌, ◌∷◌, ◌≡◌}
use Rattle.std.proofs.lemmas.List.{append-nil}
use Rattle.std.proofs.lemmas.List.Concat.{flat_map-append}
use Rattle.std.specs.List.{flat_map}

-- The text of lines after lines.
text_of_both : (xs ys : List Line) → text_of (xs ++ ys) ≡ text_of xs ++ text_of ys
text_of_both xs ys = flat_map-append ended xs ys

-- Holds if the text is appended.
pub record Wrote (old new text : List ℕ) : Type 0 where
  pub is : new ≡ old ++ text

-- A line of a name and a value.
pub line : (old new name : List ℕ) (value same : Option (List ℕ)) → new ≡ old ++ text_of (value_lines name value) → value ≡ same
    → Wrote old new (text_of (value_lines name same))
line old new name value same e f = record { is = e ∙ ap (λ v. old ++ text_of (value_lines name v)) f }

pub behind : {old one new first second : List ℕ} → Wrote old one first → Wrote one new second → Wrote old new (first ++ second)
behind {old = old} {one = one} {new = new} {first = first} {second = second} e f = record
    { is = both_written old one new first second e.is f.is }

pub no_more : (old : List ℕ) → Wrote old old []
no_more old = record { is = sym (append-nil old) }

each_text : (s : Script) (ws : List HeadWord) → flat_map (λ w. text_of (row_lines s w)) ws ≡ text_of (flat_map (row_lines s) ws)
each_text s [] = refl
each_text s (w ∷ ws) = ap (λ l. text_of (row_lines s w) ++ l) (each_text s ws) ∙ sym
    (text_of_both (row_lines s w) (flat_map (row_lines s) ws))

-- The lines that are written one by one are the head.
pub head_is : (s t : Script) (old values : List ℕ) → t ≡ s → Wrote old values (flat_map (λ w. text_of (row_lines t w)) head_order)
    → values ++ text_of (loss_lines t.fates) ≡ old ++ text_of (head_lines s)
head_is s t old values same e =
    both_written old values _ _ (text_of (loss_lines t.fates)) (e.is ∙ ap (λ l. old ++ l) (each_text t head_order)) refl
    ∙ ap (λ l. old ++ l) (sym (text_of_both (flat_map (row_lines t) head_order) (loss_lines t.fates)))
    ∙ ap (λ (w : Script). old ++ text_of (head_lines w)) same

-- The parts that are written one by one are the script.
pub script_is : (s t : Script) (events : List Event) (none head attempts all : List ℕ) → t ≡ s → events ≡ t.events → none ≡ []
    → head ≡ none ++ text_of (head_lines s)
    → attempts ≡ head ++ text_of (flat_map attempt_lines t.attempts)
    → all ≡ attempts ++ text_of (map event_line events)
    → all ≡ script_text s
unfolding script_text
script_is s t events none head attempts all same given start e1 e2 e3 =
    let second : attempts ≡ head ++ text_of (flat_map attempt_lines s.attempts) = e2 ∙ ap
    (λ (w : Script). head ++ text_of (flat_map attempt_lines w.attempts)) same in
    let third : all ≡ attempts ++ text_of (map event_line s.events) = e3 ∙ ap (λ (es : List Event). attempts ++ text_of (map event_line es))
    (given ∙ ap (λ (w : Script). w.events) same) in
    both_written none head all _ _ e1 (both_written head attempts all _ _ second third)
    ∙ ap (λ l. l ++ (text_of (head_lines s) ++ (text_of (flat_map attempt_lines s.attempts) ++ text_of (map event_line s.events)))) start
    ∙ ap (λ l. text_of (head_lines s) ++ l) (sym (text_of_both (flat_map attempt_lines s.attempts) (map event_line s.events)))
    ∙ sym (text_of_both (head_lines s) (flat_map attempt_lines s.attempts ++ map event_line s.events))
