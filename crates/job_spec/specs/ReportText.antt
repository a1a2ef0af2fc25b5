-- The text of a report: a line for each event with its end, for each chosen attempt and each actor, the number of sends, and the status.
use Rattle.job_model.specs.Attempts.{Who, actor_of}
use Rattle.job_model.specs.JobScript.{Script}
use Rattle.job_model.specs.Words.{event_text, fault_word, life_word, outcome_text, spaced, stage_word}
use Rattle.job_model.specs.declared.ends.ActorEnd.{ActorEnd}
use Rattle.job_model.specs.declared.ends.EventEnd.{EventEnd}
use Rattle.job_model.specs.declared.ends.EventEnd.TheVariants.{Done, Ended, Mixed, Refused}
use Rattle.job_model.specs.declared.ends.Pick.{Pick}
use Rattle.job_model.specs.declared.events.Event.{Event}
use Rattle.job_model.specs.declared.states.ActorState.{ActorState}
use Rattle.job_spec.specs.States.{Past, past}
use Rattle.s3_types.specs.Spelling.{actor_text}
use Rattle.s3_types.specs.declared.request.Actor.{Actor}
use Rattle.s3_types.specs.declared.request.Actor.TheVariants.{Driver}
use Rattle.std.specs.Fmt.{decimal}
use Rattle.std.specs.List.{enumerate_from, flat_map, join_by, zip}
use Rattle.std.specs.Prelude.{List, codes, cond, nat_lt, ℕ, [], ◌++◌, ◌∷◌}

-- A line of words, ended by LF.
abbrev pub line : List (List ℕ) → List ℕ
line words = spaced words ++ 10 ∷ []

-- ---- ends of events

-- An actor with the outcome of its operation.
abbrev pub actor_end_text : ActorEnd → List ℕ
actor_end_text x = spaced (actor_text x.actor ∷ outcome_text x.end ∷ [])

-- The ends of a mix in their order, with a comma and a blank between each two; `ok` for none.
abbrev pub mixed_text : List ActorEnd → List ℕ
mixed_text [] = codes "ok"
mixed_text (x ∷ xs) = join_by actor_end_text (codes ", ") (x ∷ xs)

-- The text for how an event ended.
abbrev pub end_text : EventEnd → List ℕ
end_text Done = codes "ok"
end_text (Ended end) = outcome_text end
end_text (Mixed xs) = mixed_text xs
end_text (Refused fault) = spaced (codes "refused" ∷ fault_word fault ∷ [])

-- ---- lines: each begins with the text `before`; in an event's line the number comes first

-- The line of an event with its number and its end, for example `3 do 0.0 commit: done`.
abbrev pub event_line : (before : List ℕ) → ℕ × (Event × EventEnd) → List ℕ
event_line before e = line (decimal e.0 ∷ (before ++ (event_text e.1.0 ++ codes ":")) ∷ end_text e.1.1 ∷ [])

-- A line for each event that has ended, numbered from n on.
abbrev pub event_lines : (before : List ℕ) → ℕ → List Event → List EventEnd → List ℕ
event_lines before n events xs = flat_map (event_line before) (enumerate_from n (zip events xs))

-- The line of a chosen attempt: the number of its task, and its own.
abbrev pub pick_line : (before : List ℕ) → Pick → List ℕ
pick_line before p = before ++ line (codes "pick" ∷ decimal p.task ∷ decimal p.attempt ∷ [])

-- The words for an actor's life and stage.
abbrev pub state_words : (Actor → ActorState) → Actor → List (List ℕ)
state_words state a = actor_text a ∷ life_word (state a).life ∷ stage_word (state a).stage ∷ []

-- The line of an attempt with its life and stage.
abbrev pub attempt_line : (before : List ℕ) → (Actor → ActorState) → Who → List ℕ
attempt_line before state a = before ++ line (state_words state (actor_of a))

-- The words for the number of the job attempt; none for the first one.
abbrev pub number_words : ℕ → List (List ℕ)
number_words n = cond (nat_lt 1 n) (codes "attempt" ∷ decimal n ∷ []) []

-- The line of the driver with its life and stage, and with the number of the job attempt from the second one on.
abbrev pub driver_line : (before : List ℕ) → Past → List ℕ
driver_line before p = before ++ line (state_words p.state Driver ++ number_words p.attempt)

-- The lines of the driver and of each declared attempt, after events with these ends.
abbrev pub actor_lines : (before : List ℕ) → Script → List EventEnd → List ℕ
actor_lines before w xs = driver_line before (past w xs) ++ flat_map (λ a. attempt_line before (past w xs).state a.0) w.attempts

-- The lines of the number of sends and of the status.
abbrev pub closing : ℕ → ℕ → List ℕ
closing sent due = line (codes "sent" ∷ decimal sent ∷ []) ++ line (codes "status" ∷ decimal due ∷ [])

-- The whole report of a script, with this status, number of sends, chosen attempts and ends of events.
unfoldable pub report_text : ℕ → ℕ → List Pick → List EventEnd → Script → List ℕ
report_text due sent picks xs w = event_lines [] 1 w.events xs ++ flat_map (pick_line []) picks ++ actor_lines [] w xs ++ closing sent due
