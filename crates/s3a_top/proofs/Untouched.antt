-- A command that changes nothing leaves the shelf as it was loaded.
use Rattle.durable_store.specs.Outcomes.{CallsBy, IsAnswer}
use Rattle.durable_store.specs.Outcomes.IsAnswer.{said, saved}
use Rattle.durable_store.specs.Works.{Saves, Says, Work}
use Rattle.durable_store.specs.declared.shelf_state.ShelfState.{ShelfState}
use Rattle.durable_store.specs.declared.shelf_state.ShelfState.TheVariants.{Faulty, Nothing, Store}
use Rattle.exit_status.specs.declared.statuses.Status.{Status}
use Rattle.exit_status.specs.declared.statuses.Status.TheVariants.{Refused}
use Rattle.s3_types.specs.Store.{Content}
use Rattle.s3_types.specs.declared.journal.Entry.{Entry}
use Rattle.s3a_shell.specs.Commanded.{Done, DoneOn, IsWork, work_said}
use Rattle.s3a_shell.specs.Doings.{is_of_shell, only_looks}
use Rattle.s3a_shell.specs.Sendings.{has_changed}
use Rattle.s3a_words.specs.declared.command.Command.{Command}
use Rattle.s3a_words.specs.declared.command.Command.TheVariants.{Init}
use Rattle.devices.specs.Logged.{Sight}
use Rattle.std.proofs.Common.{ap, inl, inr, refl, subst, sym, ◌∙◌}
use Rattle.std.proofs.lemmas.Bool.{false≢true}
use Rattle.std.specs.Prelude.{Bool, List, Option, Some, false, true, ℕ, ◌≡◌, ◌⊎◌}

-- The answer to work that saves has what was sent, and is no refusal.
saved_sent : (work : Work) (due : Status) (text : Option (List ℕ)) (es : List Entry) → IsAnswer work due text es
    → (c : Content) (t : List ℕ) (sent : List Entry) → work ≡ Saves c t sent
    → (es ≡ sent) × (due ≡ Refused → ⊥)
saved_sent _ _ _ _ (said d u es) c t sent e = absurd (cc)
saved_sent _ _ _ _ (saved d u es) c t sent e = (cc, λ f. cc)
saved_sent _ _ _ _ _ c t sent e = (cc, λ f. cc)

module _ {S : Type 0} (F : Sight S) (status : Status) (text : Option (List ℕ)) (es : List Entry) (old new : S) where
  -- work that only says something does not call the shelf
  said_calls : (work : Work) (d : Status) (t : Option (List ℕ)) (sent : List Entry) → work ≡ Says d t sent
      → CallsBy F work status old new → new ≡ old
  said_calls work d t sent e calls = let same : old ≡ new = subst (λ (w : Work). CallsBy F w status old new) e calls in sym same

  -- the reasons for which a command changes nothing
  abbrev ChangesNone : Command → Type 0
  ChangesNone command = (only_looks command ≡ true) ⊎ ((status ≡ Refused) ⊎ (has_changed es ≡ false))

  none_changed : (command : Command) (sent : List Entry) → (only_looks command ≡ true → has_changed sent ≡ false) → es ≡ sent
      → (status ≡ Refused → ⊥) → ChangesNone command → has_changed sent ≡ false
  none_changed command sent reads e r (inl h) = reads h
  none_changed command sent reads e r (inr (inl h)) = absurd (r h)
  none_changed command sent reads e r (inr (inr h)) = ap has_changed (sym e) ∙ h

  done_untouched : (command : Command) (bytes : List ℕ) (c : Content) (work : Work) → Done command bytes c work
      → IsAnswer work status text es → CallsBy F work status old new → ChangesNone command → new ≡ old
  done_untouched command bytes c work d answer calls none = by d.what.refused (has_changed d.sent) refl d.is
    where
      by : (refused changed : Bool) → has_changed d.sent ≡ changed → work ≡ work_said refused changed c d.what.text d.sent → new ≡ old
      by true changed f e = said_calls work Refused (Some d.what.text) d.sent e calls
      by false false f e = said_calls work _ (Some d.what.text) d.sent e calls
      by false true f e =
          let w = saved_sent work status text es answer c d.what.text d.sent e in
          absurd (false≢true (sym (none_changed command d.sent d.reads w.0 w.1 none) ∙ f))

  on_untouched : (command : Command) (bytes : List ℕ) (before : ShelfState) (work : Work) → DoneOn command bytes before work
      → IsAnswer work status text es → CallsBy F work status old new → ChangesNone command → new ≡ old
  on_untouched command bytes Nothing work h answer calls none = done_untouched command bytes _ work h answer calls none
  on_untouched command bytes (Store c) work h answer calls none = done_untouched command bytes c work h answer calls none
  on_untouched command bytes (Faulty number place) work h answer calls none = said_calls work _ _ _ h calls

pub untouched_of : {S : Type 0} (F : Sight S) (command : Command) (bytes : List ℕ) (before : ShelfState) (work : Work) (status : Status)
    (text : Option (List ℕ)) (es : List Entry) (old new : S)
    → IsWork command bytes before work → IsAnswer work status text es → CallsBy F work status old new
    → is_of_shell command ≡ true → (only_looks command ≡ true) ⊎ ((status ≡ Refused) ⊎ (has_changed es ≡ false)) → new ≡ old
untouched_of F (Init minimum) bytes before work status text es old new does answer calls is none = absurd (false≢true is)
untouched_of F command bytes before work status text es old new does answer calls is none =
    on_untouched F status text es old new command bytes before work does answer calls none
