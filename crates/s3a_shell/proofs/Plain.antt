-- The work of a command is of a kind that can be saved or said.
use Rattle.durable_store.specs.Works.{IsPlain, Work}
use Rattle.durable_store.specs.declared.shelf_state.ShelfState.{ShelfState}
use Rattle.durable_store.specs.declared.shelf_state.ShelfState.TheVariants.{Faulty, Nothing, Store}
use Rattle.machine.specs.Turns.{AreBy}
use Rattle.s3_types.specs.Store.{Content, new_content}
use Rattle.s3_types.specs.declared.journal.Entry.{Entry}
use Rattle.s3_types.specs.declared.limits.TheConstants.{MOST_MINIMUM}
use Rattle.s3_types.specs.declared.request.Actor.TheVariants.{Shell}
use Rattle.s3a_shell.specs.Commanded.{Done, DoneOn, IsWork, init_work, work_said}
use Rattle.s3a_shell.specs.Sendings.{has_changed}
use Rattle.s3a_words.specs.declared.command.Command.{Command}
use Rattle.s3a_words.specs.declared.command.Command.TheVariants.{Init}
use Rattle.std.proofs.Common.{Bool, List, Option, false, refl, subst, sym, true, ℕ, [], ◌∷◌, ◌≡◌}
use Rattle.std.specs.List.{AllByRecursion}

pub init_plain : (minimum : Option ℕ) (held : ShelfState) → IsPlain (init_work minimum held)
unfolding init_work
init_plain minimum Nothing = tt
init_plain minimum _ = tt

events : (es : List Entry) → AreBy Shell 0 es → AllByRecursion (λ e. e.event ≡ 0) es
events [] by = tt
events (e ∷ es) by = (by.1, events es by.2)

said_plain : (refused changed : Bool) (c : Content) (text : List ℕ) (es : List Entry) → AreBy Shell 0 es
    → IsPlain (work_said refused changed c text es)
said_plain true changed c text es by = tt
said_plain false true c text es by = events es by
said_plain false false c text es by = tt

done_plain : (command : Command) (bytes : List ℕ) (c : Content) (work : Work) → Done command bytes c work → IsPlain work
done_plain command bytes c work h = subst IsPlain (sym h.is) (said_plain h.what.refused (has_changed h.sent) c h.what.text h.sent h.by)

on_plain : (command : Command) (bytes : List ℕ) (held : ShelfState) (work : Work) → DoneOn command bytes held work → IsPlain work
on_plain command bytes Nothing work h = done_plain command bytes (new_content MOST_MINIMUM) work h
on_plain command bytes (Store c) work h = done_plain command bytes c work h
on_plain command bytes (Faulty number place) work h = subst IsPlain (sym h) tt

pub work_plain : (command : Command) (bytes : List ℕ) (held : ShelfState) (work : Work) → IsWork command bytes held work → IsPlain work
work_plain (Init minimum) bytes held work h = subst IsPlain (sym h) (init_plain minimum held)
work_plain command bytes held work h = on_plain command bytes held work h

-- A command other than `init`.
pub not_init : (command : Command) (bytes : List ℕ) (held : ShelfState) (work : Work) → ((minimum : Option ℕ) → command ≡ Init minimum → ⊥)
    → DoneOn command bytes held work → IsWork command bytes held work
not_init (Init minimum) bytes held work n h = absurd (n minimum refl)
not_init _ bytes held work n h = h
