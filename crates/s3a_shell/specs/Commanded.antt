-- The work of a command, given what is held.
use Rattle.durable_store.specs.Stores.{fault_text}
use Rattle.durable_store.specs.Works.{Saves, Says, Work}
use Rattle.durable_store.specs.declared.shelf_state.ShelfState.{ShelfState}
use Rattle.durable_store.specs.declared.shelf_state.ShelfState.TheVariants.{Faulty, Nothing, Store}
use Rattle.machine.specs.Counted.{AreAnswered}
use Rattle.machine.specs.Turns.{AreBy}
use Rattle.s3_types.specs.Moment.{IsHonest, moment}
use Rattle.s3_types.specs.Store.{Content, new_content, opening}
use Rattle.s3_types.specs.declared.journal.Entry.{Entry}
use Rattle.s3_types.specs.declared.limits.TheConstants.{MOST_MINIMUM}
use Rattle.s3_types.specs.declared.request.Actor.TheVariants.{Shell}
use Rattle.s3a_shell.specs.Asking.{MaySend}
use Rattle.s3a_shell.specs.Doings.{Does, MayStandAt, only_looks}
use Rattle.s3a_shell.specs.Most.{most_requests}
use Rattle.s3a_shell.specs.Sendings.{has_changed}
use Rattle.s3a_shell.specs.Stays.{OnlyIn, bucket_in, ended_by}
use Rattle.s3a_shell.specs.Texts.{refused_line}
use Rattle.s3a_shell.specs.declared.said.Said.{Said}
use Rattle.s3a_words.specs.Kinds.{is_play, is_put, kind_of}
use Rattle.s3a_words.specs.declared.command.Command.{Command}
use Rattle.s3a_words.specs.declared.command.Command.TheVariants.{Init}
use Rattle.std.specs.List.{AllByRecursion}
use Rattle.std.specs.Prelude.{Bool, List, None, Option, Some, codes, false, length, true, ℕ, [], ◌≡◌, ◌≤◌}
use Rattle.store_frame.specs.Held.{upload_at}
use Rattle.exit_status.specs.declared.statuses.Status.TheVariants as statuses

-- True for the commands that read the input.
abbrev pub takes_input : Command → Bool
takes_input command = is_put (kind_of command)

-- True for the commands that run one job or two.
abbrev pub plays : Command → Bool
plays command = is_play (kind_of command)

-- The least size of a part in bytes: MOST_MINIMUM if the command names none.
abbrev pub minimum_of : Option ℕ → ℕ
minimum_of None = MOST_MINIMUM
minimum_of (Some bytes) = bytes

-- `init`: if nothing is held, a store with no bucket; otherwise a refusal or the fault of what is held.
unfoldable pub init_work : Option ℕ → ShelfState → Work
init_work minimum Nothing = Saves (new_content (minimum_of minimum)) [] []
init_work minimum (Store c) = Says statuses.Refused (Some (refused_line (codes "exists") None)) []
init_work minimum (Faulty number place) = Says statuses.BadImage (Some (fault_text number place)) []

-- The work for the end of a command (first flag: refused; second: changed): say its text, or store the store c and then what was sent.
abbrev pub work_said : Bool → Bool → Content → List ℕ → List Entry → Work
work_said true changed c text sent = Says statuses.Refused (Some text) sent
work_said false true c text sent = Saves c text sent
work_said false false c text sent = Says statuses.Done (Some text) sent

-- A command was done on a store, with the bytes of its input.
pub record Done (command : Command) (bytes : List ℕ) (c : Content) (work : Work) : Type 0 where
  pub what : Said
  pub sent : List Entry
  -- what it says and leaves is what the command does
  pub did : Does command bytes (opening c) what (moment c sent (length sent))
  -- the shell sent it, in event 0, and each request has the reply that S3 must give
  pub by : AreBy Shell 0 sent
  pub answered : AreAnswered sent
  pub honest : IsHonest c sent
  -- each request is one that the command may send
  pub asked : AllByRecursion (λ e. MaySend command bytes (opening c) e.request) sent
  -- it sent no more requests than the command may
  pub few : length sent ≤ most_requests command bytes (opening c)
  -- at every point, wherever it stops, the store is as the command may leave it there
  pub moments : (m : ℕ) → MayStandAt command bytes (opening c) (moment c sent m)
  -- other buckets are unchanged, and so are the uploads that it does not end
  pub stays : OnlyIn (bucket_in command) (ended_by command c) c (moment c sent (length sent)).content
  -- no upload that it began itself is live
  pub ended : (id : ℕ) → c.next ≤ id → upload_at (moment c sent (length sent)).content (bucket_in command) id ≡ None
  -- a command that only looks sends no change
  pub reads : only_looks command ≡ true → has_changed sent ≡ false
  -- a command that was refused, or sent no change, left the store as it was
  pub refused : what.refused ≡ true → (moment c sent (length sent)).content ≡ c
  pub unchanged : has_changed sent ≡ false → (moment c sent (length sent)).content ≡ c
  pub is : work ≡ work_said what.refused (has_changed sent) c what.text sent

-- The command was done on what is held, or on a new store if nothing is held.
abbrev pub DoneOn : Command → List ℕ → ShelfState → Work → Type 0
DoneOn command bytes Nothing work = Done command bytes (new_content MOST_MINIMUM) work
DoneOn command bytes (Store c) work = Done command bytes c work
DoneOn command bytes (Faulty number place) work = work ≡ Says statuses.BadImage (Some (fault_text number place)) []

-- Holds if this is the work of the command on what is held.
abbrev pub IsWork : Command → List ℕ → ShelfState → Work → Type 0
IsWork (Init minimum) bytes held work = work ≡ init_work minimum held
IsWork command bytes held work = DoneOn command bytes held work
