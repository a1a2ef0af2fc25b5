-- A command that the shell did on a store, from the shell's contract.
use Rattle.durable_store.proofs.Found.{few_ids}
use Rattle.durable_store.specs.Outcomes.{IsSound}
use Rattle.durable_store.specs.Works.{Work}
use Rattle.durable_store.specs.declared.shelf_state.ShelfState.TheVariants.{Store}
use Rattle.machine.specs.Counted.{AreAnswered}
use Rattle.machine.specs.Turns.{AreBy}
use Rattle.s3_types.specs.Moment.{IsHonest, moment}
use Rattle.s3_types.specs.Store.{Content, opening}
use Rattle.s3_types.specs.declared.journal.Entry.{Entry}
use Rattle.s3_types.specs.declared.request.Actor.TheVariants.{Shell}
use Rattle.s3a_shell.specs.Asking.{MaySend}
use Rattle.s3a_shell.specs.Commanded.{Done, work_said}
use Rattle.s3a_shell.specs.Doings.{Does, MayStandAt, only_looks}
use Rattle.s3a_shell.specs.Most.{most_requests}
use Rattle.s3a_shell.specs.Sendings.{has_changed}
use Rattle.s3a_shell.specs.Stays.{OnlyIn, bucket_in, ended_by}
use Rattle.s3a_words.specs.declared.command.Command.{Command}
use Rattle.std.proofs.Common.{Bool, List, None, false, length, subst, sym, true, ℕ, ◌^◌, ◌∙◌, ◌≡◌, ◌≤◌}
use Rattle.std.specs.List.{AllByRecursion}
use Rattle.store_frame.specs.Held.{upload_at}

-- A store that was found has upload ids left.
pub few_of : (c : Content) → IsSound (Store c) → c.next ≤ 2 ^ 62
few_of c is = few_ids c is

pub done_of : (command : Command) (bytes : List ℕ) (c service : Content) (refused changed : Bool) (text : List ℕ) (es : List Entry)
    (work : Work) → Does command bytes (opening c) (record { refused = refused; text = text }) (moment c es (length es))
    → service ≡ (moment c es (length es)).content → AreBy Shell 0 es → AreAnswered es
    → IsHonest c es → AllByRecursion (λ e. MaySend command bytes (opening c) e.request) es
    → length es ≤ most_requests command bytes (opening c) → ((m : ℕ) → MayStandAt command bytes (opening c) (moment c es m))
    → changed ≡ has_changed es → (changed ≡ false → service ≡ c)
    → (refused ≡ true → service ≡ c) → ((id : ℕ) → c.next ≤ id → upload_at service (bucket_in command) id ≡ None)
    → (only_looks command ≡ true → changed ≡ false) → OnlyIn (bucket_in command) (ended_by command c) c service
    → work ≡ work_said refused changed c text es → Done command bytes c work
done_of command bytes c service refused changed text es work did content by answered honest asked few moments tells same kept ended reads
    stays is = record {
      what = record { refused = refused; text = text };
      sent = es;
      did = did;
      by = by;
      answered = answered;
      honest = honest;
      asked = asked;
      few = few;
      moments = moments;
      stays = subst (λ (d : Content). OnlyIn (bucket_in command) (ended_by command c) c d) content stays;
      ended = subst (λ (d : Content). (id : ℕ) → c.next ≤ id → upload_at d (bucket_in command) id ≡ None) content ended;
      reads = λ e. sym tells ∙ reads e;
      refused = λ e. sym content ∙ kept e;
      unchanged = λ e. sym content ∙ same (tells ∙ e);
      is = subst (λ (b : Bool). work ≡ work_said refused b c text es) tells is;
    }
