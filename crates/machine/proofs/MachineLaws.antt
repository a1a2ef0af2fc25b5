-- The laws of a machine, for any operation that an actor holds.
use Rattle.machine.specs.Asks.{AskLaws, never}
use Rattle.machine.specs.MachineLaws.{Laws}
use Rattle.machine.specs.Standing.{Standing}
use Rattle.retries.specs.Retries.{Item}
use Rattle.s3_types.specs.Store.{Scene}
use Rattle.s3_types.specs.declared.reply.Reply.{Reply}
use Rattle.s3_types.specs.declared.request.Request.{Request}
use Rattle.std.specs.Prelude.{Bool, Option, ℕ}

pub machine_laws : {O E : Type 0} {wants : O → Option Request} {after : O → Item → O} {fits : O → Reply → Bool → Type 0}
    {end_of : O → Option E} {standing : O → Standing} (left : O → Scene → ℕ) → AskLaws wants after fits end_of standing
    → Laws wants after fits never left standing
machine_laws left laws = record {
  fit = λ o s r b e h. absurd h;
  lost = λ o s b h. h;
  hidden = λ o s r b e h. h;
  took = λ o s r b e h. absurd h;
  gave_up = λ o s r b e h. absurd h;
  falls = λ o s r b e h. absurd h;
  falls_worn = λ o s r b e h. absurd h;
  no_rise = λ o s r b e h. absurd h;
  stops = laws.stops;
  breaks = laws.breaks;
  faults = laws.faults;
  goes_on = laws.goes_on;
}
