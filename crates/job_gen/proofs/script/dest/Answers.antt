use Rattle.text_and_lists.proofs.Reading.{same_ok}
use Rattle.text_and_lists.specs.Parts.{parts_from}
use Rattle.text_and_lists.specs.Reading.{Unless}
use Rattle.job_gen.specs.Made.{made_dest}
use Rattle.path_keys.specs.Paths.{Path, wanting}
use Rattle.path_keys.specs.declared.fault.PathFault.{PathFault}
use Rattle.path_keys.specs.declared.fault.PathFault.TheVariants.{NoMemory}
use Rattle.std.proofs.Common.{Err, Ok, arith, sym, ◌≡◌}
use Rattle.std.specs.Prelude.{Result}
use Rattle.job_gen.proofs.script.dest.Goals as goal

-- Reading a text that is a path fails only if memory runs out.
memory_alone : (x : Path) (e : PathFault) → (e ≡ NoMemory → ⊥)
    → Unless (wanting e) (let read : Result Path PathFault = Ok x in read ≡ Err e) → ⊥
memory_alone x e h g = grind arith

pub unreachable-requires : goal.unreachable-requires
unfolding parts_from
unreachable-requires c = memory_alone made_dest c.in-Err.fault c.in_default.not-NoMemory c.in-Err.ensures

pub returns-in-Ok : goal.returns-in-Ok
unfolding parts_from
returns-in-Ok c = sym (same_ok _ _ c.in-Ok.ensures)
