use Rattle.text_and_lists.specs.Parts.{parts_of}
use Rattle.path_keys.proofs.Faults.{key_is, text_fits, text_too_long}
use Rattle.path_keys.specs.Paths.{first_fault, is_key}
use Rattle.std.proofs.Common.{None, Ok, ap, arith, sym, ◌∙◌, ◌≡◌}
use Rattle.path_keys.proofs.path.key_text.Goals as goal

pub returns-then-key-gt1023-clause-read : goal.returns-then-key-gt1023-clause-read
returns-then-key-gt1023-clause-read c =
    let sound : None ≡ first_fault (parts_of 47 c.args.key.now) = cc in
    text_too_long c.args.key.now sound (omega arith)

pub returns-clause-read : goal.returns-clause-read
returns-clause-read c =
    let sound : None ≡ first_fault (parts_of 47 c.args.key.now) = cc in
    text_fits c.args.key.now sound (omega arith) ∙ ap Ok (sym c.in_ok-copied.ensures)

pub returns-clause-key : goal.returns-clause-key
returns-clause-key c =
    let sound : None ≡ first_fault (parts_of 47 c.args.key.now) = cc in
    ap is_key c.in_ok-copied.ensures ∙ key_is c.args.key.now sound (omega arith)
