use Rattle.std.proofs.lemmas.List.{take_rest}
use Rattle.line_input.proofs.Holding.{found_behind, none_behind}
use Rattle.line_input.proofs.buffer.line_end.Goals as goal

pub returns-in-Some : goal.returns-in-Some
returns-in-Some c =
    let bytes = c.args.bytes.now in
    found_behind bytes _ c.args.searched c.in-Some.n (take_rest bytes c.args.searched) c.requires.within c.requires.before c.in-Some.ensures

pub returns-in-None : goal.returns-in-None
returns-in-None c =
    let bytes = c.args.bytes.now in
    none_behind bytes _ c.args.searched (take_rest bytes c.args.searched) c.requires.before c.in-None.ensures
