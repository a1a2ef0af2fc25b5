use Rattle.conflict.proofs.CutPaths.{begins_not, begins_so}
use Rattle.s3_types.proofs.Begins.{begins_is}
use Rattle.std.proofs.Common.{None, Some, sym, [], ◌∙◌, ◌∷◌}
use Rattle.std.proofs.lemmas.Bool.Decides.{Decides-eqb}
use Rattle.std.proofs.lemmas.Slice.Eq.{strip_prefix_is}
use Rattle.conflict.proofs.keeping.is_below.Goals as goal

pub returns-in-Some : goal.returns-in-Some
returns-in-Some c =
    let cut = strip_prefix_is Decides-eqb c.args.path.now c.args.dir.now (Some c.in-Some.rest) c.in-Some.ensures.cases in
    c.starts_with.ensures.value ∙ begins_is (47 ∷ []) c.in-Some.rest.now ∙ sym
    (begins_so c.args.dir.now c.in-Some.rest.now c.args.path.now cut)

pub returns-in-None : goal.returns-in-None
returns-in-None c = begins_not c.args.dir.now c.args.path.now (strip_prefix_is Decides-eqb c.args.path.now c.args.dir.now None
    c.in-None.ensures.cases)
