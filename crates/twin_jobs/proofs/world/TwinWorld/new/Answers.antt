use Rattle.std.proofs.Common.{List, ap, length, subst, sym, ◌+◌, ◌<◌, ◌^◌, ◌∙◌}
use Rattle.twin_jobs.proofs.Starting.{few_asked, pair_begun, pair_rests}
use Rattle.twin_jobs.specs.Worlds.{begun}
use Rattle.twin_script.specs.TwinScripts.{Twins, sides_in}
use Rattle.twin_script.specs.declared.turns.Side.{Side}
use Rattle.twin_jobs.proofs.world.TwinWorld.new.Goals as goal

pub paired-requires : goal.paired-requires
paired-requires g c =
    let order = c.as_slice.ensures ∙ ap (λ (t : Twins). t.order) c.twins.view_is in
    record {
      few =
          subst (λ (l : List Side). length l + 1 < 2 ^ 32) (sym (c.in-Ok.ensures ∙ ap sides_in order))
          (few_asked c.args.twins c.keeps.ensures.twins c.keeps.ensures.first c.keeps.ensures.second);
    }

pub invariant_of-result : goal.invariant_of-result
invariant_of-result g c =
    pair_rests g.W.Acts.wants g.W.Works.is_of g.W.Works.running g.W.Works.picks_of _ c.twins.invariant c.args.service c.requires.few
    c.next_upload.ensures.below
    c.in-Ok-new.shared c.in-Ok-new.ensures.first c.in-Ok-new.ensures.opening c.in-Ok.sides.items
    (c.in-Ok.ensures ∙ ap sides_in c.as_slice.ensures) c.in_ok-pair.pair c.in_ok-pair.ensures

pub returns : goal.returns
returns g c =
    pair_begun g.W.Acts.wants g.W.Works.is_of g.W.Works.running g.W.Works.picks_of _ c.twins.invariant c.args.service c.requires.few
    c.next_upload.ensures.below
    c.in-Ok-new.shared c.in-Ok-new.ensures.first c.in-Ok-new.ensures.opening c.in-Ok.sides.items
    (c.in-Ok.ensures ∙ ap sides_in c.as_slice.ensures) c.in_ok-pair.pair c.in_ok-pair.ensures
    ∙ ap (λ (t : Twins). begun t c.args.service) c.twins.view_is
