use Rattle.std.proofs.Common.{List, rules, ℕ, ◌∙◌}
use Rattle.std.proofs.lemmas.Iterator.{YieldsList-from_map_by, YieldsList-from_slice}
use Rattle.std.proofs.lemmas.Iterator.Consumers.{map_from_collect}
use Rattle.std.proofs.lemmas.List.{map-id}
use Rattle.std.proofs.lemmas.Result.{IfOk-weaker}
use Rattle.s3a_words.proofs.grammar.as_texts.Goals as goal

pub returns : goal.returns
returns c =
    IfOk-weaker c.collect.result _ _ (λ v e. e ∙ map-id c.args.words.now)
    (map_from_collect c.collect.result c.collect.ensures.ran (YieldsList-from_map_by _ (λ t. t.now) (λ (t : List ℕ). t)
    (YieldsList-from_slice c.args.words.now cc) c.map.ensures.closure (λ x r q k. search rules)))
